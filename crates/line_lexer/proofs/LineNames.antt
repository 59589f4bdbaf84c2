-- The name of letters that was written.
use Rattle.std.proofs.Common.{◌≡◌, ℕ, ◌+◌, ◌-◌, ◌<◌, ◌≤◌, suc, List, [], ◌∷◌, take, drop, set, length, get_or, arith, refl, sym, ap, ◌∙◌, length-drop, length-take, get_or-take, get_or-set_same}
use Rattle.std.proofs.lemmas.List.{drop-set-lt}
use Rattle.plain_tokens.specs.Lex.{Lexeme, WordName, Gives, name_of_letters, letters, behind_letters}
use Rattle.plain_tokens.specs.declared.line_state.LineState.TheVariants.{SkipBlanks}
use Rattle.line_lexer.specs.Answers.{span}
use Rattle.line_lexer.specs.Begins.{named}
use Rattle.line_lexer.proofs.LineRests.{drop_at}

word_name : (c : ℕ) (cs : List ℕ) → 0 < length cs → name_of_letters (c ∷ cs) ≡ WordName (c ∷ cs)
word_name c [] h = absurd (omega arith)
word_name c (d ∷ ds) h = refl

-- the name's bytes: its first letter, and those that were gathered behind it
name_span : (line old : List ℕ) (next end c : ℕ) → 0 < next → next ≤ length old → next ≤ length line → next ≤ end → take next line ≡ take next (set old (next - 1) c) →
    span line (next - 1) end ≡ c ∷ take (end - next) (drop next line)
name_span line old next end c pos within inside le same =
    let lt : next - 1 < next = omega arith in
    let here : next - 1 < length line = omega arith in
    let there : next - 1 < length old = omega arith in
    let e : next - 1 + 1 ≡ next = omega arith in
    let f : end - (next - 1) ≡ suc (end - next) = omega arith in
    let first : get_or line (next - 1) 0 ≡ c =
    sym (get_or-take next line (next - 1) 0 lt) ∙ ap (λ (xs : List ℕ). get_or xs (next - 1) 0) same ∙ get_or-take next (set old (next - 1) c) (next - 1) 0 lt ∙ get_or-set_same old (next - 1) c 0 there in
    let whole : drop (next - 1) line ≡ c ∷ drop next line =
    drop_at line (next - 1) here ∙ ap (λ (k : ℕ). get_or line (next - 1) 0 ∷ drop k line) e ∙ ap (λ (d : ℕ). d ∷ drop next line) first in
    ap (λ (xs : List ℕ). take (end - (next - 1)) xs) whole ∙ ap (λ (n : ℕ). take n (c ∷ drop next line)) f

-- two letters or more
word_of : (line old name : List ℕ) (next end c : ℕ) → 0 < next → next ≤ length old → end ≤ length line → next ≤ end → (end ≡ next → ⊥) → take next line ≡ take next (set old (next - 1) c) →
    take (end - next) (drop next line) ≡ name → WordName (span line (next - 1) end) ≡ name_of_letters (c ∷ name)
word_of line old name next end c pos within inside le ne same is =
    let some : 0 < length (take (end - next) (drop next line)) = rw (length-take (end - next) (drop next line)) (omega (arith, length-drop next line)) in
    ap WordName (name_span line old next end c pos within (omega arith) le same) ∙ sym (word_name c (take (end - next) (drop next line)) some) ∙
    ap (λ (xs : List ℕ). name_of_letters (c ∷ xs)) is

-- a word, and what is behind it
pub word_gives : (cats line old : List ℕ) (next end rest c : ℕ) → 0 < next → next ≤ length old → end ≤ length line → next ≤ end → (end ≡ next → ⊥) → take next line ≡ take next (set old (next - 1) c) →
    take (end - next) (drop next line) ≡ letters cats (drop next (set old (next - 1) c)) → drop rest line ≡ behind_letters cats (drop next (set old (next - 1) c)) →
    Gives (WordName (span line (next - 1) end)) SkipBlanks (drop rest line) ≡ named cats c (drop next old)
word_gives cats line old next end rest c pos within inside le ne same name behind =
    let u : drop next (set old (next - 1) c) ≡ drop next old = drop-set-lt next old (next - 1) c (omega arith) in
    let n : WordName (span line (next - 1) end) ≡ name_of_letters (c ∷ letters cats (drop next old)) =
    word_of line old (letters cats (drop next old)) next end c pos within inside le ne same (name ∙ ap (letters cats) u) in
    let b : drop rest line ≡ behind_letters cats (drop next old) = behind ∙ ap (behind_letters cats) u in
    ap (λ (x : Lexeme). Gives x SkipBlanks (drop rest line)) n ∙ ap (λ (xs : List ℕ). Gives (name_of_letters (c ∷ letters cats (drop next old))) SkipBlanks xs) b
