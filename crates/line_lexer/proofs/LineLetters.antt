-- The letters of a name, written one behind the other.
use Rattle.std.proofs.Common.{◌≡◌, ℕ, ◌+◌, ◌-◌, ◌<◌, ◌≤◌, false, true, List, [], ◌∷◌, ◌++◌, take, drop, set, length, get_or, arith, refl, sym, ap, ◌∙◌, append_assoc, length-set, length-drop}
use Rattle.std.proofs.lemmas.List.{append-nil, take-set-le, drop-set-lt, drop-set, drop-set-add, drop_all, take_more_set}
use Rattle.std.proofs.lemmas.Grind.{common_steps}
use Rattle.plain_tokens.specs.Lex.{headed, is_letter, letters, behind_letters}
use Rattle.plain_tokens.proofs.LexNames.{letters_on, behind_on, letters_stop, behind_stop}
use Rattle.line_lexer.specs.declared.heads.Head.{Head}
use Rattle.line_lexer.specs.Begins.{IsHead}

-- the letters up to `end` are written, and those from `next` on are still to be read
pub record Gathered (cats old line : List ℕ) (at end next : ℕ) : Type 0 where
  pub from : at ≤ end
  pub in_order : end ≤ next
  pub within : next ≤ length line
  pub name : letters cats (drop at old) ≡ take (end - at) (drop at line) ++ letters cats (drop next line)
  pub rest : behind_letters cats (drop at old) ≡ behind_letters cats (drop next line)
  pub before : take at line ≡ take at old

pub gathered_none : (cats line : List ℕ) (at : ℕ) → at ≤ length line → Gathered cats line line at at at
gathered_none cats line at h =
    let e : at - at ≡ 0 = omega arith in
    record { from = omega arith; in_order = omega arith; within = h; name = rw e refl; rest = refl; before = refl }

take_on : (line : List ℕ) (at end c : ℕ) → at ≤ end → end < length line → take (end + 1 - at) (drop at (set line end c)) ≡ take (end - at) (drop at line) ++ c ∷ []
take_on line at end c h i =
    let e : end + 1 - at ≡ end - at + 1 = omega arith in
    let f : at + (end - at) ≡ end = omega arith in
    let g : drop at (set line end c) ≡ set (drop at line) (end - at) c = ap (λ (k : ℕ). drop at (set line k c)) (sym f) ∙ drop-set-add at line (end - at) c in
    ap (λ (xs : List ℕ). take (end + 1 - at) xs) g ∙ ap (λ (n : ℕ). take n (set (drop at line) (end - at) c)) e ∙
    take_more_set (drop at line) (end - at) c (omega (arith, length-drop at line))

take_stays : (line : List ℕ) (at end k c : ℕ) → at ≤ end → end ≤ k → take (end - at) (drop at (set line k c)) ≡ take (end - at) (drop at line)
take_stays line at end k c h i =
    let f : at + (k - at) ≡ k = omega arith in
    let g : drop at (set line k c) ≡ set (drop at line) (k - at) c = ap (λ (j : ℕ). drop at (set line j c)) (sym f) ∙ drop-set-add at line (k - at) c in
    ap (λ (xs : List ℕ). take (end - at) xs) g ∙ take-set-le (end - at) (drop at line) (k - at) c (omega arith)

not_letter : (cats : List ℕ) (c : ℕ) → (get_or cats c 0 ≡ 11 → ⊥) → is_letter cats c ≡ false
not_letter cats c n = grind (arith, common_steps)

module _ (cats old line : List ℕ) (at end next : ℕ) (g : Gathered cats old line at end next) where
  -- one letter more
  pub gathered_more : (head : Head) → IsHead cats line next head → get_or cats head.code 0 ≡ 11 → Gathered cats old (set line end head.code) at (end + 1) head.next
  gathered_more head is letter =
      let l : is_letter cats head.code ≡ true = rw letter refl in
      let lt : end < length line = omega (arith, g.in_order, is.further, is.within) in
      let same : drop head.next (set line end head.code) ≡ drop head.next line = drop-set-lt head.next line end head.code (omega (arith, g.in_order, is.further)) in
      let behind : letters cats (drop next line) ≡ head.code ∷ letters cats (drop head.next line) = letters_on cats (drop next line) head.code (drop head.next line) is.headed_is l in
      record {
        from = omega (arith, g.from);
        in_order = omega (arith, g.in_order, is.further);
        within = omega (arith, is.within, length-set line end head.code);
        name = g.name ∙ ap (λ (xs : List ℕ). take (end - at) (drop at line) ++ xs) behind ∙
            sym (append_assoc (take (end - at) (drop at line)) (head.code ∷ []) (letters cats (drop head.next line))) ∙
            ap (λ (xs : List ℕ). xs ++ letters cats (drop head.next line)) (sym (take_on line at end head.code g.from lt)) ∙
            ap (λ (xs : List ℕ). take (end + 1 - at) (drop at (set line end head.code)) ++ letters cats xs) (sym same);
        rest = g.rest ∙ behind_on cats (drop next line) head.code (drop head.next line) is.headed_is l ∙ ap (behind_letters cats) (sym same);
        before = take-set-le at line end head.code g.from ∙ g.before;
      }

  -- all letters, and what is behind them
  pub record Done (line' : List ℕ) (rest : ℕ) : Type 0 where
    pub name : take (end - at) (drop at line') ≡ letters cats (drop at old)
    pub rest_is : drop rest line' ≡ behind_letters cats (drop at old)
    pub before : take at line' ≡ take at old
    pub in_order : end ≤ rest
    pub within : rest ≤ length line'

  none_left : letters cats (drop next line) ≡ [] → letters cats (drop at old) ≡ take (end - at) (drop at line)
  none_left e = g.name ∙ ap (λ (xs : List ℕ). take (end - at) (drop at line) ++ xs) e ∙ append-nil (take (end - at) (drop at line))

  pub gathered_stop : (head : Head) → IsHead cats line next head → (get_or cats head.code 0 ≡ 11 → ⊥) → Done (set line (head.next - 1) head.code) (head.next - 1)
  gathered_stop head is other =
      let s : is_letter cats head.code ≡ false = not_letter cats head.code other in
      let lt : head.next - 1 < length line = omega (arith, is.further, is.within) in
      let e : head.next - 1 + 1 ≡ head.next = omega (arith, is.further) in
      let le : end ≤ head.next - 1 = omega (arith, g.in_order, is.further) in
      let written : drop (head.next - 1) (set line (head.next - 1) head.code) ≡ head.code ∷ drop head.next line =
      drop-set line (head.next - 1) head.code lt ∙ ap (λ (k : ℕ). head.code ∷ drop k line) e in
      record {
        name = take_stays line at end (head.next - 1) head.code g.from le ∙ sym (none_left (letters_stop cats (drop next line) (head.code ∷ drop head.next line) is.headed_is s));
        rest_is = written ∙ sym (g.rest ∙ behind_stop cats (drop next line) (head.code ∷ drop head.next line) is.headed_is s);
        before = take-set-le at line (head.next - 1) head.code (omega (arith, g.from)) ∙ g.before;
        in_order = le;
        within = omega (arith, length-set line (head.next - 1) head.code);
      }

  pub gathered_end : headed cats (drop next line) ≡ [] → Done line (length line)
  gathered_end e = record {
    name = sym (none_left (letters_stop cats (drop next line) [] e tt));
    rest_is = drop_all (length line) line (omega arith) ∙ sym (g.rest ∙ behind_stop cats (drop next line) [] e tt);
    before = g.before;
    in_order = omega (arith, g.in_order, g.within);
    within = omega arith;
  }
