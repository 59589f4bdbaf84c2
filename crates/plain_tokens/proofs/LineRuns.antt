-- A file has exactly one list of lines.
use Rattle.std.proofs.Common.{◌≡◌, inl, inr, ℕ, ◌≤◌, zero, suc, List, [], ◌∷◌, ◌++◌, length, arith, refl, sym, ap, subst, ◌∙◌, append_assoc}
use Rattle.std.proofs.lemmas.List.{append-nil}
use Rattle.std.proofs.lemmas.List.Elements.{All-from_recursion, recursion_from_All}
use Rattle.plain_tokens.specs.Lines.{line_feed, behind_feed, first_line, lines, trimmed, without_last}
use Rattle.plain_tokens.specs.LineLaws.{EndsWith, Ending, Feed, ReturnFeed, FileEnd, ending_bytes, Begins, AreLines}
use Rattle.plain_tokens.proofs.LineEnds.{Spaces, Trim, trim, trimmed_spaces, nothing_trimmed, nothing_goes, without_same, ends_or_not}
use Rattle.plain_tokens.proofs.LineCuts.{NoFeed, split, none_front, none_both, first_whole, first_split, behind_whole, behind_split, behind_shorter, in_turn}

-- the first line, where the bytes before its ending are known
made : (file line rest bare : List ℕ) (ending : Ending) → Trim bare line → NoFeed bare → file ≡ bare ++ ending_bytes ending ++ rest → (file ≡ [] → ⊥) →
    (ending ≡ Feed → EndsWith 13 bare → ⊥) → (ending ≡ FileEnd → rest ≡ []) → Begins file line rest
made file line rest bare ending t none is some returns last = record {
  spaces = t.spaces;
  ending = ending;
  bytes = is ∙ ap (λ (xs : List ℕ). xs ++ ending_bytes ending ++ rest) t.is;
  not_empty = some;
  one_line = All-from_recursion (λ (c : ℕ). c ≡ line_feed → ⊥) line (none_front line t.spaces (subst NoFeed t.is none));
  are_spaces = All-from_recursion (λ (c : ℕ). c ≡ 32) t.spaces t.are;
  no_space_left = t.ends;
  no_return_left = λ e h. returns e (subst (EndsWith 13) (sym t.is) h);
  last = last;
}

whole : (file : List ℕ) → NoFeed file → (file ≡ [] → ⊥) → Begins file (first_line file) (behind_feed file)
whole file none some = rw (first_whole file none) (made file (trimmed file) (behind_feed file) file FileEnd (trim file) none
    (sym (append-nil file) ∙ sym (append-nil (file ++ [])) ∙ ap (λ (xs : List ℕ). file ++ [] ++ xs) (sym (behind_whole file none))) some (λ e h. cc) (λ e. behind_whole file none))

after_return : (xs rest : List ℕ) → (xs ++ 13 ∷ []) ++ line_feed ∷ rest ≡ xs ++ (13 ∷ line_feed ∷ []) ++ rest
after_return xs rest = simp append_assoc

after_feed : (xs rest : List ℕ) → xs ++ line_feed ∷ rest ≡ xs ++ (line_feed ∷ []) ++ rest
after_feed xs rest = simp append_assoc

returned : (xs rest ys : List ℕ) → NoFeed xs → xs ≡ ys ++ 13 ∷ [] → (xs ++ line_feed ∷ rest ≡ [] → ⊥) → Begins (xs ++ line_feed ∷ rest) (trimmed (without_last 13 xs)) rest
returned xs rest ys none e some =
    let bare : without_last 13 xs ≡ ys = ap (without_last 13) e ∙ without_same 13 ys in
    rw bare (made (xs ++ line_feed ∷ rest) (trimmed ys) rest ys ReturnFeed (trim ys) (none_front ys (13 ∷ []) (subst NoFeed e none))
    (ap (λ (zs : List ℕ). zs ++ line_feed ∷ rest) e ∙ after_return ys rest) some (λ f h. cc) (λ f. cc))

fed : (xs rest : List ℕ) → NoFeed xs → (EndsWith 13 xs → ⊥) → (xs ++ line_feed ∷ rest ≡ [] → ⊥) → Begins (xs ++ line_feed ∷ rest) (trimmed (without_last 13 xs)) rest
fed xs rest none nr some =
    rw (nothing_goes 13 xs nr) (made (xs ++ line_feed ∷ rest) (trimmed xs) rest xs Feed (trim xs) none (after_feed xs rest) some (λ f h. nr h) (λ f. cc))

cut : (file xs rest : List ℕ) → NoFeed xs → file ≡ xs ++ line_feed ∷ rest → (file ≡ [] → ⊥) → Begins file (first_line file) (behind_feed file)
cut file xs rest none is some =
    let some' : xs ++ line_feed ∷ rest ≡ [] → ⊥ = λ e. some (is ∙ e) in
    rw (is, first_split xs rest none, behind_split rest xs none) (elim (ends_or_not 13 xs) [ inl e ↦ returned xs rest e.0 none e.1 some' | inr nr ↦ fed xs rest none nr some' ])

begins : (file : List ℕ) → (file ≡ [] → ⊥) → Begins file (first_line file) (behind_feed file)
begins file some = elim (split file) [ inl none ↦ whole file none some | inr s ↦ cut file s.front s.behind s.none s.is some ]

are_lines : (n : ℕ) (file : List ℕ) → length file ≤ n → AreLines file (lines file)
are_lines n [] h = refl
are_lines zero (c ∷ cs) h = absurd (omega arith)
are_lines (suc n) (c ∷ cs) h =
    let less : length (behind_feed (c ∷ cs)) ≤ n = omega (arith, behind_shorter c cs) in
    subst (AreLines (c ∷ cs)) (sym (in_turn c cs)) (behind_feed (c ∷ cs), (begins (c ∷ cs) (λ e. cc), are_lines n (behind_feed (c ∷ cs)) less))

pub lines_are : (file : List ℕ) → AreLines file (lines file)
lines_are file = are_lines (length file) file (omega arith)

-- the other way
record Same (file line rest : List ℕ) : Type 0 where
  first : line ≡ first_line file
  behind : rest ≡ behind_feed file

one_line : (line spaces : List ℕ) → Spaces spaces → (EndsWith 32 line → ⊥) → trimmed (line ++ spaces) ≡ line
one_line line spaces are nr = trimmed_spaces line spaces are ∙ nothing_trimmed line nr

no_feed_in_spaces : (spaces : List ℕ) → Spaces spaces → NoFeed spaces
no_feed_in_spaces [] h = tt
no_feed_in_spaces (c ∷ cs) h = ((λ e. let f : 32 ≡ 10 = sym h.0 ∙ e in absurd (omega arith)), no_feed_in_spaces cs h.1)

same : (file line spaces rest : List ℕ) (ending : Ending) → NoFeed (line ++ spaces) → trimmed (line ++ spaces) ≡ line →
    file ≡ line ++ spaces ++ ending_bytes ending ++ rest → (ending ≡ Feed → EndsWith 13 (line ++ spaces) → ⊥) → (ending ≡ FileEnd → rest ≡ []) → Same file line rest
same file line spaces rest Feed none one is nr last =
    let e : file ≡ (line ++ spaces) ++ line_feed ∷ rest = is ∙ sym (after_feed (line ++ spaces) rest) in
    rw e (record {
      first = sym (first_split (line ++ spaces) rest none ∙ ap trimmed (nothing_goes 13 (line ++ spaces) (nr refl)) ∙ one);
      behind = sym (behind_split rest (line ++ spaces) none);
    })
same file line spaces rest ReturnFeed none one is nr last =
    let e : file ≡ ((line ++ spaces) ++ 13 ∷ []) ++ line_feed ∷ rest = is ∙ sym (after_return (line ++ spaces) rest) in
    let none' : NoFeed ((line ++ spaces) ++ 13 ∷ []) = none_both (line ++ spaces) (13 ∷ []) none ((λ f. absurd (omega arith)), tt) in
    rw e (record {
      first = sym (first_split ((line ++ spaces) ++ 13 ∷ []) rest none' ∙ ap trimmed (without_same 13 (line ++ spaces)) ∙ one);
      behind = sym (behind_split rest ((line ++ spaces) ++ 13 ∷ []) none');
    })
same file line spaces rest FileEnd none one is nr last =
    let e : file ≡ line ++ spaces = is ∙ ap (λ (xs : List ℕ). line ++ spaces ++ [] ++ xs) (last refl) ∙ append-nil (line ++ spaces ++ []) ∙ append-nil (line ++ spaces) in
    rw e (record {
      first = sym (first_whole (line ++ spaces) none ∙ one);
      behind = last refl ∙ sym (behind_whole (line ++ spaces) none);
    })

begins_same : (file line rest : List ℕ) → Begins file line rest → Same file line rest
begins_same file line rest b =
    let spaces : Spaces b.spaces = recursion_from_All (λ (c : ℕ). c ≡ 32) b.spaces b.are_spaces in
    let none : NoFeed line = recursion_from_All (λ (c : ℕ). c ≡ line_feed → ⊥) line b.one_line in
    same file line b.spaces rest b.ending (none_both line b.spaces none (no_feed_in_spaces b.spaces spaces)) (one_line line b.spaces spaces b.no_space_left) b.bytes b.no_return_left b.last

pub only_lines : (all : List (List ℕ)) (file : List ℕ) → AreLines file all → all ≡ lines file
only_lines [] file h = rw h refl
only_lines (line ∷ others) [] h = absurd (h.1.0.not_empty refl)
only_lines (line ∷ others) (c ∷ cs) h =
    let s : Same (c ∷ cs) line h.0 = begins_same (c ∷ cs) line h.0 h.1.0 in
    let o : others ≡ lines h.0 = only_lines others h.0 h.1.1 in
    let b : lines h.0 ≡ lines (behind_feed (c ∷ cs)) = ap lines s.behind in
    ap (λ (xs : List ℕ). xs ∷ others) s.first ∙ ap (λ (ls : List (List ℕ)). first_line (c ∷ cs) ∷ ls) (o ∙ b) ∙ sym (in_turn c cs)
