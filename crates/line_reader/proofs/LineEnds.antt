-- What stands at the end of a line.
use Rattle.std.proofs.Common.{◌≡◌, ℕ, ◌+◌, ◌-◌, ◌<◌, ◌≤◌, List, [], ◌∷◌, ◌++◌, take, length, get_or, arith, take_all, refl, sym, ap, ◌∙◌, suc}
use Rattle.std.proofs.Math.Seq.{take-suc}
use Rattle.std.proofs.lemmas.Grind.{common_steps}
use Rattle.plain_tokens.specs.Lines.{trimmed, trimmed_on, without_last}

-- a list up to a place is the list up to the place before it, and one element more
pub last_of : (s : List ℕ) (n : ℕ) → 0 < n → n ≤ length s → take n s ≡ take (n - 1) s ++ get_or s (n - 1) 0 ∷ []
last_of s n lt le =
    let e : suc (n - 1) ≡ n = omega arith in
    ap (λ (m : ℕ). take m s) (sym e) ∙ take-suc s (n - 1) 0 (omega arith)

trimmed_space : (xs : List ℕ) → trimmed (xs ++ 32 ∷ []) ≡ trimmed xs
trimmed_space [] = refl
trimmed_space (c ∷ xs) = ap (trimmed_on c) (trimmed_space xs)

trimmed_on_full : (c d : ℕ) (xs : List ℕ) → trimmed_on c (xs ++ d ∷ []) ≡ c ∷ (xs ++ d ∷ [])
trimmed_on_full c d [] = refl
trimmed_on_full c d (x ∷ xs) = refl

trimmed_one : (d : ℕ) → (d ≡ 32 → ⊥) → trimmed (d ∷ []) ≡ d ∷ []
trimmed_one d ne = grind (arith, common_steps)

trimmed_other : (xs : List ℕ) (d : ℕ) → (d ≡ 32 → ⊥) → trimmed (xs ++ d ∷ []) ≡ xs ++ d ∷ []
trimmed_other [] d ne = trimmed_one d ne
trimmed_other (c ∷ xs) d ne = ap (trimmed_on c) (trimmed_other xs d ne) ∙ trimmed_on_full c d xs

without_same : (d : ℕ) (xs : List ℕ) → without_last d (xs ++ d ∷ []) ≡ xs
without_same d [] = grind (arith, common_steps)
without_same d (x ∷ []) = ap (λ (ys : List ℕ). x ∷ ys) (without_same d [])
without_same d (x ∷ y ∷ ys) = ap (λ (zs : List ℕ). x ∷ zs) (without_same d (y ∷ ys))

without_one : (d c : ℕ) → (c ≡ d → ⊥) → without_last d (c ∷ []) ≡ c ∷ []
without_one d c ne = grind (arith, common_steps)

without_other : (d : ℕ) (xs : List ℕ) (c : ℕ) → (c ≡ d → ⊥) → without_last d (xs ++ c ∷ []) ≡ xs ++ c ∷ []
without_other d [] c ne = without_one d c ne
without_other d (x ∷ []) c ne = ap (λ (ys : List ℕ). x ∷ ys) (without_one d c ne)
without_other d (x ∷ y ∷ ys) c ne = ap (λ (zs : List ℕ). x ∷ zs) (without_other d (y ∷ ys) c ne)

module _ (line : List ℕ) (n : ℕ) (some : 0 < n) (within : n ≤ length line) where
  pub space_goes : get_or line (n - 1) 0 ≡ 32 → trimmed (take n line) ≡ trimmed (take (n - 1) line)
  space_goes e = rw (last_of line n some within) (rw e (trimmed_space (take (n - 1) line)))

  pub other_stays : (get_or line (n - 1) 0 ≡ 32 → ⊥) → trimmed (take n line) ≡ take n line
  other_stays ne = rw (last_of line n some within) (trimmed_other (take (n - 1) line) (get_or line (n - 1) 0) ne)

  pub last_goes : (d : ℕ) → get_or line (n - 1) 0 ≡ d → without_last d (take n line) ≡ take (n - 1) line
  last_goes d e = rw (last_of line n some within) (rw e (without_same d (take (n - 1) line)))

  pub last_stays : (d : ℕ) → (get_or line (n - 1) 0 ≡ d → ⊥) → without_last d (take n line) ≡ take n line
  last_stays d ne = rw (last_of line n some within) (without_other d (take (n - 1) line) (get_or line (n - 1) 0) ne)

module _ (line : List ℕ) (d : ℕ) where
  all : (n : ℕ) → n ≡ length line → take n line ≡ line
  all n e = take_all n line (omega arith)

  pub whole_goes : 0 < length line → get_or line (length line - 1) 0 ≡ d → take (length line - 1) line ≡ without_last d line
  whole_goes some e = sym (last_goes line (length line) some (omega arith) d e) ∙ ap (without_last d) (all (length line) refl)

  pub whole_stays : 0 < length line → (get_or line (length line - 1) 0 ≡ d → ⊥) → take (length line) line ≡ without_last d line
  whole_stays some ne = sym (last_stays line (length line) some (omega arith) d ne) ∙ ap (without_last d) (all (length line) refl)

pub empty_stays : (line : List ℕ) (d : ℕ) → length line ≤ 0 → take (length line) line ≡ without_last d line
empty_stays [] d h = refl
empty_stays (c ∷ cs) d h = absurd (omega arith)

-- a last character that goes is one of the last piece
pub without-append : (d : ℕ) (part : List ℕ) (c : ℕ) (more : List ℕ) → without_last d (part ++ c ∷ more) ≡ part ++ without_last d (c ∷ more)
without-append d [] c more = refl
without-append d (x ∷ []) c more = refl
without-append d (x ∷ y ∷ ys) c more = ap (λ (zs : List ℕ). x ∷ zs) (without-append d (y ∷ ys) c more)

pub without-some : (d : ℕ) (part more : List ℕ) → 0 < length more → without_last d (part ++ more) ≡ part ++ without_last d more
without-some d part [] some = absurd (omega arith)
without-some d part (c ∷ more) some = without-append d part c more

-- at most one goes
pub without_short : (d : ℕ) (xs : List ℕ) → length xs ≤ length (without_last d xs) + 1
without_short d [] = omega arith
without_short d (c ∷ []) = grind (arith, common_steps)
without_short d (c ∷ e ∷ cs) = let h : length (e ∷ cs) ≤ length (without_last d (e ∷ cs)) + 1 = without_short d (e ∷ cs) in omega (arith, h)
