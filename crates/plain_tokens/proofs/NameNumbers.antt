-- The numbers of names.
use Rattle.std.proofs.Common.{◌≡◌, ◌≢◌, ℕ, ◌+◌, suc, true, false, List, [], ◌∷◌, ◌++◌, length, Some, None, bytes_eq, arith, refl, ap, ◌∙◌}
use Rattle.std.specs.List.{AllByRecursion}
use Rattle.std.proofs.lemmas.List.Elements.{recursion_from_All}
use Rattle.std.proofs.lemmas.Slice.Eq.{bytes_eq-Decides}
use Rattle.plain_tokens.specs.Lookup.{number_from, name_number}
use Rattle.plain_tokens.specs.LookupLaws.{IsNew}

same_bytes : (a : List ℕ) → bytes_eq a a ≡ true
same_bytes a = grind (arith, bytes_eq-Decides a a)

other_bytes : (a b : List ℕ) → a ≢ b → bytes_eq a b ≡ false
other_bytes a b e = grind (arith, bytes_eq-Decides a b)

module _ (name : List ℕ) where
  entered_from : (k : ℕ) (before behind : List (List ℕ)) → AllByRecursion (λ (other : List ℕ). other ≢ name) before → number_from k (before ++ name ∷ behind) name ≡ Some (length before + k)
  unfolding number_from
  entered_from k [] behind h = rw (same_bytes name) (ap (λ (n : ℕ). Some n) (omega arith))
  entered_from k (other ∷ before) behind h =
      rw (other_bytes other name h.0) (entered_from (suc k) before behind h.1 ∙ ap (λ (n : ℕ). Some n) (omega arith))

  new_from : (k : ℕ) (names : List (List ℕ)) → AllByRecursion (λ (other : List ℕ). other ≢ name) names → number_from k names name ≡ None
  unfolding number_from
  new_from k [] h = refl
  new_from k (other ∷ names) h = rw (other_bytes other name h.0) (new_from (suc k) names h.1)

  pub entered : (before behind : List (List ℕ)) → IsNew before name → name_number (before ++ name ∷ behind) name ≡ Some (length before + 1)
  entered before behind h = entered_from 1 before behind (recursion_from_All (λ (other : List ℕ). other ≢ name) before h)

  pub new : (names : List (List ℕ)) → IsNew names name → name_number names name ≡ None
  new names h = new_from 1 names (recursion_from_All (λ (other : List ℕ). other ≢ name) names h)
