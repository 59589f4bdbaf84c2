-- Each of INITEX's values suits its location: a test that is computed, and what it tells.
use Rattle.std.proofs.Common.{◌≡◌, ℕ, zero, suc, ◌+◌, ◌<◌, List, [], ◌∷◌, length, get_or, Bool, true, false, refl, sym, subst, arith}
use Rattle.std.specs.Prelude.{pos, ◌&&◌, nat_lt}
use Rattle.std.proofs.lemmas.Bool.Decides.{nat_tests}
use Rattle.std.proofs.lemmas.Bool.{and_parts}
use Rattle.plain_tokens.specs.Meanings.{fixed_locations, primitive_count}
use Rattle.equivalents.specs.declared.values.Val.TheVariants as val
use Rattle.equivalents.specs.declared.values.Loc.{Loc}
use Rattle.equivalents.specs.Locations.{V, index, IsInRow, Suits, locations_without_names, zero_value}
use Rattle.equivalents.specs.Flat.{AreSuited}
use Rattle.equivalents.proofs.Sorts.{Sort, category, number, glue, tokens, meaning, sort_at, IsOf, same_sort, suits_sort}
use Rattle.eqtb_save.specs.First.{first_values}

abbrev is_of : Sort → V → Bool
is_of category (val.Number (pos n)) = nat_lt n 16
is_of number (val.Number n) = true
is_of glue (val.Skip g) = true
is_of tokens (val.Tokens list) = true
is_of meaning (val.Meant m) = true
is_of s v = false

are_of : ℕ → List V → Bool
are_of k [] = true
are_of k (v ∷ vs) = is_of (sort_at k) v && are_of (k + 1) vs

first_test : (knows : ℕ → Bool) → are_of 0 (first_values knows) ≡ true
unfolding first_values are_of
first_test knows = refl

of_test : (s : Sort) (v : V) → is_of s v ≡ true → IsOf s v
of_test s v test = grind (arith, nat_tests)

of_at : (k j : ℕ) (vs : List V) (i : ℕ) → k + i ≡ j → are_of k vs ≡ true → i < length vs → IsOf (sort_at j) (get_or vs i zero_value)
unfolding are_of
of_at k j [] i there test within = absurd (omega arith)
of_at k j (v ∷ vs) zero there test within =
    let here : k ≡ j = omega (arith, there) in
    subst (λ (n : ℕ). IsOf (sort_at n) v) here (of_test (sort_at k) v (and_parts (is_of (sort_at k) v) (are_of (k + 1) vs) test).0)
of_at k j (v ∷ vs) (suc i) there test within = of_at (k + 1) j vs i (omega (arith, there)) (and_parts (is_of (sort_at k) v) (are_of (k + 1) vs) test).1 (omega (arith, within))

suits_first : (knows : ℕ → Bool) (l : Loc) → IsInRow l → index l < length (first_values knows) → Suits l (get_or (first_values knows) (index l) zero_value)
suits_first knows l within placed =
    let v : V = get_or (first_values knows) (index l) zero_value in
    let is : IsOf (sort_at (index l)) v = of_at 0 (index l) (first_values knows) (index l) (omega arith) (first_test knows) placed in
    subst (λ (A : Type 0). A) (sym (suits_sort l v)) (subst (λ (s : Sort). IsOf s v) (sym (same_sort l within)) is)

long_first : (knows : ℕ → Bool) → length (first_values knows) ≡ locations_without_names + (fixed_locations + primitive_count)
unfolding first_values
long_first knows = refl

pub first_suited : (knows : ℕ → Bool) → AreSuited (first_values knows)
first_suited knows = record { suits = suits_first knows; long = omega (arith, long_first knows) }
