-- The hash and the plain machine number names alike.
use Rattle.std.proofs.Common.{◌≡◌, ℕ, suc, List, [], ◌∷◌, Option, Some, bytes_eq, refl, ap, if◌then◌else◌}
use Rattle.cs_hash.specs.Names.{number_from as hash_number_from, name_number as hash_number_of}
use Rattle.plain_tokens.specs.Lookup.{number_from, name_number}

same_from : (k : ℕ) (names : List (List ℕ)) (name : List ℕ) → hash_number_from k names name ≡ number_from k names name
unfolding hash_number_from number_from
same_from k [] name = refl
same_from k (first ∷ names) name = ap (λ (other : Option ℕ). if bytes_eq first name then Some k else other) (same_from (suc k) names name)

pub same_number : (names : List (List ℕ)) (name : List ℕ) → hash_number_of names name ≡ name_number names name
same_number names name = same_from 1 names name
