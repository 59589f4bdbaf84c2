-- The number of a name, said without counting.
use Rattle.std.specs.Prelude.{◌≡◌, ◌≢◌, ℕ, ◌+◌, List, ◌∷◌, ◌++◌, length, All, Some, None}
use Rattle.plain_tokens.specs.Lookup.{name_number}

-- the name is none of these
abbrev pub IsNew : List (List ℕ) → List ℕ → Type 0
IsNew names name = All (λ other. other ≢ name) names

-- A name's number is the place, from 1, where it first stands. One that stands nowhere has none.
pub record NamesAreNumbered : Type 0 where
  pub entered : (before behind : List (List ℕ)) (name : List ℕ) → IsNew before name → name_number (before ++ name ∷ behind) name ≡ Some (length before + 1)
  pub new : (names : List (List ℕ)) (name : List ℕ) → IsNew names name → name_number names name ≡ None
