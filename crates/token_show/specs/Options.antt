-- A character that may be there, as a list.
use Rattle.std.specs.Prelude.{ℕ, List, [], ◌∷◌, Option, None, Some}

abbrev pub listed : Option ℕ → List ℕ
listed None = []
listed (Some c) = c ∷ []
