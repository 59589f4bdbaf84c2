-- Characters that print as one byte.
use Rattle.std.specs.Prelude.{ℕ, Bool, true, ◌&&◌, List, [], ◌∷◌}
use Rattle.plain_tokens.specs.Categories.{is_between}

-- each is from 32 to 126
abbrev pub is_plain : List ℕ → Bool
is_plain [] = true
is_plain (c ∷ cs) = is_between 32 126 c && is_plain cs
