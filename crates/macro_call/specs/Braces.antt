-- The outer braces of an argument.
use Rattle.std.specs.Prelude.{ℕ, Bool, false, if◌then◌else◌, ◌==◌, List, [], ◌∷◌}
use Rattle.tex_defs.specs.declared.Token.{Token}
use Rattle.plain_tokens.specs.Arguments.{open_behind, is_nil}

-- where n groups are open in front: none is open behind the last token, and some behind each token before it
abbrev pub closes_last : ℕ → List Token → Bool
closes_last n [] = false
closes_last n (x ∷ xs) = if open_behind n x == 0 then is_nil xs else closes_last (open_behind n x) xs
