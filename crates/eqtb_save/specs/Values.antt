-- Values with the numbers of their lists.
use Rattle.std.specs.Prelude.{ℕ, List, map, take, Option}
use Rattle.token_lists.specs.declared.ListRef.{ListRef}
use Rattle.equivalents.specs.declared.values.Val.{Val}
use Rattle.equivalents.specs.declared.values.Val.TheVariants as val
use Rattle.equivalents.specs.Locations.{V, category_of}
use Rattle.meanings.specs.Kept.{numbered_meaning, numbered_list}

abbrev pub numbered_value : Val (Option ListRef) → V
numbered_value (val.Number n) = val.Number n
numbered_value (val.Skip g) = val.Skip g
numbered_value (val.Meant m) = val.Meant (numbered_meaning m)
numbered_value (val.Tokens list) = val.Tokens (numbered_list list)

-- the category codes stand first
abbrev pub categories_in : List V → List ℕ
categories_in cells = map category_of (take 256 cells)
