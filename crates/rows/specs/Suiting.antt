-- What a command does suits the locations that it uses: a value may stand where it is set, and what is used is there.
use Rattle.std.specs.Prelude.{◌≡◌, ◌<◌, ℤ, Bool, true, false}
use Rattle.prim_table.specs.declared.Class.TheVariants as class
use Rattle.prim_table.specs.Primitives.{row_size}
use Rattle.equivalents.specs.declared.values.Glue.{Glue}
use Rattle.equivalents.specs.declared.values.Loc.{Loc}
use Rattle.equivalents.specs.declared.values.Loc.TheVariants as loc
use Rattle.equivalents.specs.declared.values.Val.TheVariants as val
use Rattle.equivalents.specs.Locations.{Suits}
use Rattle.rows.specs.declared.command.Effect.{Effect}
use Rattle.rows.specs.declared.command.Effect.TheVariants as effect
use Rattle.rows.specs.Internal.{is_glue, is_list}
use Rattle.rows.specs.Readings.{Ask, Acts, ActsOn}

-- a location that is there, and no name's: each byte is the number of a register and of a character
abbrev pub IsThere : Loc → Type 0
IsThere (loc.Integer i) = i < row_size class.IntegerParameter
IsThere (loc.Dimension i) = i < row_size class.DimensionParameter
IsThere (loc.Glue i) = i < row_size class.GlueParameter
IsThere (loc.Tokens i) = i < row_size class.TokenParameter
IsThere (loc.Means n) = ⊥
IsThere l = Unit {0}

-- which is a list of tokens
abbrev pub TakesList : Loc → Type 0
TakesList l = IsThere l × (is_list l ≡ true)

-- all glue may stand there, or all numbers
abbrev pub TakesAll : (glue : Bool) → Loc → Type 0
TakesAll true l = (g : Glue) → Suits l (val.Skip g)
TakesAll false l = (n : ℤ) → Suits l (val.Number n)

-- which arithmetic changes
abbrev pub IsVariable : Loc → Type 0
IsVariable l = IsThere l × TakesAll (is_glue l) l

-- A number, glue or a list is set at a location that is there and that such a value suits; what is computed is at one that takes all numbers, or all
-- glue; what is put or shown of a value is that of one that is there, and a list that of one that is a list.
abbrev pub IsSuited : Effect → Type 0
IsSuited (effect.SetNumber l value) = IsThere l × Suits l (val.Number value)
IsSuited (effect.SetGlue l g) = IsThere l × Suits l (val.Skip g)
IsSuited (effect.SetList l) = TakesList l
IsSuited (effect.ShareList l m) = TakesList l × TakesList m
IsSuited (effect.Compute operation l d) = IsVariable l
IsSuited (effect.MakeValue l) = IsThere l
IsSuited (effect.PutList l) = TakesList l
IsSuited (effect.ShowValue l) = IsThere l
IsSuited e = Unit {0}

-- what a command is to do
abbrev pub AsksSuited : Ask → Type 0
AsksSuited (Acts c e) = IsSuited e
AsksSuited (ActsOn c e ts) = IsSuited e
AsksSuited a = Unit {0}
