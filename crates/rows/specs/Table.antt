-- The rows are those of the table of constants, by the numbers of the primitives, and those of parameters and registers.
use Rattle.std.specs.Prelude.{ℕ, ◌==◌, Bool, true, false, Option, Some, None, List, [], ◌∷◌, if◌then◌else◌}
use Rattle.equivalents.specs.declared.values.Loc.{Loc}
use Rattle.equivalents.specs.declared.values.Loc.TheVariants as loc
use Rattle.rows.specs.declared.stage.Stage.{Stage}
use Rattle.rows.specs.declared.stage.Stage.TheVariants.{AnyToken, Equals, Number, Dimension, Glue, TokenList}
use Rattle.rows.specs.declared.command.Row.{Row}
use Rattle.rows.specs.declared.command.Row.TheVariants.{One, Two, Three, Four}
use Rattle.rows.specs.declared.command.Head.{Head}
use Rattle.rows.specs.declared.command.Head.TheVariants.{Primitive, Register}
use Rattle.rows.specs.declared.command.Action.{Action}
use Rattle.rows.specs.declared.command.Action.TheVariants as action
use Rattle.rows.specs.declared.command.Test.TheVariants as test
use Rattle.rows.specs.declared.command.TheConstants.{SYNTAX}
use Rattle.rows.specs.declared.internal.Internal.{Internal}
use Rattle.rows.specs.declared.internal.Internal.TheVariants as internal
use Rattle.rows.specs.Internal.{internal_parameter, list_parameter, or_else, is_list, is_glue, is_dimension, is_mu}

abbrev pub row_among : ℕ → List (ℕ × Row × Action) → Option (Row × Action)
row_among n [] = None
row_among n (row ∷ rows) = if row.0 == n then Some (row.1, row.2) else row_among n rows

-- what is read for a location, by what stands there
abbrev pub value_stage : Loc → Stage
value_stage l = if is_list l then TokenList else if is_glue l then Glue (is_mu l) else if is_dimension l then Dimension else Number

-- a location gets a value, behind an optional `=`
abbrev pub assignment_to : Loc → Row × Action
assignment_to l = (Two Equals (value_stage l), action.SetAt l)

-- the parameters get values so; the other primitives have their rows in the table
abbrev pub parameter_row : ℕ → Option Internal → Option (Row × Action)
parameter_row n (Some (internal.At l)) = Some (assignment_to l)
parameter_row n i = row_among n SYNTAX.now

abbrev pub primitive_row : ℕ → Option (Row × Action)
primitive_row n = parameter_row n (or_else (internal_parameter n) (list_parameter n))

-- and so do registers, by their names
abbrev pub find_row : Head → Option (Row × Action)
find_row (Primitive n) = primitive_row n
find_row (Register kind n) = Some (assignment_to (loc.Register kind n))

abbrev pub has_row_in : Option (Row × Action) → Bool
has_row_in None = false
has_row_in (Some row) = true

abbrev pub has_row : Head → Bool
has_row h = has_row_in (find_row h)

-- A command that has no row counts as one that reads a token. `\jobname` and the conditionals whose test reads nothing have none and begin: they end at
-- once, before they are asked for anything.
abbrev pub row_or_token : Option (Row × Action) → Row × Action
row_or_token None = (One AnyToken, action.Nothing)
row_or_token (Some row) = row

abbrev pub row_of : Head → Row × Action
row_of h = row_or_token (find_row h)

-- the stages of a row: the first, and those behind it
abbrev pub first_in : Row → Stage
first_in (One a) = a
first_in (Two a b) = a
first_in (Three a b c) = a
first_in (Four a b c d) = a

abbrev pub rest_in : Row → List Stage
rest_in (One a) = []
rest_in (Two a b) = b ∷ []
rest_in (Three a b c) = b ∷ c ∷ []
rest_in (Four a b c d) = b ∷ c ∷ d ∷ []

abbrev pub stages_in : Row → List Stage
stages_in row = first_in row ∷ rest_in row

-- of a row of which some are left, or none
abbrev pub stages_left : Option Row → List Stage
stages_left None = []
stages_left (Some row) = stages_in row

-- what a command reads, and what it does then
abbrev pub stages_of : Head → List Stage
stages_of h = stages_in (row_of h).0

abbrev pub action_of : Head → Action
action_of h = (row_of h).1

-- Whether a command's token is read under normal status, whatever is read around it; each other row keeps the status of what is read around it.
abbrev pub is_unguarded : Action → Bool
is_unguarded action.PutMarked = true
is_unguarded action.MakeString = true
is_unguarded action.MakeMeaning = true
is_unguarded (action.Test test.Meanings) = true
is_unguarded a = false

abbrev pub reads_under_normal : Head → Bool
reads_under_normal h = is_unguarded (action_of h)
