-- The stages: what each asks for at first, and what it makes of a token and of a value.
use Rattle.std.specs.Prelude.{ℕ, zero, suc, ℤ, pos, ◌&&◌, ◌||◌, Bool, true, false, List, [], ◌∷◌, Option, Some, None, nat_le, if◌then◌else◌}
use Rattle.tex_defs.specs.declared.Token.{Token}
use Rattle.tex_defs.specs.declared.Token.TheVariants as token
use Rattle.tex_defs.specs.declared.Name.{Name}
use Rattle.tex_defs.specs.declared.Name.TheVariants.{Empty}
use Rattle.tex_defs.specs.declared.Meaning.{Meaning}
use Rattle.tex_defs.specs.declared.Meaning.TheVariants as means
use Rattle.tex_defs.specs.declared.Seen.{Seen}
use Rattle.tex_syntax.specs.declared.words.Want.TheVariants as want
use Rattle.tex_syntax.specs.declared.words.Report.{Report}
use Rattle.tex_syntax.specs.declared.words.Report.TheVariants as report
use Rattle.prim_table.specs.declared.Class.TheVariants as class
use Rattle.prim_table.specs.Primitives.{first_number, last_number}
use Rattle.plain_tokens.specs.Tokens.{is_other, is_space, is_space_token}
use Rattle.plain_tokens.specs.Categories.{is_between}
use Rattle.plain_tokens.specs.Names.{name_of, means_relax, means_primitive, is_definition_primitive, long_primitive, outer_primitive, global_primitive, def_primitive}
use Rattle.rows.specs.declared.words.Datum.{Datum}
use Rattle.rows.specs.declared.words.Datum.TheVariants as datum
use Rattle.rows.specs.declared.words.Relation.{Relation as Relative}
use Rattle.rows.specs.declared.words.Relation.TheVariants as relative
use Rattle.rows.specs.declared.words.Value.{Value}
use Rattle.rows.specs.declared.words.Value.TheVariants as value
use Rattle.rows.specs.declared.words.Phrase.{Phrase}
use Rattle.rows.specs.declared.words.Phrase.TheVariants as phrase
use Rattle.rows.specs.declared.stage.Stage.{Stage}
use Rattle.rows.specs.declared.stage.Stage.TheVariants.{Number, NumberTo, NumberUpTo, Dimension, Glue, Amount, Equals, ControlSequence, NewName, Variable, InternalValue, TokenList, Keyword, LetEquals, Space, AnyToken, UnenteredToken, ExpandedToken, NonblankToken, Relation, Text, MacroText, Prefixes}
use Rattle.rows.specs.declared.stage.Complaint.{Complaint}
use Rattle.rows.specs.declared.stage.Complaint.TheVariants.{BadCharacterCode, BadRegisterCode, BadMathchar, InvalidCode}
use Rattle.rows.specs.declared.stage.Start.{Start}
use Rattle.rows.specs.declared.stage.Start.TheVariants.{Looks, Begins}
use Rattle.rows.specs.declared.stage.Met.{Met}
use Rattle.rows.specs.declared.stage.Met.TheVariants as met
use Rattle.rows.specs.declared.stage.Got.{Got}
use Rattle.rows.specs.declared.stage.Got.TheVariants as got
use Rattle.rows.specs.declared.stage.Next.TheVariants as next
use Rattle.rows.specs.declared.stage.Note.{Note}
use Rattle.rows.specs.declared.stage.Note.TheVariants as note
use Rattle.equivalents.specs.declared.values.Loc.{Loc}
use Rattle.equivalents.specs.declared.values.Loc.TheVariants as loc
use Rattle.rows.specs.declared.command.Head.{Head}
use Rattle.rows.specs.declared.command.Head.TheVariants as head
use Rattle.rows.specs.declared.command.Call.{Call}
use Rattle.rows.specs.declared.command.Prefix.{Prefix}
use Rattle.rows.specs.declared.command.Prefix.TheVariants.{Long, Outer, Global}
use Rattle.rows.specs.Tokens.{is_equals, is_character, name_to_assign, inaccessible, is_at_most, is_up_to}
use Rattle.rows.specs.declared.internal.Bank.{Bank}
use Rattle.rows.specs.declared.internal.Internal.{Internal}
use Rattle.rows.specs.declared.internal.Internal.TheVariants as internal
use Rattle.rows.specs.Internal.{byte_of, location_in, bad_number, variable_of, list_of, value_of}
use Rattle.rows.specs.Arithmetic.{number_in}
use Rattle.rows.specs.Table.{has_row, value_stage}
use Rattle.rows.specs.declared.words.DimenKind.{DimenKind}

-- WHAT HAS BEEN READ, in the order in which it was read

abbrev pub nothing : Datum
nothing = datum.Number (pos 0)

abbrev pub datum_at : ℕ → List Datum → Datum
datum_at i [] = nothing
datum_at zero (d ∷ ds) = d
datum_at (suc i) (d ∷ ds) = datum_at i ds

abbrev pub name_in : Datum → Name
name_in (datum.Named n) = n
name_in d = Empty

abbrev pub location_read : Datum → Loc
location_read (datum.At l) = l
location_read d = loc.Integer 0

abbrev pub no_token : Seen
no_token = record { token = token.Named Empty; meaning = means.Undefined }

abbrev pub token_in : Datum → Seen
token_in (datum.Taken x) = x
token_in d = no_token

-- by their places, the first of which is number 0
abbrev pub number : ℕ → List Datum → ℤ
number i ds = number_in (datum_at i ds)

abbrev pub name : ℕ → List Datum → Name
name i ds = name_in (datum_at i ds)

abbrev pub token_read : ℕ → List Datum → Seen
token_read i ds = token_in (datum_at i ds)

abbrev pub location : ℕ → List Datum → Loc
location i ds = location_read (datum_at i ds)

-- NUMBERS

-- a number out of its range
abbrev pub out_of_range : Complaint → ℕ → ℤ → Report
out_of_range BadCharacterCode greatest n = report.BadCharacterCode n
out_of_range BadRegisterCode greatest n = report.BadRegisterCode n
out_of_range BadMathchar greatest n = report.BadMathchar n
out_of_range InvalidCode greatest n = report.InvalidCode n greatest

-- is reported, and 0 taken
abbrev pub ranged : Complaint → ℕ → ℤ → Got
ranged complaint greatest n =
    if is_at_most greatest n then got.Takes (datum.Number n)
    else got.Tells (out_of_range complaint greatest n) (next.Takes (datum.Number (pos 0)))

-- a number that may be less than 0
abbrev pub bounded : ℕ → ℤ → Got
bounded greatest n =
    if is_up_to greatest n then got.Takes (datum.Number n)
    else got.Tells (report.CodeTooGreat n greatest) (next.Takes (datum.Number (pos 0)))

-- NAMES TO ASSIGN

-- `\inaccessible` takes the place of a name that is missing; a character is given back, and another token dropped
abbrev pub named : Token → Option Name → Met
named t (Some n) = met.Takes (datum.Named n)
named t None = met.Retries (note.Inserts inaccessible report.MissingName (is_character t))

abbrev pub name_met : Call → Seen → Met
name_met c x = if is_space_token x.token then met.Skips c else named x.token (name_to_assign x.token)

-- The name of a shorthand definition means `\relax` from here, while the rest is read.
abbrev pub newly_named : Call → Token → Option Name → Met
newly_named c t (Some n) = met.Notes (note.Relaxes c n) (next.Takes (datum.Named n))
newly_named c t None = named t None

abbrev pub new_name_met : Call → Seen → Met
new_name_met c x = if is_space_token x.token then met.Skips c else newly_named c x.token (name_to_assign x.token)

-- LOCATIONS

-- what a token stands for: a number, a location, or the location of the number behind it; of another token this comes
abbrev pub internal_met : (otherwise : Met) → Option Internal → Met
internal_met otherwise (Some (internal.Given n)) = met.Takes (datum.Number (pos n))
internal_met otherwise (Some (internal.At l)) = met.Takes (datum.At l)
internal_met otherwise (Some (internal.Numbered b)) = met.Numbers b
internal_met otherwise None = otherwise

-- the number of a primitive
abbrev pub primitive_number : Head → ℕ
primitive_number (head.Primitive n) = n
primitive_number (head.Register kind n) = 0

-- it can't be used behind the command of this number
abbrev pub unusable_behind : ℕ → Seen → Note
unusable_behind n x = note.Tells (report.CantUseAfter x.meaning n) false

abbrev pub unusable : Call → Seen → Note
unusable c x = unusable_behind (primitive_number c.head) x

-- behind `\showthe` the report names `\the` too
abbrev pub the_primitive : ℕ
the_primitive = 62

-- the number of a register or of a character came: another than one from 0 to 255 is reported, and the location is that of 0
abbrev pub numbered : Bank → ℤ → Got
numbered b n =
    if is_at_most 255 n then got.Takes (datum.At (location_in b (byte_of n)))
    else got.Tells (bad_number b n) (next.Takes (datum.At (location_in b 0)))

abbrev pub numbered_by : Bank → Value → Got
numbered_by b (value.Plain (datum.Number n)) = numbered b n
numbered_by b v = numbered b (pos 0)

-- RELATIONS

-- an explicit `<`, `=` or `>` of category 12
abbrev pub relation_of : Token → Option Relative
relation_of t =
    if is_other 60 t then Some relative.Less else if is_other 61 t then Some relative.Equal else if is_other 62 t then Some relative.Greater else None

-- another token is given back and reported, and `=` taken
abbrev pub related : Call → Option Relative → Met
related c (Some r) = met.Takes (datum.Relation r)
related c None = met.Notes (note.Tells (report.MissingRelation (primitive_number c.head)) true) (next.Takes (datum.Relation relative.Equal))

-- PREFIXES

-- with one prefix more
abbrev pub also : Prefix → Call → Call
also Long c = record c { long = true }
also Outer c = record c { outer = true }
also Global c = record c { global = true }

abbrev pub prefix_of : Meaning Unit → Option Prefix
prefix_of m =
    if means_primitive long_primitive m then Some Long else if means_primitive outer_primitive m then Some Outer
    else if means_primitive global_primitive m then Some Global else None

-- `\def`, `\gdef`, `\edef` and `\xdef`
abbrev pub is_definition : Meaning Unit → Bool
is_definition (means.Prim n) = is_definition_primitive n
is_definition m = false

-- the number of the last primitive that is an assignment: `\read`
abbrev pub last_assignment : ℕ
last_assignment = last_number class.Assignment

-- the number of the first parameter; the parameters are the last primitives
abbrev pub first_parameter : ℕ
first_parameter = first_number class.IntegerParameter

-- the assignments that are read by rows
abbrev pub is_assignment : Meaning Unit → Bool
is_assignment (means.Prim n) = (is_between def_primitive last_assignment n || nat_le first_parameter n) && has_row (head.Primitive n)
is_assignment (means.Register kind n) = has_row (head.Register kind n)
is_assignment m = false

abbrev pub head_of : Meaning Unit → Head
head_of (means.Prim n) = head.Primitive n
head_of (means.Register kind n) = head.Register kind n
head_of m = head.Primitive 0

-- the command that the token is, with the prefixes that stood before it
abbrev pub as_command : Call → Seen → Call
as_command c x = record c { head = head_of x.meaning; name = name_of x.token }

-- another command than an assignment is given back and reported, and the prefixes are lost
abbrev pub prefix_refused : Seen → Met
prefix_refused x = met.Notes (note.Tells (report.PrefixWith x.meaning) true) next.Stops

-- `\long` or `\outer` before an assignment that is no definition is reported, and it goes on as without them
abbrev pub limit_refused : Call → Seen → Met
limit_refused c x =
    met.Notes (note.Tells (report.LongOrOuterWith x.meaning) false) (next.Becomes (record (as_command c x) { long = false; outer = false }))

abbrev pub behind_prefixes : Call → Seen → Met
behind_prefixes c x =
    if is_definition x.meaning then met.Becomes (as_command c x)
    else if is_assignment x.meaning then (
    if c.long || c.outer then limit_refused c x else met.Becomes (as_command c x)
    ) else prefix_refused x

abbrev pub prefixed : Call → Option Prefix → Seen → Met
prefixed c (Some p) x = met.Skips (also p c)
prefixed c None x = behind_prefixes c x

-- THE STAGES

-- a dimension that isn't in mu and is finite
abbrev pub in_points : DimenKind
in_points = record { mu = false; infinite = false }

-- the reading that a value is
abbrev pub value_phrase : Stage → Phrase
value_phrase Dimension = phrase.Dimension in_points
value_phrase (Glue mu) = phrase.Glue mu
value_phrase s = phrase.Integer

-- what each asks for at first, in a command that has read this
abbrev pub start : Stage → Call → List Datum → Start
start Number c ds = Begins phrase.Integer
start (NumberTo greatest complaint) c ds = Begins phrase.Integer
start (NumberUpTo greatest) c ds = Begins phrase.Integer
start Dimension c ds = Begins (value_phrase Dimension)
start (Glue mu) c ds = Begins (value_phrase (Glue mu))
start Amount c ds = Begins (value_phrase (value_stage (location 0 ds)))
start Equals c ds = Looks want.Nonblank
start NewName c ds = Looks want.Raw
start Variable c ds = Looks want.Expanded
start InternalValue c ds = Looks want.Expanded
start TokenList c ds = Looks want.Command
start (Keyword w) c ds = Begins (phrase.Keyword w)
start ControlSequence c ds = Looks want.Raw
start LetEquals c ds = Looks want.Raw
start Space c ds = Looks want.Raw
start AnyToken c ds = Looks want.Raw
start UnenteredToken c ds = Looks want.Unentered
start ExpandedToken c ds = Looks want.Expanded
start NonblankToken c ds = Looks want.Nonblank
start Relation c ds = Looks want.Nonblank
start (Text expanded) c ds = Begins (phrase.Text c.name expanded)
start (MacroText expanded) c ds = Begins (phrase.Definition (name 0 ds) expanded)
start (Prefixes p) c ds = Looks want.Command

-- what it makes of a token; a stage that doesn't look at tokens is none of these
abbrev pub on_token : Stage → Call → Seen → Met
on_token Equals c x = if is_equals x then met.Passes else met.Leaves
on_token ControlSequence c x = name_met c x
on_token NewName c x = new_name_met c x
on_token Variable c x = internal_met (met.Notes (unusable c x) (next.Unassigned c)) (variable_of x.meaning)
on_token InternalValue c x = internal_met (met.Notes (unusable_behind the_primitive x) (next.Takes nothing)) (value_of x.meaning)
on_token TokenList c x = if means_relax x.meaning then met.Skips c else internal_met (met.Begins (phrase.Text c.name false)) (list_of x.meaning)
on_token LetEquals c x = if is_space x then met.Skips c else if is_equals x then met.Passes else met.Leaves
on_token Space c x = if is_space x then met.Passes else met.Leaves
on_token AnyToken c x = met.Takes (datum.Taken x)
on_token UnenteredToken c x = met.Takes (datum.Taken x)
on_token ExpandedToken c x = met.Takes (datum.Taken x)
on_token NonblankToken c x = met.Takes (datum.Taken x)
on_token Relation c x = related c (relation_of x.token)
on_token (Prefixes p) c x = prefixed (also p c) (prefix_of x.meaning) x
on_token s c x = met.Leaves

-- and of the value of an inner reading; where it is to be a list, another value counts as nothing
abbrev pub on_datum : Stage → Datum → Got
on_datum (NumberTo greatest complaint) d = ranged complaint greatest (number_in d)
on_datum (NumberUpTo greatest) d = bounded greatest (number_in d)
on_datum TokenList d = got.Takes nothing
on_datum s d = got.Takes d

abbrev pub on_list : Stage → Got
on_list (MacroText expanded) = got.Defines
on_list s = got.Gathers

abbrev pub on_value : Stage → Value → Got
on_value s (value.Plain d) = on_datum s d
on_value s value.List = on_list s
