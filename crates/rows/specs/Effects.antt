-- What a command does with what it has read.
use Rattle.std.specs.Prelude.{ℕ, ℤ, nat_abs, Bool, true, false, ◌||◌, if◌then◌else◌, List}
use Rattle.equivalents.specs.declared.values.Loc.{Loc}
use Rattle.equivalents.specs.declared.values.Loc.TheVariants as loc
use Rattle.rows.specs.declared.words.Datum.{Datum}
use Rattle.rows.specs.declared.words.Datum.TheVariants as datum
use Rattle.rows.specs.declared.command.Action.{Action}
use Rattle.rows.specs.declared.command.Action.TheVariants as action
use Rattle.rows.specs.declared.command.Shorthand.TheVariants as shorthand
use Rattle.rows.specs.declared.command.Effect.{Effect}
use Rattle.rows.specs.declared.command.Effect.TheVariants as effect
use Rattle.rows.specs.declared.command.Call.{Call}
use Rattle.rows.specs.Internal.{byte_of, is_list, is_glue}
use Rattle.rows.specs.Arithmetic.{number_in, glue_in}
use Rattle.rows.specs.Tokens.{is_at_most}
use Rattle.rows.specs.Stages.{datum_at, number, name, token_read, location}
use Rattle.rows.specs.Table.{action_of}
use Rattle.rows.specs.Tests.{tested}

-- a mathematical character's code; another number, which no row gives, counts as 0
abbrev pub math_code_of : ℤ → ℕ
math_code_of n = if is_at_most 32767 n then nat_abs n else 0

-- a number that stands for itself, or what stands at a location: a list of tokens as it is, another value as its text
abbrev pub value_made : Datum → Effect
value_made (datum.At l) = if is_list l then effect.PutList l else effect.MakeValue l
value_made d = effect.MakeNumber (number_in d)

abbrev pub shows_datum : Datum → Effect
shows_datum (datum.At l) = effect.ShowValue l
shows_datum d = effect.ShowNumber (number_in d)

-- the list of another location, or else the one that was read last
abbrev pub list_to : Loc → Datum → Effect
list_to l (datum.At m) = effect.ShareList l m
list_to l d = effect.SetList l

-- a location gets what was read, as a list, as glue or as a number, as what stands there is
abbrev pub set_to : Loc → Datum → Effect
set_to l d = if is_list l then list_to l d else if is_glue l then effect.SetGlue l (glue_in d) else effect.SetNumber l (number_in d)

abbrev pub comes_to : Action → List Datum → Effect
comes_to action.Nothing ds = effect.Nothing
comes_to action.Obey ds = effect.Obey (token_read 0 ds)
comes_to action.Message ds = effect.Message
comes_to action.ErrorMessage ds = effect.ErrorMessage
comes_to action.Show ds = effect.Show (token_read 0 ds)
comes_to action.ShowValue ds = shows_datum (datum_at 0 ds)
comes_to (action.ChangeCase upper) ds = effect.ChangeCase upper
comes_to action.Define ds = effect.Nothing
comes_to action.DefineGlobally ds = effect.Nothing
comes_to action.Let ds = effect.Let (name 0 ds) (token_read 1 ds)
comes_to action.FutureLet ds = effect.FutureLet (name 0 ds) (token_read 1 ds) (token_read 2 ds)
comes_to (action.SetCode kind) ds = effect.SetNumber (loc.Code kind (byte_of (number 0 ds))) (number 1 ds)
comes_to (action.SetAt l) ds = set_to l (datum_at 0 ds)
comes_to (action.SetRegister kind) ds = set_to (loc.Register kind (byte_of (number 0 ds))) (datum_at 1 ds)
comes_to (action.Compute operation) ds = effect.Compute operation (location 0 ds) (datum_at 2 ds)
comes_to action.GiveCharacter ds = effect.Shorthand (name 0 ds) (shorthand.Character (byte_of (number 1 ds)))
comes_to action.GiveMath ds = effect.Shorthand (name 0 ds) (shorthand.Math (math_code_of (number 1 ds)))
comes_to (action.GiveRegister kind) ds = effect.Shorthand (name 0 ds) (shorthand.Register kind (byte_of (number 1 ds)))
comes_to action.AfterGroup ds = effect.AfterGroup (token_read 0 ds)
comes_to action.AfterAssignment ds = effect.AfterAssignment (token_read 0 ds)
comes_to action.ExpandBehind ds = effect.ExpandBehind (token_read 0 ds) (token_read 1 ds)
comes_to action.PutMarked ds = effect.PutMarked (token_read 0 ds)
comes_to action.MakeNumber ds = effect.MakeNumber (number 0 ds)
comes_to action.MakeRoman ds = effect.MakeRoman (number 0 ds)
comes_to action.MakeString ds = effect.MakeString (token_read 0 ds)
comes_to action.MakeMeaning ds = effect.MakeMeaning (token_read 0 ds)
comes_to action.MakeValue ds = value_made (datum_at 0 ds)
comes_to (action.Test test) ds = tested test ds

-- what this command does with what it has read
abbrev pub command_effect : Call → List Datum → Effect
command_effect c ds = comes_to (action_of c.head) ds

abbrev pub is_always_global : Action → Bool
is_always_global action.DefineGlobally = true
is_always_global a = false

-- the definition that makes a macro: `\gdef` and `\xdef` are global by themselves
abbrev pub as_definition : Call → Call
as_definition c = record c { global = c.global || is_always_global (action_of c.head) }
