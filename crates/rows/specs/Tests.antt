-- What a conditional's test comes to. The TeXbook, chapter 20; TeX: The Program, part 28 (`conditional`).
use Rattle.std.specs.Prelude.{ℤ, int_lt, nat_abs, ◌==◌, ◌%◌, Bool, List}
use Rattle.std.specs.Ordering.{int_eq}
use Rattle.tex_defs.specs.declared.Token.{Token}
use Rattle.tex_defs.specs.declared.Token.TheVariants as token
use Rattle.tex_defs.specs.declared.Name.TheVariants as name
use Rattle.tex_defs.specs.declared.Meaning.{Meaning}
use Rattle.tex_defs.specs.declared.Meaning.TheVariants as means
use Rattle.tex_defs.specs.declared.Seen.{Seen}
use Rattle.conditionals.specs.declared.choice.Value.TheVariants.{Truth, Case}
use Rattle.plain_tokens.specs.Categories.{active}
use Rattle.rows.specs.declared.words.Datum.{Datum}
use Rattle.rows.specs.declared.words.Datum.TheVariants as datum
use Rattle.rows.specs.declared.words.Relation.{Relation}
use Rattle.rows.specs.declared.words.Relation.TheVariants as relation
use Rattle.rows.specs.declared.command.Character.{Character}
use Rattle.rows.specs.declared.command.Test.{Test}
use Rattle.rows.specs.declared.command.Test.TheVariants as test
use Rattle.rows.specs.declared.command.Effect.{Effect}
use Rattle.rows.specs.declared.command.Effect.TheVariants as effect
use Rattle.rows.specs.Stages.{datum_at, number, token_read}

-- CHARACTERS, as `\if` and `\ifcat` see them

-- what is no character has a code that none has
abbrev pub no_character : Character
no_character = record { category = 0; code = 256 }

-- an active character that `\noexpand` kept from being expanded is itself
abbrev pub kept_character : Token → Character
kept_character (token.Named (name.Active c)) = record { category = active; code = c }
kept_character t = no_character

abbrev pub character_by : Token → Meaning Unit → Character
character_by t (means.Char category code) = record { category = category; code = code }
character_by t means.RelaxMarked = kept_character t
character_by t m = no_character

abbrev pub character_seen : Seen → Character
character_seen x = character_by x.token x.meaning

-- NUMBERS

abbrev pub relation_in : Datum → Relation
relation_in (datum.Relation r) = r
relation_in d = relation.Equal

abbrev pub holds : Relation → ℤ → ℤ → Bool
holds relation.Less m n = int_lt m n
holds relation.Equal m n = int_eq m n
holds relation.Greater m n = int_lt n m

abbrev pub is_odd : ℤ → Bool
is_odd n = nat_abs n % 2 == 1

-- THE TESTS: by what was read, in its order
abbrev pub tested : Test → List Datum → Effect
tested test.Codes ds = effect.Choose (Truth ((character_seen (token_read 0 ds)).code == (character_seen (token_read 1 ds)).code))
tested test.Categories ds = effect.Choose (Truth ((character_seen (token_read 0 ds)).category == (character_seen (token_read 1 ds)).category))
tested test.Relation ds = effect.Choose (Truth (holds (relation_in (datum_at 1 ds)) (number 0 ds) (number 2 ds)))
tested test.Odd ds = effect.Choose (Truth (is_odd (number 0 ds)))
tested test.Meanings ds = effect.Compare (token_read 0 ds) (token_read 1 ds)
tested test.Case ds = effect.Choose (Case (number 0 ds))
tested (test.Always value) ds = effect.Choose (Truth value)
