-- The readings: what each asks for after all that it was fed with, and the lists that it holds then.
use Rattle.std.specs.Prelude.{ℕ, Bool, false, List, [], ◌∷◌, ◌++◌}
use Rattle.tex_defs.specs.declared.Name.{Name}
use Rattle.tex_defs.specs.declared.Token.{Token}
use Rattle.tex_defs.specs.declared.Seen.{Seen}
use Rattle.plain_tokens.specs.Puts.{list_of_tokens}
use Rattle.tex_syntax.specs.declared.words.Want.TheVariants.{Nonblank}
use Rattle.conditionals.specs.declared.choice.Aim.{Aim}
use Rattle.rows.specs.declared.words.Phrase.{Phrase}
use Rattle.rows.specs.declared.words.Phrase.TheVariants.{Command, Integer, Factor, Dimension, Glue, Keyword, Text, Definition}
use Rattle.rows.specs.declared.command.Call.{Call}
use Rattle.rows.specs.declared.command.Effect.TheVariants.{PutBack}
use Rattle.rows.specs.Readings.{Fed, Ask, ActsOn, Defines}
use Rattle.rows.specs.Commands.{command_ask, Acts}
use Rattle.rows.specs.Run.{row}
use Rattle.plain_readings.specs.Integers.{integer, number_ask}
use Rattle.plain_readings.specs.Factors.{factor, factor_ask}
use Rattle.plain_readings.specs.Measures.{dimension, glue}
use Rattle.plain_readings.specs.Keywords.{keyword, keyword_ask}
use Rattle.plain_readings.specs.Lists.{build_ask, built, text, definition}
use Rattle.plain_readings.specs.Calls.{gathered, arguments, call_lists}
use Rattle.plain_readings.specs.Spelling.{spelling, characters}
use Rattle.plain_readings.specs.FileNames.{file_naming, file_characters}
use Rattle.plain_readings.specs.Skips.{skipping}

-- What may be open: a command, or what a command begins; `\csname`; `\input`; the token that `\expandafter` puts back, once what stood behind
-- it is expanded; text that a conditional skips, which seeks this, from this line on; the arguments of a call of the macro of this name, as it
-- was written, with the macro's number and its list.
pub data Kind : Type 0 where
  Reads : Phrase → Kind
  Spelling : Call → Kind
  FileName : Call → Kind
  Behind : Call → Seen → Kind
  Skips : Call → Aim → (line : ℕ) → Kind
  Arguments : Name → (long : Bool) → (number : ℕ) → (text : List Token) → Kind

-- WHAT A READING ASKS FOR after all that it was fed with

abbrev pub begun_ask : Phrase → List Fed → Ask
begun_ask (Command c) fed = command_ask (row c fed)
begun_ask Integer fed = number_ask (integer false fed)
begun_ask Factor fed = factor_ask (factor fed)
begun_ask (Dimension k) fed = dimension k fed
begun_ask (Glue mu) fed = glue mu fed
begun_ask (Keyword w) fed = keyword_ask (keyword w fed)
begun_ask (Text name expanded) fed = build_ask (text name expanded fed)
begun_ask (Definition name expanded) fed = build_ask (definition name expanded fed)

abbrev pub ask : Kind → List Fed → Ask
ask (Reads k) fed = begun_ask k fed
ask (Spelling c) fed = command_ask (spelling c [] fed)
ask (FileName c) fed = command_ask (file_naming c Nonblank [] fed)
ask (Behind c x) fed = command_ask (Acts c (PutBack x))
ask (Skips c aim line) fed = command_ask (skipping c aim 0 fed)
ask (Arguments name long number ts) fed = arguments name long ts fed

-- THE LISTS THAT IT HOLDS, its last first

-- a command's is that with which it asks to do something; one without tokens is none
abbrev pub kept_list : Ask → List (List Token)
kept_list (ActsOn c e ts) = list_of_tokens ts
kept_list (Defines c n ts) = list_of_tokens ts
kept_list a = []

abbrev pub begun_lists : Phrase → List Fed → List (List Token)
begun_lists (Command c) fed = kept_list (command_ask (row c fed))
begun_lists Integer fed = []
begun_lists Factor fed = []
begun_lists (Dimension k) fed = []
begun_lists (Glue mu) fed = []
begun_lists (Keyword w) fed = []
begun_lists (Text name expanded) fed = built (text name expanded fed) ∷ []
begun_lists (Definition name expanded) fed = built (definition name expanded fed) ∷ []

abbrev pub lists : Kind → List Fed → List (List Token)
lists (Reads k) fed = begun_lists k fed
lists (Spelling c) fed = characters fed ∷ []
lists (FileName c) fed = file_characters fed ∷ []
lists (Behind c x) fed = []
lists (Skips c aim line) fed = []
lists (Arguments name long number ts) fed = call_lists (gathered long ts fed)

-- A READING of the machine, with all that it was fed with. All that are open stand in a list, the innermost first.
pub record Reading : Type 0 where
  pub kind : Kind
  pub fed : List Fed

-- the innermost is fed
abbrev pub fed_with : Fed → List Reading → List Reading
fed_with y [] = []
fed_with y (r ∷ rs) = record { kind = r.kind; fed = r.fed ++ y ∷ [] } ∷ rs

-- another begins, alone or with this
abbrev pub opened : Kind → List Reading → List Reading
opened k work = record { kind = k; fed = [] } ∷ work

abbrev pub opened_with : Kind → Fed → List Reading → List Reading
opened_with k y work = record { kind = k; fed = y ∷ [] } ∷ work
