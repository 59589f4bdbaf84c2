-- What a command does suits the locations that it uses, in whatever reading it is done.
use Rattle.std.proofs.Common.{ℕ, Bool, true, false, List, [], ◌∷◌, ◌++◌}
use Rattle.std.specs.Prelude.{Option, None, Some, if◌then◌else◌}
use Rattle.tex_defs.specs.declared.Token.{Token}
use Rattle.tex_defs.specs.declared.Name.{Name}
use Rattle.tex_syntax.specs.declared.words.Want.{Want}
use Rattle.tex_syntax.specs.declared.words.Want.TheVariants.{Expanded, Nonblank}
use Rattle.plain_tokens.specs.Arguments as call
use Rattle.conditionals.specs.declared.choice.Aim.{Aim}
use Rattle.conditionals.specs.declared.skip.Ender.{Ender}
use Rattle.conditionals.specs.Skipping.{ends_at, open_behind, part}
use Rattle.rows.specs.declared.words.Phrase.{Phrase}
use Rattle.rows.specs.declared.words.Phrase.TheVariants.{Command, Integer, Factor, Dimension, Glue, Keyword, Text, Definition}
use Rattle.rows.specs.declared.command.Call.{Call}
use Rattle.rows.specs.Commands.{CommandAsk, command_ask}
use Rattle.rows.specs.Readings.{Fed, Tok, Ask, Acts, ActsOn}
use Rattle.rows.specs.Suiting.{AsksSuited}
use Rattle.rows.proofs.Suiting.{row_sets}
use Rattle.plain_readings.specs.FileNames.{character_meant, is_blank, opens, named_on, file_naming}
use Rattle.plain_readings.specs.Readings.{Kind, Reads, Spelling, FileName, Behind, Skips, Arguments, ask, lists}
use Rattle.plain_readings.specs.Calls.{call_ask, gathered}
use Rattle.plain_readings.specs.Skips.{ended, skipping}
use Rattle.plain_readings.specs.Laws.{GivesValue}
use Rattle.plain_readings.proofs.Steps.{spelling_holds}
use Rattle.plain_readings.proofs.Values.{values}

-- what has a value asks to do nothing
valued_sets : (k : Phrase) (held : List (List Token)) (a : Ask) → GivesValue k held a → AsksSuited a
valued_sets k held (Acts c e) h = absurd h
valued_sets k held (ActsOn c e ts) h = absurd h
valued_sets k held a h = tt

call_sets : (name : Name) (a : call.Answer) → AsksSuited (call_ask name a)
call_sets name (call.More args work) = tt
call_sets name (call.ExtraBraceFound args work) = tt
call_sets name (call.Called args) = tt
call_sets name call.Mismatch = tt
call_sets name (call.Ended false args work) = tt
call_sets name (call.Ended true args work) = tt

named_sets : (c : Call) (ts : List Token) (meant : Option Token) (longer : List Token → CommandAsk) → ((us : List Token) → AsksSuited (command_ask (longer us))) → AsksSuited (command_ask (named_on c ts meant longer))
named_sets c ts None longer h = tt
named_sets c ts (Some t) longer h = by (is_blank t) where
  by : (b : Bool) → AsksSuited (command_ask (if b then opens c false ts else longer (ts ++ t ∷ [])))
  by true = tt
  by false = h (ts ++ t ∷ [])

file_sets : (c : Call) (want : Want) (ts : List Token) (fed : List Fed) → AsksSuited (command_ask (file_naming c want ts fed))
file_sets c want ts [] = tt
file_sets c want ts (Tok x ∷ fed) = named_sets c ts (character_meant x.meaning) (λ us. file_naming c Expanded us fed) (λ us. file_sets c Expanded us fed)
file_sets c want ts (y ∷ fed) = tt

ended_sets : (c : Call) (aim : Aim) (o : Option Ender) (onward : CommandAsk) → AsksSuited (command_ask onward) → AsksSuited (command_ask (ended c aim o onward))
ended_sets c aim None onward h = h
ended_sets c aim (Some e) onward h = tt

skipping_sets : (c : Call) (aim : Aim) (depth : ℕ) (fed : List Fed) → AsksSuited (command_ask (skipping c aim depth fed))
skipping_sets c aim depth [] = tt
skipping_sets c aim depth (Tok x ∷ fed) = ended_sets c aim (ends_at depth (part x.meaning)) (skipping c aim (open_behind depth (part x.meaning)) fed) (skipping_sets c aim (open_behind depth (part x.meaning)) fed)
skipping_sets c aim depth (y ∷ fed) = tt

pub sets_small : (k : Kind) (fed : List Fed) → AsksSuited (ask k fed)
sets_small (Reads (Command c)) fed = row_sets c fed
sets_small (Reads Integer) fed = valued_sets Integer [] (ask (Reads Integer) fed) (values (Reads Integer) fed)
sets_small (Reads Factor) fed = valued_sets Factor [] (ask (Reads Factor) fed) (values (Reads Factor) fed)
sets_small (Reads (Dimension k)) fed = valued_sets (Dimension k) [] (ask (Reads (Dimension k)) fed) (values (Reads (Dimension k)) fed)
sets_small (Reads (Glue mu)) fed = valued_sets (Glue mu) [] (ask (Reads (Glue mu)) fed) (values (Reads (Glue mu)) fed)
sets_small (Reads (Keyword w)) fed = valued_sets (Keyword w) [] (ask (Reads (Keyword w)) fed) (values (Reads (Keyword w)) fed)
sets_small (Reads (Text name expanded)) fed = valued_sets (Text name expanded) (lists (Reads (Text name expanded)) fed) (ask (Reads (Text name expanded)) fed) (values (Reads (Text name expanded)) fed)
sets_small (Reads (Definition name expanded)) fed =
    valued_sets (Definition name expanded) (lists (Reads (Definition name expanded)) fed) (ask (Reads (Definition name expanded)) fed) (values (Reads (Definition name expanded)) fed)
sets_small (Spelling c) fed = spelling_holds (λ b a. AsksSuited a) (λ b want plain. tt) (λ report back. tt) (λ b. tt) (λ b c ts. tt) c [] false fed
sets_small (FileName c) fed = file_sets c Nonblank [] fed
sets_small (Behind c x) fed = tt
sets_small (Skips c aim line) fed = skipping_sets c aim 0 fed
sets_small (Arguments name long number ts) [] = tt
sets_small (Arguments name long number ts) (y ∷ fed) = call_sets name (gathered long ts (y ∷ fed))
