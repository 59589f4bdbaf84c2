-- Integers end with numbers, dimensions and glue with theirs, keywords with whether they were there, texts and definitions with the lists that they hold, and nothing else with a value.
use Rattle.std.proofs.Common.{Bool, true, false, List, [], ◌∷◌, refl}
use Rattle.tex_defs.specs.declared.Name.{Name}
use Rattle.plain_tokens.specs.Arguments as call
use Rattle.plain_state.specs.Definitions as build
use Rattle.tex_syntax.specs.declared.words.Want.TheVariants.{Nonblank}
use Rattle.rows.specs.declared.words.Phrase.TheVariants.{Command, Integer, Factor, Dimension, Glue, Keyword, Text, Definition}
use Rattle.rows.specs.Readings.{Fed}
use Rattle.rows.specs.Commands.{CommandAsk, More, Inner, Acts, ActsOn, Defines, Ends, Tells, Inserts, Relaxes, command_ask}
use Rattle.rows.specs.Run.{row}
use Rattle.plain_readings.specs.Integers.{integer, number_ask}
use Rattle.plain_readings.specs.Dimens as dimens
use Rattle.plain_readings.specs.Glues as glues
use Rattle.plain_readings.specs.Measures.{dimen_fed, glue_fed}
use Rattle.plain_readings.specs.Lists.{build_ask, built, text, definition, build_fed, manner}
use Rattle.plain_readings.specs.Calls.{call_ask, gathered}
use Rattle.plain_readings.specs.Keywords.{keyword_ask}
use Rattle.plain_readings.specs.Spelling.{spelling}
use Rattle.plain_readings.specs.FileNames.{file_naming}
use Rattle.plain_readings.specs.Skips.{skipping}
use Rattle.plain_readings.specs.Readings.{Kind, Reads, Spelling, FileName, Behind, Skips, Arguments, ask, lists}
use Rattle.plain_readings.specs.Laws.{GivesValue, IsValueless, EndsAs}
use Rattle.plain_readings.proofs.Full.{EndsFull, parameters_full}
use Rattle.plain_readings.proofs.Steps.{integer_holds}
use Rattle.plain_readings.proofs.Keywords.{keyword_holds}
use Rattle.plain_readings.proofs.Factors.{factor_value}
use Rattle.plain_readings.proofs.Measuring.{dimension_value, glue_value_given}

text_value : (name : Name) (expanded : Bool) (a : build.Answer) → EndsAs (Reads (Text name expanded)) (built a ∷ []) (build_ask a)
text_value name expanded (build.More want list) = tt
text_value name expanded (build.Tells report back list) = tt
text_value name expanded (build.Done list) = tt

definition_value : (name : Name) (expanded : Bool) (a : build.Answer) → EndsFull a → EndsAs (Reads (Definition name expanded)) (built a ∷ []) (build_ask a)
definition_value name expanded (build.More want list) full = tt
definition_value name expanded (build.Tells report back list) full = tt
definition_value name expanded (build.Done list) full = full

-- what no command asks for, by the type of what it asks for
valueless : (a : CommandAsk) → IsValueless (command_ask a)
valueless (More want) = tt
valueless (Inner k begins) = tt
valueless (Acts c e) = tt
valueless (ActsOn c e ts) = tt
valueless (Defines c n ts) = tt
valueless Ends = tt
valueless (Tells report back) = tt
valueless (Inserts t report back) = tt
valueless (Relaxes c n) = tt

call_valueless : (name : Name) (a : call.Answer) → IsValueless (call_ask name a)
call_valueless name (call.Ended true args work) = tt
call_valueless name (call.Ended false args work) = tt
call_valueless name a = tt

integer_value : (fed : List Fed) → GivesValue Integer [] (number_ask (integer false fed))
integer_value fed = integer_holds (λ b a. GivesValue Integer [] (number_ask a)) (λ b want plain. tt) (λ report back. tt) (λ b n back. tt) (λ b. (refl, refl)) (λ b l. tt) false false fed

pub values : (k : Kind) (fed : List Fed) → EndsAs k (lists k fed) (ask k fed)
values (Reads (Command c)) fed = valueless (row c fed)
values (Reads Integer) fed = integer_value fed
values (Reads Factor) fed = factor_value fed (integer_value fed)
values (Reads (Dimension k)) fed = dimension_value k (dimens.dimension k false (dimen_fed fed))
values (Reads (Glue mu)) fed = glue_value_given mu (glues.glue mu false (glue_fed fed))
values (Reads (Keyword w)) fed = keyword_holds (λ b a. GivesValue (Keyword w) [] (keyword_ask a)) (λ b want plain. tt) (λ b found. tt) (λ b t n few. few) w false fed
values (Reads (Text name expanded)) fed = text_value name expanded (text name expanded fed)
values (Reads (Definition name expanded)) fed =
    definition_value name expanded (definition name expanded fed) (parameters_full (manner name expanded) 0 [] (build_fed fed))
values (Spelling c) fed = valueless (spelling c [] fed)
values (FileName c) fed = valueless (file_naming c Nonblank [] fed)
values (Behind c x) fed = tt
values (Skips c aim line) fed = valueless (skipping c aim 0 fed)
values (Arguments name long number ts) [] = tt
values (Arguments name long number ts) (y ∷ fed) = call_valueless name (gathered long ts (y ∷ fed))
