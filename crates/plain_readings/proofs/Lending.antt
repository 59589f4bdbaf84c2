-- A reading begins another with a token only directly behind it.
use Rattle.std.proofs.Common.{Bool, true, false, List, [], ◌∷◌}
use Rattle.tex_defs.specs.declared.Name.{Name}
use Rattle.plain_tokens.specs.Arguments as call
use Rattle.plain_state.specs.Definitions as build
use Rattle.tex_syntax.specs.declared.words.Want.TheVariants.{Nonblank}
use Rattle.rows.specs.declared.words.Phrase.TheVariants.{Command, Integer, Factor, Dimension, Glue, Keyword, Text, Definition}
use Rattle.rows.specs.Readings.{Fed}
use Rattle.plain_readings.specs.Integers.{integer, number_ask}
use Rattle.plain_readings.specs.Lists.{build_ask, text, definition}
use Rattle.plain_readings.specs.Calls.{call_ask, gathered}
use Rattle.plain_readings.specs.Keywords.{keyword_ask}
use Rattle.plain_readings.specs.Readings.{Kind, Reads, Spelling, FileName, Behind, Skips, Arguments, ask}
use Rattle.plain_readings.specs.Laws.{is_met, Lends}
use Rattle.plain_readings.proofs.Lent.{row_lends}
use Rattle.plain_readings.proofs.Steps.{integer_holds, spelling_holds, naming_holds, skipping_holds}
use Rattle.plain_readings.proofs.Keywords.{keyword_holds}
use Rattle.plain_readings.proofs.Factors.{factor_lends}
use Rattle.plain_readings.proofs.Measuring.{dimension_lends, glue_lends}

build_lends : (b : Bool) (a : build.Answer) → Lends b (build_ask a)
build_lends b (build.More want list) = tt
build_lends b (build.Tells report back list) = tt
build_lends b (build.Done list) = tt

call_lends : (b : Bool) (name : Name) (a : call.Answer) → Lends b (call_ask name a)
call_lends b name (call.Ended true args work) = tt
call_lends b name (call.Ended false args work) = tt
call_lends b name a = tt

integer_lends : (b : Bool) (fed : List Fed) → Lends b (number_ask (integer false fed))
integer_lends b fed = integer_holds (λ c a. Lends b (number_ask a)) (λ c want plain. tt) (λ report back. tt) (λ c n back. tt) (λ c. tt) (λ c l. tt) false false fed

pub lends : (k : Kind) (fed : List Fed) → Lends (is_met false fed) (ask k fed)
lends (Reads (Command c)) fed = row_lends c fed
lends (Reads Integer) fed = integer_lends (is_met false fed) fed
lends (Reads Factor) fed = factor_lends (is_met false fed) fed (integer_lends (is_met false fed) fed)
lends (Reads (Dimension k)) fed = dimension_lends k fed
lends (Reads (Glue mu)) fed = glue_lends mu fed
lends (Reads (Keyword w)) fed = keyword_holds (λ b a. Lends (is_met false fed) (keyword_ask a)) (λ b want plain. tt) (λ b found. tt) (λ b t n few. tt) w false fed
lends (Reads (Text name expanded)) fed = build_lends (is_met false fed) (text name expanded fed)
lends (Reads (Definition name expanded)) fed = build_lends (is_met false fed) (definition name expanded fed)
lends (Spelling c) fed = spelling_holds (λ b a. Lends (is_met false fed) a) (λ b want plain. tt) (λ report back. tt) (λ b. tt) (λ b c ts. tt) c [] false fed
lends (FileName c) fed = naming_holds (λ b a. Lends (is_met false fed) a) (λ b want plain. tt) (λ report back. tt) (λ b. tt) (λ b c back ts. tt) c Nonblank tt [] false fed
lends (Behind c x) fed = tt
lends (Skips c aim line) fed = skipping_holds (λ b a. Lends (is_met false fed) a) (λ b want plain. tt) (λ report back. tt) (λ b. tt) (λ b d to e. tt) c aim 0 false fed
lends (Arguments name long number ts) [] = tt
lends (Arguments name long number ts) (y ∷ fed) = call_lends (is_met false (y ∷ fed)) name (gathered long ts (y ∷ fed))
