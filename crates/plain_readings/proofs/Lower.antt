-- Each reading begins one of a lower rank, but an integer may begin an integer; so no reading begins a command.
use Rattle.std.proofs.Common.{◌≡◌, ◌<◌, ◌≤◌, ℕ, Bool, true, false, List, [], ◌∷◌, refl, sym, subst, arith}
use Rattle.tex_defs.specs.declared.Name.{Name}
use Rattle.tex_defs.specs.declared.Token.{Token}
use Rattle.plain_tokens.specs.Arguments as call
use Rattle.plain_state.specs.Definitions as build
use Rattle.tex_syntax.specs.declared.words.Want.TheVariants.{Nonblank}
use Rattle.rows.specs.declared.words.Phrase.{Phrase}
use Rattle.rows.specs.declared.words.Phrase.TheVariants.{Command, Integer, Factor, Dimension, Glue, Keyword, Text, Definition}
use Rattle.rows.specs.declared.words.DimenKind.{DimenKind}
use Rattle.rows.specs.declared.stage.Note.{Note}
use Rattle.rows.specs.declared.stage.Note.TheVariants as note
use Rattle.rows.specs.declared.command.Call.{Call}
use Rattle.rows.specs.Readings.{Fed, Ask, Inner}
use Rattle.rows.specs.Commands.{command_ask}
use Rattle.rows.specs.Run.{due}
use Rattle.rows.proofs.Tokens.{IsLow}
use Rattle.rows.proofs.Runs.{row_holds}
use Rattle.plain_readings.specs.Integers.{number_ask}
use Rattle.plain_readings.specs.Lists.{build_ask, text, definition}
use Rattle.plain_readings.specs.Calls.{call_ask, gathered}
use Rattle.plain_readings.specs.Keywords.{keyword_ask}
use Rattle.plain_readings.specs.Readings.{Kind, Reads, Spelling, FileName, Behind, Skips, Arguments, ask}
use Rattle.plain_readings.specs.Laws.{rank, BeginsBy, GivesValue}
use Rattle.plain_readings.proofs.Steps.{integer_holds, spelling_holds, naming_holds, skipping_holds}
use Rattle.plain_readings.proofs.Keywords.{keyword_holds}
use Rattle.plain_readings.proofs.Values.{values}

due_low : (c : Call) (n : Note) → BeginsBy (Reads (Command c)) (command_ask (due n))
due_low c (note.Tells report back) = tt
due_low c (note.Inserts t report back) = tt
due_low c (note.Relaxes d n) = tt

low_rank : (j : Phrase) → IsLow j → rank (Reads j) < 4
low_rank (Command c) low = absurd (omega (arith, low))
low_rank (Dimension k) low = omega arith
low_rank (Glue mu) low = omega arith
low_rank Factor low = omega arith
low_rank j low = omega arith

text_lower : (name : Name) (expanded : Bool) (a : build.Answer) → BeginsBy (Reads (Text name expanded)) (build_ask a)
text_lower name expanded (build.More want list) = tt
text_lower name expanded (build.Tells report back list) = tt
text_lower name expanded (build.Done list) = tt

definition_lower : (name : Name) (expanded : Bool) (a : build.Answer) → BeginsBy (Reads (Definition name expanded)) (build_ask a)
definition_lower name expanded (build.More want list) = tt
definition_lower name expanded (build.Tells report back list) = tt
definition_lower name expanded (build.Done list) = tt

call_lower : (name : Name) (long : Bool) (number : ℕ) (ts : List Token) (a : call.Answer) → BeginsBy (Arguments name long number ts) (call_ask name a)
call_lower name long number ts (call.Ended true args work) = tt
call_lower name long number ts (call.Ended false args work) = tt
call_lower name long number ts a = tt

-- a factor begins integers, by its values, and so it is with dimensions and glue
factor_lower : (a : Ask) → GivesValue Factor [] a → BeginsBy (Reads Factor) a
factor_lower (Inner j begins) h = subst (λ (i : Phrase). rank (Reads i) < 1) (sym h.0) (omega arith)
factor_lower a h = tt

dimension_lower : (k : DimenKind) (a : Ask) → GivesValue (Dimension k) [] a → BeginsBy (Reads (Dimension k)) a
dimension_lower k (Inner j begins) h = h
dimension_lower k a h = tt

glue_lower : (mu : Bool) (a : Ask) → GivesValue (Glue mu) [] a → BeginsBy (Reads (Glue mu)) a
glue_lower mu (Inner j begins) h = h
glue_lower mu a h = tt

pub lower : (k : Kind) (fed : List Fed) → BeginsBy k (ask k fed)
lower (Reads (Command d)) fed =
    row_holds (λ b a. BeginsBy (Reads (Command d)) (command_ask a)) (λ b want. tt) (λ b j begins low. low_rank j low) (λ b c e. tt) (λ b c e ts. tt) (λ b c n ts. tt) (λ b. tt) (λ n. due_low d n) d fed
lower (Reads Integer) fed = integer_holds (λ b a. BeginsBy (Reads Integer) (number_ask a)) (λ b want plain. tt) (λ report back. tt) (λ b n back. tt) (λ b. refl) (λ b l. tt) false false fed
lower (Reads Factor) fed = factor_lower (ask (Reads Factor) fed) (values (Reads Factor) fed)
lower (Reads (Dimension k)) fed = dimension_lower k (ask (Reads (Dimension k)) fed) (values (Reads (Dimension k)) fed)
lower (Reads (Glue mu)) fed = glue_lower mu (ask (Reads (Glue mu)) fed) (values (Reads (Glue mu)) fed)
lower (Reads (Keyword w)) fed = keyword_holds (λ b a. BeginsBy (Reads (Keyword w)) (keyword_ask a)) (λ b want plain. tt) (λ b found. tt) (λ b t n few. tt) w false fed
lower (Reads (Text name expanded)) fed = text_lower name expanded (text name expanded fed)
lower (Reads (Definition name expanded)) fed = definition_lower name expanded (definition name expanded fed)
lower (Spelling c) fed = spelling_holds (λ b a. BeginsBy (Spelling c) a) (λ b want plain. tt) (λ report back. tt) (λ b. tt) (λ b d ts. tt) c [] false fed
lower (FileName c) fed = naming_holds (λ b a. BeginsBy (FileName c) a) (λ b want plain. tt) (λ report back. tt) (λ b. tt) (λ b d back ts. tt) c Nonblank tt [] false fed
lower (Behind c x) fed = tt
lower (Skips c aim line) fed = skipping_holds (λ b a. BeginsBy (Skips c aim line) a) (λ b want plain. tt) (λ report back. tt) (λ b. tt) (λ b d to e. tt) c aim 0 false fed
lower (Arguments name long number ts) [] = tt
lower (Arguments name long number ts) (y ∷ fed) = call_lower name long number ts (gathered long ts (y ∷ fed))

-- WHAT IS BEGUN is of a rank below 4, so it is no command

reads_rank : (k : Phrase) → rank (Reads k) ≤ 4
reads_rank (Command c) = omega arith
reads_rank (Dimension k) = omega arith
reads_rank (Glue mu) = omega arith
reads_rank Factor = omega arith
reads_rank k = omega arith

low : (k : Kind) (j : Phrase) (begins : Bool) → BeginsBy k (Inner j begins) → rank (Reads j) < 4
low (Reads Integer) j begins h = subst (λ (i : Phrase). rank (Reads i) < 4) (sym h) (omega arith)
low (Reads k) j begins h = omega (arith, h, reads_rank k)
low k j begins h = h

pub begun_low : (k : Kind) (fed : List Fed) (j : Phrase) (begins : Bool) → ask k fed ≡ Inner j begins → rank (Reads j) < 4
begun_low k fed j begins e = low k j begins (subst (λ (a : Ask). BeginsBy k a) e (lower k fed))

pub no_command : (k : Kind) (fed : List Fed) (c : Call) (begins : Bool) → ask k fed ≡ Inner (Command c) begins → ⊥
no_command k fed c begins e = omega (arith, begun_low k fed (Command c) begins e)
