-- A row asks for no token that is copied: by induction over its stages.
use Rattle.std.proofs.Common.{false, List, [], ◌∷◌, ◌++◌}
use Rattle.tex_defs.specs.declared.Token.{Token}
use Rattle.tex_syntax.specs.declared.words.Want.{Want}
use Rattle.rows.specs.declared.words.Datum.{Datum}
use Rattle.rows.specs.declared.words.Phrase.{Phrase}
use Rattle.rows.specs.declared.internal.Bank.{Bank}
use Rattle.rows.specs.declared.stage.Stage.{Stage}
use Rattle.rows.specs.declared.stage.Stage.TheVariants.{Number}
use Rattle.rows.specs.declared.stage.Start.{Start}
use Rattle.rows.specs.declared.stage.Start.TheVariants.{Looks, Begins}
use Rattle.rows.specs.declared.stage.Met.{Met}
use Rattle.rows.specs.declared.stage.Met.TheVariants as met
use Rattle.rows.specs.declared.stage.Got.{Got}
use Rattle.rows.specs.declared.stage.Got.TheVariants as got
use Rattle.rows.specs.declared.stage.Next.{Next}
use Rattle.rows.specs.declared.stage.Next.TheVariants as next
use Rattle.rows.specs.declared.stage.Note.{Note}
use Rattle.rows.specs.declared.stage.Note.TheVariants as note
use Rattle.rows.specs.declared.command.Call.{Call}
use Rattle.rows.specs.Readings.{Fed, Tok, Val, Noted}
use Rattle.rows.specs.Commands.{CommandAsk, command_ask}
use Rattle.rows.specs.Table.{stages_of}
use Rattle.rows.specs.Stages.{start, on_token, on_value, numbered_by}
use Rattle.rows.specs.Run.{StageOutcome, Asks, Takes, Passes, Gathers, Makes, Becomes, comes, due, noted, valued, inner, begins, numbers, met_with, looks, again, started, behind, run, no_turn, turned, row}
use Rattle.plain_readings.proofs.Wants.{IsUncopied, AsksUncopied}

abbrev Fits : StageOutcome → Type 0
Fits (Asks a) = AsksUncopied (command_ask a)
Fits o = Unit {0}

abbrev StartsUncopied : Start → Type 0
StartsUncopied (Looks want) = IsUncopied want
StartsUncopied (Begins k) = Unit {0}

start_fits : (s : Stage) (c : Call) (ds : List Datum) → StartsUncopied (start s c ds)
start_fits Number c ds = tt
start_fits s c ds = tt

due_fits : (n : Note) → AsksUncopied (command_ask (due n))
due_fits (note.Tells report back) = tt
due_fits (note.Inserts t report back) = tt
due_fits (note.Relaxes c n) = tt

comes_fits : (m : Next) (fed : List Fed) → Fits (comes m fed)
comes_fits (next.Takes d) fed = tt
comes_fits next.Stops fed = tt
comes_fits (next.Unassigned c) fed = tt
comes_fits (next.Becomes c) fed = tt

noted_fits : (n : Note) (m : Next) (fed : List Fed) → Fits (noted n m fed)
noted_fits n m [] = due_fits n
noted_fits n m (Noted ∷ fed) = comes_fits m fed
noted_fits n m (y ∷ fed) = tt

valued_fits : (g : Got) (ts : List Token) (fed : List Fed) → Fits (valued g ts fed)
valued_fits (got.Takes d) ts fed = tt
valued_fits (got.Tells report m) ts fed = noted_fits (note.Tells report false) m fed
valued_fits got.Gathers ts fed = tt
valued_fits got.Defines ts fed = tt

inner_fits : (s : Stage) (k : Phrase) (fed : List Fed) → Fits (inner s k fed)
inner_fits s k [] = tt
inner_fits s k (Val v ts ∷ fed) = valued_fits (on_value s v) ts fed
inner_fits s k (y ∷ fed) = tt

begins_fits : (s : Stage) (k : Phrase) (fed : List Fed) → Fits (begins s k fed)
begins_fits s k [] = tt
begins_fits s k (Tok x ∷ fed) = inner_fits s k fed
begins_fits s k (Val v ts ∷ fed) = valued_fits (on_value s v) ts fed
begins_fits s k (y ∷ fed) = tt

numbers_fits : (k : Bank) (fed : List Fed) → Fits (numbers k fed)
numbers_fits k [] = tt
numbers_fits k (Val v ts ∷ fed) = valued_fits (numbered_by k v) ts fed
numbers_fits k (y ∷ fed) = tt

met_fits : (s : Stage) (y : Fed) (m : Met) (skipped : Call → StageOutcome) (retried : Note → StageOutcome) (fed : List Fed) →
    ((c : Call) → Fits (skipped c)) → ((n : Note) → Fits (retried n)) → Fits (met_with s y m skipped retried fed)
met_fits s y (met.Takes d) skipped retried fed h i = tt
met_fits s y met.Passes skipped retried fed h i = tt
met_fits s y met.Leaves skipped retried fed h i = tt
met_fits s y (met.Skips c) skipped retried fed h i = h c
met_fits s y (met.Notes n m) skipped retried fed h i = noted_fits n m fed
met_fits s y (met.Retries n) skipped retried fed h i = i n
met_fits s y (met.Numbers k) skipped retried fed h i = numbers_fits k fed
met_fits s y (met.Begins k) skipped retried fed h i = inner_fits s k fed
met_fits s y (met.Becomes c) skipped retried fed h i = tt

mutual
  looks_fits : (s : Stage) (c : Call) (want : Want) → IsUncopied want → (fed : List Fed) → Fits (looks s c want fed)
  looks_fits s c want plain [] = plain
  looks_fits s c want plain (Tok x ∷ fed) =
      met_fits s (Tok x) (on_token s c x) (λ d. looks s d want fed) (λ n. again s c want n fed) fed (λ d. looks_fits s d want plain fed) (λ n. again_fits s c want plain n fed)
  looks_fits s c want plain (y ∷ fed) = tt

  again_fits : (s : Stage) (c : Call) (want : Want) → IsUncopied want → (n : Note) (fed : List Fed) → Fits (again s c want n fed)
  again_fits s c want plain n [] = due_fits n
  again_fits s c want plain n (Noted ∷ fed) = looks_fits s c want plain fed
  again_fits s c want plain n (y ∷ fed) = tt

started_fits : (s : Stage) (c : Call) (begun : Start) → StartsUncopied begun → (fed : List Fed) → Fits (started s c begun fed)
started_fits s c (Looks want) plain fed = looks_fits s c want plain fed
started_fits s c (Begins k) plain fed = begins_fits s k fed

module _ (turn : Call → List Fed → CommandAsk) (turns : (c : Call) (fed : List Fed) → AsksUncopied (command_ask (turn c fed))) where
  behind_fits : (c : Call) (ds : List Datum) (onward : List Datum → List Fed → CommandAsk) → ((es : List Datum) (fed : List Fed) → AsksUncopied (command_ask (onward es fed))) →
      (o : StageOutcome) → Fits o → AsksUncopied (command_ask (behind turn c ds onward o))
  behind_fits c ds onward h (Asks a) fits = fits
  behind_fits c ds onward h (Takes d fed) fits = h (ds ++ d ∷ []) fed
  behind_fits c ds onward h (Passes fed) fits = h ds fed
  behind_fits c ds onward h (Gathers ts) fits = tt
  behind_fits c ds onward h (Makes ts) fits = tt
  behind_fits c ds onward h (Becomes d fed) fits = turns d fed

  run_fits : (c : Call) (ss : List Stage) (ds : List Datum) (fed : List Fed) → AsksUncopied (command_ask (run turn c ss ds fed))
  run_fits c [] ds fed = tt
  run_fits c (s ∷ ss) ds fed =
      behind_fits c ds (λ es more. run turn c ss es more) (λ es more. run_fits c ss es more) (started s c (start s c ds) fed)
      (started_fits s c (start s c ds) (start_fits s c ds) fed)

pub row_uncopied : (c : Call) (fed : List Fed) → AsksUncopied (command_ask (row c fed))
row_uncopied c fed = run_fits turned (λ c fed. run_fits no_turn (λ c fed. tt) c (stages_of c.head) [] fed) c (stages_of c.head) [] fed
