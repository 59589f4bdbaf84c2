-- A law of rows that speaks of whether a token came last is proved once, by induction over the stages: it holds of whatever a row asks for, where it holds of
-- what a stage may ask for. By it a row begins an inner reading with a token only directly behind one, and gives one back only there.
use Rattle.std.proofs.Common.{◌≡◌, Bool, true, false, List, [], ◌∷◌, ◌++◌, refl, sym, subst}
use Rattle.tex_defs.specs.declared.Token.{Token}
use Rattle.tex_defs.specs.declared.Seen.{Seen}
use Rattle.tex_defs.specs.declared.Name.{Name}
use Rattle.tex_syntax.specs.declared.words.Want.{Want}
use Rattle.tex_syntax.specs.declared.words.Report.{Report}
use Rattle.rows.specs.declared.words.Datum.{Datum}
use Rattle.rows.specs.declared.words.Phrase.{Phrase}
use Rattle.rows.specs.declared.words.Phrase.TheVariants.{Integer}
use Rattle.rows.specs.declared.internal.Bank.{Bank}
use Rattle.rows.specs.declared.stage.Stage.{Stage}
use Rattle.rows.specs.declared.stage.Start.{Start}
use Rattle.rows.specs.declared.stage.Start.TheVariants.{Looks, Begins}
use Rattle.rows.specs.declared.stage.Met.{Met}
use Rattle.rows.specs.declared.stage.Met.TheVariants as met
use Rattle.rows.specs.declared.stage.Got.{Got}
use Rattle.rows.specs.declared.stage.Got.TheVariants as got
use Rattle.rows.specs.declared.stage.Next.{Next}
use Rattle.rows.specs.declared.stage.Next.TheVariants as next
use Rattle.rows.specs.declared.stage.Note.{Note}
use Rattle.rows.specs.declared.stage.Note.TheVariants as note
use Rattle.rows.specs.declared.command.Call.{Call}
use Rattle.rows.specs.declared.command.Effect.{Effect}
use Rattle.rows.specs.declared.command.Effect.TheVariants as effect
use Rattle.rows.specs.Readings.{Fed, Tok, Val, Noted}
use Rattle.rows.specs.Commands.{CommandAsk, More, Inner, Acts, ActsOn, Defines, Ends, Tells, command_ask}
use Rattle.rows.specs.Table.{stages_of}
use Rattle.rows.specs.Effects.{command_effect, as_definition}
use Rattle.rows.specs.Stages.{start, on_token, on_value, numbered_by, name}
use Rattle.rows.specs.Run.{StageOutcome, Asks, Takes, Passes, Gathers, Makes, Becomes, comes, due, noted, valued, inner, begins, numbers, met_with, looks, again, started, behind, run, no_turn, turned, row}
use Rattle.plain_readings.specs.Laws.{is_met, Lends}

-- a law speaks of an answer, and of whether a token came last
module _
    (P : Bool → CommandAsk → Type 0)
    (more : (b : Bool) (want : Want) → P b (More want))
    (begin : (b : Bool) (k : Phrase) → P b (Inner k false))
    (begin_with : (k : Phrase) → P true (Inner k true))
    (act : (b : Bool) (c : Call) (e : Effect) → P b (Acts c e))
    (act_on : (b : Bool) (c : Call) (ds : List Datum) (ts : List Token) → P b (ActsOn c (command_effect c ds) ts))
    (define : (b : Bool) (c : Call) (n : Name) (ts : List Token) → P b (Defines c n ts))
    (end : (b : Bool) → P b Ends)
    (note_due : (n : Note) → P true (due n))
    (tell : (b : Bool) (report : Report) → P b (Tells report false))
  where
    -- what comes of a stage that was fed with a list whose last item is a token or not
    abbrev Fits : Bool → StageOutcome → Type 0
    Fits t (Asks a) = P t a
    Fits t (Takes d fed) = (b : Bool) × (t ≡ is_met b fed)
    Fits t (Passes fed) = (b : Bool) × (t ≡ is_met b fed)
    Fits t (Gathers ts) = Unit {0}
    Fits t (Makes ts) = Unit {0}
    Fits t (Becomes c fed) = (b : Bool) × (t ≡ is_met b fed)

    comes_fits : (m : Next) (b : Bool) (fed : List Fed) → Fits (is_met b fed) (comes m fed)
    comes_fits (next.Takes d) b fed = (b, refl)
    comes_fits next.Stops b fed = end (is_met b fed)
    comes_fits (next.Unassigned c) b fed = act (is_met b fed) c effect.Unassigned
    comes_fits (next.Becomes c) b fed = (b, refl)

    noted_fits : (n : Note) (m : Next) (b : Bool) → P b (due n) → (fed : List Fed) → Fits (is_met b fed) (noted n m fed)
    noted_fits n m b h [] = h
    noted_fits n m b h (Noted ∷ fed) = comes_fits m false fed
    noted_fits n m b h (y ∷ fed) = end _

    valued_fits : (g : Got) (ts : List Token) (fed : List Fed) → Fits (is_met false fed) (valued g ts fed)
    valued_fits (got.Takes d) ts fed = (false, refl)
    valued_fits (got.Tells report m) ts fed = noted_fits (note.Tells report false) m false (tell false report) fed
    valued_fits got.Gathers ts fed = tt
    valued_fits got.Defines ts fed = tt

    inner_fits : (s : Stage) (k : Phrase) (fed : List Fed) → Fits (is_met true fed) (inner s k fed)
    inner_fits s k [] = begin_with k
    inner_fits s k (Val v ts ∷ fed) = valued_fits (on_value s v) ts fed
    inner_fits s k (y ∷ fed) = end _

    begins_fits : (s : Stage) (k : Phrase) (b : Bool) (fed : List Fed) → Fits (is_met b fed) (begins s k fed)
    begins_fits s k b [] = begin b k
    begins_fits s k b (Tok x ∷ fed) = inner_fits s k fed
    begins_fits s k b (Val v ts ∷ fed) = valued_fits (on_value s v) ts fed
    begins_fits s k b (y ∷ fed) = end _

    numbers_fits : (k : Bank) (b : Bool) (fed : List Fed) → Fits (is_met b fed) (numbers k fed)
    numbers_fits k b [] = begin b Integer
    numbers_fits k b (Val v ts ∷ fed) = valued_fits (numbered_by k v) ts fed
    numbers_fits k b (y ∷ fed) = end _

    met_fits : (s : Stage) (x : Seen) (m : Met) (skipped : Call → StageOutcome) (retried : Note → StageOutcome) (fed : List Fed) →
        ((c : Call) → Fits (is_met true fed) (skipped c)) → ((n : Note) → Fits (is_met true fed) (retried n)) → Fits (is_met true fed) (met_with s (Tok x) m skipped retried fed)
    met_fits s x (met.Takes d) skipped retried fed h i = (true, refl)
    met_fits s x met.Passes skipped retried fed h i = (true, refl)
    met_fits s x met.Leaves skipped retried fed h i = (false, refl)
    met_fits s x (met.Skips c) skipped retried fed h i = h c
    met_fits s x (met.Notes n m) skipped retried fed h i = noted_fits n m true (note_due n) fed
    met_fits s x (met.Retries n) skipped retried fed h i = i n
    met_fits s x (met.Numbers k) skipped retried fed h i = numbers_fits k true fed
    met_fits s x (met.Begins k) skipped retried fed h i = inner_fits s k fed
    met_fits s x (met.Becomes c) skipped retried fed h i = (true, refl)

    mutual
      looks_fits : (s : Stage) (c : Call) (want : Want) (b : Bool) (fed : List Fed) → Fits (is_met b fed) (looks s c want fed)
      looks_fits s c want b [] = more b want
      looks_fits s c want b (Tok x ∷ fed) =
          met_fits s x (on_token s c x) (λ d. looks s d want fed) (λ n. again s c want n fed) fed (λ d. looks_fits s d want true fed) (λ n. again_fits s c want n fed)
      looks_fits s c want b (y ∷ fed) = end _

      again_fits : (s : Stage) (c : Call) (want : Want) (n : Note) (fed : List Fed) → Fits (is_met true fed) (again s c want n fed)
      again_fits s c want n [] = note_due n
      again_fits s c want n (Noted ∷ fed) = looks_fits s c want false fed
      again_fits s c want n (y ∷ fed) = end _

    started_fits : (s : Stage) (c : Call) (begun : Start) (b : Bool) (fed : List Fed) → Fits (is_met b fed) (started s c begun fed)
    started_fits s c (Looks want) b fed = looks_fits s c want b fed
    started_fits s c (Begins k) b fed = begins_fits s k b fed

    module _ (turn : Call → List Fed → CommandAsk) (turns : (c : Call) (b : Bool) (fed : List Fed) → P (is_met b fed) (turn c fed)) where
      behind_holds : (c : Call) (ds : List Datum) (onward : List Datum → List Fed → CommandAsk) → ((es : List Datum) (b : Bool) (fed : List Fed) → P (is_met b fed) (onward es fed)) →
          (t : Bool) (o : StageOutcome) → Fits t o → P t (behind turn c ds onward o)
      behind_holds c ds onward h t (Asks a) fits = fits
      behind_holds c ds onward h t (Takes d fed) (b, e) = subst (λ (t : Bool). P t (onward (ds ++ d ∷ []) fed)) (sym e) (h (ds ++ d ∷ []) b fed)
      behind_holds c ds onward h t (Passes fed) (b, e) = subst (λ (t : Bool). P t (onward ds fed)) (sym e) (h ds b fed)
      behind_holds c ds onward h t (Gathers ts) fits = act_on t c ds ts
      behind_holds c ds onward h t (Makes ts) fits = define t (as_definition c) (name 0 ds) ts
      behind_holds c ds onward h t (Becomes d fed) (b, e) = subst (λ (t : Bool). P t (turn d fed)) (sym e) (turns d b fed)

      run_holds : (c : Call) (ss : List Stage) (ds : List Datum) (b : Bool) (fed : List Fed) → P (is_met b fed) (run turn c ss ds fed)
      run_holds c [] ds b fed = act (is_met b fed) c (command_effect c ds)
      run_holds c (s ∷ ss) ds b fed =
          behind_holds c ds (λ es more. run turn c ss es more) (λ es b more. run_holds c ss es b more) (is_met b fed) (started s c (start s c ds) fed)
          (started_fits s c (start s c ds) b fed)

    pub met_holds : (c : Call) (fed : List Fed) → P (is_met false fed) (row c fed)
    met_holds c fed = run_holds turned (λ c b fed. run_holds no_turn (λ c b fed. end _) c (stages_of c.head) [] b fed) c (stages_of c.head) [] false fed

due_lends : (n : Note) → Lends true (command_ask (due n))
due_lends (note.Tells report back) = tt
due_lends (note.Inserts t report back) = tt
due_lends (note.Relaxes c n) = tt

pub row_lends : (c : Call) (fed : List Fed) → Lends (is_met false fed) (command_ask (row c fed))
row_lends c fed =
    met_holds (λ b a. Lends b (command_ask a)) (λ b want. tt) (λ b k. tt) (λ k. refl) (λ b c e. tt) (λ b c ds ts. tt) (λ b c n ts. tt) (λ b. tt) due_lends (λ b report. tt) c fed
