-- A law of rows is proved once, by induction over the stages: it holds of whatever a row asks for, where it holds of what a stage may ask for.
use Rattle.std.proofs.Common.{◌≡◌, Bool, true, false, List, [], ◌∷◌, ◌++◌, refl, sym, subst, arith}
use Rattle.tex_defs.specs.declared.Token.{Token}
use Rattle.tex_defs.specs.declared.Name.{Name}
use Rattle.tex_defs.specs.declared.Seen.{Seen}
use Rattle.tex_syntax.specs.declared.words.Want.{Want}
use Rattle.rows.specs.declared.words.Datum.{Datum}
use Rattle.rows.specs.declared.words.Phrase.{Phrase}
use Rattle.rows.specs.declared.words.Phrase.TheVariants.{Integer}
use Rattle.rows.specs.declared.internal.Bank.{Bank}
use Rattle.rows.specs.declared.stage.Stage.{Stage}
use Rattle.rows.specs.declared.stage.Stage.TheVariants.{Number, NumberTo, NumberUpTo, Dimension, Glue, Amount, Keyword, Text, MacroText}
use Rattle.rows.specs.declared.stage.Start.{Start}
use Rattle.rows.specs.declared.stage.Start.TheVariants.{Looks, Begins}
use Rattle.rows.specs.declared.stage.Met.{Met}
use Rattle.rows.specs.declared.stage.Met.TheVariants as met
use Rattle.rows.specs.declared.stage.Got.{Got}
use Rattle.rows.specs.declared.stage.Got.TheVariants as got
use Rattle.rows.specs.declared.stage.Next.{Next}
use Rattle.rows.specs.declared.stage.Next.TheVariants as next
use Rattle.rows.specs.declared.stage.Note.{Note}
use Rattle.rows.specs.declared.stage.Note.TheVariants as note
use Rattle.rows.specs.declared.command.Call.{Call}
use Rattle.rows.specs.declared.command.Effect.{Effect}
use Rattle.rows.specs.declared.command.Effect.TheVariants as effect
use Rattle.rows.specs.Readings.{Fed, Tok, Val, Noted}
use Rattle.rows.specs.Commands.{CommandAsk, More, Inner, Acts, ActsOn, Defines, Ends}
use Rattle.rows.specs.Table.{stages_of, value_stage}
use Rattle.rows.specs.Stages.{start, value_phrase, on_token, on_value, numbered_by, name, location}
use Rattle.rows.proofs.Tokens.{IsLow, MetLow, token_low}
use Rattle.rows.specs.Effects.{command_effect, as_definition}
use Rattle.rows.specs.Run.{StageOutcome, Asks, Takes, Passes, Gathers, Makes, Becomes, comes, due, noted, valued, inner, begins, numbers, met_with, looks, again, started, behind, run, no_turn, turned, row}
use Rattle.rows.specs.Laws.{is_noted}

-- the inner readings that stages begin are of a low rank
abbrev pub StartsLow : Start → Type 0
StartsLow (Looks want) = Unit {0}
StartsLow (Begins k) = IsLow k

value_low : (s : Stage) → IsLow (value_phrase s)
value_low Dimension = omega arith
value_low (Glue mu) = omega arith
value_low s = omega arith

start_low : (s : Stage) (c : Call) (ds : List Datum) → StartsLow (start s c ds)
start_low Number c ds = omega arith
start_low (NumberTo greatest complaint) c ds = omega arith
start_low (NumberUpTo greatest) c ds = omega arith
start_low Dimension c ds = value_low Dimension
start_low (Glue mu) c ds = value_low (Glue mu)
start_low Amount c ds = value_low (value_stage (location 0 ds))
start_low (Keyword w) c ds = omega arith
start_low (Text expanded) c ds = omega arith
start_low (MacroText expanded) c ds = omega arith
start_low s c ds = tt

-- a law speaks of an answer, and of whether a note came last
module _
    (P : Bool → CommandAsk → Type 0)
    (more : (b : Bool) (want : Want) → P b (More want))
    (begin : (b : Bool) (k : Phrase) (begins : Bool) → IsLow k → P b (Inner k begins))
    (act : (b : Bool) (c : Call) (e : Effect) → P b (Acts c e))
    (act_on : (b : Bool) (c : Call) (e : Effect) (ts : List Token) → P b (ActsOn c e ts))
    (define : (b : Bool) (c : Call) (n : Name) (ts : List Token) → P b (Defines c n ts))
    (end : (b : Bool) → P b Ends)
    (note_due : (n : Note) → P false (due n))
  where
    -- what comes of a stage that was fed with a list behind which a note came last or not
    abbrev Fits : Bool → StageOutcome → Type 0
    Fits t (Asks a) = P t a
    Fits t (Takes d fed) = (b : Bool) × (t ≡ is_noted b fed)
    Fits t (Passes fed) = (b : Bool) × (t ≡ is_noted b fed)
    Fits t (Gathers ts) = Unit {0}
    Fits t (Makes ts) = Unit {0}
    Fits t (Becomes c fed) = (b : Bool) × (t ≡ is_noted b fed)

    comes_fits : (m : Next) (b : Bool) (fed : List Fed) → Fits (is_noted b fed) (comes m fed)
    comes_fits (next.Takes d) b fed = (b, refl)
    comes_fits next.Stops b fed = end (is_noted b fed)
    comes_fits (next.Unassigned c) b fed = act (is_noted b fed) c effect.Unassigned
    comes_fits (next.Becomes c) b fed = (b, refl)

    noted_fits : (n : Note) (m : Next) (fed : List Fed) → Fits (is_noted false fed) (noted n m fed)
    noted_fits n m [] = note_due n
    noted_fits n m (Noted ∷ fed) = comes_fits m true fed
    noted_fits n m (y ∷ fed) = end _

    valued_fits : (g : Got) (ts : List Token) (fed : List Fed) → Fits (is_noted false fed) (valued g ts fed)
    valued_fits (got.Takes d) ts fed = (false, refl)
    valued_fits (got.Tells report m) ts fed = noted_fits (note.Tells report false) m fed
    valued_fits got.Gathers ts fed = tt
    valued_fits got.Defines ts fed = tt

    inner_fits : (s : Stage) (k : Phrase) → IsLow k → (fed : List Fed) → Fits (is_noted false fed) (inner s k fed)
    inner_fits s k low [] = begin false k true low
    inner_fits s k low (Val v ts ∷ fed) = valued_fits (on_value s v) ts fed
    inner_fits s k low (y ∷ fed) = end _

    begins_fits : (s : Stage) (k : Phrase) → IsLow k → (b : Bool) (fed : List Fed) → Fits (is_noted b fed) (begins s k fed)
    begins_fits s k low b [] = begin b k false low
    begins_fits s k low b (Tok x ∷ fed) = inner_fits s k low fed
    begins_fits s k low b (Val v ts ∷ fed) = valued_fits (on_value s v) ts fed
    begins_fits s k low b (y ∷ fed) = end _

    numbers_fits : (bank : Bank) (fed : List Fed) → Fits (is_noted false fed) (numbers bank fed)
    numbers_fits bank [] = begin false Integer false (omega arith)
    numbers_fits bank (Val v ts ∷ fed) = valued_fits (numbered_by bank v) ts fed
    numbers_fits bank (y ∷ fed) = end _

    met_fits : (s : Stage) (x : Seen) (m : Met) → MetLow m → (skipped : Call → StageOutcome) (retried : Note → StageOutcome) (fed : List Fed) →
        ((c : Call) → Fits (is_noted false fed) (skipped c)) → ((n : Note) → Fits (is_noted false fed) (retried n)) → Fits (is_noted false fed) (met_with s (Tok x) m skipped retried fed)
    met_fits s x (met.Takes d) low skipped retried fed h i = (false, refl)
    met_fits s x met.Passes low skipped retried fed h i = (false, refl)
    met_fits s x met.Leaves low skipped retried fed h i = (false, refl)
    met_fits s x (met.Skips c) low skipped retried fed h i = h c
    met_fits s x (met.Notes n m) low skipped retried fed h i = noted_fits n m fed
    met_fits s x (met.Retries n) low skipped retried fed h i = i n
    met_fits s x (met.Numbers bank) low skipped retried fed h i = numbers_fits bank fed
    met_fits s x (met.Begins k) low skipped retried fed h i = inner_fits s k low fed
    met_fits s x (met.Becomes c) low skipped retried fed h i = (false, refl)

    mutual
      looks_fits : (s : Stage) (c : Call) (want : Want) (b : Bool) (fed : List Fed) → Fits (is_noted b fed) (looks s c want fed)
      looks_fits s c want b [] = more b want
      looks_fits s c want b (Tok x ∷ fed) =
          met_fits s x (on_token s c x) (token_low s c x) (λ d. looks s d want fed) (λ n. again s c want n fed) fed (λ d. looks_fits s d want false fed) (λ n. again_fits s c want n fed)
      looks_fits s c want b (y ∷ fed) = end _

      again_fits : (s : Stage) (c : Call) (want : Want) (n : Note) (fed : List Fed) → Fits (is_noted false fed) (again s c want n fed)
      again_fits s c want n [] = note_due n
      again_fits s c want n (Noted ∷ fed) = looks_fits s c want true fed
      again_fits s c want n (y ∷ fed) = end _

    started_fits : (s : Stage) (c : Call) (begun : Start) → StartsLow begun → (b : Bool) (fed : List Fed) → Fits (is_noted b fed) (started s c begun fed)
    started_fits s c (Looks want) low b fed = looks_fits s c want b fed
    started_fits s c (Begins k) low b fed = begins_fits s k low b fed

    module _ (turn : Call → List Fed → CommandAsk) (turns : (c : Call) (b : Bool) (fed : List Fed) → P (is_noted b fed) (turn c fed)) where
      behind_holds : (c : Call) (ds : List Datum) (onward : List Datum → List Fed → CommandAsk) → ((es : List Datum) (b : Bool) (fed : List Fed) → P (is_noted b fed) (onward es fed)) →
          (t : Bool) (o : StageOutcome) → Fits t o → P t (behind turn c ds onward o)
      behind_holds c ds onward h t (Asks a) fits = fits
      behind_holds c ds onward h t (Takes d fed) (b, e) = subst (λ (t : Bool). P t (onward (ds ++ d ∷ []) fed)) (sym e) (h (ds ++ d ∷ []) b fed)
      behind_holds c ds onward h t (Passes fed) (b, e) = subst (λ (t : Bool). P t (onward ds fed)) (sym e) (h ds b fed)
      behind_holds c ds onward h t (Gathers ts) fits = act_on t c (command_effect c ds) ts
      behind_holds c ds onward h t (Makes ts) fits = define t (as_definition c) (name 0 ds) ts
      behind_holds c ds onward h t (Becomes d fed) (b, e) = subst (λ (t : Bool). P t (turn d fed)) (sym e) (turns d b fed)

      run_holds : (c : Call) (ss : List Stage) (ds : List Datum) (b : Bool) (fed : List Fed) → P (is_noted b fed) (run turn c ss ds fed)
      run_holds c [] ds b fed = act (is_noted b fed) c (command_effect c ds)
      run_holds c (s ∷ ss) ds b fed =
          behind_holds c ds (λ es more. run turn c ss es more) (λ es b more. run_holds c ss es b more) (is_noted b fed) (started s c (start s c ds) fed)
          (started_fits s c (start s c ds) (start_low s c ds) b fed)

    pub row_holds : (c : Call) (fed : List Fed) → P (is_noted false fed) (row c fed)
    row_holds c fed =
        run_holds turned (λ c b fed. run_holds no_turn (λ c b fed. end _) c (stages_of c.head) [] b fed) c (stages_of c.head) [] false fed
