-- A row that is over stays over, whatever it is fed with: by induction over the stages.
use Rattle.std.proofs.Common.{◌≡◌, Bool, true, false, List, [], ◌∷◌, ◌++◌, refl, sym, subst, ap, ◌∙◌}
use Rattle.tex_defs.specs.declared.Token.{Token}
use Rattle.tex_defs.specs.declared.Seen.{Seen}
use Rattle.tex_syntax.specs.declared.words.Want.{Want}
use Rattle.rows.specs.declared.words.Datum.{Datum}
use Rattle.rows.specs.declared.words.Phrase.{Phrase}
use Rattle.rows.specs.declared.internal.Bank.{Bank}
use Rattle.rows.specs.declared.stage.Stage.{Stage}
use Rattle.rows.specs.declared.stage.Start.{Start}
use Rattle.rows.specs.declared.stage.Start.TheVariants.{Looks, Begins}
use Rattle.rows.specs.declared.stage.Met.{Met}
use Rattle.rows.specs.declared.stage.Met.TheVariants as met
use Rattle.rows.specs.declared.stage.Got.{Got}
use Rattle.rows.specs.declared.stage.Got.TheVariants as got
use Rattle.rows.specs.declared.stage.Next.{Next}
use Rattle.rows.specs.declared.stage.Next.TheVariants as next
use Rattle.rows.specs.declared.stage.Note.{Note}
use Rattle.rows.specs.declared.stage.Note.TheVariants as note
use Rattle.rows.specs.declared.command.Call.{Call}
use Rattle.rows.specs.Readings.{Fed, Tok, Val, Noted}
use Rattle.rows.specs.Commands.{CommandAsk, Acts, ActsOn, Defines, Ends}
use Rattle.rows.specs.Table.{stages_of, stages_left}
use Rattle.rows.specs.Stages.{start, on_token, on_value, numbered_by}
use Rattle.rows.specs.Run.{StageOutcome, Asks, Takes, Passes, Gathers, Makes, Becomes, comes, due, noted, valued, inner, begins, numbers, met_with, looks, again, started, behind, run, no_turn, turned}
use Rattle.row_frames.specs.declared.frame.RowFrame.{RowFrame}
use Rattle.row_frames.specs.declared.turn.Kept.{Kept}
use Rattle.row_frames.specs.declared.turn.Kept.TheVariants as kept
use Rattle.row_frames.specs.Data.{values}
use Rattle.row_frames.specs.Resumes.{within, resume_row, turn_of, resume}

abbrev pub IsOver : CommandAsk → Type 0
IsOver (Acts c e) = Unit {0}
IsOver (ActsOn c e ts) = Unit {0}
IsOver (Defines c n ts) = Unit {0}
IsOver Ends = Unit {0}
IsOver a = ⊥

due_goes_on : (n : Note) → IsOver (due n) → ⊥
due_goes_on (note.Tells report back) over = over
due_goes_on (note.Inserts t report back) over = over
due_goes_on (note.Relaxes c n) over = over

module _ (more : List Fed) where
  -- what a stage comes to, and what it comes to where more comes
  abbrev Same : StageOutcome → StageOutcome → Type 0
  Same (Asks a) o = IsOver a → o ≡ Asks a
  Same (Takes d fed) o = o ≡ Takes d (fed ++ more)
  Same (Passes fed) o = o ≡ Passes (fed ++ more)
  Same (Gathers ts) o = o ≡ Gathers ts
  Same (Makes ts) o = o ≡ Makes ts
  Same (Becomes c fed) o = o ≡ Becomes c (fed ++ more)

  comes_same : (m : Next) (fed : List Fed) → Same (comes m fed) (comes m (fed ++ more))
  comes_same (next.Takes d) fed = refl
  comes_same next.Stops fed = λ over. refl
  comes_same (next.Unassigned c) fed = λ over. refl
  comes_same (next.Becomes c) fed = refl

  noted_same : (n : Note) (m : Next) (fed : List Fed) → Same (noted n m fed) (noted n m (fed ++ more))
  noted_same n m [] = λ over. absurd (due_goes_on n over)
  noted_same n m (Noted ∷ fed) = comes_same m fed
  noted_same n m (y ∷ fed) = λ over. refl

  valued_same : (g : Got) (ts : List Token) (fed : List Fed) → Same (valued g ts fed) (valued g ts (fed ++ more))
  valued_same (got.Takes d) ts fed = refl
  valued_same (got.Tells report m) ts fed = noted_same (note.Tells report false) m fed
  valued_same got.Gathers ts fed = refl
  valued_same got.Defines ts fed = refl

  inner_same : (s : Stage) (k : Phrase) (fed : List Fed) → Same (inner s k fed) (inner s k (fed ++ more))
  inner_same s k [] = λ over. absurd over
  inner_same s k (Val v ts ∷ fed) = valued_same (on_value s v) ts fed
  inner_same s k (y ∷ fed) = λ over. refl

  begins_same : (s : Stage) (k : Phrase) (fed : List Fed) → Same (begins s k fed) (begins s k (fed ++ more))
  begins_same s k [] = λ over. absurd over
  begins_same s k (Tok x ∷ fed) = inner_same s k fed
  begins_same s k (Val v ts ∷ fed) = valued_same (on_value s v) ts fed
  begins_same s k (y ∷ fed) = λ over. refl

  numbers_same : (b : Bank) (fed : List Fed) → Same (numbers b fed) (numbers b (fed ++ more))
  numbers_same b [] = λ over. absurd over
  numbers_same b (Val v ts ∷ fed) = valued_same (numbered_by b v) ts fed
  numbers_same b (y ∷ fed) = λ over. refl

  met_same : (s : Stage) (x : Seen) (m : Met) (skipped skipped' : Call → StageOutcome) (retried retried' : Note → StageOutcome) (fed : List Fed) →
      ((c : Call) → Same (skipped c) (skipped' c)) → ((n : Note) → Same (retried n) (retried' n)) →
      Same (met_with s (Tok x) m skipped retried fed) (met_with s (Tok x) m skipped' retried' (fed ++ more))
  met_same s x (met.Takes d) skipped skipped' retried retried' fed h i = refl
  met_same s x met.Passes skipped skipped' retried retried' fed h i = refl
  met_same s x met.Leaves skipped skipped' retried retried' fed h i = refl
  met_same s x (met.Skips c) skipped skipped' retried retried' fed h i = h c
  met_same s x (met.Notes n m) skipped skipped' retried retried' fed h i = noted_same n m fed
  met_same s x (met.Retries n) skipped skipped' retried retried' fed h i = i n
  met_same s x (met.Numbers b) skipped skipped' retried retried' fed h i = numbers_same b fed
  met_same s x (met.Begins k) skipped skipped' retried retried' fed h i = inner_same s k fed
  met_same s x (met.Becomes c) skipped skipped' retried retried' fed h i = refl

  mutual
    looks_same : (s : Stage) (c : Call) (want : Want) (fed : List Fed) → Same (looks s c want fed) (looks s c want (fed ++ more))
    looks_same s c want [] = λ over. absurd over
    looks_same s c want (Tok x ∷ fed) =
        met_same s x (on_token s c x) (λ d. looks s d want fed) (λ d. looks s d want (fed ++ more)) (λ n. again s c want n fed) (λ n. again s c want n (fed ++ more)) fed
        (λ d. looks_same s d want fed) (λ n. again_same s c want n fed)
    looks_same s c want (y ∷ fed) = λ over. refl

    again_same : (s : Stage) (c : Call) (want : Want) (n : Note) (fed : List Fed) → Same (again s c want n fed) (again s c want n (fed ++ more))
    again_same s c want n [] = λ over. absurd (due_goes_on n over)
    again_same s c want n (Noted ∷ fed) = looks_same s c want fed
    again_same s c want n (y ∷ fed) = λ over. refl

  started_same : (s : Stage) (c : Call) (begun : Start) (fed : List Fed) → Same (started s c begun fed) (started s c begun (fed ++ more))
  started_same s c (Looks want) fed = looks_same s c want fed
  started_same s c (Begins k) fed = begins_same s k fed

  within_same : (s : Stage) (c : Call) (ds : List Datum) (k : Kept) (fed : List Fed) → Same (within s c ds k fed) (within s c ds k (fed ++ more))
  within_same s c ds kept.Start fed = started_same s c (start s c ds) fed
  within_same s c ds (kept.Looking d want) fed = looks_same s d want fed
  within_same s c ds (kept.Within k) fed = inner_same s k fed
  within_same s c ds (kept.Numbered b) fed = numbers_same b fed
  within_same s c ds (kept.Noting n m) fed = noted_same n m fed
  within_same s c ds (kept.Retrying d want n) fed = again_same s d want n fed

  module _ (turn : Call → List Fed → CommandAsk) (turns : (c : Call) (fed : List Fed) → IsOver (turn c fed) → turn c (fed ++ more) ≡ turn c fed) where
    behind_same : (c : Call) (ds : List Datum) (onward : List Datum → List Fed → CommandAsk) →
        ((es : List Datum) (fed : List Fed) → IsOver (onward es fed) → onward es (fed ++ more) ≡ onward es fed) →
        (o p : StageOutcome) → Same o p → IsOver (behind turn c ds onward o) → behind turn c ds onward p ≡ behind turn c ds onward o
    behind_same c ds onward h (Asks a) p same over = ap (behind turn c ds onward) (same over)
    behind_same c ds onward h (Takes d fed) p same over = ap (behind turn c ds onward) same ∙ h (ds ++ d ∷ []) fed over
    behind_same c ds onward h (Passes fed) p same over = ap (behind turn c ds onward) same ∙ h ds fed over
    behind_same c ds onward h (Gathers ts) p same over = ap (behind turn c ds onward) same
    behind_same c ds onward h (Makes ts) p same over = ap (behind turn c ds onward) same
    behind_same c ds onward h (Becomes d fed) p same over = ap (behind turn c ds onward) same ∙ turns d fed over

    run_same : (c : Call) (ss : List Stage) (ds : List Datum) (fed : List Fed) → IsOver (run turn c ss ds fed) → run turn c ss ds (fed ++ more) ≡ run turn c ss ds fed
    run_same c [] ds fed over = refl
    run_same c (s ∷ ss) ds fed over =
        behind_same c ds (λ es more. run turn c ss es more) (λ es fed over. run_same c ss es fed over)
        (started s c (start s c ds) fed) (started s c (start s c ds) (fed ++ more)) (started_same s c (start s c ds) fed) over

    row_same : (c : Call) (ss : List Stage) (ds : List Datum) (k : Kept) (fed : List Fed) → IsOver (resume_row turn c ss ds k fed) → resume_row turn c ss ds k (fed ++ more) ≡ resume_row turn c ss ds k fed
    row_same c [] ds k fed over = refl
    row_same c (s ∷ ss) ds k fed over =
        behind_same c ds (λ es more. run turn c ss es more) (λ es fed over. run_same c ss es fed over)
        (within s c ds k fed) (within s c ds k (fed ++ more)) (within_same s c ds k fed) over

  no_turn_same : (c : Call) (fed : List Fed) → IsOver (no_turn c fed) → no_turn c (fed ++ more) ≡ no_turn c fed
  no_turn_same c fed over = refl

  turned_same : (c : Call) (fed : List Fed) → IsOver (turned c fed) → turned c (fed ++ more) ≡ turned c fed
  turned_same c fed over = run_same no_turn no_turn_same c (stages_of c.head) [] fed over

  turn_same : (is_turned : Bool) (c : Call) (fed : List Fed) → IsOver (turn_of is_turned c fed) → turn_of is_turned c (fed ++ more) ≡ turn_of is_turned c fed
  turn_same true c fed over = refl
  turn_same false c fed over = turned_same c fed over

-- a frame that is over behind this is so behind all that may come
pub stays_over : (f : RowFrame) (y : Fed) (fed : List Fed) → IsOver (resume f (y ∷ [])) → resume f (y ∷ fed) ≡ resume f (y ∷ [])
stays_over f y fed over =
    row_same fed (λ c more. turn_of f.is_turned c more) (λ c more over. turn_same fed f.is_turned c more over) f.call (stages_left f.left) (values f.read) f.kept (y ∷ []) over

pub over_behind : {a : CommandAsk} → (f : RowFrame) (y : Fed) → resume f (y ∷ []) ≡ a → IsOver a → (fed : List Fed) → resume f (y ∷ fed) ≡ a
over_behind f y e over fed = stays_over f y fed (subst IsOver (sym e) over) ∙ e
