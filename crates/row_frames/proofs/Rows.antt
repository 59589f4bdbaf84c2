-- What a row comes to where the stage comes to this in which a command stands.
use Rattle.std.proofs.Common.{◌≡◌, ◌≤◌, List, [], ◌∷◌, ◌++◌, length, Option, Some, refl, sym, ap, ◌∙◌, arith}
use Rattle.rows.specs.declared.words.Datum.{Datum}
use Rattle.rows.specs.declared.stage.Stage.{Stage}
use Rattle.rows.specs.declared.command.Call.{Call}
use Rattle.rows.specs.declared.command.Row.{Row}
use Rattle.rows.specs.declared.command.Row.TheVariants.{One, Two, Three, Four}
use Rattle.rows.specs.Readings.{Fed}
use Rattle.rows.specs.Commands.{CommandAsk}
use Rattle.rows.specs.Table.{stages_in, stages_left, first_in, rest_in}
use Rattle.rows.specs.Run.{StageOutcome, Takes, Passes, behind, run}
use Rattle.row_frames.specs.declared.turn.Kept.{Kept}
use Rattle.row_frames.specs.declared.turn.Kept.TheVariants as kept
use Rattle.row_frames.specs.Resumes.{within, resume_row}

pub at_most_four : (r : Row) → length (stages_in r) ≤ 4
at_most_four (One a) = omega arith
at_most_four (Two a b) = omega arith
at_most_four (Three a b c) = omega arith
at_most_four (Four a b c d) = omega arith

-- a row runs from the beginning of its first stage
pub run_starts : (turn : Call → List Fed → CommandAsk) (c : Call) (ss : List Stage) (ds : List Datum) (fed : List Fed) → run turn c ss ds fed ≡ resume_row turn c ss ds kept.Start fed
run_starts turn c [] ds fed = refl
run_starts turn c (s ∷ ss) ds fed = refl

-- A command that has read `ds` stands in a stage, the first of what is left of its row, and is fed with `y`.
module _ (turn : Call → List Fed → CommandAsk) (c : Call) (left : Option Row) (stages : Row) (some : left ≡ Some stages) (s : Stage) (first : s ≡ first_in stages)
    (ds : List Datum) (k : Kept) (y : Fed) (next : Option Row) (rest : stages_left next ≡ rest_in stages) where
  -- what the row comes to
  abbrev pub At : List Fed → CommandAsk
  At fed = resume_row turn c (stages_left left) ds k (y ∷ fed)

  abbrev pub Next : List Datum → List Fed → CommandAsk
  Next es fed = resume_row turn c (stages_left next) es kept.Start fed

  by_stage : (fed : List Fed) (o : StageOutcome) → within s c ds k (y ∷ fed) ≡ o → At fed ≡ behind turn c ds (λ es more. run turn c (rest_in stages) es more) o
  by_stage fed o e =
      ap (λ (l : Option Row). resume_row turn c (stages_left l) ds k (y ∷ fed)) some
      ∙ ap (λ (t : Stage). behind turn c ds (λ es more. run turn c (rest_in stages) es more) (within t c ds k (y ∷ fed))) (sym first)
      ∙ ap (behind turn c ds (λ es more. run turn c (rest_in stages) es more)) e

  onward : (es : List Datum) (fed : List Fed) → run turn c (rest_in stages) es fed ≡ Next es fed
  onward es fed = run_starts turn c (rest_in stages) es fed ∙ ap (λ (ts : List Stage). resume_row turn c ts es kept.Start fed) (sym rest)

  pub row_takes : (d : Datum) → ((fed : List Fed) → within s c ds k (y ∷ fed) ≡ Takes d fed) → (es : List Datum) → es ≡ ds ++ d ∷ [] → (fed : List Fed) → At fed ≡ Next es fed
  row_takes d h es e fed = by_stage fed (Takes d fed) (h fed) ∙ onward (ds ++ d ∷ []) fed ∙ ap (λ (es : List Datum). Next es fed) (sym e)

  pub row_leaves : ((fed : List Fed) → within s c ds k (y ∷ fed) ≡ Passes (y ∷ fed)) → (fed : List Fed) → At fed ≡ Next ds (y ∷ fed)
  row_leaves h fed = by_stage fed (Passes (y ∷ fed)) (h fed) ∙ onward ds (y ∷ fed)
