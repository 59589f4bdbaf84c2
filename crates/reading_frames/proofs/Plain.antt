-- A row that is fed with a plain value makes the same of it, whatever list came with it.
use Rattle.std.proofs.Common.{◌≡◌, Bool, true, false, List, [], ◌∷◌, refl, ap}
use Rattle.std.specs.Prelude.{if◌then◌else◌}
use Rattle.tex_defs.specs.declared.Token.{Token}
use Rattle.rows.specs.declared.words.Datum.{Datum}
use Rattle.rows.specs.declared.words.Datum.TheVariants as datum
use Rattle.rows.specs.declared.words.Value.TheVariants.{Plain}
use Rattle.rows.specs.declared.internal.Bank.{Bank}
use Rattle.rows.specs.declared.stage.Stage.{Stage}
use Rattle.rows.specs.declared.stage.Stage.TheVariants.{NumberTo, NumberUpTo}
use Rattle.rows.specs.declared.stage.Start.{Start}
use Rattle.rows.specs.declared.stage.Start.TheVariants.{Looks, Begins}
use Rattle.rows.specs.declared.stage.Got.{Got}
use Rattle.rows.specs.declared.stage.Got.TheVariants as got
use Rattle.rows.specs.declared.command.Call.{Call}
use Rattle.rows.specs.Readings.{Fed, Val}
use Rattle.rows.specs.Commands.{CommandAsk}
use Rattle.rows.specs.Table.{stages_left}
use Rattle.rows.specs.Tokens.{is_at_most, is_up_to}
use Rattle.rows.specs.Stages.{start, on_datum, numbered_by}
use Rattle.rows.specs.Arithmetic.{number_in}
use Rattle.rows.specs.Run.{StageOutcome, valued, started, behind, run}
use Rattle.row_frames.specs.declared.frame.RowFrame.{RowFrame}
use Rattle.row_frames.specs.declared.turn.Kept.{Kept}
use Rattle.row_frames.specs.declared.turn.Kept.TheVariants as kept
use Rattle.row_frames.specs.Data.{values}
use Rattle.row_frames.specs.Resumes.{within, resume_row, turn_of, resume}

abbrev IsListless : Got → Type 0
IsListless got.Gathers = ⊥
IsListless got.Defines = ⊥
IsListless g = Unit {0}

either : (b : Bool) (g h : Got) → IsListless g → IsListless h → IsListless (if b then g else h)
either true g h i j = i
either false g h i j = j

datum_listless : (s : Stage) (d : Datum) → IsListless (on_datum s d)
datum_listless (NumberTo greatest complaint) d = either (is_at_most greatest (number_in d)) _ _ tt tt
datum_listless (NumberUpTo greatest) d = either (is_up_to greatest (number_in d)) _ _ tt tt
datum_listless s d = tt

numbered_listless : (b : Bank) (d : Datum) → IsListless (numbered_by b (Plain d))
numbered_listless b (datum.Number n) = either (is_at_most 255 n) _ _ tt tt
numbered_listless b d = tt

module _ (d : Datum) (ts us : List Token) (fed : List Fed) where
  got_same : (g : Got) → IsListless g → valued g ts fed ≡ valued g us fed
  got_same (got.Takes e) h = refl
  got_same (got.Tells report m) h = refl
  got_same got.Gathers h = absurd h
  got_same got.Defines h = absurd h

  started_same : (s : Stage) (c : Call) (begun : Start) → started s c begun (Val (Plain d) ts ∷ fed) ≡ started s c begun (Val (Plain d) us ∷ fed)
  started_same s c (Looks want) = refl
  started_same s c (Begins k) = got_same (on_datum s d) (datum_listless s d)

  within_same : (s : Stage) (c : Call) (ds : List Datum) (k : Kept) → within s c ds k (Val (Plain d) ts ∷ fed) ≡ within s c ds k (Val (Plain d) us ∷ fed)
  within_same s c ds kept.Start = started_same s c (start s c ds)
  within_same s c ds (kept.Looking e want) = refl
  within_same s c ds (kept.Within k) = got_same (on_datum s d) (datum_listless s d)
  within_same s c ds (kept.Numbered b) = got_same (numbered_by b (Plain d)) (numbered_listless b d)
  within_same s c ds (kept.Noting n m) = refl
  within_same s c ds (kept.Retrying e want n) = refl

  row_same : (turn : Call → List Fed → CommandAsk) (c : Call) (ss : List Stage) (ds : List Datum) (k : Kept) →
      resume_row turn c ss ds k (Val (Plain d) ts ∷ fed) ≡ resume_row turn c ss ds k (Val (Plain d) us ∷ fed)
  row_same turn c [] ds k = refl
  row_same turn c (s ∷ ss) ds k = ap (λ (o : StageOutcome). behind turn c ds (λ es more. run turn c ss es more) o) (within_same s c ds k)

pub plain_value : (f : RowFrame) (d : Datum) (ts us : List Token) (fed : List Fed) → resume f (Val (Plain d) ts ∷ fed) ≡ resume f (Val (Plain d) us ∷ fed)
plain_value f d ts us fed = row_same d ts us fed (λ c more. turn_of f.is_turned c more) f.call (stages_left f.left) (values f.read) f.kept
