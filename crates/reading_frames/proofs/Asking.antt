-- What a row may ask for where it stands: a token, an inner reading, its note, or to do what it does at its end.
use Rattle.std.proofs.Common.{Bool, List, [], ◌∷◌}
use Rattle.tex_syntax.specs.declared.words.Want.{Want}
use Rattle.rows.specs.declared.words.Datum.{Datum}
use Rattle.rows.specs.declared.words.Phrase.{Phrase}
use Rattle.rows.specs.declared.stage.Stage.{Stage}
use Rattle.rows.specs.declared.stage.Start.{Start}
use Rattle.rows.specs.declared.stage.Start.TheVariants.{Looks, Begins}
use Rattle.rows.specs.declared.stage.Note.{Note}
use Rattle.rows.specs.declared.command.Call.{Call}
use Rattle.rows.specs.declared.command.Effect.{Effect}
use Rattle.rows.specs.Readings.{Fed}
use Rattle.rows.specs.Commands.{CommandAsk, More, Inner, Acts}
use Rattle.rows.specs.Run.{due, started, behind, run}
use Rattle.rows.specs.Stages.{start}
use Rattle.rows.specs.Effects.{command_effect}
use Rattle.rows.specs.Table.{stages_left}
use Rattle.row_frames.specs.declared.frame.RowFrame.{RowFrame}
use Rattle.row_frames.specs.declared.turn.Kept.{Kept}
use Rattle.row_frames.specs.declared.turn.Kept.TheVariants as kept
use Rattle.row_frames.specs.Data.{values}
use Rattle.row_frames.specs.Resumes.{within, resume_row, turn_of, resume}

module _
    (P : CommandAsk → Type 0)
    (more : (want : Want) → P (More want))
    (begin : (k : Phrase) (begins : Bool) → P (Inner k begins))
    (act : (c : Call) (e : Effect) → P (Acts c e))
    (note_due : (n : Note) → P (due n))
  where
    module _ (turn : Call → List Fed → CommandAsk) (c : Call) (ds : List Datum) (onward : List Datum → List Fed → CommandAsk) where
      started_asks : (s : Stage) (begun : Start) → P (behind turn c ds onward (started s c begun []))
      started_asks s (Looks want) = more want
      started_asks s (Begins k) = begin k _

      within_asks : (s : Stage) (k : Kept) → P (behind turn c ds onward (within s c ds k []))
      within_asks s kept.Start = started_asks s (start s c ds)
      within_asks s (kept.Looking d want) = more want
      within_asks s (kept.Within k) = begin k _
      within_asks s (kept.Numbered b) = begin _ _
      within_asks s (kept.Noting n m) = note_due n
      within_asks s (kept.Retrying d want n) = note_due n

    row_asks : (turn : Call → List Fed → CommandAsk) (c : Call) (ss : List Stage) (ds : List Datum) (k : Kept) → P (resume_row turn c ss ds k [])
    row_asks turn c [] ds k = act c (command_effect c ds)
    row_asks turn c (s ∷ ss) ds k = within_asks turn c ds (λ es more. run turn c ss es more) s k

    pub frame_asks : (f : RowFrame) → P (resume f [])
    frame_asks f = row_asks (λ c more. turn_of f.is_turned c more) f.call (stages_left f.left) (values f.read) f.kept
