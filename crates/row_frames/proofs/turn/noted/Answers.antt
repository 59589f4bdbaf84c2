-- Behind a note comes what it says.
use Rattle.std.proofs.Common.{◌∷◌, subst, sym}
use Rattle.rows.specs.Run.{noted}
use Rattle.row_frames.specs.declared.turn.Fed.{Fed}
use Rattle.row_frames.specs.declared.turn.Fed.TheVariants.{Noted as a_note}
use Rattle.row_frames.specs.Views.{fed_of}
use Rattle.row_frames.specs.Resumes.{IsTurn}
use Rattle.row_frames.proofs.turn.noted.Goals as goal

pub returns-in-Noted : goal.returns-in-Noted
returns-in-Noted c s call ds ts =
    subst (λ (y : Fed). IsTurn s call ds ts (fed_of ts y) (λ fed. noted c.args.note c.args.next (fed_of ts y ∷ fed)) c.behind_note.result) (sym c.in-Noted.is)
    (c.behind_note.ensures s call ds ts (fed_of ts a_note))
