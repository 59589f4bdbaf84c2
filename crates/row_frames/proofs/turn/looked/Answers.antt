-- What a token comes to is what is made of a token that is looked at.
use Rattle.std.proofs.Common.{◌∷◌, subst, sym}
use Rattle.rows.specs.declared.stage.Stage.{Stage}
use Rattle.rows.specs.Run.{looks}
use Rattle.row_frames.specs.declared.turn.Fed.{Fed}
use Rattle.row_frames.specs.Views.{fed_of}
use Rattle.row_frames.specs.Resumes.{IsTurn}
use Rattle.row_frames.proofs.turn.looked.Goals as goal

pub returns-in-Token : goal.returns-in-Token
returns-in-Token c d ds ts =
    let s : Stage = c.args.stage in
    subst (λ (y : Fed). IsTurn s d ds ts (fed_of ts y) (λ fed. looks s c.args.call c.args.want (fed_of ts y ∷ fed)) c.look.result) (sym c.in-Token.is)
    (c.look.ensures d ds ts)
