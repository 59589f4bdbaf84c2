-- What a value comes to is what the stage makes of it.
use Rattle.std.proofs.Common.{◌∷◌, subst, sym}
use Rattle.rows.specs.declared.stage.Stage.{Stage}
use Rattle.rows.specs.declared.stage.Got.{Got}
use Rattle.rows.specs.Run.{begins, valued}
use Rattle.row_frames.specs.declared.turn.Fed.{Fed}
use Rattle.row_frames.specs.declared.turn.Fed.TheVariants.{Value as value}
use Rattle.row_frames.specs.Views.{fed_of}
use Rattle.row_frames.specs.Resumes.{IsTurn}
use Rattle.row_frames.proofs.turn.begun.Goals as goal

pub returns-in-Value : goal.returns-in-Value
returns-in-Value c call ds ts =
    let s : Stage = c.args.stage in
    subst (λ (y : Fed). IsTurn s call ds ts (fed_of ts y) (λ fed. begins s c.args.kind (fed_of ts y ∷ fed)) c.gain.result) (sym c.in-Value.is)
    (subst (λ (g : Got). IsTurn s call ds ts (fed_of ts (value c.in-Value.value)) (λ fed. valued g ts fed) c.gain.result) c.on_value.ensures (c.gain.ensures s call ds ts))
