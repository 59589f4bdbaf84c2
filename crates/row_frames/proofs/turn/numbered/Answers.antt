-- What a value comes to is what is made of the number that it is.
use Rattle.std.proofs.Common.{◌∷◌, subst, sym}
use Rattle.rows.specs.declared.stage.Got.{Got}
use Rattle.rows.specs.Run.{numbers, valued}
use Rattle.row_frames.specs.declared.turn.Fed.{Fed}
use Rattle.row_frames.specs.declared.turn.Fed.TheVariants.{Value as value}
use Rattle.row_frames.specs.Views.{fed_of}
use Rattle.row_frames.specs.Resumes.{IsTurn}
use Rattle.row_frames.proofs.turn.numbered.Goals as goal

pub returns-in-Value : goal.returns-in-Value
returns-in-Value c s call ds ts =
    subst (λ (y : Fed). IsTurn s call ds ts (fed_of ts y) (λ fed. numbers c.args.bank (fed_of ts y ∷ fed)) c.gain.result) (sym c.in-Value.is)
    (subst (λ (g : Got). IsTurn s call ds ts (fed_of ts (value c.in-Value.value)) (λ fed. valued g ts fed) c.gain.result) c.numbered_by.ensures (c.gain.ensures s call ds ts))
