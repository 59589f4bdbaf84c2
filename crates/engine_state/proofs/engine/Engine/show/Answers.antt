use Rattle.std.proofs.Common.{◌∷◌}
use Rattle.plain_machine.specs.States.{Flawed}
use Rattle.engine_state.proofs.Joining.{same_err}
use Rattle.engine_state.proofs.Showing.{shown_did, shown_cuts}
use Rattle.engine_state.proofs.engine.Engine.show.Goals as goal

pub returns-in_err-write_shown_meaning-clause-err : goal.returns-in_err-write_shown_meaning-clause-err
returns-in_err-write_shown_meaning-clause-err g c = let e = c.args.self.now in let i = c.in_err-write_shown_meaning in
    same_err c.from_residual.result i.field-0.0 _ c.from_residual.ensures.1
    (λ sizes f book more sound. shown_cuts sizes e book sound c.args.x c.write_shown_meaning.new.self _ _ more i.field-0.0 (i.ensures.err sizes f book (Flawed ∷ more)))

pub returns-clause-did : goal.returns-clause-did
returns-clause-did g c = let e = c.args.self.now in
    (λ sizes f book sound. shown_did sizes e book sound c.args.x c.write_shown_meaning.new.self _ _ (c.in_ok-write_shown_meaning.ensures.did sizes f book))
