use Rattle.std.proofs.Common.{◌∷◌}
use Rattle.plain_machine.specs.States.{Flawed}
use Rattle.engine_state.proofs.Joining.{same_err}
use Rattle.engine_state.proofs.Showing.{location_did, location_cuts}
use Rattle.engine_state.proofs.engine.Engine.show_value.Goals as goal

pub returns-in_err-write_value_at-clause-err : goal.returns-in_err-write_value_at-clause-err
returns-in_err-write_value_at-clause-err g c = let e = c.args.self.now in let i = c.in_err-write_value_at in
    same_err c.from_residual.result i.field-0.0 _ c.from_residual.ensures.1
    (λ sizes f book more sound. location_cuts sizes e book sound c.args.loc c.write_value_at.new.self _ _ more i.field-0.0 (i.ensures.err sizes f book (Flawed ∷ more)))

pub returns-clause-did : goal.returns-clause-did
returns-clause-did g c =
    λ sizes f book sound. location_did sizes c.args.self.now book sound c.args.loc c.write_value_at.new.self _ _ (c.in_ok-write_value_at.ensures.did sizes f book)
