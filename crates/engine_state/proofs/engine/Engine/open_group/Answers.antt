use Rattle.plain_machine.specs.declared.broken.Broken.TheVariants as broken
use Rattle.engine_state.proofs.Grouping.{opened_did, opened_stands, unopened_cuts}
use Rattle.engine_state.proofs.Joining.{same_err}
use Rattle.engine_state.proofs.engine.Engine.open_group.Goals as goal

pub returns-in_err-open_group-clause-err : goal.returns-in_err-open_group-clause-err
returns-in_err-open_group-clause-err c = let e = c.args.self.now in let i = c.in_err-open_group in
    same_err c.from_residual.result (broken.Full i.field-0.0) _ c.from_residual.ensures.1
    (λ sizes w book sound. unopened_cuts e c.args.kind c.open_group.new.self sizes w book i.field-0.0 i.ensures.err sound i.ensures.refused)

pub returns-clause-did : goal.returns-clause-did
returns-clause-did c = let i = c.in_ok-open_group.ensures in
    λ sizes w book sound. opened_did c.args.self.now c.args.kind c.open_group.new.self i.ok sizes w book sound i.refused

pub returns-clause-stands : goal.returns-clause-stands
returns-clause-stands c = let i = c.in_ok-open_group.ensures in
    λ sizes book st. opened_stands c.args.self.now c.args.kind c.open_group.new.self i.ok i.keeps sizes book st
