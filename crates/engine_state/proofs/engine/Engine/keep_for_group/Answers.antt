use Rattle.std.proofs.Common.{arith}
use Rattle.plain_machine.specs.declared.broken.Broken.TheVariants as broken
use Rattle.engine_state.proofs.Grouping.{kept_did, kept_stands, unkept_cuts}
use Rattle.engine_state.proofs.Joining.{same_err}
use Rattle.engine_state.proofs.engine.Engine.keep_for_group.Goals as goal

pub returns-in_err-after_group-clause-err : goal.returns-in_err-after_group-clause-err
returns-in_err-after_group-clause-err c = let e = c.args.self.now in let i = c.in_err-after_group in
    same_err c.from_residual.result (broken.Full i.field-0.0) _ c.from_residual.ensures.1
    (λ sizes w book more sound. unkept_cuts e c.args.token c.after_group.new.self (omega arith) sizes w book more i.field-0.0 i.ensures.err sound i.ensures.refused)

pub returns-in_ok-after_group-clause-did : goal.returns-in_ok-after_group-clause-did
returns-in_ok-after_group-clause-did c = let i = c.in_ok-after_group.ensures in
    λ sizes w book sound. kept_did c.args.self.now c.args.token c.after_group.new.self (omega arith) i.ok sizes w book sound i.refused

pub returns-in_ok-after_group-clause-stands : goal.returns-in_ok-after_group-clause-stands
returns-in_ok-after_group-clause-stands c = let i = c.in_ok-after_group.ensures in
    λ sizes book st. kept_stands c.args.self.now c.args.token c.after_group.new.self (omega arith) i.ok i.keeps sizes book st
