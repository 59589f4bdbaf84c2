use Rattle.std.proofs.lemmas.Int.{to_z-of_z}
use Rattle.std.proofs.Common.{w32}
use Rattle.equivalents.specs.declared.values.Val.TheVariants as val
use Rattle.plain_machine.specs.declared.broken.Broken.TheVariants as broken
use Rattle.engine_state.proofs.Joining.{same_err}
use Rattle.stomach.proofs.ActingAlone.{value_did, value_cuts, value_stands}
use Rattle.stomach.proofs.effects.set_number.Goals as goal

pub returns-in_err-set_number-clause-err : goal.returns-in_err-set_number-clause-err
returns-in_err-set_number-clause-err c = let i = c.in_err-set_number in
    same_err c.from_residual.result (broken.Full i.field-0.0) _ c.from_residual.ensures.1
    (λ sizes w book more st. value_cuts sizes c.args.engine.now c.set_number.new.self book w c.args.global c.args.loc (val.Number c.args.value) more i.field-0.0 i.ensures.err st i.ensures.refused)

pub returns-in_ok-set_number-clause-did : goal.returns-in_ok-set_number-clause-did
returns-in_ok-set_number-clause-did c = let i = c.in_ok-set_number.ensures in
    let after = rw (to_z-of_z w32 c.args.value c.ranges.value) at i.ok in
    λ row suits sizes w book st. value_did c.args.engine.now c.set_number.new.self c.args.global c.args.loc (val.Number c.args.value) tt after sizes w book st i.refused

pub returns-in_ok-set_number-clause-stands : goal.returns-in_ok-set_number-clause-stands
returns-in_ok-set_number-clause-stands c = let i = c.in_ok-set_number.ensures in
    let after = rw (to_z-of_z w32 c.args.value c.ranges.value) at i.ok in
    λ sizes book st. value_stands c.args.engine.now c.set_number.new.self c.args.global c.args.loc (val.Number c.args.value) tt after i.keeps sizes book st
