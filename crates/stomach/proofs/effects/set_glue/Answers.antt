use Rattle.equivalents.specs.declared.values.Val.TheVariants as val
use Rattle.plain_machine.specs.declared.broken.Broken.TheVariants as broken
use Rattle.engine_state.proofs.Joining.{same_err, when_true}
use Rattle.stomach.proofs.ActingAlone.{value_did, value_cuts, value_stands, glue_location}
use Rattle.stomach.proofs.effects.set_glue.Goals as goal

pub returns-in_err-set_glue-clause-err : goal.returns-in_err-set_glue-clause-err
returns-in_err-set_glue-clause-err c = let i = c.in_err-set_glue in
    same_err c.from_residual.result (broken.Full i.field-0.0) _ c.from_residual.ensures.1
    (λ sizes w book more st. value_cuts sizes c.args.engine.now c.set_glue.new.self book w c.args.global c.args.loc (val.Skip c.args.glue) more i.field-0.0 i.ensures.err st i.ensures.refused)

pub returns-in_ok-set_glue-clause-did : goal.returns-in_ok-set_glue-clause-did
returns-in_ok-set_glue-clause-did c = let i = c.in_ok-set_glue.ensures in
    λ there suits sizes w book st. value_did c.args.engine.now c.set_glue.new.self c.args.global c.args.loc (val.Skip c.args.glue) tt i.ok sizes w book st i.refused

pub returns-in_ok-set_glue-clause-stands : goal.returns-in_ok-set_glue-clause-stands
returns-in_ok-set_glue-clause-stands c = let i = c.in_ok-set_glue.ensures in
    λ sizes book st. value_stands c.args.engine.now c.set_glue.new.self c.args.global c.args.loc (val.Skip c.args.glue) tt i.ok i.keeps sizes book st

pub set_glue-requires : goal.set_glue-requires
set_glue-requires c = let h = when_true _ _ c.takes_glue.result c.if-takes_glue.true c.takes_glue.ensures in record { within = glue_location c.args.engine.now.input.groups c.args.loc c.args.glue h.0 (h.1 c.args.glue); suits = h.1 c.args.glue }
