use Rattle.meanings.specs.Kept.{without_list}
use Rattle.plain_machine.specs.declared.broken.Broken.TheVariants as broken
use Rattle.engine_state.proofs.Joining.{same_err}
use Rattle.stomach.proofs.Assigning.{bare_did, bare_stands, named_cuts}
use Rattle.stomach.proofs.effects.give_meaning.Goals as goal

pub returns-in_err-set_meaning-clause-err : goal.returns-in_err-set_meaning-clause-err
returns-in_err-set_meaning-clause-err c = let e = c.args.engine.now in let i = c.in_err-set_meaning in
    same_err c.from_residual.result (broken.Full i.field-0.0) _ c.from_residual.ensures.1
    (λ sizes w book more st. named_cuts sizes e c.set_meaning.new.self book w c.args.global c.args.name (without_list c.args.meaning) more i.field-0.0 i.ensures.err st i.ensures.refused)

pub returns-clause-did : goal.returns-clause-did
returns-clause-did c = let i = c.in_ok-set_meaning.ensures in
    λ sizes w book st. bare_did c.args.engine.now c.set_meaning.new.self c.args.global c.args.name c.args.meaning i.ok sizes w book st i.refused

pub returns-clause-stands : goal.returns-clause-stands
returns-clause-stands c = let i = c.in_ok-set_meaning.ensures in
    λ sizes book st. bare_stands c.args.engine.now c.set_meaning.new.self c.args.global c.args.name c.args.meaning i.ok i.keeps sizes book st
