use Rattle.plain_tokens.specs.Meanings.{meaning_to_let}
use Rattle.plain_machine.specs.declared.broken.Broken.TheVariants as broken
use Rattle.engine_state.specs.Stands.{page_of}
use Rattle.engine_state.proofs.Joining.{same_err}
use Rattle.stomach.proofs.Assigning.{assigned_did, assigned_stands, named_cuts}
use Rattle.stomach.proofs.effects.assign.Goals as goal

pub returns-in_err-let_name-clause-err : goal.returns-in_err-let_name-clause-err
returns-in_err-let_name-clause-err c = let e = c.args.engine.now in let i = c.in_err-let_name in
    same_err c.from_residual.result (broken.Full i.field-0.0) _ c.from_residual.ensures.1
    (λ sizes w book more st. named_cuts sizes e c.let_name.new.self book w c.args.global c.args.name (meaning_to_let (page_of e book).now.meanings c.args.x) more i.field-0.0 i.ensures.err st i.ensures.refused)

pub returns-clause-did : goal.returns-clause-did
returns-clause-did c = let i = c.in_ok-let_name.ensures in
    λ sizes w book st. assigned_did c.args.engine.now c.let_name.new.self c.args.global c.args.name c.args.x i.ok sizes w book st i.refused

pub returns-clause-stands : goal.returns-clause-stands
returns-clause-stands c = let i = c.in_ok-let_name.ensures in
    λ sizes book st. assigned_stands c.args.engine.now c.let_name.new.self c.args.global c.args.name c.args.x i.ok i.keeps sizes book st
