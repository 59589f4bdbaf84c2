use Rattle.std.proofs.Common.{sym, subst}
use Rattle.conditionals.specs.declared.choice.End.{End}
use Rattle.plain_machine.specs.Does.{Did}
use Rattle.plain_machine.specs.Plan.{ended_by}
use Rattle.engine_state.specs.Stands.{state_of}
use Rattle.stomach.proofs.conditional.end_skipping.Goals as goal

pub returns-in-Reads-clause-did : goal.returns-in-Reads-clause-did
returns-in-Reads-clause-did c = let e = c.args.engine.now in let e1 = c.set_limit.new.self in
    λ sizes w book. subst (λ (x : End). Did sizes (state_of e book) (state_of e1 book) w w (ended_by x)) (sym c.in-Reads.is) (c.set_limit.ensures.did sizes w book)

pub returns-in-Closes-clause-did : goal.returns-in-Closes-clause-did
returns-in-Closes-clause-did c = let e = c.args.engine.now in let e1 = c.close_conditional.new.self in
    λ sizes w book. subst (λ (x : End). Did sizes (state_of e book) (state_of e1 book) w w (ended_by x)) (sym c.in-Closes.is) (c.close_conditional.ensures.did sizes w book)
