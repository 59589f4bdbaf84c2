use Rattle.std.proofs.Common.{[], ◌∷◌, refl, sym, ap, ◌∙◌}
use Rattle.std.specs.Prelude.{Some, None}
use Rattle.plain_machine.specs.Plan.{chosen, skips}
use Rattle.plain_machine.specs.States.{LimitSet}
use Rattle.engine_state.specs.declared.engine.Engine.{Engine}
use Rattle.engine_state.specs.Stands.{state_of, page_of}
use Rattle.plain_machine.specs.Weights.{pending_weight}
use Rattle.engine_state.proofs.CuttingReadings.{in_by}
use Rattle.engine_state.proofs.Joining.{on_ok, err_to, went_by}
use Rattle.gullet.proofs.Choosing.{chosen_by, went_here}
use Rattle.gullet.proofs.ExpandingWeighs.{reads_within}
use Rattle.gullet.proofs.conditional.choose.Goals as goal

pub returns-in-Some-clause-rule : goal.returns-in-Some-clause-rule
returns-in-Some-clause-rule c = let e = c.args.engine.now in let e1 = c.set_limit.new.self in let v = c.args.value in let a = c.aim_of-aim.result in let l = c.in-Some.limit in
    λ sizes w book st.
    went_by sizes (state_of e book) e1 w w (LimitSet l ∷ []) (chosen (page_of e book) c.args.call v) 0 (chosen_by (page_of e book) c.args.call v a (Some l) c.aim_of-aim.ensures (sym c.in-Some.is ∙ c.start.ensures))
    (went_here sizes e e1 book w (LimitSet l) (c.set_limit.ensures.did sizes w book) refl (c.set_limit.ensures.stands sizes book st))

pub returns-in-None-clause-rule : goal.returns-in-None-clause-rule
returns-in-None-clause-rule c = let e = c.args.engine.now in let e1 = c.skip_on.new.engine in let v = c.args.value in let a = c.aim_of-aim.result in
    on_ok c.skip_on.result
    (λ h sizes w book st.
    went_by sizes (state_of e book) e1 w w (skips (page_of e book) c.args.call a) (chosen (page_of e book) c.args.call v) 0 (chosen_by (page_of e book) c.args.call v a None c.aim_of-aim.ensures (sym c.in-None.is ∙ c.start.ensures)) (h sizes w book st))
    c.skip_on.ensures.rule

pub returns-in-None-clause-err : goal.returns-in-None-clause-err
returns-in-None-clause-err c = let e = c.args.engine.now in let e1 = c.skip_on.new.engine in let v = c.args.value in let a = c.aim_of-aim.result in
    err_to c.skip_on.result
    (λ b h sizes w book st.
    in_by sizes (state_of e book) e1 w w (skips (page_of e book) c.args.call a) (chosen (page_of e book) c.args.call v) b (chosen_by (page_of e book) c.args.call v a None c.aim_of-aim.ensures (sym c.in-None.is ∙ c.start.ensures)) (h sizes w book st))
    c.skip_on.ensures.err

pub returns-in-Some-clause-light : goal.returns-in-Some-clause-light
returns-in-Some-clause-light c = let n = c.set_limit.ensures in
    λ most none room light. reads_within c.args.engine.now none most c.set_limit.new.self light n.frames (ap (λ (x : Engine). pending_weight x.input.pending) n.only)

pub returns-in-None-clause-light : goal.returns-in-None-clause-light
returns-in-None-clause-light c = on_ok c.skip_on.result (λ h most none room light. h most none room) c.skip_on.ensures.light
