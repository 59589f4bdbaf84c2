use Rattle.std.proofs.Common.{sym, ap, subst, ◌∙◌}
use Rattle.std.specs.Prelude.{None}
use Rattle.plain_machine.specs.Plan.{acts}
use Rattle.engine_state.specs.Stands.{page_of}
use Rattle.engine_state.proofs.Joining.{same_err, ok_to, err_to, went_by}
use Rattle.engine_state.proofs.CuttingReadings.{in_by}
use Rattle.rows.specs.Suiting.{IsSuited}
use Rattle.stomach.specs.Effects.{IsAlone}
use Rattle.stomach.proofs.ActsEnding.{computed_moves, set_moves, assigned_alone, assigned_small}
use Rattle.stomach.proofs.RuleHalts.{rules_by}
use Rattle.stomach.proofs.effects.compute.Goals as goal

-- THERE IS A RESULT

pub returns-in_ok-end_alone-in-Some-clause-rule : goal.returns-in_ok-end_alone-in-Some-clause-rule
returns-in_ok-end_alone-in-Some-clause-rule g c = let e = c.args.engine.now in let a = c.args in let m = c.in-Some in let is = sym c.value_computed.ensures ∙ m.is in let effect = sym c.assignment.ensures in
    λ has sizes f book r rs st.
    went_by sizes _ c.end_alone.new.engine _ _ _ _ 0 (set_moves e book a.call a.operation a.loc c.value_at.result m.value a.datum (c.value_at.ensures has.0 book) is ∙ ap (acts (page_of e book) a.call) effect)
    (c.in_ok-end_alone-in-Some.ensures.rule (subst IsAlone effect (assigned_alone a.loc m.value)) (subst IsSuited effect (assigned_small a.operation a.loc c.value_at.result m.value a.datum has is)) sizes f book r rs st)

pub returns-in_err-end_alone-in-Some-clause-err : goal.returns-in_err-end_alone-in-Some-clause-err
returns-in_err-end_alone-in-Some-clause-err g c = let e = c.args.engine.now in let a = c.args in let m = c.in-Some in let is = sym c.value_computed.ensures ∙ m.is in let effect = sym c.assignment.ensures in
    let i = c.in_err-end_alone-in-Some in
    same_err c.from_residual.result i.field-0.0 _ c.from_residual.ensures.1
    (λ has sizes f book r rs st.
    in_by sizes _ c.end_alone.new.engine _ _ _ _ i.field-0.0 (set_moves e book a.call a.operation a.loc c.value_at.result m.value a.datum (c.value_at.ensures has.0 book) is ∙ ap (acts (page_of e book) a.call) effect)
    (i.ensures.err (subst IsAlone effect (assigned_alone a.loc m.value)) (subst IsSuited effect (assigned_small a.operation a.loc c.value_at.result m.value a.datum has is)) sizes f book r rs st))

-- IT IS OUT OF BOUNDS

pub returns-in-None-clause-rule : goal.returns-in-None-clause-rule
returns-in-None-clause-rule g c = let e = c.args.engine.now in let a = c.args in let n = c.report_overflow in
    ok_to n.result (λ ruled h has sizes f book r rs st.
    rules_by sizes _ n.new.engine _ _ _ _ ruled (computed_moves e book a.call a.operation a.loc c.value_at.result a.datum None (c.value_at.ensures has.0 book) (sym c.value_computed.ensures ∙ c.in-None.is))
    (h sizes f book r rs a.loc st)) n.ensures.rule

pub returns-in-None-clause-err : goal.returns-in-None-clause-err
returns-in-None-clause-err g c = let e = c.args.engine.now in let a = c.args in let n = c.report_overflow in
    err_to n.result (λ b h has sizes f book r rs st.
    in_by sizes _ n.new.engine _ _ _ _ b (computed_moves e book a.call a.operation a.loc c.value_at.result a.datum None (c.value_at.ensures has.0 book) (sym c.value_computed.ensures ∙ c.in-None.is))
    (h sizes f book r rs a.loc st)) n.ensures.err
