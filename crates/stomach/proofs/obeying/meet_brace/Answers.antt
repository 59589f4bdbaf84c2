use Rattle.std.proofs.Common.{sym, ap, ◌∙◌}
use Rattle.std.specs.Prelude.{Some}
use Rattle.plain_machine.specs.Plan.{brace_met}
use Rattle.engine_state.specs.Stands.{state_of, page_of}
use Rattle.engine_state.proofs.Uncalled.{all_of}
use Rattle.engine_state.proofs.Joining.{same_err, ok_to, err_to, onward_by, went_by}
use Rattle.engine_state.proofs.CuttingReadings.{cuts_in, in_by}
use Rattle.stomach.proofs.GroupsMet.{ended_went, column_cuts}
use Rattle.stomach.proofs.obeying.meet_brace.Goals as goal

-- NO GROUP IS OPEN

pub returns-in-None-clause-rule : goal.returns-in-None-clause-rule
returns-in-None-clause-rule g c = let e = c.args.engine.now in let e' = c.report_only.new.self in
    ok_to c.report_only.result (λ ruled h sizes f book st.
    onward_by sizes (state_of e book) e' book _ _ _ _ ruled (ap (brace_met (page_of e book)) (sym c.group_kind.ensures ∙ c.in-None.is)) (h sizes f book (all_of sizes e book st))) c.report_only.ensures.rule

pub returns-in-None-clause-err : goal.returns-in-None-clause-err
returns-in-None-clause-err g c = let e = c.args.engine.now in let e' = c.report_only.new.self in
    err_to c.report_only.result (λ b h sizes f book st.
    in_by sizes (state_of e book) e' _ _ _ _ b (ap (brace_met (page_of e book)) (sym c.group_kind.ensures ∙ c.in-None.is))
    (cuts_in sizes e e' book _ _ _ b (h sizes f book st.sound.sized.few_reports) c.report_only.ensures.frames (all_of sizes e book st))) c.report_only.ensures.err

-- A BRACE OPENED IT

pub returns-in_ok-end_group-in-Some-Simple-clause-rule : goal.returns-in_ok-end_group-in-Some-Simple-clause-rule
returns-in_ok-end_group-in-Some-Simple-clause-rule g c = let e = c.args.engine.now in let e' = c.end_group.new.self in let n = c.end_group.ensures in let k = c.in_ok-end_group-in-Some-Simple.ensures in
    λ sizes f book st.
    went_by sizes (state_of e book) e' _ _ _ _ 0 (ap (brace_met (page_of e book)) (sym c.group_kind.ensures ∙ (c.in-Some-Simple.is ∙ ap Some c.in-Some-Simple.field-0-is)))
    (ended_went sizes e e' f (g.S.Sink.told c.args.out.now) book n.others.in_line (k.stands sizes book st) (k.did sizes _ book st))

pub returns-in_err-end_group-in-Some-Simple-clause-err : goal.returns-in_err-end_group-in-Some-Simple-clause-err
returns-in_err-end_group-in-Some-Simple-clause-err g c = let e = c.args.engine.now in let e' = c.end_group.new.self in let n = c.end_group.ensures in let i = c.in_err-end_group-in-Some-Simple in
    same_err c.from_residual.result i.field-0.0 _ c.from_residual.ensures.1
    (λ sizes f book st.
    in_by sizes (state_of e book) e' _ _ _ _ i.field-0.0 (ap (brace_met (page_of e book)) (sym c.group_kind.ensures ∙ (c.in-Some-Simple.is ∙ ap Some c.in-Some-Simple.field-0-is)))
    (column_cuts sizes e e' f (g.S.Sink.told c.args.out.now) book n.others.in_line _ i.field-0.0 n.frames st (i.ensures.err sizes _ book st)))

-- `\begingroup` OPENED IT

pub returns-in-Some-SemiSimple-clause-rule : goal.returns-in-Some-SemiSimple-clause-rule
returns-in-Some-SemiSimple-clause-rule g c = let e = c.args.engine.now in let n = c.report_only-in-Some-SemiSimple in
    ok_to n.result (λ ruled h sizes f book st.
    onward_by sizes (state_of e book) n.new.self book _ _ _ _ ruled (ap (brace_met (page_of e book)) (sym c.group_kind.ensures ∙ (c.in-Some-SemiSimple.is ∙ ap Some c.in-Some-SemiSimple.field-0-is))) (h sizes f book (all_of sizes e book st))) n.ensures.rule

pub returns-in-Some-SemiSimple-clause-err : goal.returns-in-Some-SemiSimple-clause-err
returns-in-Some-SemiSimple-clause-err g c = let e = c.args.engine.now in let n = c.report_only-in-Some-SemiSimple in
    err_to n.result (λ b h sizes f book st.
    in_by sizes (state_of e book) n.new.self _ _ _ _ b (ap (brace_met (page_of e book)) (sym c.group_kind.ensures ∙ (c.in-Some-SemiSimple.is ∙ ap Some c.in-Some-SemiSimple.field-0-is)))
    (cuts_in sizes e n.new.self book _ _ _ b (h sizes f book st.sound.sized.few_reports) n.ensures.frames (all_of sizes e book st))) n.ensures.err
