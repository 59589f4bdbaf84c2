use Rattle.std.proofs.Common.{◌++◌, sym, ap, ◌∙◌}
use Rattle.std.specs.Prelude.{Some}
use Rattle.plain_machine.specs.Plan.{put_one, right_brace, endgroup_met}
use Rattle.engine_state.specs.Rules.{world_of}
use Rattle.engine_state.specs.Stands.{state_of, page_of}
use Rattle.engine_state.proofs.Uncalled.{all_of}
use Rattle.engine_state.proofs.Counting.{counts_of}
use Rattle.gullet.proofs.JobName.{name_stands}
use Rattle.engine_state.proofs.Joining.{same_err, ok_to, err_to, onward_by, went_by}
use Rattle.engine_state.proofs.CuttingReadings.{cuts_in, in_by}
use Rattle.stomach.proofs.GroupsMet.{reports, ended_went, column_cuts, brace_in, missing_onward, missing_in}
use Rattle.stomach.proofs.obeying.meet_endgroup.Goals as goal

-- NO GROUP IS OPEN

pub returns-in-None-clause-rule : goal.returns-in-None-clause-rule
returns-in-None-clause-rule g c = let e = c.args.engine.now in let n = c.report_only in
    ok_to n.result (λ ruled h sizes f book st.
    onward_by sizes (state_of e book) n.new.self book _ _ _ _ ruled (ap (endgroup_met (page_of e book) c.args.token) (sym c.group_kind.ensures ∙ c.in-None.is)) (h sizes f book (all_of sizes e book st))) n.ensures.rule

pub returns-in-None-clause-err : goal.returns-in-None-clause-err
returns-in-None-clause-err g c = let e = c.args.engine.now in let n = c.report_only in
    err_to n.result (λ b h sizes f book st.
    in_by sizes (state_of e book) n.new.self _ _ _ _ b (ap (endgroup_met (page_of e book) c.args.token) (sym c.group_kind.ensures ∙ c.in-None.is))
    (cuts_in sizes e n.new.self book _ _ _ b (h sizes f book st.sound.sized.few_reports) n.ensures.frames (all_of sizes e book st))) n.ensures.err

-- `\begingroup` OPENED IT

pub returns-in_ok-end_group-in-Some-SemiSimple-clause-rule : goal.returns-in_ok-end_group-in-Some-SemiSimple-clause-rule
returns-in_ok-end_group-in-Some-SemiSimple-clause-rule g c = let e = c.args.engine.now in let e' = c.end_group.new.self in let n = c.end_group.ensures in let k = c.in_ok-end_group-in-Some-SemiSimple.ensures in
    λ sizes f book st.
    went_by sizes (state_of e book) e' _ _ _ _ 0 (ap (endgroup_met (page_of e book) c.args.token) (sym c.group_kind.ensures ∙ (c.in-Some-SemiSimple.is ∙ ap Some c.in-Some-SemiSimple.field-0-is)))
    (ended_went sizes e e' f (g.S.Sink.told c.args.out.now) book n.others.in_line (k.stands sizes book st) (k.did sizes _ book st))

pub returns-in_err-end_group-in-Some-SemiSimple-clause-err : goal.returns-in_err-end_group-in-Some-SemiSimple-clause-err
returns-in_err-end_group-in-Some-SemiSimple-clause-err g c = let e = c.args.engine.now in let e' = c.end_group.new.self in let n = c.end_group.ensures in let i = c.in_err-end_group-in-Some-SemiSimple in
    same_err c.from_residual.result i.field-0.0 _ c.from_residual.ensures.1
    (λ sizes f book st.
    in_by sizes (state_of e book) e' _ _ _ _ i.field-0.0 (ap (endgroup_met (page_of e book) c.args.token) (sym c.group_kind.ensures ∙ (c.in-Some-SemiSimple.is ∙ ap Some c.in-Some-SemiSimple.field-0-is)))
    (column_cuts sizes e e' f (g.S.Sink.told c.args.out.now) book n.others.in_line _ i.field-0.0 n.frames st (i.ensures.err sizes _ book st)))

-- A BRACE OPENED IT

pub returns-in_err-put_one-in-Some-Simple-clause-err : goal.returns-in_err-put_one-in-Some-Simple-clause-err
returns-in_err-put_one-in-Some-Simple-clause-err g c = let e = c.args.engine.now in let e1 = c.put_one.new.self in let n = c.put_one.ensures in let i = c.in_err-put_one-in-Some-Simple in
    same_err c.from_residual-in_err-put_one-in-Some-Simple.result i.field-0.0 _ c.from_residual-in_err-put_one-in-Some-Simple.ensures.1
    (λ sizes f book st.
    in_by sizes (state_of e book) e1 _ _ _ _ i.field-0.0 (ap (endgroup_met (page_of e book) c.args.token) (sym c.group_kind.ensures ∙ (c.in-Some-Simple.is ∙ ap Some c.in-Some-Simple.field-0-is)))
    (column_cuts sizes e e1 f (g.S.Sink.told c.args.out.now) book n.others.in_line _ i.field-0.0 n.frames st
    (i.ensures.err sizes (world_of f (g.S.Sink.told c.args.out.now) e) book (put_one right_brace ++ reports e book) (counts_of sizes e book st) st.idle)))

pub returns-in_err-put_one-in-Some-Simple-2-clause-err : goal.returns-in_err-put_one-in-Some-Simple-2-clause-err
returns-in_err-put_one-in-Some-Simple-2-clause-err g c = let e = c.args.engine.now in let e1 = c.put_one.new.self in let e2 = c.put_one-in-Some-Simple.new.self in let p = c.in_ok-put_one-in-Some-Simple.ensures in let n = c.put_one-in-Some-Simple.ensures in
    let i = c.in_err-put_one-in-Some-Simple-2 in
    same_err c.from_residual-in_err-put_one-in-Some-Simple-2.result i.field-0.0 _ c.from_residual-in_err-put_one-in-Some-Simple-2.ensures.1
    (λ sizes f book st. let w = world_of f (g.S.Sink.told c.args.out.now) e in let st1 = name_stands sizes e e1 book p.frames p.others p.store p.idle st in
    in_by sizes (state_of e book) e2 _ _ _ _ i.field-0.0 (ap (endgroup_met (page_of e book) c.args.token) (sym c.group_kind.ensures ∙ (c.in-Some-Simple.is ∙ ap Some c.in-Some-Simple.field-0-is)))
    (brace_in sizes e e1 e2 f (g.S.Sink.told c.args.out.now) book c.args.token (p.did sizes w book (counts_of sizes e book st) st.idle) i.field-0.0 (n.others.in_line ∙ p.others.in_line) n.frames st1
    (i.ensures.err sizes w book (reports e book) (counts_of sizes e1 book st1) st1.idle)))

pub returns-in_ok-put_one-in-Some-Simple-2-clause-rule : goal.returns-in_ok-put_one-in-Some-Simple-2-clause-rule
returns-in_ok-put_one-in-Some-Simple-2-clause-rule g c = let e = c.args.engine.now in let e1 = c.put_one.new.self in let e2 = c.put_one-in-Some-Simple.new.self in let p = c.in_ok-put_one-in-Some-Simple.ensures in let q = c.in_ok-put_one-in-Some-Simple-2.ensures in
    let n = c.report_only-in-Some-Simple in
    ok_to n.result (λ ruled h sizes f book st. let w = world_of f (g.S.Sink.told c.args.out.now) e in
    let st1 = name_stands sizes e e1 book p.frames p.others p.store p.idle st in
    let st2 = name_stands sizes e1 e2 book q.frames q.others q.store q.idle st1 in
    onward_by sizes (state_of e book) n.new.self book _ _ _ _ ruled (ap (endgroup_met (page_of e book) c.args.token) (sym c.group_kind.ensures ∙ (c.in-Some-Simple.is ∙ ap Some c.in-Some-Simple.field-0-is)))
    (missing_onward sizes e e1 e2 f (g.S.Sink.told c.args.out.now) book c.args.token (p.did sizes w book (counts_of sizes e book st) st.idle) n.new.self (g.S.Sink.told n.new.out) (q.page book ∙ p.page book)
    (q.did sizes w book (counts_of sizes e1 book st1) st1.idle) ruled (q.others.reports ∙ p.others.reports) (h sizes f book (all_of sizes e2 book st2)))) n.ensures.rule

pub returns-in_ok-put_one-in-Some-Simple-2-clause-err : goal.returns-in_ok-put_one-in-Some-Simple-2-clause-err
returns-in_ok-put_one-in-Some-Simple-2-clause-err g c = let e = c.args.engine.now in let e1 = c.put_one.new.self in let e2 = c.put_one-in-Some-Simple.new.self in let p = c.in_ok-put_one-in-Some-Simple.ensures in let q = c.in_ok-put_one-in-Some-Simple-2.ensures in
    let n = c.report_only-in-Some-Simple in
    err_to n.result (λ b h sizes f book st. let w = world_of f (g.S.Sink.told c.args.out.now) e in
    let st1 = name_stands sizes e e1 book p.frames p.others p.store p.idle st in
    let st2 = name_stands sizes e1 e2 book q.frames q.others q.store q.idle st1 in
    in_by sizes (state_of e book) n.new.self _ _ _ _ b (ap (endgroup_met (page_of e book) c.args.token) (sym c.group_kind.ensures ∙ (c.in-Some-Simple.is ∙ ap Some c.in-Some-Simple.field-0-is)))
    (missing_in sizes e e1 e2 f (g.S.Sink.told c.args.out.now) book c.args.token (p.did sizes w book (counts_of sizes e book st) st.idle) n.new.self (g.S.Sink.told n.new.out) (q.page book ∙ p.page book)
    (q.did sizes w book (counts_of sizes e1 book st1) st1.idle) b n.ensures.frames st2 (h sizes f book st2.sound.sized.few_reports))) n.ensures.err
