use Rattle.std.proofs.Common.{refl}
use Rattle.tex_syntax.specs.declared.words.Outcome.TheVariants.{AtFatal}
use Rattle.tex_syntax.specs.declared.words.Report.TheVariants.{IncompleteConditional}
use Rattle.tex_defs.specs.declared.Fatal.TheVariants.{HundredErrors}
use Rattle.conditionals.specs.Open.{innermost_test}
use Rattle.plain_machine.specs.Plan.{frozen_fi, reported}
use Rattle.engine_state.specs.declared.outcome.Ruled.TheVariants.{Halted}
use Rattle.engine_state.specs.Stands.{state_of, page_of}
use Rattle.engine_state.specs.Rules.{world_of, space_moves}
use Rattle.engine_state.proofs.Counting.{call_counts}
use Rattle.engine_state.proofs.CheckingMoves.{put_stands, takes_still, put_rule, put_behind, put_cuts, incomplete_same, unnoted}
use Rattle.engine_state.proofs.Joining.{same_err, ok_to, ok_both, err_to}
use Rattle.engine_state.proofs.CuttingReadings.{cuts_in, column_in}
use Rattle.engine_state.proofs.AtLocations.{frames_join}
use Rattle.engine_state.proofs.engine.Engine.insert_fi.Goals as goal

pub returns-in_err-put_one-clause-err : goal.returns-in_err-put_one-clause-err
returns-in_err-put_one-clause-err g c = let e = c.args.self.now in let i = c.in_err-put_one in
    same_err c.from_residual.result i.field-0.0 _ c.from_residual.ensures.1
    (λ sizes f book rest st.
    column_in sizes (state_of e book) c.put_one.new.self f (g.S.Sink.told c.args.out.now) e.in_line _ i.field-0.0 c.put_one.ensures.others.in_line
    (cuts_in sizes e c.put_one.new.self book _ _ _ _
    (i.ensures.err sizes (world_of f (g.S.Sink.told c.args.out.now) e) book (reported (page_of e book) (IncompleteConditional (innermost_test e.conditionals.items) c.args.line) rest) (call_counts sizes e book st) st.idle)
    c.put_one.ensures.frames st))

pub returns-clause-on : goal.returns-clause-on
returns-clause-on g c = let e = c.args.self.now in let e1 = c.put_one.new.self in let e2 = c.report.new.self in let p = c.put_one.ensures in let test = c.innermost_test-test.result in
    ok_both c.report.result (λ on h sized yes sizes f book want space page t.
    let st = put_stands sizes e e1 book p.frames p.others p.store c.in_ok-put_one.ensures.idle t.1 in
    let t1 = takes_still sizes want e e1 book p.frames st t in
    put_behind sizes e e1 e2 f (g.S.Sink.told c.args.out.now) _ frozen_fi _ _ book (p.page book) (incomplete_same e e1 book c.args.line test (space_moves page space book.work) (p.page book) c.innermost_test-test.ensures)
    (λ w. c.in_ok-put_one.ensures.did sizes w book (call_counts sizes e book t.1) t.1.idle) want space page
    (unnoted sizes want space e1 e2 e2 f (g.S.Sink.told c.args.out.now) (g.S.Sink.told c.report.new.out) (IncompleteConditional test c.args.line) page book c.report.ensures.frames c.report.ensures.input (sized yes sizes) t1 refl
    (h yes sizes f book (space_moves page space book.work)))) c.report.ensures.on c.report.ensures.sized

pub returns-clause-last : goal.returns-clause-last
returns-clause-last g c = let e = c.args.self.now in let e1 = c.put_one.new.self in let e2 = c.report.new.self in let p = c.put_one.ensures in let test = c.innermost_test-test.result in
    ok_to c.report.result (λ on h no sizes f book rest st.
    put_rule sizes e e1 e2 f (g.S.Sink.told c.args.out.now) _ frozen_fi _ _ book (p.page book) (incomplete_same e e1 book c.args.line test rest (p.page book) c.innermost_test-test.ensures)
    (λ w. c.in_ok-put_one.ensures.did sizes w book (call_counts sizes e book st) st.idle) (Halted (AtFatal HundredErrors)) (h no sizes f book rest)) c.report.ensures.last

pub returns-clause-err : goal.returns-clause-err
returns-clause-err g c = let e = c.args.self.now in let e1 = c.put_one.new.self in let e2 = c.report.new.self in let p = c.put_one.ensures in let test = c.innermost_test-test.result in
    err_to c.report.result (λ b h sizes f book rest st.
    let st1 = put_stands sizes e e1 book p.frames p.others p.store c.in_ok-put_one.ensures.idle st in
    put_cuts sizes e e1 e2 f (g.S.Sink.told c.args.out.now) _ frozen_fi _ _ book (p.page book) (incomplete_same e e1 book c.args.line test rest (p.page book) c.innermost_test-test.ensures)
    (λ w. c.in_ok-put_one.ensures.did sizes w book (call_counts sizes e book st) st.idle) b
    (cuts_in sizes e1 e2 book _ _ _ b (h sizes f book rest st1.sound.sized.few_reports) c.report.ensures.frames st1)) c.report.ensures.err

pub returns-clause-frames : goal.returns-clause-frames
returns-clause-frames g c = frames_join c.args.self.now c.put_one.new.self c.report.new.self c.put_one.ensures.frames c.report.ensures.frames
