use Rattle.std.specs.Prelude.{Some}
use Rattle.tex_syntax.specs.declared.words.Outcome.TheVariants.{AtFatal}
use Rattle.tex_defs.specs.declared.Fatal.TheVariants.{HundredErrors}
use Rattle.engine_state.specs.declared.check.Check.TheVariants.{Forbidden}
use Rattle.engine_state.specs.declared.outcome.Ruled.TheVariants.{Halted}
use Rattle.engine_state.specs.Stands.{state_of, page_of}
use Rattle.engine_state.specs.Rules.{world_of, space_moves, check_moves}
use Rattle.engine_state.proofs.Counting.{call_counts}
use Rattle.engine_state.proofs.CheckingMoves.{put_stands, takes_still, put_rule, put_behind, put_cuts, check_same, found_still, comes_behind}
use Rattle.engine_state.proofs.Joining.{same_err}
use Rattle.engine_state.proofs.CuttingReadings.{cuts_in, column_in}
use Rattle.engine_state.proofs.engine.Engine.forbid.Goals as goal

pub returns-in_err-put_one-clause-err : goal.returns-in_err-put_one-clause-err
returns-in_err-put_one-clause-err g c = let e = c.args.self.now in let i = c.in_err-put_one in
    same_err c.from_residual.result i.field-0.0 _ c.from_residual.ensures.1
    (λ sizes f book rest st.
    column_in sizes (state_of e book) c.put_one.new.self f (g.S.Sink.told c.args.out.now) e.in_line _ i.field-0.0 c.put_one.ensures.others.in_line
    (cuts_in sizes e c.put_one.new.self book _ _ _ _
    (i.ensures.err sizes (world_of f (g.S.Sink.told c.args.out.now) e) book (check_moves e (page_of e book) Forbidden c.args.found rest) (call_counts sizes e book st) st.idle)
    c.put_one.ensures.frames st))

pub break_off-requires : goal.break_off-requires
break_off-requires g c = let e = c.args.self.now in let p = c.put_one.ensures in
    record { idle = c.in_ok-put_one.ensures.idle; asked = found_still e c.put_one.new.self c.args.found p.frames c.requires.asked }

pub returns-in_err-break_off-clause-err : goal.returns-in_err-break_off-clause-err
returns-in_err-break_off-clause-err g c = let e = c.args.self.now in let e1 = c.put_one.new.self in let p = c.put_one.ensures in let i = c.in_err-break_off in
    same_err c.from_residual-in_err-break_off.result i.field-0.0 _ c.from_residual-in_err-break_off.ensures.1
    (λ sizes f book rest st.
    put_cuts sizes e e1 c.break_off.new.self f (g.S.Sink.told c.args.out.now) _ c.args.token _ _ book (p.page book) (check_same e e1 book (p.page book) p.frames Forbidden c.args.found rest)
    (λ w. c.in_ok-put_one.ensures.did sizes w book (call_counts sizes e book st) st.idle) i.field-0.0
    (i.ensures.err sizes f book rest (put_stands sizes e e1 book p.frames p.others p.store c.in_ok-put_one.ensures.idle st)))

pub returns-then-branch-clause-rule : goal.returns-then-branch-clause-rule
returns-then-branch-clause-rule g c = let e = c.args.self.now in let e1 = c.put_one.new.self in let p = c.put_one.ensures in
    λ sizes f book want t.
    let t1 = takes_still sizes (Some want) e e1 book p.frames (put_stands sizes e e1 book p.frames p.others p.store c.in_ok-put_one.ensures.idle t.1) t in
    comes_behind sizes want (state_of e book) c.break_off.new.self book (page_of e book) _ _ _ c.met.result c.met.ensures
    (put_behind sizes e e1 c.break_off.new.self f (g.S.Sink.told c.args.out.now) _ c.args.token _ _ book (p.page book) (check_same e e1 book (p.page book) p.frames Forbidden c.args.found (space_moves (page_of e book) (Some want) book.work))
    (λ w. c.in_ok-put_one.ensures.did sizes w book (call_counts sizes e book t.1) t.1.idle) (Some want) (Some want) (page_of e book)
    (c.in_ok-break_off.ensures.on c.if-branch.true sizes f book (Some want) (Some want) (page_of e book) t1))

pub returns-clause-rule : goal.returns-clause-rule
returns-clause-rule g c = let e = c.args.self.now in let e1 = c.put_one.new.self in let p = c.put_one.ensures in
    λ sizes f book want t.
    put_rule sizes e e1 c.break_off.new.self f (g.S.Sink.told c.args.out.now) _ c.args.token _ _ book (p.page book) (check_same e e1 book (p.page book) p.frames Forbidden c.args.found (space_moves (page_of e book) (Some want) book.work))
    (λ w. c.in_ok-put_one.ensures.did sizes w book (call_counts sizes e book t.1) t.1.idle) (Halted (AtFatal HundredErrors))
    (c.in_ok-break_off.ensures.last c.if-branch.false sizes f book (space_moves (page_of e book) (Some want) book.work) (put_stands sizes e e1 book p.frames p.others p.store c.in_ok-put_one.ensures.idle t.1))
