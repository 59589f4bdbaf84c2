use Rattle.std.proofs.Common.{◌∙◌, sym, arith}
use Rattle.engine_state.proofs.Conditionals.{none_left, one_left, one_cut, past_left}
use Rattle.engine_state.proofs.Joining.{same_err}
use Rattle.engine_state.proofs.engine.Engine.write_conditionals_left.Goals as goal

pub loop-number-init : goal.loop-number-init
loop-number-init g c = none_left c.args.self.now (g.S.Sink.told c.args.out.now)

pub loop-number-preserved : goal.loop-number-preserved
loop-number-preserved g c = let l = c.loop-number in
    one_left c.args.self.now l.self (g.S.Sink.told c.args.out.now) (g.S.Sink.told l.out) l.number l.invariant c.write_left.new.self (g.S.Sink.told c.write_left.new.out) c.in-Some.conditional (sym c.get.ensures ∙ c.in-Some.is)
    c.write_left.ensures.only c.in_ok-write_left.ensures.did

pub returns-in_err-write_left-clause-err : goal.returns-in_err-write_left-clause-err
returns-in_err-write_left-clause-err g c = let l = c.loop-number in let n = c.in_err-write_left in
    same_err c.from_residual.result n.field-0.0 _ c.from_residual.ensures.1
    (one_cut c.args.self.now l.self (g.S.Sink.told c.args.out.now) (g.S.Sink.told l.out) l.number l.invariant c.write_left.new.self (g.S.Sink.told c.write_left.new.out) c.in-Some.conditional (sym c.get.ensures ∙ c.in-Some.is)
    n.field-0.0 n.ensures.err)

pub returns-clause-did : goal.returns-clause-did
returns-clause-did g c = let l = c.loop-number in
    past_left c.args.self.now l.self (g.S.Sink.told c.args.out.now) (g.S.Sink.told l.out) l.number l.invariant (omega (arith, c.loop-number-test.false, c.count-number-end.ensures.is))
