use Rattle.engine_state.proofs.Conditionals.{Left}
use Rattle.engine_state.proofs.engine.Engine.write_conditionals_left.Given as goal

abbrev pub invariant-loop-number : goal.invariant-loop-number
invariant-loop-number g l = Left l.fn.self l.self (g.S.Sink.told l.fn.out) (g.S.Sink.told l.out) l.number
