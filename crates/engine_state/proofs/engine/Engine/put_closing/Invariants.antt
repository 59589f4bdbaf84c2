use Rattle.std.proofs.Common.{length}
use Rattle.engine_state.proofs.Closing.{HasPut}
use Rattle.engine_state.proofs.engine.Engine.put_closing.Given as goal

abbrev pub invariant-loop-token : goal.invariant-loop-token
invariant-loop-token l = HasPut l.fn.self l.self

abbrev pub decreases-loop-token : goal.decreases-loop-token
decreases-loop-token l = length l.self.input.closing
