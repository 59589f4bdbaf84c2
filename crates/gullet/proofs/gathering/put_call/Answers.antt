use Rattle.std.proofs.Common.{ap}
use Rattle.reading_frames.specs.Stack.{Stack}
use Rattle.input_state.specs.Stored.{Stored}
use Rattle.plain_machine.specs.Weights.{pending_weight}
use Rattle.engine_state.proofs.CallWeighing.{closed_within}
use Rattle.gullet.proofs.gathering.put_call.Goals as goal

pub returns-clause-light : goal.returns-clause-light
returns-clause-light c call is asks = let ok = c.in_ok-put_call.ensures.ok in
    closed_within c.args.engine.now (record c.args.engine.now { readings = c.end.new.self; input = c.put_call.new.self }) call (ap (λ (s : Stack). record c.args.engine.now { readings = s; input = c.put_call.new.self }) c.end.ensures.rest) (ap (λ (i : Stored). i.call) ok) (ap (λ (i : Stored). pending_weight i.pending) ok) is asks
