use Rattle.std.proofs.Common.{◌≡◌, length}
use Rattle.input_state.specs.Callings.{NotCalling}
use Rattle.input_state.proofs.lists_held.Held.close.Given as goal

abbrev pub decreases-loop-held : goal.decreases-loop-held
decreases-loop-held l = length l.held.builds

abbrev pub invariant-loop-held : goal.invariant-loop-held
invariant-loop-held l = l.held.call ≡ NotCalling
