use Rattle.std.proofs.Common.{◌≡◌, length}
use Rattle.std.specs.Prelude.{All}
use Rattle.input_stack.specs.Pulls.{looks, IsInBuffer}
use Rattle.input_stack.specs.View.{pending, pending_in}
use Rattle.input_stack.specs.Stacks.{IsLevel}
use Rattle.input_stack.proofs.Ready.{left, AreLeft}
use Rattle.input_stack.proofs.stack.InputStack.looks.Given as goal

abbrev pub invariant-loop-at : goal.invariant-loop-at
invariant-loop-at l = record { standing : AreLeft l.self l.at l.count; ahead : looks l.categories l.bytes (pending_in l.lists (left l.self l.at l.count)) ≡ looks l.categories l.bytes (pending l.lists l.self); levels : All (IsLevel l.lists) (left l.self l.at l.count); in_buffer : IsInBuffer (pending_in l.lists (left l.self l.at l.count)).sources (length l.bytes) }

abbrev pub decreases-loop-at : goal.decreases-loop-at
decreases-loop-at l = l.at
