use Rattle.std.proofs.Common.{◌≡◌}
use Rattle.std.specs.Prelude.{All}
use Rattle.input_stack.specs.Puts.{next_item}
use Rattle.input_stack.specs.View.{pending, pending_in}
use Rattle.input_stack.specs.Stacks.{IsLevel}
use Rattle.input_stack.proofs.Ready.{left, AreLeft}
use Rattle.input_stack.proofs.stack.InputStack.is_opening.Given as goal

abbrev pub invariant-loop-at : goal.invariant-loop-at
invariant-loop-at l = record { standing : AreLeft l.self l.at l.count; next : next_item (pending_in l.lists (left l.self l.at l.count)).puts ≡ next_item (pending l.lists l.self).puts; levels : All (IsLevel l.lists) (left l.self l.at l.count) }

abbrev pub decreases-loop-at : goal.decreases-loop-at
decreases-loop-at l = l.at
