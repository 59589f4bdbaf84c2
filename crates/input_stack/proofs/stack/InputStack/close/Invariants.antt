use Rattle.std.proofs.Common.{◌≡◌, length, reverse}
use Rattle.token_lists.specs.Accounts.{Moves, Keeps}
use Rattle.input_stack.specs.Wholes.{count_in}
use Rattle.input_stack.specs.View.{innermost, held}
use Rattle.input_stack.specs.Stacks.{AreRead}
use Rattle.input_stack.proofs.stack.InputStack.close.Given as goal

abbrev pub invariant-loop : goal.invariant-loop
invariant-loop l = record { read : AreRead l.lists (innermost l.stack); counts : length l.stack.arguments.items ≡ count_in (reverse l.stack.levels.items); account : Moves l.fn.lists l.lists (held l.fn.self) (held l.stack); kept : Keeps l.fn.lists l.lists (held l.fn.self) }

abbrev pub decreases-loop : goal.decreases-loop
decreases-loop l = length l.stack.levels.items
