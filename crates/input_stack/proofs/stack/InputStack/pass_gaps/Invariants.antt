use Rattle.std.proofs.Common.{◌≤◌, length}
use Rattle.token_lists.specs.Accounts.{Moves, Keeps}
use Rattle.input_stack.specs.Pulls.{Passes}
use Rattle.input_stack.specs.View.{pending, held, innermost}
use Rattle.input_stack.specs.Stacks.{IsStack, AreUnfinished, IsSized}
use Rattle.input_stack.specs.Lasting.{Lasts}
use Rattle.input_stack.proofs.stack.InputStack.pass_gaps.Given as goal

abbrev pub invariant-loop-self : goal.invariant-loop-self
invariant-loop-self l = record { stands : IsStack l.lists l.self; unfinished : AreUnfinished l.lists (innermost l.self); same : Passes (pending l.fn.lists l.fn.self) (pending l.lists l.self); fewer : length l.self.levels.items ≤ length l.fn.self.levels.items; open_fewer : l.self.argument_levels ≤ l.fn.self.argument_levels; account : Moves l.fn.lists l.lists (held l.fn.self) (held l.self); kept : Keeps l.fn.lists l.lists (held l.fn.self); lasting : Lasts l.fn.lists l.lists; sizes : IsSized l.fn.self l.self }

abbrev pub decreases-loop-self : goal.decreases-loop-self
decreases-loop-self l = length l.self.levels.items
