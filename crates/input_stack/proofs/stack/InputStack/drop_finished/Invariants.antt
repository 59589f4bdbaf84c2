use Rattle.std.proofs.Common.{◌≡◌, length}
use Rattle.token_lists.specs.Accounts.{Moves, Keeps}
use Rattle.input_stack.specs.Pending.{end_token_lists}
use Rattle.input_stack.specs.View.{pending, held}
use Rattle.input_stack.specs.Stacks.{IsStack, IsSized}
use Rattle.input_stack.specs.Lasting.{Lasts}
use Rattle.input_stack.proofs.stack.InputStack.drop_finished.Given as goal

abbrev pub invariant-loop-self : goal.invariant-loop-self
invariant-loop-self l = record { stands : IsStack l.lists l.self; settled : end_token_lists (pending l.lists l.self) ≡ end_token_lists (pending l.fn.lists l.fn.self); account : Moves l.fn.lists l.lists (held l.fn.self) (held l.self); kept : Keeps l.fn.lists l.lists (held l.fn.self); lasting : Lasts l.fn.lists l.lists; sizes : IsSized l.fn.self l.self }

abbrev pub decreases-loop-self : goal.decreases-loop-self
decreases-loop-self l = length l.self.levels.items
