use Rattle.std.proofs.Common.{◌≡◌, ◌-◌, length, drop}
use Rattle.token_lists.specs.Table.{tokens_at}
use Rattle.token_lists.specs.Accounts.{IsReading}
use Rattle.input_stack.specs.Puts.{without_gaps}
use Rattle.input_stack.specs.Calls.{substituted}
use Rattle.input_stack.specs.Rest.{rest, number}
use Rattle.input_stack.specs.CallViews.{cells_in}
use Rattle.input_stack.proofs.call.Call.behind_gaps.Given as goal

abbrev pub invariant-loop-token : goal.invariant-loop-token
invariant-loop-token l = record { reading : IsReading l.lists (number l.self.body) l.spot.at l.spot.read; behind : without_gaps (substituted (cells_in l.lists l.args) (drop l.spot.read (tokens_at l.lists (number l.self.body)))) ≡ without_gaps (substituted (cells_in l.lists l.args) (rest l.lists l.self.body)) }

abbrev pub decreases-loop-token : goal.decreases-loop-token
decreases-loop-token l = length (tokens_at l.lists (number l.self.body)) - l.spot.read
