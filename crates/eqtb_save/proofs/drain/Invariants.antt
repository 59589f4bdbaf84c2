use Rattle.std.proofs.Common.{◌≡◌, ◌+◌, ◌≤◌, ℕ, length, vec_capacity}
use Rattle.save_stack.specs.Accounts.{weighs}
use Rattle.save_stack.proofs.Restoring.{Given, left_after}
use Rattle.eqtb_save.proofs.Held.{K}
use Rattle.eqtb_save.proofs.drain.Given as goal

abbrev pub invariant-loop-step : goal.invariant-loop-step
invariant-loop-step l = record {
  given : Given l.fn.groups l.closing.items l.step l.groups;
  room : length l.closing.items + left_after l.step l.groups ≤ vec_capacity l.closing;
  capacity : vec_capacity l.closing ≡ vec_capacity l.fn.closing;
  same : (w : K → ℕ) → weighs w l.groups ≡ weighs w l.fn.groups;
}

abbrev pub decreases-loop-step : goal.decreases-loop-step
decreases-loop-step l = left_after l.step l.groups
