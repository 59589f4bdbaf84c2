use Rattle.std.proofs.Common.{◌≡◌, ◌-◌, ◌<◌, ◌≤◌, ◌++◌, ℕ, None, length, take, vec_capacity, slice_index_or}
use Rattle.macro_args.proofs.args.Args.push_onto.Given as goal

abbrev pub invariant-loop-place : goal.invariant-loop-place
invariant-loop-place l = record { within : l.place ≤ l.fn.self.count; items : l.stack.items ≡ l.fn.stack.items ++ take l.place l.fn.self.lists; capacity : vec_capacity l.stack ≡ vec_capacity l.fn.stack; nine : length l.lists ≡ 9; gone : (i : ℕ) → i < l.place → slice_index_or l.lists i None ≡ None; left : (i : ℕ) → l.place ≤ i → slice_index_or l.lists i None ≡ slice_index_or l.fn.self.lists i None }

abbrev pub decreases-loop-place : goal.decreases-loop-place
decreases-loop-place l = l.count - l.place
