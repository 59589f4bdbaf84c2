use Rattle.std.proofs.Common.{◌≡◌, ◌≤◌, ◌-◌, ◌++◌, length, take, drop}
use Rattle.std.specs.Prelude.{vec_capacity}
use Rattle.line_reader.specs.Ahead.{forgotten}
use Rattle.line_reader.proofs.windows.forget.Given as goal

abbrev pub invariant-loop-k : goal.invariant-loop-k
invariant-loop-k l = record {
  within : l.k ≤ length l.windows.items;
  after : forgotten l.reader l.fn.windows.items ≡ take l.k l.windows.items ++ forgotten l.reader (drop l.k l.windows.items);
  fewer : length l.windows.items ≤ length l.fn.windows.items;
  capacity : vec_capacity l.fn.windows ≤ vec_capacity l.windows;
}

abbrev pub decreases-loop-k : goal.decreases-loop-k
decreases-loop-k l = length l.windows.items - l.k
