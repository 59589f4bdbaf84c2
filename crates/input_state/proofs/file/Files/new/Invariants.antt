use Rattle.std.proofs.Common.{◌≡◌, ◌≤◌, length}
use Rattle.std.specs.Prelude.{All, vec_capacity}
use Rattle.input_state.specs.FileViews.{IsSpare}
use Rattle.input_state.proofs.file.Files.new.Given as goal

abbrev pub invariant-loop-k : goal.invariant-loop-k
invariant-loop-k l = record {
  count : length l.spare.items ≡ l._k;
  spares : All (IsSpare l.buffer_size) l.spare.items;
  room : l.levels ≤ vec_capacity l.spare;
}
