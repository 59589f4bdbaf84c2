use Rattle.std.proofs.Common.{ℕ, length, ◌-◌, ◌≢◌, ◌<◌, get_or}
use Rattle.line_reader.specs.Ahead.{Ahead}
use Rattle.line_reader.proofs.windows.find.Given as goal

abbrev pub invariant-loop-k : goal.invariant-loop-k
invariant-loop-k l = (j : ℕ) (d : Ahead) → j < l.k → j < length l.windows → (get_or l.windows j d).reader ≢ l.reader

abbrev pub decreases-loop-k : goal.decreases-loop-k
decreases-loop-k l = length l.windows - l.k
