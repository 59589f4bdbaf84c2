use Rattle.std.proofs.Common.{◌≡◌, ◌*◌, ◌/◌, ◌^◌, ◌<◌, ◌≤◌, length, drop}
use Rattle.scaled_arith.specs.Scaled.{spelled_number}
use Rattle.scaled_arith.proofs.fraction.Given as goal

abbrev pub invariant-loop-left : goal.invariant-loop-left
invariant-loop-left l =
    (l.left ≤ length l.counted) × (l.doubled < 131072)
    × (l.doubled ≡ 131072 * spelled_number (drop l.left l.counted) / 10 ^ length (drop l.left l.counted))

abbrev pub decreases-loop-left : goal.decreases-loop-left
decreases-loop-left l = l.left
