-- The frames that are left hold what is read in them all, and the number has counted the lists of the others.
use Rattle.std.proofs.Common.{◌≡◌, ◌≤◌, ◌+◌, length, reverse, take}
use Rattle.reading_frames.specs.Stack.{innermost_found}
use Rattle.reading_frames.proofs.readings.scanned_among.Given as goal

abbrev pub invariant-loop-i : goal.invariant-loop-i
invariant-loop-i l =
    (innermost_found (reverse l.frames) l.within ≡ innermost_found (reverse (take l.i l.frames)) l.number) × (l.number + l.i ≤ l.within + length l.frames)
