use Rattle.std.proofs.Common.{length, ◌-◌, ◌≡◌, ◌≤◌, take}
use Rattle.tex_defs.specs.Places.{grown}
use Rattle.world_io.proofs.whole.write_all.Given as goal

abbrev pub invariant-loop-at : goal.invariant-loop-at
invariant-loop-at g l =
    (l.at ≤ length l.bytes) × ((g.S.Sink.told l.out).bytes ≡ grown (g.S.Sink.told l.fn.out).bytes (take l.at l.bytes)) × ((g.S.Sink.told l.fn.out).faults ≤ (g.S.Sink.told l.out).faults) × ((g.S.Sink.told l.fn.out).wants ≤ (g.S.Sink.told l.out).wants)

abbrev pub decreases-loop-at : goal.decreases-loop-at
decreases-loop-at g l = length l.bytes - l.at
