use Rattle.std.proofs.Common.{◌≡◌, ◌≤◌, ◌-◌}
use Rattle.std.specs.Prelude.{vec_len}
use Rattle.world_io.specs.Contents.{SoFar, OnlyReads}
use Rattle.world_io.proofs.whole.read_rest.Given as goal

abbrev pub invariant-loop-n : goal.invariant-loop-n
invariant-loop-n g l =
    SoFar ((g.F.Files.told l.fn.files).rest l.id.number) l.bytes.items ((g.F.Files.told l.files).rest l.id.number)
    × OnlyReads l.id.number (g.F.Files.told l.fn.files) (g.F.Files.told l.files)
    × ((g.F.Files.told l.fn.files).read_faults ≤ (g.F.Files.told l.files).read_faults)
    × ((g.F.Files.told l.files).write_faults ≡ (g.F.Files.told l.fn.files).write_faults)
    × ((g.F.Files.told l.fn.files).wants ≤ (g.F.Files.told l.files).wants)
    × (vec_len l.bytes ≤ 4294967808)

abbrev pub decreases-loop-n : goal.decreases-loop-n
decreases-loop-n g l = 4294967808 - vec_len l.bytes
