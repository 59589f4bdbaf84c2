use Rattle.std.proofs.Common.{length, ◌-◌, ◌≡◌, ◌≤◌, take, List, ℕ}
use Rattle.std.specs.Prelude.{Some}
use Rattle.world_io.specs.Contents.{Grew}
use Rattle.world_io.proofs.whole.write_file.Given as goal

abbrev pub invariant-loop-at : goal.invariant-loop-at
invariant-loop-at g l =
    (l.at ≤ length l.bytes)
    × ((name : List ℕ) → (g.F.Files.told l.fn.files).writer l.id.number ≡ Some name → Grew name (take l.at l.bytes) (g.F.Files.told l.fn.files) (g.F.Files.told l.files))
    × ((g.F.Files.told l.fn.files).write_faults ≤ (g.F.Files.told l.files).write_faults)
    × ((g.F.Files.told l.fn.files).wants ≤ (g.F.Files.told l.files).wants)
    × ((g.F.Files.told l.files).read_faults ≡ (g.F.Files.told l.fn.files).read_faults)
    × ((g.F.Files.told l.files).writer l.id.number ≡ (g.F.Files.told l.fn.files).writer l.id.number)

abbrev pub decreases-loop-at : goal.decreases-loop-at
decreases-loop-at g l = length l.bytes - l.at
