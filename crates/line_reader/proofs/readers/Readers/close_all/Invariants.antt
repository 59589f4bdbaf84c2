use Rattle.std.proofs.Common.{◌≡◌, length}
use Rattle.world_io.specs.Contents.{FilesTold, SameCounts}
use Rattle.line_reader.specs.Readers.{AreOpen, ClosesReaders}
use Rattle.line_reader.proofs.readers.Readers.close_all.Given as goal

abbrev pub invariant-loop-self : goal.invariant-loop-self
invariant-loop-self g l = record {
  are_open : AreOpen l.self.readers (g.F.Files.told l.files);
  -- where the readers that are left are closed, all are
  closes : (f : FilesTold) → ClosesReaders l.self.readers (g.F.Files.told l.files) f → ClosesReaders l.fn.self.readers (g.F.Files.told l.fn.files) f;
  most : l.self.most ≡ l.fn.self.most;
  counts : SameCounts (g.F.Files.told l.fn.files) (g.F.Files.told l.files);
}

abbrev pub decreases-loop-self : goal.decreases-loop-self
decreases-loop-self g l = length l.self.readers
