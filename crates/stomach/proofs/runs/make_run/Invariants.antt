use Rattle.std.proofs.Common.{◌≡◌, ◌≤◌, ◌-◌, false}
use Rattle.std.specs.Prelude.{None}
use Rattle.line_reader.specs.Readers.{AreOpen}
use Rattle.stomach.specs.Read.{ReadsTo}
use Rattle.stomach.proofs.Rounds.{CameTo}
use Rattle.stomach.proofs.runs.make_run.Given as goal

abbrev pub invariant-loop-taken : goal.invariant-loop-taken
invariant-loop-taken g l =
    (l.taken ≤ l.n)
    × ((((l.engine.input.making ≡ None) × (l.engine.stopped ≡ false)) × AreOpen l.readers.readers (g.F.Files.told l.files))
    × ReadsTo l.fn.readers.readers l.readers.readers (g.F.Files.told l.fn.files) (g.F.Files.told l.files) (CameTo l.fn.readers l.fn.engine (g.S.Sink.told l.fn.out) l.readers l.engine (g.S.Sink.told l.out) l.taken))

abbrev pub decreases-loop-taken : goal.decreases-loop-taken
decreases-loop-taken g l = l.n - l.taken
