use Rattle.std.proofs.Common.{◌≡◌, false}
use Rattle.std.specs.Prelude.{None}
use Rattle.line_reader.specs.Readers.{AreOpen}
use Rattle.engine_state.specs.Steps.{weight}
use Rattle.stomach.specs.Read.{ReadsTo}
use Rattle.stomach.proofs.Rounds.{CameTo}
use Rattle.stomach.proofs.runs.run_to_step.Given as goal

abbrev pub invariant-loop-wants : goal.invariant-loop-wants
invariant-loop-wants g l =
    (((l.engine.input.making ≡ None) × (l.engine.stopped ≡ false)) × AreOpen l.readers.readers (g.F.Files.told l.files))
    × ReadsTo l.fn.readers.readers l.readers.readers (g.F.Files.told l.fn.files) (g.F.Files.told l.files) (CameTo l.fn.readers l.fn.engine (g.S.Sink.told l.fn.out) l.readers l.engine (g.S.Sink.told l.out) 0)

abbrev pub decreases-loop-wants : goal.decreases-loop-wants
decreases-loop-wants g l = weight l.engine
