use Rattle.std.proofs.Common.{◌≡◌}
use Rattle.line_reader.specs.Readers.{AreOpen, ids}
use Rattle.plain_machine.specs.Extended.{Rests}
use Rattle.stomach.specs.Ahead.{IsGiven, read_weight}
use Rattle.engine_state.specs.Steps.{asks_now, wants_token}
use Rattle.stomach.specs.Read.{ReadsTo, AreTied}
use Rattle.stomach.proofs.ahead.read_ahead.Given as goal

abbrev pub invariant-loop-engine : goal.invariant-loop-engine
invariant-loop-engine g l =
    (((l.fn.wants ≡ wants_token (asks_now l.engine)) × AreOpen l.readers.readers (g.F.Files.told l.files)) × ((ids l.readers.readers ≡ ids l.fn.readers.readers) × (AreTied l.fn.readers l.fn.engine → AreTied l.readers l.engine)))
    × ReadsTo l.fn.readers.readers l.readers.readers (g.F.Files.told l.fn.files) (g.F.Files.told l.files) (λ (all left : Rests). IsGiven all left l.fn.engine l.engine)

abbrev pub decreases-loop-engine : goal.decreases-loop-engine
decreases-loop-engine g l = read_weight l.engine l.readers.readers
