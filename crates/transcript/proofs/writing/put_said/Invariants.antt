use Rattle.std.proofs.Common.{length}
use Rattle.transcript.proofs.Joins.{Taking}
use Rattle.transcript.proofs.writing.put_said.Given as goal

abbrev pub invariant-loop-left : goal.invariant-loop-left
invariant-loop-left g l = Taking (g.S.Sink.told l.fn.out) (g.S.Sink.told l.out) l.fn.in_line l.in_line l.left l.fn.said

abbrev pub decreases-loop-left : goal.decreases-loop-left
decreases-loop-left g l = length l.left
