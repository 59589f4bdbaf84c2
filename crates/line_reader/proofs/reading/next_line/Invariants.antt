use Rattle.std.proofs.Common.{◌+◌, ◌*◌, ◌-◌, length}
use Rattle.line_reader.specs.Ahead.{ahead_of}
use Rattle.line_reader.proofs.Going.{Going}
use Rattle.line_reader.proofs.reading.next_line.Given as goal

abbrev pub invariant-loop-ends : goal.invariant-loop-ends
invariant-loop-ends g l = Going l.id.number (g.F.Files.told l.fn.files) l.fn.buffer (g.F.Files.told l.files) l.buffer

abbrev pub decreases-loop-ends : goal.decreases-loop-ends
decreases-loop-ends g l = 2 * (l.buffer.buffer_size - length l.buffer.tail) + (1 - length (ahead_of l.id.number l.buffer.ahead))
