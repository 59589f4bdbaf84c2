use Rattle.std.proofs.Common.{arith}
use Rattle.line_reader.proofs.readers.Readers.count.Goals as goal

pub overflow_cast-result : goal.overflow_cast-result
overflow_cast-result c = omega (arith, c.len.ensures, c.self.invariant.0, c.self.invariant.2)
