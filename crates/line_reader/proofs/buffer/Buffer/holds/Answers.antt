use Rattle.line_reader.proofs.Looking.{holds_part}
use Rattle.line_reader.proofs.buffer.Buffer.holds.Goals as goal

pub returns-then-has_part : goal.returns-then-has_part
returns-then-has_part c = holds_part _ _ _ c.if-has_part.true c.has_part.ensures
