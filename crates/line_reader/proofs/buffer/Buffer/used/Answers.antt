use Rattle.std.proofs.Common.{arith}
use Rattle.line_reader.proofs.Views.{used_view}
use Rattle.line_reader.proofs.buffer.Buffer.used.Goals as goal

pub returns : goal.returns
returns c = omega (arith, used_view _ _ _ _ _ _ _ _ _ _ _ c.self.view_is c.self.invariant, c.self.inside.starts.ok.0, c.len.ensures)
