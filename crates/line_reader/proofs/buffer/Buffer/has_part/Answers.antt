use Rattle.std.proofs.Common.{◌∙◌}
use Rattle.line_reader.proofs.Views.{part_some}
use Rattle.line_reader.proofs.buffer.Buffer.has_part.Goals as goal

pub returns-then-reader-id : goal.returns-then-reader-id
returns-then-reader-id c = part_some _ _ _ _ _ _ _ _ _ _ _ c.self.view_is c.self.invariant c.args.id c.in-Some.reader c.len.result c.in-Some.is c.if-reader-id.true (c.len.ensures ∙ c.self.inside.bytes.ok.0)
