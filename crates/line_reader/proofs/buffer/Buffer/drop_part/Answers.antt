use Rattle.std.proofs.Common.{ap, ◌∙◌}
use Rattle.std.specs.Prelude.{Some}
use Rattle.line_reader.proofs.Views.{part_gone}
use Rattle.line_reader.proofs.buffer.Buffer.drop_part.Goals as goal

pub returns : goal.returns
returns c = rw (c.truncate.ensures.items) (part_gone _ _ _ _ _ _ _ _ _ _ _ c.self.view_is c.self.invariant c.args.id (c.in-Some.is ∙ ap Some c.if-reader-id.false))
