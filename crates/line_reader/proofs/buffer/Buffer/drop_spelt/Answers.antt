use Rattle.line_reader.proofs.Views.{name_cleared, none_of}
use Rattle.line_reader.proofs.buffer.Buffer.drop_spelt.Goals as goal

pub returns-then-is_none : goal.returns-then-is_none
returns-then-is_none c = rw (c.truncate.ensures.items) (name_cleared _ _ _ _ _ _ _ _ _ _ _ c.self.view_is c.self.invariant (none_of _ c.if-is_none.ensures))
