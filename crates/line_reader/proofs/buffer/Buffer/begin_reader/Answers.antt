use Rattle.line_reader.proofs.Views.{few_readers}
use Rattle.line_reader.proofs.buffer.Buffer.begin_reader.Goals as goal

pub invariant_of-self : goal.invariant_of-self
invariant_of-self c = few_readers _ _ _ _ _ _ _ _ _ _ _ c.self.view_is c.self.invariant c.args.id c.begin.new.windows.items _ c.begin.ensures.after c.requires c.begin.ensures.capacity
