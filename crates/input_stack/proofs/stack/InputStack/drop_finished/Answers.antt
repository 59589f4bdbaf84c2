use Rattle.std.proofs.Common.{◌∙◌, sym}
use Rattle.input_stack.specs.View.{pending}
use Rattle.input_stack.proofs.Tops.{finished_some}
use Rattle.input_stack.proofs.stack.InputStack.drop_finished.Goals as goal

pub drop_top-requires-clause-in_front : goal.drop_top-requires-clause-in_front
drop_top-requires-clause-in_front c = finished_some (pending c.loop-self.lists c.loop-self.self).puts (sym c.is_finished.ensures ∙ c.loop-self-test.true)

pub close_argument-requires-clause-unfinished : goal.close_argument-requires-clause-unfinished
close_argument-requires-clause-unfinished c = sym c.is_finished.ensures ∙ c.loop-self-test.false

pub returns-clause-after : goal.returns-clause-after
returns-clause-after c = c.close_argument.ensures.after ∙ c.loop-self.invariant.settled
