use Rattle.input_stack.specs.Whole.{with_arguments}
use Rattle.input_stack.proofs.AtOnce.{argument_at_hand, body_at_hand}
use Rattle.input_stack.proofs.call.Call.is_at_hand.Goals as goal

pub returns-in-Some : goal.returns-in-Some
returns-in-Some c = λ args. argument_at_hand c.args.lists.now (with_arguments args c.args.self.now) c.in-Some.argument c.is_left.result c.in-Some.is c.is_left.ensures

pub returns-in-None : goal.returns-in-None
returns-in-None c = λ args. body_at_hand c.args.lists.now (with_arguments args c.args.self.now) c.peek.result c.is_text.result c.in-None.is c.peek.ensures c.is_text.ensures
