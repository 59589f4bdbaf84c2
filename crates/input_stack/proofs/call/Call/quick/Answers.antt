use Rattle.input_stack.specs.Whole.{with_arguments}
use Rattle.input_stack.proofs.AtOnce.{some_argument}
use Rattle.input_stack.proofs.call.Call.quick.Goals as goal

pub returns-in-Some-clause-pulls : goal.returns-in-Some-clause-pulls
returns-in-Some-clause-pulls c = λ args held. some_argument c.args.lists.now (with_arguments args c.args.self.now) c.in-Some.argument c.pull.new.self c.pull.result c.in-Some.is c.pull.ensures.same c.pull.ensures.at_next c.pull.ensures.token (record { body = c.requires.body; argument = c.requires.argument; held = held })
