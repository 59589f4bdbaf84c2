use Rattle.std.proofs.Common.{ap}
use Rattle.input_stack.specs.Whole.{with_arguments}
use Rattle.input_stack.specs.Wholes.{whole}
use Rattle.input_stack.proofs.LevelItems.{call_closes}
use Rattle.input_stack.proofs.levels.close_argument.Goals as goal

pub returns-in-Call-clause-closes : goal.returns-in-Call-clause-closes
returns-in-Call-clause-closes c = λ args. call_closes c.args.lists.now c.close_argument.new.lists (whole args c.args.level.now) (with_arguments args c.in-Call.call) (with_arguments args c.close_argument.new.self) c.close_argument.result (ap (whole args) c.in-Call.is) (c.close_argument.ensures.closes args)
