use Rattle.std.proofs.Common.{ap}
use Rattle.input_stack.specs.Whole.{with_arguments}
use Rattle.input_stack.specs.Wholes.{whole}
use Rattle.input_stack.proofs.LevelItems.{call_pulls}
use Rattle.input_stack.proofs.pull.pull_level.Goals as goal

pub returns-in-Some-pull-clause-pulls : goal.returns-in-Some-pull-clause-pulls
returns-in-Some-pull-clause-pulls c = call_pulls c.args.lists.now c.pull-in-Call.new.lists c.args.categories.now c.args.bytes.now (whole c.args.args.now c.args.level.now) (with_arguments c.args.args.now c.in-Call.call) (with_arguments c.args.args.now c.pull-in-Call.new.self) c.pull-in-Call.result c.in-Some-pull.token (ap (whole c.args.args.now) c.in-Call.is) c.pull-in-Call.ensures.pulls c.in-Some-pull.is
