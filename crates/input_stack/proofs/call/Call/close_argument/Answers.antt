use Rattle.std.proofs.Common.{sym}
use Rattle.input_stack.specs.Whole.{with_arguments}
use Rattle.input_stack.proofs.CallPulled.{closes}
use Rattle.input_stack.proofs.call.Call.close_argument.Goals as goal

pub returns-clause-closes : goal.returns-clause-closes
returns-clause-closes c = λ args. closes c.args.lists.now c.let_level_go.new.lists (with_arguments args c.args.self.now) c.replace-argument.result c.replace-argument.new.dest c.later.result c.is_some-went.result c.replace-argument.ensures.value c.replace-argument.ensures.after c.later.ensures (sym c.if-is_some.ensures) c.is_some-went.ensures c.let_level_go.ensures.account c.let_level_go.ensures.kept c.let_level_go.ensures.free
