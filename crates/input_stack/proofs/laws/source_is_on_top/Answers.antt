use Rattle.input_stack.specs.View.{innermost}
use Rattle.input_stack.proofs.Given.{on_top}
use Rattle.input_stack.proofs.laws.source_is_on_top.Goals as goal

pub returns : goal.returns
returns c = λ table a b. on_top table (innermost c.args.stack.now) a b
