use Rattle.input_stack.specs.View.{innermost}
use Rattle.input_stack.proofs.Helds.{held_puts}
use Rattle.input_stack.proofs.laws.puts_are_held.Goals as goal

pub returns : goal.returns
returns c = λ table h. held_puts table (innermost c.args.stack.now) h
