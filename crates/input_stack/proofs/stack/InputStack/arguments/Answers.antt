use Rattle.std.proofs.Common.{arith}
use Rattle.input_stack.specs.View.{innermost}
use Rattle.input_stack.proofs.ListsEnded.{arguments_are}
use Rattle.input_stack.proofs.Tops.{arguments_in_use}
use Rattle.input_stack.proofs.Wholes.{arguments_count}
use Rattle.input_stack.proofs.stack.InputStack.arguments.Goals as goal

pub overflow_cast-result : goal.overflow_cast-result
overflow_cast-result c =
    let s = c.args.self.now in
    omega (arith, c.len.ensures, s.arguments.ok, c.requires.few, c.requires.few_small)

pub returns-clause-standing : goal.returns-clause-standing
returns-clause-standing c = λ table stands.
    let s = c.args.self.now in
    omega (arith, c.len.ensures, s.arguments.ok, arguments_count s c.requires, arguments_are table (innermost s))

pub returns-clause-used : goal.returns-clause-used
returns-clause-used c = λ table stands unfinished.
    let s = c.args.self.now in
    omega (arith, c.len.ensures, s.arguments.ok, arguments_count s c.requires, arguments_in_use table (innermost s) stands.read unfinished)
