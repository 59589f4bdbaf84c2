use Rattle.std.proofs.Common.{arith}
use Rattle.std.proofs.lemmas.Bool.Decides.{nat_tests}
use Rattle.input_stack.proofs.stack.InputStack.call_full.Goals as goal

pub returns : goal.returns
returns c = grind (arith, nat_tests)
