use Rattle.conditionals.proofs.Passed.{conditionals_are_passed}
use Rattle.conditionals.proofs.laws.conditionals_are_passed.Goals as goal

pub returns : goal.returns
returns c = conditionals_are_passed
