use Rattle.input_stack.proofs.Flats.{law_used, law_arguments}
use Rattle.input_stack.proofs.laws.puts_are_one_list.Goals as goal

pub returns-clause-used : goal.returns-clause-used
returns-clause-used c = law_used

pub returns-clause-arguments : goal.returns-clause-arguments
returns-clause-arguments c = law_arguments
