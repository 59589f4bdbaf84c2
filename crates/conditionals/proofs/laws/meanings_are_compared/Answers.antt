use Rattle.conditionals.proofs.Alike.{meanings_are_compared}
use Rattle.conditionals.proofs.laws.meanings_are_compared.Goals as goal

pub returns : goal.returns
returns c = meanings_are_compared
