use Rattle.conditionals.proofs.Counted.{texts_are_counted}
use Rattle.conditionals.proofs.laws.texts_are_counted.Goals as goal

pub returns : goal.returns
returns c = texts_are_counted
