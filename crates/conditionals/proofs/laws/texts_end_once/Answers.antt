use Rattle.conditionals.proofs.Passed.{texts_end_once}
use Rattle.conditionals.proofs.laws.texts_end_once.Goals as goal

pub returns : goal.returns
returns c = texts_end_once
