use Rattle.macro_call.proofs.ArgumentSearch.{shortest}
use Rattle.macro_call.proofs.laws.arguments_are_shortest.Goals as goal

pub returns : goal.returns
returns c = shortest
