use Rattle.input_stack.proofs.CallTokens.{calls_spelt}
use Rattle.input_stack.proofs.laws.calls_are_spelt.Goals as goal

pub returns : goal.returns
returns c = calls_spelt
