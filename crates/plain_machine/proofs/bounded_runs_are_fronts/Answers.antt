use Rattle.plain_machine.proofs.Falling.{falls}
use Rattle.plain_machine.proofs.Fronts.{front}
use Rattle.plain_machine.proofs.bounded_runs_are_fronts.Goals as goal

pub returns : goal.returns
returns c = λ sizes s k ms t end h. front sizes s k ms t falls end h
