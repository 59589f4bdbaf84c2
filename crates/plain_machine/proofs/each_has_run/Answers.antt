use Rattle.plain_machine.proofs.Falling.{falls}
use Rattle.plain_machine.proofs.Pauses.{has_run}
use Rattle.plain_machine.proofs.each_has_run.Goals as goal

pub returns : goal.returns
returns c = λ s k. has_run falls k s
