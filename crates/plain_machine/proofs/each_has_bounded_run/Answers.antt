use Rattle.plain_machine.proofs.Falling.{falls}
use Rattle.plain_machine.proofs.Fronts.{has_bounded}
use Rattle.plain_machine.proofs.each_has_bounded_run.Goals as goal

pub returns : goal.returns
returns c = λ sizes s k. has_bounded sizes falls s k
