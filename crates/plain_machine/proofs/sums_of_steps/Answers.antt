use Rattle.plain_machine.proofs.Falling.{falls}
use Rattle.plain_machine.proofs.Sums.{joined, parted}
use Rattle.plain_machine.proofs.sums_of_steps.Goals as goal

pub returns : goal.returns
returns c = λ s j k ms t. (parted falls s j k ms t, joined s j k ms t)
