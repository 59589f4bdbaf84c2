use Rattle.reading_frames.proofs.Weights.{small}
use Rattle.reading_frames.proofs.laws.weights_are_small.Goals as goal

pub returns : goal.returns
returns c = λ fs. small fs
