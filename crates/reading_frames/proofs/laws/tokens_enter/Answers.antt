use Rattle.reading_frames.proofs.Entering.{enters}
use Rattle.reading_frames.proofs.laws.tokens_enter.Goals as goal

pub returns : goal.returns
returns c = λ fs held work t stands copied. enters fs held work t stands copied
