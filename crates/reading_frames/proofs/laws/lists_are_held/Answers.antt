use Rattle.reading_frames.proofs.Held.{are_held}
use Rattle.reading_frames.proofs.laws.lists_are_held.Goals as goal

pub returns : goal.returns
returns c = λ f fs held r work stands. are_held f held r stands.0
