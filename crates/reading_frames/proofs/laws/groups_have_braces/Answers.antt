use Rattle.reading_frames.proofs.Braces.{few_groups}
use Rattle.reading_frames.proofs.laws.groups_have_braces.Goals as goal

pub returns : goal.returns
returns c = λ fs held shallow. few_groups fs held shallow
