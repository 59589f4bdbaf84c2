use Rattle.plain_tokens.proofs.LexHats.{replaced}
use Rattle.plain_tokens.proofs.laws.double_hats.Goals as goal

pub returns : goal.returns
returns c = replaced
