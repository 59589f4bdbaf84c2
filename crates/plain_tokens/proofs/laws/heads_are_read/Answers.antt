use Rattle.plain_tokens.proofs.Heads.{headed_hats, headed_none}
use Rattle.plain_tokens.proofs.laws.heads_are_read.Goals as goal

pub returns : goal.returns
returns c = record { shortened = headed_hats; first = headed_none }
