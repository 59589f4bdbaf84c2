use Rattle.plain_tokens.proofs.LexRests.{less}
use Rattle.plain_tokens.proofs.laws.lexing_consumes.Goals as goal

pub returns : goal.returns
returns c = less
