use Rattle.plain_tokens.proofs.LexNames.{name_read}
use Rattle.plain_tokens.proofs.laws.names_are_read.Goals as goal

pub returns : goal.returns
returns c = name_read
