use Rattle.plain_tokens.proofs.LexRuns.{lexed_by_head}
use Rattle.plain_tokens.proofs.laws.lines_give_by_head.Goals as goal

pub returns : goal.returns
returns c = lexed_by_head
