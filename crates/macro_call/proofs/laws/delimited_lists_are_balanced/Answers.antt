use Rattle.macro_call.proofs.ArgumentMatches.{delimited_is, is_delimited_by}
use Rattle.macro_call.proofs.laws.delimited_lists_are_balanced.Goals as goal

pub returns : goal.returns
returns c = λ ds t. (delimited_is ds t, λ (a, e, h). is_delimited_by ds t a e h)
