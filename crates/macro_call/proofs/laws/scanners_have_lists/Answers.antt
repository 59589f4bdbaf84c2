use Rattle.macro_call.proofs.Resumed.{has_lists}
use Rattle.macro_call.proofs.laws.scanners_have_lists.Goals as goal

pub returns : goal.returns
returns c = has_lists
