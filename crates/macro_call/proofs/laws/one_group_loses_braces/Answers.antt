use Rattle.macro_call.proofs.ArgumentGroups.{one_group}
use Rattle.macro_call.proofs.laws.one_group_loses_braces.Goals as goal

pub returns : goal.returns
returns c = one_group
