use Rattle.eqtb_save.proofs.Listed.{others_leave}
use Rattle.eqtb_save.proofs.laws.others_leave_values.Goals as goal

pub returns : goal.returns
returns c = others_leave
