use Rattle.std.proofs.Common.{sym}
use Rattle.cs_hash.proofs.Paths.{absent, present}
use Rattle.cs_hash.proofs.CsHash.find.Goals as goal

pub returns-in-Entered : goal.returns-in-Entered
returns-in-Entered c = sym (present _ _ _ _ c.requires c.in-Entered.ensures)

pub returns-in-Vacant : goal.returns-in-Vacant
returns-in-Vacant c = sym (absent _ _ _ _ c.requires c.in-Vacant.ensures)
