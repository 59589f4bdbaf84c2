use Rattle.macro_call.proofs.PlainScans.{scans_gather}
use Rattle.macro_call.proofs.laws.scans_gather.Goals as goal

pub returns : goal.returns
returns c = scans_gather
