use Rattle.token_lists.specs.Table.{tokens_at}
use Rattle.macro_call.specs.Scans.{scan_of}
use Rattle.macro_call.proofs.PlainScans.{scans_gather}
use Rattle.macro_call.proofs.scan.ArgScan.noted.Goals as goal

pub returns-clause-stands : goal.returns-clause-stands
returns-clause-stands c = λ table macro fed. scans_gather.noted (tokens_at table macro) (scan_of table c.args.self.now) fed
