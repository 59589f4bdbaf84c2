use Rattle.std.proofs.Common.{arith}
use Rattle.token_lists.specs.Ids.{id_of}
use Rattle.macro_call.proofs.Places.{next_by}
use Rattle.macro_call.proofs.scan.ArgScan.next_place.Goals as goal

pub returns : goal.returns
returns c = next_by c.args.lists.now (id_of c.args.list.now) c.args.self.now c.behind_place.result c.requires.filled (omega (arith, c.requires.filled.few, c.if-self-eq9.false)) c.requires.ends (c.behind_place.ensures (id_of c.args.list.now) c.requires.on)
