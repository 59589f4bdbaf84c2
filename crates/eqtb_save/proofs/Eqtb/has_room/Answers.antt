use Rattle.std.proofs.Common.{ap}
use Rattle.eqtb_save.specs.Table.{Table}
use Rattle.eqtb_save.proofs.Names.{has_room_by}
use Rattle.eqtb_save.proofs.Eqtb.has_room.Goals as goal

pub returns : goal.returns
returns c = has_room_by c.args.self.now c.names.result c.self.inside.sizes.hash_size c.names.ensures.count (ap (λ (t : Table). t.sizes.hash_size) c.self.view_is)
