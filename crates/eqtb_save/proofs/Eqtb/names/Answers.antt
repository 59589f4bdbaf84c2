use Rattle.std.proofs.Common.{◌≡◌, ◌+◌, length, ap, arith}
use Rattle.eqtb_save.specs.Table.{Table}
use Rattle.eqtb_save.proofs.Places.{names_last}
use Rattle.eqtb_save.proofs.Eqtb.names.Goals as goal
use Rattle.eqtb_save.proofs.Eqtb.names.Goals.{After-locations}

counted : (c : After-locations) → 2918 + length c.args.self.now.groups.now.meanings ≡ c.locations.result
counted c = omega (arith, names_last _ c.self.invariant.whole, c.locations.ensures.count, ap (λ (t : Table). length t.groups.now.meanings) c.self.view_is)

pub overflow_sub-result : goal.overflow_sub-result
overflow_sub-result c = omega (arith, counted c)

pub returns-clause-count : goal.returns-clause-count
returns-clause-count c = omega (arith, counted c)
