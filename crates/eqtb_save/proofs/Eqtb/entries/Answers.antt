use Rattle.std.proofs.Common.{ap, arith}
use Rattle.save_stack.proofs.Mapped.{used_as}
use Rattle.equivalents.specs.Groups.{saves}
use Rattle.eqtb_save.specs.Table.{Table}
use Rattle.eqtb_save.specs.Values.{numbered_value}
use Rattle.eqtb_save.proofs.Eqtb.entries.Goals as goal

pub returns-clause-used : goal.returns-clause-used
returns-clause-used c = omega (arith, c.used.ensures.used, used_as numbered_value c.self.inside.groups, ap (λ (t : Table). saves t.groups) c.self.view_is)

pub returns-clause-fits : goal.returns-clause-fits
returns-clause-fits c = omega (arith, c.used.ensures.fits, c.self.invariant.save_size, ap (λ (t : Table). t.sizes.save_size) c.self.view_is)
