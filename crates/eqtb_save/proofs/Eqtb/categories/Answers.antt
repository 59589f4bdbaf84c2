use Rattle.std.proofs.Common.{ap, ◌∙◌}
use Rattle.eqtb_save.specs.Table.{Table}
use Rattle.eqtb_save.proofs.Eqtb.categories.Goals as goal

pub returns : goal.returns
returns c = c.self.invariant.codes ∙ ap (λ (t : Table). t.groups.now.categories) c.self.view_is
