use Rattle.std.proofs.Common.{ap, ◌∙◌}
use Rattle.equivalents.specs.Groups.{depth}
use Rattle.eqtb_save.specs.Table.{Table}
use Rattle.eqtb_save.proofs.Eqtb.depth.Goals as goal

pub returns : goal.returns
returns c = c.depth.ensures ∙ ap (λ (t : Table). depth t.groups) c.self.view_is
