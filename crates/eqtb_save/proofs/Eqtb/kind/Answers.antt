use Rattle.std.proofs.Common.{ap, ◌∙◌}
use Rattle.equivalents.specs.Groups.{current_group}
use Rattle.eqtb_save.specs.Table.{Table}
use Rattle.eqtb_save.proofs.Innermost.{kind_is}
use Rattle.eqtb_save.proofs.Eqtb.kind.Goals as goal

pub returns : goal.returns
returns c = c.kind.ensures ∙ kind_is c.self.inside.groups.kinds ∙ ap (λ (t : Table). current_group t.groups) c.self.view_is
