use Rattle.std.proofs.Common.{sym, ◌∙◌}
use Rattle.gullet.proofs.Choosing.{row_ends}
use Rattle.gullet.proofs.expansion.row_expansion.Goals as goal

pub returns-in-Ends-clause-to : goal.returns-in-Ends-clause-to
returns-in-Ends-clause-to c page moves = row_ends page c.args.token c.args.call c.args.number c.in-Ends.ender (sym c.part_of.ensures ∙ c.in-Ends.is)
