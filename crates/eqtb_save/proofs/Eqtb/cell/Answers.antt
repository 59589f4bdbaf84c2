use Rattle.std.proofs.Common.{sym, ap, arith}
use Rattle.eqtb_save.specs.Table.{Table}
use Rattle.eqtb_save.proofs.Names.{within, past_names, cell_meaning, cell_held}
use Rattle.eqtb_save.proofs.Eqtb.cell.Goals as goal

pub get-requires : goal.get-requires
get-requires c = within c.self.inside.groups c.self.invariant.whole c.args.self.now.groups (ap (λ (t : Table). t.groups) c.self.view_is) c.args.name c.in_ok-at.at (sym c.in_ok-at.ensures) (omega (arith, c.if-at-names.true, c.names.ensures.count))

pub returns-then-at-names-clause-meaning : goal.returns-then-at-names-clause-meaning
returns-then-at-names-clause-meaning c = cell_meaning c.self.inside.groups c.self.invariant.whole c.args.self.now.groups (ap (λ (t : Table). t.groups) c.self.view_is) c.args.name c.in_ok-at.at (sym c.in_ok-at.ensures) (omega (arith, c.if-at-names.true, c.names.ensures.count)) c.get.result.now c.get.ensures (λ x. x.now) c.meant.result c.meant.ensures

pub returns-then-at-names-clause-held : goal.returns-then-at-names-clause-held
returns-then-at-names-clause-held c = cell_held c.self.inside.groups c.self.invariant.whole c.args.self.now.groups (ap (λ (t : Table). t.groups) c.self.view_is) c.args.name c.in_ok-at.at (sym c.in_ok-at.ensures) (omega (arith, c.if-at-names.true, c.names.ensures.count)) c.get.result.now c.get.ensures (λ x. x.now) c.meant.result c.meant.ensures

pub returns-clause-meaning : goal.returns-clause-meaning
returns-clause-meaning c = past_names c.args.self.now.groups.now.meanings c.args.name c.in_ok-at.at (sym c.in_ok-at.ensures) (omega (arith, c.if-at-names.false, c.names.ensures.count))
