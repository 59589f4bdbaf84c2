use Rattle.std.proofs.Common.{ℕ, ap, arith, length, subst}
use Rattle.save_stack.specs.Groups.{top, IsAt}
use Rattle.eqtb_save.specs.Table.{Table}
use Rattle.eqtb_save.proofs.Places.{read, read_held}
use Rattle.eqtb_save.proofs.Eqtb.get.Goals as goal

pub get-requires : goal.get-requires
get-requires c = omega (arith, c.place.ensures.within, ap (λ (t : Table). length t.groups.levels) c.self.view_is)

pub returns-clause-value : goal.returns-clause-value
returns-clause-value c =
    read c.self.inside.groups c.args.self.now.groups (ap (λ (t : Table). t.groups) c.self.view_is) c.self.invariant.whole c.args.loc c.get.result.now c.requires
    (subst (λ (k : ℕ). IsAt (top c.self.inside.groups.maps) k c.get.result.now) c.place.ensures.number c.get.ensures)

pub returns-clause-held : goal.returns-clause-held
returns-clause-held c =
    read_held c.self.inside.groups c.args.self.now.groups (ap (λ (t : Table). t.groups) c.self.view_is) c.self.invariant.whole c.args.loc c.get.result.now c.requires
    (subst (λ (k : ℕ). IsAt (top c.self.inside.groups.maps) k c.get.result.now) c.place.ensures.number c.get.ensures)
