use Rattle.std.proofs.Common.{arith, ap, length}
use Rattle.save_stack.specs.Mapped.{mapped}
use Rattle.eqtb_save.specs.Values.{numbered_value}
use Rattle.eqtb_save.specs.Table.{Table}
use Rattle.eqtb_save.proofs.Places.{placed}
use Rattle.eqtb_save.proofs.Eqtb.place.Goals as goal

pub index-requires : goal.index-requires
index-requires c = omega (arith, placed (mapped numbered_value c.self.inside.groups) c.args.self.now.groups (ap (λ (t : Table). t.groups) c.self.view_is) c.self.invariant.whole c.args.loc c.requires, c.locations-count.ensures.count, c.locations-count.ensures.fits)

pub returns-clause-within : goal.returns-clause-within
returns-clause-within c =
    omega (arith, placed (mapped numbered_value c.self.inside.groups) c.args.self.now.groups (ap (λ (t : Table). t.groups) c.self.view_is) c.self.invariant.whole c.args.loc c.requires, ap (λ (t : Table). length t.groups.levels) c.self.view_is, c.index.ensures)
