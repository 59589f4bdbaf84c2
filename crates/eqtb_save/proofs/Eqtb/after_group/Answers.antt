use Rattle.std.proofs.Common.{ap, arith}
use Rattle.equivalents.specs.Groups.{depth}
use Rattle.eqtb_save.specs.Table.{Table}
use Rattle.eqtb_save.proofs.Held.{same_held}
use Rattle.eqtb_save.proofs.Opening.{token_refused, kept_or_same, same_table, kept_table}
use Rattle.eqtb_save.proofs.Eqtb.after_group.Goals as goal

pub after_group-requires : goal.after_group-requires
after_group-requires c = omega (arith, c.requires, ap (λ (t : Table). depth t.groups) c.self.view_is)

pub invariant_of-self : goal.invariant_of-self
invariant_of-self c = kept_or_same _ _ _ _ _ _ _ _ c.self.invariant c.args.token c.after_group.result c.after_group.ensures.ok c.after_group.ensures.err

pub returns-clause-refused : goal.returns-clause-refused
returns-clause-refused c =
    token_refused c.args.self.now.sizes c.self.inside.groups c.args.self.now.groups (ap (λ (t : Table). t.groups) c.self.view_is) (omega (arith, c.self.invariant.save_size, ap (λ (t : Table). t.sizes.save_size) c.self.view_is))
    c.after_group.result c.after_group.ensures.room c.after_group.ensures.full

pub returns-clause-ok : goal.returns-clause-ok
returns-clause-ok c = kept_table c.self.inside.groups c.after_group.new.self _ c.self.inside.ending c.self.inside.sizes c.args.self.now c.self.view_is c.args.token c.after_group.result c.after_group.ensures.ok

pub returns-clause-err : goal.returns-clause-err
returns-clause-err c = same_table c.self.inside.groups c.after_group.new.self _ c.self.inside.ending c.self.inside.sizes c.args.self.now c.self.view_is c.after_group.result c.after_group.ensures.err

pub returns-clause-account : goal.returns-clause-account
returns-clause-account c =
    let sound = kept_or_same _ c.self.inside.groups c.after_group.new.self _ _ _ _ _ c.self.invariant c.args.token c.after_group.result c.after_group.ensures.ok c.after_group.ensures.err in
    same_held c.self.inside.groups c.after_group.new.self c.args.self.now.groups (ap (λ (t : Table). t.groups) c.self.view_is) c.self.invariant.whole sound.whole c.after_group.ensures.account
