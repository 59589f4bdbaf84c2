use Rattle.std.proofs.Common.{◌≡◌, [], ◌∷◌, ap, ◌∙◌, arith}
use Rattle.eqtb_save.specs.Table.{Table}
use Rattle.eqtb_save.proofs.Held.{same_held}
use Rattle.eqtb_save.proofs.Opening.{no_entry, no_level, group, used_is, group_refused, opened_or_same, same_table, opened_table}
use Rattle.eqtb_save.proofs.Eqtb.open_group.Goals as goal

pub returns-then-used-self-clause-refused : goal.returns-then-used-self-clause-refused
returns-then-used-self-clause-refused c =
    let groups = ap (λ (t : Table). t.groups) c.self.view_is in
    no_entry c.args.self.now.sizes c.self.inside.groups c.args.self.now.groups groups (omega (arith, c.self.invariant.save_size, ap (λ (t : Table). t.sizes.save_size) c.self.view_is))
    (group c.args.self.now.sizes c.args.self.now.groups ∷ []) _ c.refusal.ensures

pub returns-then-depth-self-clause-refused : goal.returns-then-depth-self-clause-refused
returns-then-depth-self-clause-refused c =
    let groups = ap (λ (t : Table). t.groups) c.self.view_is in
    let sized : c.self.inside.groups.size ≡ c.args.self.now.sizes.save_size = c.self.invariant.save_size ∙ ap (λ (t : Table). t.sizes.save_size) c.self.view_is in
    no_level c.args.self.now.sizes c.self.inside.groups c.args.self.now.groups groups sized
    (omega (arith, c.if-used-self.false, c.used.ensures.used, c.used.ensures.fits, c.self.invariant.save_size, sized, used_is c.args.self.now.sizes c.self.inside.groups c.args.self.now.groups groups sized))
    c.self.inside.sizes.grouping_levels (omega (arith, c.depth.ensures, c.if-depth-self.true)) (ap (λ (t : Table). t.sizes.grouping_levels) c.self.view_is)

pub invariant_of-self : goal.invariant_of-self
invariant_of-self c =
    opened_or_same _ _ _ _ _ _ _ _ c.self.invariant c.args.kind c.open_group.result c.open_group.ensures.ok c.open_group.ensures.err (omega (arith, c.self.invariant.levels, c.depth.ensures, c.if-depth-self.false))

pub returns-clause-refused : goal.returns-clause-refused
returns-clause-refused c =
    group_refused c.args.self.now.sizes c.self.inside.groups c.args.self.now.groups (ap (λ (t : Table). t.groups) c.self.view_is) (omega (arith, c.self.invariant.save_size, ap (λ (t : Table). t.sizes.save_size) c.self.view_is))
    c.open_group.result c.open_group.ensures.room c.open_group.ensures.full (omega (arith, c.self.invariant.levels, c.depth.ensures, c.if-depth-self.false, ap (λ (t : Table). t.sizes.grouping_levels) c.self.view_is))

pub returns-clause-ok : goal.returns-clause-ok
returns-clause-ok c =
    opened_table c.self.inside.groups c.open_group.new.self _ c.self.inside.ending c.self.inside.sizes c.args.self.now c.self.view_is c.args.kind c.open_group.result c.self.invariant.whole c.open_group.ensures.ok

pub returns-clause-err : goal.returns-clause-err
returns-clause-err c = same_table c.self.inside.groups c.open_group.new.self _ c.self.inside.ending c.self.inside.sizes c.args.self.now c.self.view_is c.open_group.result c.open_group.ensures.err

pub returns-clause-account : goal.returns-clause-account
returns-clause-account c =
    let sound = opened_or_same _ c.self.inside.groups c.open_group.new.self _ _ _ _ _ c.self.invariant c.args.kind c.open_group.result c.open_group.ensures.ok c.open_group.ensures.err (omega (arith, c.self.invariant.levels, c.depth.ensures, c.if-depth-self.false)) in
    same_held c.self.inside.groups c.open_group.new.self c.args.self.now.groups (ap (λ (t : Table). t.groups) c.self.view_is) c.self.invariant.whole sound.whole c.open_group.ensures.account
