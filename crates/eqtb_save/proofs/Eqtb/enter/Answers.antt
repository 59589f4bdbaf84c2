use Rattle.std.proofs.Common.{◌+◌, ◌∙◌, ap}
use Rattle.equivalents.specs.Groups.{Groups}
use Rattle.equivalents.specs.Holding.{lists_held}
use Rattle.token_lists.specs.Holders.{times}
use Rattle.save_stack.specs.Mapped.{mapped}
use Rattle.eqtb_save.specs.Values.{numbered_value}
use Rattle.eqtb_save.specs.Table.{Table}
use Rattle.eqtb_save.proofs.Entering.{room_for_one, entered_groups, entered_table, entered_holds, entered_sound}
use Rattle.eqtb_save.proofs.Eqtb.enter.Goals as goal

pub add-requires : goal.add-requires
add-requires c = room_for_one (mapped numbered_value c.self.inside.groups) c.args.self.now (ap (λ (t : Table). t.groups) c.self.view_is) c.self.invariant.whole (c.self.invariant.most ∙ ap (λ (t : Table). 2918 + 514 + t.sizes.hash_size) c.self.view_is) c.requires

pub invariant_of-self : goal.invariant_of-self
invariant_of-self c = entered_sound c.self.inside.groups c.add.new.self c.self.invariant.whole c.add.ensures.after _ _ _ _ _ _ c.self.invariant

pub returns-clause-after : goal.returns-clause-after
returns-clause-after c = entered_table c.self.inside.groups c.add.new.self c.self.invariant.whole c.add.ensures.after _ _ _ c.args.self.now c.self.view_is

pub returns-clause-account : goal.returns-clause-account
returns-clause-account c = λ h.
    ap (λ (g : Groups). times h (lists_held g)) (entered_groups c.self.inside.groups c.add.new.self c.self.invariant.whole c.add.ensures.after _ (ap (λ (t : Table). t.groups) c.self.view_is))
    ∙ entered_holds c.args.self.now.groups h
