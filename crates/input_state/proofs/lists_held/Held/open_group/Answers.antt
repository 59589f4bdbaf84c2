use Rattle.std.proofs.Common.{refl}
use Rattle.eqtb_save.specs.Table.{group_opened}
use Rattle.input_state.proofs.Grouping.{either_table, still_sound}
use Rattle.input_state.proofs.lists_held.Held.open_group.Goals as goal

pub invariant_of-self : goal.invariant_of-self
invariant_of-self c =
    let i = c.self.inside in
    let e = c.open_group.ensures in
    still_sound i.lists i.stack i.making i.builds.items i.table c.open_group.new.self i.call i.sizes _ c.self.invariant
    (either_table c.open_group.result i.table c.open_group.new.self (group_opened i.table c.args.kind) (record { names = refl; sizes = refl }) e.ok e.err) e.account
