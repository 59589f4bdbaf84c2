use Rattle.std.proofs.Common.{refl}
use Rattle.eqtb_save.specs.Table.{token_kept}
use Rattle.input_state.proofs.Grouping.{either_table, still_sound}
use Rattle.input_state.proofs.lists_held.Held.after_group.Goals as goal

pub invariant_of-self : goal.invariant_of-self
invariant_of-self c =
    let i = c.self.inside in
    let e = c.after_group.ensures in
    still_sound i.lists i.stack i.making i.builds.items i.table c.after_group.new.self i.call i.sizes _ c.self.invariant
    (either_table c.after_group.result i.table c.after_group.new.self (token_kept i.table c.args.token) (record { names = refl; sizes = refl }) e.ok e.err) e.account
