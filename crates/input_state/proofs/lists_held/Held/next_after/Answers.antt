use Rattle.input_state.proofs.Grouping.{given_table, still_sound}
use Rattle.input_state.proofs.lists_held.Held.next_after.Goals as goal

pub invariant_of-self : goal.invariant_of-self
invariant_of-self c =
    let i = c.self.inside in
    let e = c.next_closing.ensures in
    still_sound i.lists i.stack i.making i.builds.items i.table c.next_closing.new.self i.call i.sizes _ c.self.invariant
    (given_table c.next_closing.result i.table c.next_closing.new.self e.step) e.account
