use Rattle.input_state.proofs.Recalling.{enter_sound}
use Rattle.input_state.proofs.lists_held.Held.enter_name.Goals as goal

pub invariant_of-self : goal.invariant_of-self
invariant_of-self c =
    let i = c.self.inside in
    enter_sound i.lists i.stack i.making i.builds.items i.table c.enter.new.self i.call i.sizes _ c.self.invariant c.enter.ensures.after c.enter.ensures.account
