use Rattle.std.proofs.Common.{subst}
use Rattle.plain_tokens.specs.Pending.{all_puts}
use Rattle.input_state.specs.AtLocations.{SetsList}
use Rattle.input_state.specs.HeldLists.{first_list}
use Rattle.input_state.specs.Stored.{Stored}
use Rattle.input_state.proofs.Sounds.{ok_of}
use Rattle.input_state.proofs.Joined.{keeps, listed}
use Rattle.input_state.proofs.state.Input.set_list.Goals as goal

pub returns-clause-keeps : goal.returns-clause-keeps
returns-clause-keeps c =
    let i = c.self.inside in
    keeps i.held c.set_list.new.self i.buffer.items i.buffer.items i.files i.files c.args.self.now c.self.view_is c.set_list.ensures.keeps

pub returns-clause-sets : goal.returns-clause-sets
returns-clause-sets c =
    let i = c.self.inside in
    let s = c.args.self.now in
    ok_of c.set_list.result _ _ c.set_list.ensures.sets
    (λ k. subst (λ (v : Stored). SetsList c.args.global s.groups c.set_list.new.self.groups (all_puts s.pending) s.lists c.set_list.new.self.lists (first_list v.builds) c.args.loc) c.self.view_is
    (listed i.held i.buffer.items i.files s c.self.view_is c.args.global _ _ _ c.args.loc k))
