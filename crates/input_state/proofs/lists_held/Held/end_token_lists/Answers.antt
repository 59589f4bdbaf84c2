use Rattle.input_state.specs.HeldViews.{named}
use Rattle.input_state.proofs.Sounds.{settled_sound, settled_view, settled_macros}
use Rattle.input_state.proofs.lists_held.Held.end_token_lists.Goals as goal

pub invariant_of-self : goal.invariant_of-self
invariant_of-self c =
    let i = c.self.inside in
    let e = c.drop_finished.ensures in
    settled_sound i.lists c.drop_finished.new.lists i.stack c.drop_finished.new.self i.making i.builds.items (named i.table i.call) i.sizes _ c.self.invariant e.stands e.account e.kept e.lasting e.size e.parameter_size e.after

pub returns-clause-after : goal.returns-clause-after
returns-clause-after c =
    let i = c.self.inside in
    let e = c.drop_finished.ensures in
    settled_view i.lists c.drop_finished.new.lists i.stack c.drop_finished.new.self i.making i.builds.items (named i.table i.call) i.sizes _ c.self.invariant e.stands e.account e.kept e.lasting e.size e.parameter_size e.after c.args.self.now c.self.view_is

pub returns-clause-keeps : goal.returns-clause-keeps
returns-clause-keeps c =
    let i = c.self.inside in
    let e = c.drop_finished.ensures in
    settled_macros i.lists c.drop_finished.new.lists i.stack c.drop_finished.new.self i.making i.builds.items (named i.table i.call) i.sizes _ c.self.invariant e.stands e.account e.kept e.lasting e.size e.parameter_size e.after c.args.self.now c.self.view_is
