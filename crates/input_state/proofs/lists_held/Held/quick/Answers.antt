use Rattle.input_state.specs.HeldViews.{named}
use Rattle.input_state.proofs.AtOnce.{some_sound, some_macros, some_others, some_gives, none_stays}
use Rattle.input_state.proofs.lists_held.Held.quick.Goals as goal

pub invariant_of-self : goal.invariant_of-self
invariant_of-self c =
    let i = c.self.inside in
    some_sound i.lists i.stack c.quick.new.self i.making i.builds.items (named i.table i.call) i.sizes _ c.self.invariant c.quick.ensures.stands c.quick.ensures.held c.quick.ensures.size c.quick.ensures.parameter_size c.quick.result c.quick.ensures.gives c.quick.ensures.stays

pub returns-clause-gives : goal.returns-clause-gives
returns-clause-gives c =
    let i = c.self.inside in
    some_gives i.lists i.stack c.quick.new.self i.making i.builds.items (named i.table i.call) i.sizes _ c.self.invariant c.quick.ensures.stands c.quick.ensures.held c.quick.ensures.size c.quick.ensures.parameter_size c.quick.result c.quick.ensures.gives c.args.self.now c.self.view_is

pub returns-clause-stays : goal.returns-clause-stays
returns-clause-stays c =
    let i = c.self.inside in
    none_stays i.lists i.stack c.quick.new.self i.making i.builds.items (named i.table i.call) i.sizes _ c.self.invariant c.quick.ensures.stands c.quick.ensures.held c.quick.ensures.size c.quick.ensures.parameter_size c.quick.result c.quick.ensures.stays c.args.self.now c.self.view_is

pub returns-clause-others : goal.returns-clause-others
returns-clause-others c =
    let i = c.self.inside in
    some_others i.lists i.stack c.quick.new.self i.making i.builds.items (named i.table i.call) i.sizes _ c.self.invariant c.quick.ensures.stands c.quick.ensures.held c.quick.ensures.size c.quick.ensures.parameter_size c.quick.result c.quick.ensures.gives c.quick.ensures.stays c.args.self.now c.self.view_is

pub returns-clause-keeps : goal.returns-clause-keeps
returns-clause-keeps c =
    let i = c.self.inside in
    some_macros i.lists i.stack c.quick.new.self i.making i.builds.items (named i.table i.call) i.sizes _ c.self.invariant c.quick.ensures.stands c.quick.ensures.held c.quick.ensures.size c.quick.ensures.parameter_size c.quick.result c.quick.ensures.gives c.quick.ensures.stays c.args.self.now c.self.view_is
