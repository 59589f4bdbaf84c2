use Rattle.input_state.proofs.Closing.{closed_sound, closed_view, closed_macros}
use Rattle.input_state.proofs.lists_held.Held.close_group.Goals as goal

pub invariant_of-self : goal.invariant_of-self
invariant_of-self c =
    let i = c.self.inside in
    let e = c.close_group.ensures in
    closed_sound i.lists c.close_group.new.lists i.stack i.making i.builds.items i.table c.close_group.new.self i.call i.sizes _ c.self.invariant
    c.args.self.now c.self.view_is c.requires.open c.requires.calls c.recall.ensures.outside e.after e.account e.kept e.lasting e.length

pub returns-clause-after : goal.returns-clause-after
returns-clause-after c =
    let i = c.self.inside in
    let e = c.close_group.ensures in
    closed_view i.lists c.close_group.new.lists i.stack i.making i.builds.items i.table c.close_group.new.self i.call i.sizes _ c.self.invariant
    c.args.self.now c.self.view_is c.requires.open c.requires.calls c.recall.ensures.outside e.after e.account e.kept e.lasting e.length

pub returns-clause-keeps : goal.returns-clause-keeps
returns-clause-keeps c =
    let i = c.self.inside in
    let e = c.close_group.ensures in
    closed_macros i.lists c.close_group.new.lists i.stack i.making i.builds.items i.table c.close_group.new.self i.call i.sizes _ c.self.invariant
    c.args.self.now c.self.view_is c.requires.open c.requires.calls c.recall.ensures.outside e.after e.account e.kept e.lasting e.length
