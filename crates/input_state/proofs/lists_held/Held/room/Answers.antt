use Rattle.std.proofs.Common.{◌∙◌, ◌∷◌, [], ap}
use Rattle.plain_tokens.specs.Tables.{refused}
use Rattle.input_stack.specs.Pending.{used_levels}
use Rattle.input_stack.specs.View.{pending}
use Rattle.input_state.specs.HeldLists.{HeldLists, level_held}
use Rattle.input_state.specs.HeldViews.{named}
use Rattle.input_state.proofs.Levels.{levels_used}
use Rattle.input_state.proofs.Refusing.{levels_refused}
use Rattle.input_state.proofs.Sounds.{settled_sound, settled_view, settled_macros}
use Rattle.input_state.proofs.lists_held.Held.room.Goals as goal

pub invariant_of-self : goal.invariant_of-self
invariant_of-self c =
    let i = c.self.inside in
    let e = c.room.ensures in
    settled_sound i.lists c.room.new.lists i.stack c.room.new.self i.making i.builds.items (named i.table i.call) i.sizes _ c.self.invariant e.stands e.account e.kept e.lasting e.size e.parameter_size e.after

pub returns-clause-after : goal.returns-clause-after
returns-clause-after c =
    let i = c.self.inside in
    let e = c.room.ensures in
    settled_view i.lists c.room.new.lists i.stack c.room.new.self i.making i.builds.items (named i.table i.call) i.sizes _ c.self.invariant e.stands e.account e.kept e.lasting e.size e.parameter_size e.after c.args.self.now c.self.view_is

pub returns-clause-refused : goal.returns-clause-refused
returns-clause-refused c =
    let i = c.self.inside in
    c.room.ensures.refused
    ∙ levels_refused i.sizes (used_levels (pending i.lists i.stack)) _ i.stack.size (levels_used i.lists (pending i.lists i.stack)) c.self.invariant.sized.levels
    ∙ ap (λ (v : HeldLists). refused v.sizes (level_held v ∷ [])) c.self.view_is

pub returns-clause-keeps : goal.returns-clause-keeps
returns-clause-keeps c =
    let i = c.self.inside in
    let e = c.room.ensures in
    settled_macros i.lists c.room.new.lists i.stack c.room.new.self i.making i.builds.items (named i.table i.call) i.sizes _ c.self.invariant e.stands e.account e.kept e.lasting e.size e.parameter_size e.after c.args.self.now c.self.view_is
