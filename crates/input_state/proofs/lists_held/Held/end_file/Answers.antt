use Rattle.input_stack.specs.View.{pending}
use Rattle.input_state.specs.HeldViews.{named}
use Rattle.input_state.proofs.Sounds.{line_sound, end_puts}
use Rattle.input_state.proofs.FileLines.{file_on_top, none_in_front, end_view}
use Rattle.input_state.proofs.lists_held.Held.end_file.Goals as goal

pub end_file-id-requires : goal.end_file-id-requires
end_file-id-requires c =
    let i = c.self.inside in
    file_on_top i.lists i.making i.builds.items (named i.table i.call) i.sizes i.stack c.args.self.now c.self.view_is c.requires.front c.requires.«open»

pub invariant_of-self : goal.invariant_of-self
invariant_of-self c =
    let i = c.self.inside in
    let e = c.end_file-id.ensures in
    let s = c.self.invariant.shared in
    let none = none_in_front i.lists i.making i.builds.items (named i.table i.call) i.sizes i.stack c.args.self.now c.self.view_is c.requires.front in
    line_sound i.lists i.stack c.end_file-id.new.self i.making i.builds.items (named i.table i.call) i.sizes _ c.self.invariant (e.stands i.lists s.stands) e.held e.size e.parameter_size (end_puts (pending i.lists i.stack) (pending i.lists c.end_file-id.new.self) c.end_file-id.result none (e.after i.lists))

pub returns : goal.returns
returns c =
    let i = c.self.inside in
    end_view i.lists i.making i.builds.items (named i.table i.call) i.sizes (pending i.lists i.stack) (pending i.lists c.end_file-id.new.self) c.end_file-id.result c.args.self.now (c.end_file-id.ensures.after i.lists) c.self.view_is
