use Rattle.input_stack.specs.View.{pending}
use Rattle.input_state.specs.HeldViews.{named}
use Rattle.input_state.proofs.Sounds.{line_sound, at_line_puts}
use Rattle.input_state.proofs.FileLines.{file_on_top, line_view}
use Rattle.input_state.proofs.lists_held.Held.begin_line.Goals as goal

pub begin_line-requires : goal.begin_line-requires
begin_line-requires c =
    let i = c.self.inside in
    file_on_top i.lists i.making i.builds.items (named i.table i.call) i.sizes i.stack c.args.self.now c.self.view_is c.requires.front c.requires.«open»

pub invariant_of-self : goal.invariant_of-self
invariant_of-self c =
    let i = c.self.inside in
    let e = c.begin_line.ensures in
    let s = c.self.invariant.shared in
    line_sound i.lists i.stack c.begin_line.new.self i.making i.builds.items (named i.table i.call) i.sizes _ c.self.invariant (e.stands i.lists s.stands) e.held e.size e.parameter_size (at_line_puts (pending i.lists i.stack) (pending i.lists c.begin_line.new.self) c.args.line (e.after i.lists))

pub returns : goal.returns
returns c =
    let i = c.self.inside in
    line_view i.lists i.making i.builds.items (named i.table i.call) i.sizes (pending i.lists i.stack) (pending i.lists c.begin_line.new.self) c.args.line c.args.self.now c.self.view_is (c.begin_line.ensures.after i.lists)
