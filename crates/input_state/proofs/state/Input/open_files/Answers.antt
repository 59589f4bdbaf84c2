use Rattle.std.proofs.Common.{◌∙◌, ap, arith}
use Rattle.input_state.specs.Stored.{Stored}
use Rattle.input_state.proofs.Rooms.{files_open, lines_end}
use Rattle.input_state.proofs.state.Input.open_files.Goals as goal

pub returns-clause-is : goal.returns-clause-is
returns-clause-is c =
    let i = c.self.inside in
    c.count.ensures.is ∙ files_open i.held i.buffer.items i.buffer.items i.files c.self.invariant c.args.self.now c.self.view_is

pub returns-clause-lines : goal.returns-clause-lines
returns-clause-lines c =
    let i = c.self.inside in
    let t = c.self.invariant in
    let lines = lines_end i.held i.buffer.items i.buffer.items i.files t c.args.self.now c.self.view_is in
    omega (arith, t.room, t.size, lines, ap (λ (v : Stored). v.sizes.buffer_size) c.self.view_is)
