use Rattle.std.proofs.Common.{ap, arith}
use Rattle.input_state.specs.Stored.{Stored}
use Rattle.input_state.proofs.Refusing.{file_below}
use Rattle.input_state.proofs.Rooms.{files_open}
use Rattle.input_state.proofs.state.Input.open_file.Goals as goal

pub open-requires-clause-room : goal.open-requires-clause-room
open-requires-clause-room c =
    let i = c.self.inside in
    let s = c.args.self.now in
    let used = files_open i.held i.buffer.items i.buffer.items i.files c.self.invariant s c.self.view_is in
    let size = ap (λ (v : Stored). v.sizes.text_input_levels) c.self.view_is in
    omega (arith, used, size, c.self.invariant.file_levels, file_below s.sizes s.pending c.requires.room)
