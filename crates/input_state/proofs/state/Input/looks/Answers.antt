use Rattle.std.proofs.Common.{length, ap, arith}
use Rattle.input_state.proofs.Rooms.{rooms_in}
use Rattle.input_state.proofs.state.Input.looks.Goals as goal

pub looks-requires : goal.looks-requires
looks-requires c =
    let i = c.self.inside in
    rooms_in i.held.below i.files.files (length c.deref.result.now) c.self.invariant.lines (omega (arith, c.self.invariant.room, ap length c.deref.ensures.value))
