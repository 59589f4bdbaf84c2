use Rattle.input_state.proofs.AtOnce.{once_tied, some_room, some_reads}
use Rattle.input_state.proofs.Joined.{keeps}
use Rattle.input_state.proofs.Rooms.{rooms_length}
use Rattle.input_state.proofs.state.Input.quick.Goals as goal

pub invariant_of-self : goal.invariant_of-self
invariant_of-self c =
    let i = c.self.inside in
    once_tied i.held c.quick.new.self i.buffer.items i.files c.quick.new.self.puts c.quick.ensures.others c.self.invariant

pub returns-clause-gives : goal.returns-clause-gives
returns-clause-gives c =
    let i = c.self.inside in
    some_reads i.held c.quick.new.self i.buffer.items i.files c.args.self.now c.self.view_is (rooms_length i.held.below i.files.files c.self.invariant.lines) c.quick.result c.quick.ensures.gives

pub returns-clause-room : goal.returns-clause-room
returns-clause-room c =
    let i = c.self.inside in
    some_room i.held c.quick.new.self i.buffer.items i.files c.args.self.now c.self.view_is (rooms_length i.held.below i.files.files c.self.invariant.lines) c.quick.result c.quick.ensures.gives

pub returns-clause-keeps : goal.returns-clause-keeps
returns-clause-keeps c =
    let i = c.self.inside in
    keeps i.held c.quick.new.self i.buffer.items i.buffer.items i.files i.files c.args.self.now c.self.view_is c.quick.ensures.keeps
