use Rattle.std.proofs.Common.{◌∙◌, List, ℕ, length, sym, ap, arith}
use Rattle.std.specs.Vec.{with_items}
use Rattle.input_state.specs.InputViews.{stored_of}
use Rattle.input_state.proofs.Rooms.{rooms_in, rooms_length}
use Rattle.input_state.proofs.TakenLines.{read_tied}
use Rattle.input_state.proofs.Files.{front_refused}
use Rattle.input_state.proofs.Joined.{keeps}
use Rattle.input_state.proofs.state.Input.read_front.Goals as goal

pub pull-requires-clause-in_buffer : goal.pull-requires-clause-in_buffer
pull-requires-clause-in_buffer c =
    let i = c.self.inside in
    rooms_in i.held.below i.files.files (length c.deref_mut.result.now) c.self.invariant.lines (omega (arith, c.self.invariant.room, ap length c.deref_mut.ensures.value))

pub invariant_of-self : goal.invariant_of-self
invariant_of-self c =
    let i = c.self.inside in
    let buffer = with_items i.buffer c.pull.new.bytes in
    let e = c.pull.ensures in
    read_tied i.held c.pull.new.self i.buffer.items buffer.items i.files c.pull.new.self.puts e.others e.further (sym buffer.ok.0 ∙ i.buffer.ok.0) c.self.invariant

pub returns-clause-refused : goal.returns-clause-refused
returns-clause-refused c =
    let i = c.self.inside in
    front_refused i.held c.deref_mut.result.now i.files c.args.self.now (ap (λ (b : List ℕ). stored_of i.held b i.files) c.deref_mut.ensures.value ∙ c.self.view_is) (rooms_length i.held.below i.files.files c.self.invariant.lines) c.pull.result c.pull.ensures.refused

pub returns-clause-keeps : goal.returns-clause-keeps
returns-clause-keeps c =
    let i = c.self.inside in
    let buffer = with_items i.buffer c.pull.new.bytes in
    keeps i.held c.pull.new.self i.buffer.items buffer.items i.files i.files c.args.self.now c.self.view_is c.pull.ensures.keeps
