use Rattle.std.proofs.Common.{◌∙◌, List, ℕ, [], length, drop, sym, ap, arith}
use Rattle.std.specs.Vec.{with_items}
use Rattle.input_state.specs.HeldLists.{outer_in}
use Rattle.input_state.specs.Stored.{Stored}
use Rattle.input_state.proofs.Rooms.{rooms_in, written}
use Rattle.input_state.proofs.TakenLines.{read_tied}
use Rattle.input_state.proofs.Joined.{keeps}
use Rattle.input_state.proofs.state.Input.drop_front.Goals as goal

pub drop_front-requires-clause-in_buffer : goal.drop_front-requires-clause-in_buffer
drop_front-requires-clause-in_buffer c =
    let i = c.self.inside in
    rooms_in i.held.below i.files.files (length c.deref_mut.result.now) c.self.invariant.lines (omega (arith, c.self.invariant.room, ap length c.deref_mut.ensures.value))

pub invariant_of-self : goal.invariant_of-self
invariant_of-self c =
    let i = c.self.inside in
    let buffer = with_items i.buffer c.drop_front.new.bytes in
    let e = c.drop_front.ensures in
    read_tied i.held c.drop_front.new.self i.buffer.items buffer.items i.files [] e.after e.further (sym buffer.ok.0 ∙ i.buffer.ok.0) c.self.invariant

pub returns-clause-keeps : goal.returns-clause-keeps
returns-clause-keeps c =
    let i = c.self.inside in
    let buffer = with_items i.buffer c.drop_front.new.bytes in
    keeps i.held c.drop_front.new.self i.buffer.items buffer.items i.files i.files c.args.self.now c.self.view_is c.drop_front.ensures.keeps

pub returns-clause-outer : goal.returns-clause-outer
returns-clause-outer c =
    let i = c.self.inside in
    ap (λ (b : List ℕ). outer_in b c.drop_front.new.self.below (drop 1 i.files.files)) (written i.buffer.len c.drop_front.new.bytes i.buffer.items (c.drop_front.auto.bytes ∙ ap length c.deref_mut.ensures.value ∙ sym i.buffer.ok.0))
    ∙ c.drop_front.ensures.beneath (drop 1 i.files.files)
    ∙ ap (λ (b : List ℕ). outer_in b i.held.below (drop 1 i.files.files)) c.deref_mut.ensures.value
    ∙ ap (λ (v : Stored). v.pending.outer) c.self.view_is
