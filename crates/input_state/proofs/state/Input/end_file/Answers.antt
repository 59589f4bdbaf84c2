use Rattle.std.proofs.Common.{◌≡◌, ◌<◌, ◌∙◌, ℕ, List, length, ap, arith}
use Rattle.plain_tokens.specs.Pending.{Pending, Begun, beneath}
use Rattle.input_state.specs.FileLeft.{FilesLeft}
use Rattle.input_state.specs.HeldLists.{HeldLists}
use Rattle.input_state.specs.InputViews.{stored_of, IsTied}
use Rattle.input_state.specs.Stored.{Stored}
use Rattle.input_state.proofs.Rooms.{begun_some, rooms_length, rooms_less, over_pending}
use Rattle.input_state.proofs.TakenLines.{rooms_tail}
use Rattle.input_state.proofs.state.Input.end_file.Goals as goal

some_below : (h : HeldLists) (b : List ℕ) (f : FilesLeft) (s : Stored) → stored_of h b f ≡ s → IsTied h b f → s.pending.file ≡ Begun → 0 < length h.below
some_below h b f s is tied begun = omega (arith, rooms_length h.below f.files tied.lines, begun_some f.files (ap (λ (v : Stored). v.pending.file) is ∙ begun))

pub end_file-requires-clause-open : goal.end_file-requires-clause-open
end_file-requires-clause-open c =
    let i = c.self.inside in
    some_below i.held i.buffer.items i.files c.args.self.now c.self.view_is c.self.invariant c.requires.«open»

pub invariant_of-self : goal.invariant_of-self
invariant_of-self c =
    let i = c.self.inside in
    let t = c.self.invariant in
    rw (c.end_file.ensures, c.end_file-2.ensures) (record { lines = rooms_tail i.held.below i.files.files t.lines; room = omega (arith, t.room, rooms_less i.files.files); size = t.size; file_size = t.file_size; file_levels = t.file_levels })

pub returns : goal.returns
returns c =
    let i = c.self.inside in
    let some = some_below i.held i.buffer.items i.files c.args.self.now c.self.view_is c.self.invariant c.requires.«open» in
    rw (c.end_file.ensures, c.end_file-2.ensures) (
    ap (λ (p : Pending). record (stored_of i.held i.buffer.items i.files) { pending = p }) (over_pending i.held i.buffer.items i.files.files some)
    ∙ ap (λ (v : Stored). record v { pending = beneath v.pending.outer }) c.self.view_is)
