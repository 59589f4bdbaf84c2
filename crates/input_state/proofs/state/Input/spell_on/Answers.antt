use Rattle.std.proofs.Common.{◌≡◌, ℕ, ◌+◌, ◌≤◌, ◌++◌, List, length, take, drop, refl, sym, ap, ap₂, ◌∙◌, subst, arith}
use Rattle.std.specs.Vec.{with_items}
use Rattle.tex_defs.specs.declared.Sizes.{Sizes}
use Rattle.input_state.specs.Stored.{Stored, spelt}
use Rattle.input_state.proofs.Demands.{full_buffer, behind_full, behind_fits}
use Rattle.input_state.proofs.Rooms.{cut_front, same_front, grown_behind, written, lines_end, bytes_others, bytes_spelt}
use Rattle.input_state.proofs.state.Input.spell_on.Goals as goal

pub overflow_sub-len-2 : goal.overflow_sub-len-2
overflow_sub-len-2 c =
    let i = c.self.inside in
    let t = c.self.invariant in
    let lines = lines_end i.held i.buffer.items i.buffer.items i.files t c.args.self.now c.self.view_is in
    omega (arith, c.requires, lines, c.open_lines-lines.ensures.is, c.len.ensures, i.buffer.ok.0, t.size, ap (λ (v : Stored). v.sizes.buffer_size) c.self.view_is)

pub put_bytes-requires : goal.put_bytes-requires
put_bytes-requires c =
    let i = c.self.inside in
    let t = c.self.invariant in
    let lines = lines_end i.held i.buffer.items i.buffer.items i.files t c.args.self.now c.self.view_is in
    omega (arith, c.requires, lines, c.if-bytes-len.false, c.open_lines-lines.ensures.is, c.len.ensures, i.buffer.ok.0, t.size, ap length c.deref_mut.ensures.value, ap (λ (v : Stored). v.sizes.buffer_size) c.self.view_is)

pub returns-then-bytes-len-clause-refused : goal.returns-then-bytes-len-clause-refused
returns-then-bytes-len-clause-refused c =
    let i = c.self.inside in
    let t = c.self.invariant in
    behind_full i.held i.buffer.items i.files c.args.self.now c.self.view_is t c.open_lines-lines.result (c.args.n + length c.args.bytes.now) c.open_lines-lines.ensures.is
    c.buffer_full.result (c.buffer_full.ensures ∙ ap (λ (z : Sizes). full_buffer c.open_lines-lines.result z.buffer_size) c.sizes.ensures)
    (omega (arith, c.if-bytes-len.true, c.len.ensures, i.buffer.ok.0, t.size))

pub returns-clause-refused : goal.returns-clause-refused
returns-clause-refused c =
    let i = c.self.inside in
    let t = c.self.invariant in
    let lines = lines_end i.held i.buffer.items i.buffer.items i.files t c.args.self.now c.self.view_is in
    behind_fits i.held i.buffer.items i.files c.args.self.now c.self.view_is t c.open_lines-lines.result (c.args.n + length c.args.bytes.now) c.open_lines-lines.ensures.is
    (omega (arith, c.requires, lines, c.if-bytes-len.false, c.open_lines-lines.ensures.is, c.len.ensures, i.buffer.ok.0, t.size, ap (λ (v : Stored). v.sizes.buffer_size) c.self.view_is))

pub returns-clause-room : goal.returns-clause-room
returns-clause-room c =
    let i = c.self.inside in
    let t = c.self.invariant in
    let lines = lines_end i.held i.buffer.items i.buffer.items i.files t c.args.self.now c.self.view_is in
    omega (arith, c.requires, lines, c.if-bytes-len.false, c.open_lines-lines.ensures.is, c.len.ensures, i.buffer.ok.0, t.size, ap (λ (v : Stored). v.sizes.buffer_size) c.self.view_is)

pub returns-clause-ok : goal.returns-clause-ok
returns-clause-ok c =
    let i = c.self.inside in
    let t = c.self.invariant in
    let s = c.args.self.now in
    let start = c.open_lines-lines.result in
    let n = c.args.n in
    let more = c.args.bytes.now in
    let lines = lines_end i.held i.buffer.items i.buffer.items i.files t s c.self.view_is in
    let d = c.put_bytes.new.buffer in
    let d_is = written i.buffer.len d i.buffer.items (c.put_bytes.auto.buffer ∙ ap length c.deref_mut.ensures.value ∙ sym i.buffer.ok.0) in
    let within : start + n ≤ length c.deref_mut.result.now = omega (arith, c.requires, lines, c.open_lines-lines.ensures.is, t.size, ap length c.deref_mut.ensures.value, ap (λ (v : Stored). v.sizes.buffer_size) c.self.view_is) in
    let grown = grown_behind start n (length more) c.deref_mut.result.now d more within c.put_bytes.ensures in
    let was : take n (drop start c.deref_mut.result.now) ≡ spelt s n =
    ap₂ (λ (k : ℕ) (b : List ℕ). take n (drop k b)) (c.open_lines-lines.ensures.is ∙ sym lines) (c.deref_mut.ensures.value ∙ ap (λ (v : Stored). v.buffer) c.self.view_is) in (
      refl,
      bytes_spelt i.held i.buffer.items (with_items i.buffer d).items i.files t (n + length more) (spelt s n ++ more)
          (sym (ap (λ (k : ℕ). take (n + length more) (drop k (with_items i.buffer d).items)) c.open_lines-lines.ensures.is)
          ∙ ap (λ (xs : List ℕ). take (n + length more) (drop start xs)) d_is
          ∙ grown
          ∙ ap (λ (xs : List ℕ). xs ++ more) was),
    )

pub returns-clause-others : goal.returns-clause-others
returns-clause-others c =
    let i = c.self.inside in
    let t = c.self.invariant in
    let s = c.args.self.now in
    let start = c.open_lines-lines.result in
    let n = c.args.n in
    let more = c.args.bytes.now in
    let lines = lines_end i.held i.buffer.items i.buffer.items i.files t s c.self.view_is in
    let d = c.put_bytes.new.buffer in
    let d_is = written i.buffer.len d i.buffer.items (c.put_bytes.auto.buffer ∙ ap length c.deref_mut.ensures.value ∙ sym i.buffer.ok.0) in
    let within : start + n ≤ length c.deref_mut.result.now = omega (arith, c.requires, lines, c.open_lines-lines.ensures.is, t.size, ap length c.deref_mut.ensures.value, ap (λ (v : Stored). v.sizes.buffer_size) c.self.view_is) in
    let before = same_front c.deref_mut.result.now d start (start + n) (omega arith) (cut_front (start + n) (length more) c.deref_mut.result.now d more within c.put_bytes.ensures).0 in
    bytes_others i.held i.buffer.items (with_items i.buffer d).items i.files t s c.self.view_is
    (subst (λ (k : ℕ). take k (with_items i.buffer d).items ≡ take k i.buffer.items) c.open_lines-lines.ensures.is (ap (take start) d_is ∙ before ∙ ap (take start) c.deref_mut.ensures.value))
