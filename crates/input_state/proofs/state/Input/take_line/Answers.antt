use Rattle.std.proofs.Common.{◌≡◌, ℕ, ◌<◌, List, length, take, drop, sym, ap, ap₂, ◌∙◌, subst, length-take, rules, to_z, of_z, w32, arith}
use Rattle.std.proofs.lemmas.Int.{to_z-of_z}
use Rattle.std.specs.Vec.{with_items}
use Rattle.plain_tokens.specs.Lines.{behind_feed, first_line, first_bytes}
use Rattle.plain_tokens.specs.Pending.{line_ended, Begun}
use Rattle.equivalents.specs.Parameters.{end_of_line}
use Rattle.line_lexer.specs.declared.Line.{Line}
use Rattle.line_lexer.specs.Answers.{rest_of}
use Rattle.tex_defs.specs.declared.Sizes.{Sizes}
use Rattle.input_state.specs.FileLeft.{FilesLeft, innermost}
use Rattle.input_state.specs.HeldLists.{HeldLists, GoFurther, at_line, outer_in}
use Rattle.input_state.specs.InputViews.{stored_of, IsTied}
use Rattle.input_state.specs.Stored.{Stored}
use Rattle.input_state.proofs.Demands.{full_buffer, line_full, line_fits, line_keeps}
use Rattle.input_state.proofs.Joined.{keeps}
use Rattle.input_state.proofs.Rooms.{begun_some, rooms_in, rooms_length, rooms_further, cut_front, written}
use Rattle.input_state.proofs.TakenLines.{line_at, line_stands, kept_length, ended_length, taken_tied, taken_pending}
use Rattle.input_state.proofs.state.Input.take_line.Goals as goal

pub returns-then-cut-len-clause-refused : goal.returns-then-cut-len-clause-refused
returns-then-cut-len-clause-refused c =
    let i = c.self.inside in
    let t = c.self.invariant in
    line_full i.held i.buffer.items i.files c.args.self.now c.self.view_is t c.lines_beneath-lines.result c.first_line-cut.result.whole c.lines_beneath-lines.ensures.is
    (c.first_line-cut.ensures.whole ∙ ap (λ (r : List ℕ). length (first_bytes r)) c.rest.ensures)
    c.buffer_full.result (c.buffer_full.ensures ∙ ap (λ (z : Sizes). full_buffer c.lines_beneath-lines.result z.buffer_size) c.sizes.ensures)
    (omega (arith, c.if-cut-len.true, c.len.ensures, i.buffer.ok.0, t.size))

pub returns-clause-refused : goal.returns-clause-refused
returns-clause-refused c =
    let i = c.self.inside in
    let t = c.self.invariant in
    line_fits i.held i.buffer.items i.files c.args.self.now c.self.view_is t c.lines_beneath-lines.result c.first_line-cut.result.whole c.lines_beneath-lines.ensures.is
    (c.first_line-cut.ensures.whole ∙ ap (λ (r : List ℕ). length (first_bytes r)) c.rest.ensures)
    (omega (arith, c.if-cut-len.false, c.len.ensures, i.buffer.ok.0, t.size))

pub drop_front-requires-clause-in_buffer : goal.drop_front-requires-clause-in_buffer
drop_front-requires-clause-in_buffer c =
    let i = c.self.inside in
    rooms_in i.held.below i.files.files (length c.deref_mut.result.now) c.self.invariant.lines (omega (arith, c.self.invariant.room, ap length c.deref_mut.ensures.value))

pub returns-clause-keeps : goal.returns-clause-keeps
returns-clause-keeps c =
    let i = c.self.inside in
    let buffer = with_items (with_items i.buffer c.drop_front.new.bytes) c.put_line-length.new.buffer in
    keeps i.held c.begin_line.new.self i.buffer.items buffer.items i.files c.pass_line.new.self c.args.self.now c.self.view_is
    (line_keeps i.held c.drop_front.new.self c.begin_line.new.self c.line_start.result c.begin_line.ensures c.drop_front.ensures.keeps)

some_files : (h : HeldLists) (b : List ℕ) (f : FilesLeft) (s : Stored) → stored_of h b f ≡ s → s.pending.file ≡ Begun → 0 < length f.files
some_files h b f s is begun = begun_some f.files (ap (λ (v : Stored). v.pending.file) is ∙ begun)

some_lines : (h front : HeldLists) (b : List ℕ) (f : FilesLeft) → IsTied h b f → GoFurther h.below front.below → 0 < length f.files → 0 < length front.below
some_lines h front b f tied further some = omega (arith, some, rooms_length front.below f.files (rooms_further h.below front.below f.files further tied.lines))

pub invariant_of-self : goal.invariant_of-self
invariant_of-self c =
    let i = c.self.inside in
    let t = c.self.invariant in
    let cut = c.first_line-cut.ensures in
    let buffer = with_items (with_items i.buffer c.drop_front.new.bytes) c.put_line-length.new.buffer in
    let some = some_files i.held i.buffer.items i.files c.args.self.now c.self.view_is c.requires.«open» in
    taken_tied i.held c.drop_front.new.self c.begin_line.new.self i.buffer.items c.drop_front.new.bytes buffer.items c.put_line-length.result c.first_line-cut.result.kept c.first_line-cut.result.used i.files c.pass_line.new.self c.drop_front.ensures.after
    (c.begin_line.ensures ∙ ap (λ (l : Line). record c.drop_front.new.self { below = at_line l c.drop_front.new.self.below }) (c.line_start.ensures ∙ ap (λ (n : ℕ). line_at n c.put_line-length.result) c.lines_beneath-lines.ensures.is))
    c.pass_line.ensures c.drop_front.ensures.further t
    (some_lines i.held c.drop_front.new.self i.buffer.items i.files t c.drop_front.ensures.further some) some
    (omega (
      arith,
      c.put_line-length.ensures.length,
      ended_length (to_z w32 (of_z w32 c.integer-end.result)) (take c.first_line-cut.result.kept c.rest-2.result.now),
      length-take c.first_line-cut.result.kept c.rest-2.result.now,
    ))
    (sym buffer.ok.0 ∙ i.buffer.ok.0)
    (omega (arith, c.if-cut-len.false, c.len.ensures, i.buffer.ok.0, c.lines_beneath-lines.ensures.is, cut.kept_within))

pub returns-clause-ok : goal.returns-clause-ok
returns-clause-ok c =
    let i = c.self.inside in
    let t = c.self.invariant in
    let s = c.args.self.now in
    let cut = c.first_line-cut.ensures in
    let kept = c.first_line-cut.result.kept in
    let count = c.put_line-length.result in
    let lines = c.lines_beneath-lines.result in
    let m = c.drop_front.new.bytes in
    let d = c.put_line-length.new.buffer in
    let between = with_items i.buffer m in
    let buffer = with_items between d in
    let end = to_z w32 (of_z w32 c.integer-end.result) in
    let some = some_files i.held i.buffer.items i.files s c.self.view_is c.requires.«open» in
    let m_is : between.items ≡ m = written i.buffer.len m i.buffer.items (c.drop_front.auto.bytes ∙ ap length c.deref_mut.ensures.value ∙ sym i.buffer.ok.0) in
    let old_is : c.deref_mut-2.result.now ≡ m = c.deref_mut-2.ensures.value ∙ m_is in
    let d_is : buffer.items ≡ d = written i.buffer.len d between.items (c.put_line-length.auto.buffer ∙ ap length c.deref_mut-2.ensures.value ∙ sym between.ok.0) in
    let pieces = cut_front lines count c.deref_mut-2.result.now d (line_ended end (take kept c.rest-2.result.now)) (omega (arith, c.if-cut-len.false, c.len.ensures, ap length c.deref_mut-2.ensures.value, between.ok.0, i.buffer.ok.0)) c.put_line-length.ensures.line in
    let end_is : end ≡ end_of_line s.groups.now =
    to_z-of_z w32 c.integer-end.result (search rules)
    ∙ c.integer-end.ensures
    ∙ ap (λ (w : HeldLists). end_of_line w.groups.now) c.drop_front.ensures.after
    ∙ ap (λ (v : Stored). end_of_line v.groups.now) c.self.view_is in
    let line_is : take kept c.rest-2.result.now ≡ first_line (innermost i.files.files).rest =
    ap (take kept) (c.rest-2.ensures ∙ sym c.rest.ensures) ∙ cut.kept ∙ ap first_line c.rest.ensures in
    let stands : rest_of buffer.items (line_at lines count) ≡ line_ended end (take kept c.rest-2.result.now) = line_stands buffer.items (line_ended end (take kept c.rest-2.result.now)) lines count (ap (λ (xs : List ℕ). take count (drop lines xs)) d_is ∙ pieces.1) in
    taken_pending i.held c.drop_front.new.self c.begin_line.new.self i.buffer.items m buffer.items count kept c.first_line-cut.result.used i.files c.pass_line.new.self c.drop_front.ensures.after
    (c.begin_line.ensures ∙ ap (λ (l : Line). record c.drop_front.new.self { below = at_line l c.drop_front.new.self.below }) (c.line_start.ensures ∙ ap (λ (n : ℕ). line_at n count) c.lines_beneath-lines.ensures.is))
    c.pass_line.ensures c.drop_front.ensures.further t
    (some_lines i.held c.drop_front.new.self i.buffer.items i.files t c.drop_front.ensures.further some) some
    (end_of_line s.groups.now) s c.self.view_is c.requires.«open»
    (sym (ap (λ (n : ℕ). rest_of buffer.items (line_at n count)) c.lines_beneath-lines.ensures.is) ∙ stands ∙ ap₂ line_ended end_is line_is)
    (kept_length c.rest.result.now kept c.first_line-cut.result.whole cut.kept_within cut.whole_within cut.kept ∙ ap (λ (r : List ℕ). length (first_line r)) c.rest.ensures)
    (subst (λ (r : List ℕ). drop c.first_line-cut.result.used r ≡ behind_feed r) c.rest.ensures cut.used)
    (subst (λ (n : ℕ). take n buffer.items ≡ take n m) c.lines_beneath-lines.ensures.is (ap (take lines) d_is ∙ pieces.0 ∙ ap (take lines) old_is))
    (c.drop_front.ensures.beneath (drop 1 i.files.files) ∙ ap (λ (b : List ℕ). outer_in b i.held.below (drop 1 i.files.files)) c.deref_mut.ensures.value)
