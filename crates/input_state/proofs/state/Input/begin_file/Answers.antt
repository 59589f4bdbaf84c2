use Rattle.std.proofs.Common.{◌≡◌, ℕ, List, ◌∷◌, length, take, drop, Option, None, sym, ap, ap₂, ◌∙◌, subst, rules, to_z, of_z, w32, arith}
use Rattle.std.proofs.lemmas.Int.{to_z-of_z}
use Rattle.std.proofs.lemmas.Option.{same_Some}
use Rattle.std.specs.Option.{option_map}
use Rattle.std.specs.Vec.{with_items}
use Rattle.tex_defs.specs.declared.Sizes.{Sizes}
use Rattle.plain_tokens.specs.Lines.{first_line}
use Rattle.plain_tokens.specs.Puts.{without_ended}
use Rattle.plain_tokens.specs.Pending.{line_ended, with_end, with_begun, begun_by}
use Rattle.equivalents.specs.Parameters.{end_of_line}
use Rattle.line_lexer.specs.declared.Line.{Line}
use Rattle.line_lexer.specs.Answers.{rest_of}
use Rattle.input_state.specs.FileLeft.{FilesLeft, begun_file}
use Rattle.input_state.specs.HeldLists.{HeldLists, puts_held, opened_over, pending_of}
use Rattle.input_state.specs.Stored.{Stored}
use Rattle.input_state.proofs.Demands.{full_buffer, first_full, first_level, held_twice}
use Rattle.input_state.proofs.Joined.{keeps}
use Rattle.input_state.proofs.Rooms.{cut_front, written}
use Rattle.input_state.proofs.TakenLines.{line_at, line_stands, kept_length, begun_pending}
use Rattle.input_state.proofs.state.Input.begin_file.Goals as goal

pub returns-then-cut-len-clause-refused : goal.returns-then-cut-len-clause-refused
returns-then-cut-len-clause-refused c =
    let i = c.self.inside in
    let t = c.self.invariant in
    first_full i.held i.buffer.items i.files c.args.self.now c.self.view_is t c.open_lines-lines.result c.first_line-cut.result.whole c.first_bytes.result.now c.open_lines-lines.ensures.is c.first_bytes.ensures c.first_line-cut.ensures.whole
    c.buffer_full.result (c.buffer_full.ensures ∙ ap (λ (z : Sizes). full_buffer c.open_lines-lines.result z.buffer_size) c.sizes.ensures)
    (omega (arith, c.if-cut-len.true, c.len.ensures, i.buffer.ok.0, t.size))

pub returns-in-Some-clause-refused : goal.returns-in-Some-clause-refused
returns-in-Some-clause-refused c =
    let i = c.self.inside in
    let t = c.self.invariant in
    first_level i.held i.buffer.items i.files c.args.self.now c.self.view_is t c.open_lines-lines.result c.first_line-cut.result.whole c.first_bytes.result.now c.open_lines-lines.ensures.is c.first_bytes.ensures c.first_line-cut.ensures.whole
    (omega (arith, c.if-cut-len.false, c.len.ensures, i.buffer.ok.0, t.size))
    ∙ sym c.room.ensures.refused ∙ c.in-Some.is

pub returns-clause-refused : goal.returns-clause-refused
returns-clause-refused c =
    let i = c.self.inside in
    let t = c.self.invariant in
    first_level i.held i.buffer.items i.files c.args.self.now c.self.view_is t c.open_lines-lines.result c.first_line-cut.result.whole c.first_bytes.result.now c.open_lines-lines.ensures.is c.first_bytes.ensures c.first_line-cut.ensures.whole
    (omega (arith, c.if-cut-len.false, c.len.ensures, i.buffer.ok.0, t.size))
    ∙ sym c.room.ensures.refused ∙ c.in_default.is

pub returns-in-Some-clause-keeps : goal.returns-in-Some-clause-keeps
returns-in-Some-clause-keeps c =
    let i = c.self.inside in
    keeps i.held c.room.new.self i.buffer.items i.buffer.items i.files i.files c.args.self.now c.self.view_is c.room.ensures.keeps

pub returns-clause-keeps : goal.returns-clause-keeps
returns-clause-keeps c =
    let i = c.self.inside in
    let buffer = with_items i.buffer c.put_line-length.new.buffer in
    keeps i.held c.open_file.new.self i.buffer.items buffer.items i.files c.begin.new.self c.args.self.now c.self.view_is
    (held_twice i.held c.room.new.self c.open_file.new.self c.room.ensures.keeps c.open_file.ensures.keeps (ap (λ (w : HeldLists). w.groups) c.in-Ok.ensures.ok) (ap puts_held c.in-Ok.ensures.ok))

pub returns-clause-ok : goal.returns-clause-ok
returns-clause-ok c =
    let i = c.self.inside in
    let t = c.self.invariant in
    let s = c.args.self.now in
    let cut = c.first_line-cut.ensures in
    let kept = c.first_line-cut.result.kept in
    let used = c.first_line-cut.result.used in
    let count = c.put_line-length.result in
    let lines = c.open_lines-lines.result in
    let bytes = c.first_bytes.result.now in
    let d = c.put_line-length.new.buffer in
    let buffer = with_items i.buffer d in
    let end = to_z w32 (of_z w32 c.integer-end.result) in
    let d_is : buffer.items ≡ d = written i.buffer.len d i.buffer.items (c.put_line-length.auto.buffer ∙ ap length c.deref_mut.ensures.value ∙ sym i.buffer.ok.0) in
    let same_bytes : c.first_bytes-2.result.now ≡ bytes = same_Some c.first_bytes-2.result.now bytes (c.first_bytes-2.ensures ∙ sym c.first_bytes.ensures) in
    let pieces = cut_front lines count c.deref_mut.result.now d (line_ended end (take kept c.first_bytes-2.result.now)) (omega (arith, c.if-cut-len.false, c.len.ensures, ap length c.deref_mut.ensures.value, i.buffer.ok.0)) c.put_line-length.ensures.line in
    let quiet : without_ended i.held.puts ≡ i.held.puts = ap (λ (v : Stored). without_ended v.pending.puts) c.self.view_is ∙ ap (λ p. p.puts) c.requires.without_ended ∙ sym (ap (λ (v : Stored). v.pending.puts) c.self.view_is) in
    let front_is : c.room.new.self ≡ record i.held { lists = c.room.new.self.lists } = c.room.ensures.after ∙ ap (λ ps. let w : HeldLists = record i.held { puts = ps; lists = c.room.new.self.lists } in w) quiet in
    let end_is : end ≡ end_of_line s.groups.now =
    to_z-of_z w32 c.integer-end.result (search rules)
    ∙ c.integer-end.ensures
    ∙ ap (λ (w : HeldLists). end_of_line w.groups.now) c.room.ensures.after
    ∙ ap (λ (v : Stored). end_of_line v.groups.now) c.self.view_is in
    let line_is : take kept c.first_bytes-2.result.now ≡ first_line bytes = ap (take kept) same_bytes ∙ cut.kept in
    let stands : rest_of buffer.items (line_at lines count) ≡ line_ended end (take kept c.first_bytes-2.result.now) = line_stands buffer.items (line_ended end (take kept c.first_bytes-2.result.now)) lines count (ap (λ (xs : List ℕ). take count (drop lines xs)) d_is ∙ pieces.1) in
    let file_is : c.begin.new.self ≡ record i.files { files = begun_file kept used bytes ∷ i.files.files; next = None } =
    same_Some _ _ (c.begin.ensures ∙ ap (option_map (λ b. let w : FilesLeft = record i.files { files = begun_file kept used b ∷ i.files.files; next = None } in w)) (sym c.first_bytes.ensures)) in
    begun_pending i.held c.room.new.self c.open_file.new.self i.buffer.items buffer.items count kept used bytes i.files c.begin.new.self front_is
    (c.in-Ok.ensures.ok ∙ ap (λ (l : Line). let w : HeldLists = record (opened_over l c.room.new.self) { lists = c.open_file.new.self.lists } in w) (c.line_start.ensures ∙ ap (λ (n : ℕ). line_at n count) c.open_lines-lines.ensures.is))
    file_is t (end_of_line s.groups.now)
    (sym (ap (λ (n : ℕ). rest_of buffer.items (line_at n count)) c.open_lines-lines.ensures.is) ∙ stands ∙ ap₂ line_ended end_is line_is)
    (kept_length bytes kept c.first_line-cut.result.whole cut.kept_within cut.whole_within cut.kept)
    cut.used
    (subst (λ (n : ℕ). take n buffer.items ≡ take n i.buffer.items) c.open_lines-lines.ensures.is (ap (take lines) d_is ∙ pieces.0 ∙ ap (take lines) c.deref_mut.ensures.value))
    ∙ ap (λ (o : Option (List ℕ)). with_end (end_of_line s.groups.now) (begun_by o (pending_of i.held i.buffer.items i.files.files i.files.next))) c.first_bytes.ensures
    ∙ ap (λ (v : Stored). with_end (end_of_line s.groups.now) (with_begun v.pending)) c.self.view_is
