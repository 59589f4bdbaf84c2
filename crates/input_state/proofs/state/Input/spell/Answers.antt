use Rattle.std.proofs.Common.{◌≡◌, ℕ, ◌+◌, ◌++◌, List, length, take, drop, sym, ap, ◌∙◌, subst, arith}
use Rattle.std.specs.Vec.{with_items}
use Rattle.tex_defs.specs.declared.Sizes.{Sizes}
use Rattle.plain_tokens.specs.Tokens.{character_codes}
use Rattle.input_state.specs.FileLeft.{rooms_end}
use Rattle.input_state.specs.HeldLists.{first_list}
use Rattle.input_state.specs.Stored.{Stored}
use Rattle.input_state.proofs.Demands.{full_buffer, behind_full, behind_fits}
use Rattle.input_state.proofs.Rooms.{cut_front, written, lines_end, bytes_others, bytes_spelt}
use Rattle.input_state.proofs.state.Input.spell.Goals as goal

pub returns-in_default-clause-refused : goal.returns-in_default-clause-refused
returns-in_default-clause-refused c =
    let i = c.self.inside in
    let t = c.self.invariant in
    let codes = ap character_codes (c.list.ensures.tokens ∙ ap (λ (v : Stored). first_list v.builds) c.self.view_is) in
    behind_full i.held i.buffer.items i.files c.args.self.now c.self.view_is t c.open_lines-lines.result (length (character_codes (first_list c.args.self.now.builds))) c.open_lines-lines.ensures.is
    c.buffer_full.result (c.buffer_full.ensures ∙ ap (λ (z : Sizes). full_buffer c.open_lines-lines.result z.buffer_size) c.sizes.ensures)
    (omega (arith, c.in_default.ensures.fits, ap length codes, c.len.ensures, i.buffer.ok.0, t.size))

pub returns-clause-refused : goal.returns-clause-refused
returns-clause-refused c =
    let i = c.self.inside in
    let t = c.self.invariant in
    let codes = ap character_codes (c.list.ensures.tokens ∙ ap (λ (v : Stored). first_list v.builds) c.self.view_is) in
    behind_fits i.held i.buffer.items i.files c.args.self.now c.self.view_is t c.open_lines-lines.result (length (character_codes (first_list c.args.self.now.builds))) c.open_lines-lines.ensures.is
    (omega (arith, c.in-Some.ensures.count, c.in-Some.ensures.fits, ap length codes, c.len.ensures, i.buffer.ok.0, t.size, c.open_lines-lines.ensures.within, t.file_size))

pub returns-clause-room : goal.returns-clause-room
returns-clause-room c =
    let i = c.self.inside in
    let t = c.self.invariant in
    let lines = lines_end i.held i.buffer.items i.buffer.items i.files t c.args.self.now c.self.view_is in
    omega (arith, c.in-Some.ensures.fits, c.len.ensures, i.buffer.ok.0, t.size, c.open_lines-lines.ensures.is, c.open_lines-lines.ensures.within, t.file_size, lines, ap (λ (v : Stored). v.sizes.buffer_size) c.self.view_is)

pub returns-clause-ok : goal.returns-clause-ok
returns-clause-ok c =
    let i = c.self.inside in
    let t = c.self.invariant in
    let lines = c.open_lines-lines.result in
    let codes = ap character_codes (c.list.ensures.tokens ∙ ap (λ (v : Stored). first_list v.builds) c.self.view_is) in
    let d = c.spell.new.buffer in
    let d_is = written i.buffer.len d i.buffer.items (c.spell.auto.buffer ∙ ap length c.deref_mut.ensures.value ∙ sym i.buffer.ok.0) in
    let name = character_codes (first_list c.args.self.now.builds) in
    let front : take (lines + length name) d ≡ take lines c.deref_mut.result.now ++ name = subst (λ (cs : List ℕ). take (lines + length cs) d ≡ take lines c.deref_mut.result.now ++ cs) codes c.spell.ensures.front in
    let pieces = cut_front lines (length name) c.deref_mut.result.now d name (omega (arith, ap length c.deref_mut.ensures.value, t.size, t.file_size, c.open_lines-lines.ensures.within)) front in
    let count = c.in-Some.ensures.count ∙ ap length codes in (
      count,
      bytes_spelt i.held i.buffer.items (with_items i.buffer d).items i.files t c.in-Some.count name
          (ap (λ (n : ℕ). take n (drop (rooms_end i.files.files) (with_items i.buffer d).items)) count
          ∙ sym (ap (λ (k : ℕ). take (length name) (drop k (with_items i.buffer d).items)) c.open_lines-lines.ensures.is)
          ∙ ap (λ (xs : List ℕ). take (length name) (drop lines xs)) d_is
          ∙ pieces.1),
    )

pub returns-clause-others : goal.returns-clause-others
returns-clause-others c =
    let i = c.self.inside in
    let t = c.self.invariant in
    let lines = c.open_lines-lines.result in
    let codes = ap character_codes (c.list.ensures.tokens ∙ ap (λ (v : Stored). first_list v.builds) c.self.view_is) in
    let d = c.spell.new.buffer in
    let d_is = written i.buffer.len d i.buffer.items (c.spell.auto.buffer ∙ ap length c.deref_mut.ensures.value ∙ sym i.buffer.ok.0) in
    let name = character_codes (first_list c.args.self.now.builds) in
    let front : take (lines + length name) d ≡ take lines c.deref_mut.result.now ++ name = subst (λ (cs : List ℕ). take (lines + length cs) d ≡ take lines c.deref_mut.result.now ++ cs) codes c.spell.ensures.front in
    let pieces = cut_front lines (length name) c.deref_mut.result.now d name (omega (arith, ap length c.deref_mut.ensures.value, t.size, t.file_size, c.open_lines-lines.ensures.within)) front in
    bytes_others i.held i.buffer.items (with_items i.buffer d).items i.files t c.args.self.now c.self.view_is
    (subst (λ (n : ℕ). take n (with_items i.buffer d).items ≡ take n i.buffer.items) c.open_lines-lines.ensures.is (ap (take lines) d_is ∙ pieces.0 ∙ ap (take lines) c.deref_mut.ensures.value))
