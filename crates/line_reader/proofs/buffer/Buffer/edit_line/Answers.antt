use Rattle.std.proofs.Common.{◌≡◌, ◌-◌, ◌<◌, ◌≤◌, ◌++◌, ◌∷◌, [], ℕ, List, length, take, drop, arith, ap, subst, sym, ◌∙◌}
use Rattle.line_reader.specs.OpenLines.{innermost}
use Rattle.line_reader.proofs.Views.{some_starts, start_within, innermost_is, edited_is, edited_sound}
use Rattle.line_reader.proofs.buffer.Buffer.edit_line.Goals as goal

pub last_start-start-requires : goal.last_start-start-requires
last_start-start-requires g c = subst (λ (xs : List ℕ). 0 < length xs) (sym c.deref.ensures.value) (some_starts _ _ _ _ _ _ _ _ _ _ _ c.self.view_is c.self.invariant c.requires)

pub slice_bounds-line-count : goal.slice_bounds-line-count
slice_bounds-line-count g c =
    let i = c.self.inside in
    let r = c.last_start-start.result in
    let e : i.starts.items ≡ take (length i.starts.items - 1) i.starts.items ++ r ∷ [] = subst (λ (xs : List ℕ). xs ≡ take (length xs - 1) xs ++ r ∷ []) c.deref.ensures.value c.last_start-start.ensures in
    start_within _ _ _ _ _ _ _ _ _ _ _ c.self.view_is c.self.invariant _ r e

pub slice_bounds-line-start : goal.slice_bounds-line-start
slice_bounds-line-start g c =
    let i = c.self.inside in
    let r = c.last_start-start.result in
    let e : i.starts.items ≡ take (length i.starts.items - 1) i.starts.items ++ r ∷ [] = subst (λ (xs : List ℕ). xs ≡ take (length xs - 1) xs ++ r ∷ []) c.deref.ensures.value c.last_start-start.ensures in
    let within : r ≤ i.behind = start_within _ _ _ _ _ _ _ _ _ _ _ c.self.view_is c.self.invariant _ r e in
    omega (arith, within, c.self.invariant.within, ap length c.deref_mut.ensures.value)

pub invariant_of-self : goal.invariant_of-self
invariant_of-self g c =
    let i = c.self.inside in
    let r = c.last_start-start.result in
    let e : i.starts.items ≡ take (length i.starts.items - 1) i.starts.items ++ r ∷ [] = subst (λ (xs : List ℕ). xs ≡ take (length xs - 1) xs ++ r ∷ []) c.deref.ensures.value c.last_start-start.ensures in
    let old : take (i.behind - r) (drop r c.deref_mut.result.now) ≡ innermost c.args.self.now = ap (λ (bs : List ℕ). take (i.behind - r) (drop r bs)) c.deref_mut.ensures.value ∙ innermost_is _ _ _ _ _ _ _ _ _ _ _ c.self.view_is c.self.invariant _ r e in
    let same : length c.edit.new.line ≡ length (innermost c.args.self.now) = c.edit.ensures.len ∙ ap length old in
    rw (c.deref_mut.ensures.value) (edited_sound _ _ _ _ _ _ _ _ _ _ _ c.self.view_is c.self.invariant _ r e c.edit.new.line same i.bytes.len i.bytes.ok.0)

pub returns : goal.returns
returns g c =
    let i = c.self.inside in
    let r = c.last_start-start.result in
    let e : i.starts.items ≡ take (length i.starts.items - 1) i.starts.items ++ r ∷ [] = subst (λ (xs : List ℕ). xs ≡ take (length xs - 1) xs ++ r ∷ []) c.deref.ensures.value c.last_start-start.ensures in
    let old : take (i.behind - r) (drop r c.deref_mut.result.now) ≡ innermost c.args.self.now = ap (λ (bs : List ℕ). take (i.behind - r) (drop r bs)) c.deref_mut.ensures.value ∙ innermost_is _ _ _ _ _ _ _ _ _ _ _ c.self.view_is c.self.invariant _ r e in
    let same : length c.edit.new.line ≡ length (innermost c.args.self.now) = c.edit.ensures.len ∙ ap length old in
    (c.edit.new.line, same, subst (λ (xs : List ℕ). g.E.Edit.edits c.args.editor.now xs c.edit.new.self c.edit.new.line) old c.edit.ensures.edits, rw (c.deref_mut.ensures.value) (edited_is _ _ _ _ _ _ _ _ _ _ _ c.self.view_is c.self.invariant _ r e c.edit.new.line same i.bytes.len i.bytes.ok.0))
