use Rattle.std.proofs.Common.{◌≡◌, ◌-◌, ◌<◌, ◌≤◌, ◌++◌, ◌∷◌, [], ℕ, List, length, take, arith, ap, subst, sym}
use Rattle.line_reader.proofs.Views.{some_starts, start_within, innermost_is}
use Rattle.line_reader.proofs.buffer.Buffer.line.Goals as goal

pub last_start-start-requires : goal.last_start-start-requires
last_start-start-requires c = subst (λ (xs : List ℕ). 0 < length xs) (sym c.deref.ensures.value) (some_starts _ _ _ _ _ _ _ _ _ _ _ c.self.view_is c.self.invariant c.requires)

pub slice_bounds-result-count : goal.slice_bounds-result-count
slice_bounds-result-count c =
    let i = c.self.inside in
    let r = c.last_start-start.result in
    let e : i.starts.items ≡ take (length i.starts.items - 1) i.starts.items ++ r ∷ [] = subst (λ (xs : List ℕ). xs ≡ take (length xs - 1) xs ++ r ∷ []) c.deref.ensures.value c.last_start-start.ensures in
    start_within _ _ _ _ _ _ _ _ _ _ _ c.self.view_is c.self.invariant _ r e

pub slice_bounds-result-start : goal.slice_bounds-result-start
slice_bounds-result-start c =
    let i = c.self.inside in
    let r = c.last_start-start.result in
    let e : i.starts.items ≡ take (length i.starts.items - 1) i.starts.items ++ r ∷ [] = subst (λ (xs : List ℕ). xs ≡ take (length xs - 1) xs ++ r ∷ []) c.deref.ensures.value c.last_start-start.ensures in
    let within : r ≤ i.behind = start_within _ _ _ _ _ _ _ _ _ _ _ c.self.view_is c.self.invariant _ r e in
    omega (arith, within, c.self.invariant.within, ap length c.deref-2.ensures.value)

pub returns : goal.returns
returns c =
    let i = c.self.inside in
    let r = c.last_start-start.result in
    let e : i.starts.items ≡ take (length i.starts.items - 1) i.starts.items ++ r ∷ [] = subst (λ (xs : List ℕ). xs ≡ take (length xs - 1) xs ++ r ∷ []) c.deref.ensures.value c.last_start-start.ensures in
    rw (c.deref-2.ensures.value) (innermost_is _ _ _ _ _ _ _ _ _ _ _ c.self.view_is c.self.invariant _ r e)
