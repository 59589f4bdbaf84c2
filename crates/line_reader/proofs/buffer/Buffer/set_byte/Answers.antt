use Rattle.std.proofs.Common.{◌≡◌, ◌-◌, ◌<◌, ◌++◌, ◌∷◌, [], ℕ, List, length, take, arith, subst, sym}
use Rattle.line_reader.proofs.Views.{some_starts, some_line, length_innermost, set_is, set_sound}
use Rattle.line_reader.proofs.buffer.Buffer.set_byte.Goals as goal

pub last_start-start-requires : goal.last_start-start-requires
last_start-start-requires c = subst (λ (xs : List ℕ). 0 < length xs) (sym c.deref.ensures.value) (some_starts _ _ _ _ _ _ _ _ _ _ _ c.self.view_is c.self.invariant (some_line _ _ _ _ _ _ _ _ _ _ _ c.self.view_is c.self.invariant c.args.at c.requires))

pub overflow_add-start : goal.overflow_add-start
overflow_add-start c =
    let i = c.self.inside in
    let r = c.last_start-start.result in
    let e : i.starts.items ≡ take (length i.starts.items - 1) i.starts.items ++ r ∷ [] = subst (λ (xs : List ℕ). xs ≡ take (length xs - 1) xs ++ r ∷ []) c.deref.ensures.value c.last_start-start.ensures in
    omega (arith, length_innermost _ _ _ _ _ _ _ _ _ _ _ c.self.view_is c.self.invariant _ r e, c.requires, c.self.invariant.within, c.self.invariant.fits, c.self.invariant.small)

pub index_mut-requires : goal.index_mut-requires
index_mut-requires c =
    let i = c.self.inside in
    let r = c.last_start-start.result in
    let e : i.starts.items ≡ take (length i.starts.items - 1) i.starts.items ++ r ∷ [] = subst (λ (xs : List ℕ). xs ≡ take (length xs - 1) xs ++ r ∷ []) c.deref.ensures.value c.last_start-start.ensures in
    omega (arith, length_innermost _ _ _ _ _ _ _ _ _ _ _ c.self.view_is c.self.invariant _ r e, c.requires, c.self.invariant.within, i.bytes.ok.0)

pub invariant_of-self : goal.invariant_of-self
invariant_of-self c =
    let i = c.self.inside in
    let r = c.last_start-start.result in
    let e : i.starts.items ≡ take (length i.starts.items - 1) i.starts.items ++ r ∷ [] = subst (λ (xs : List ℕ). xs ≡ take (length xs - 1) xs ++ r ∷ []) c.deref.ensures.value c.last_start-start.ensures in
    set_sound _ _ _ _ _ _ _ _ _ _ _ c.self.view_is c.self.invariant _ r e c.args.at c.args.byte c.requires

pub returns : goal.returns
returns c =
    let i = c.self.inside in
    let r = c.last_start-start.result in
    let e : i.starts.items ≡ take (length i.starts.items - 1) i.starts.items ++ r ∷ [] = subst (λ (xs : List ℕ). xs ≡ take (length xs - 1) xs ++ r ∷ []) c.deref.ensures.value c.last_start-start.ensures in
    set_is _ _ _ _ _ _ _ _ _ _ _ c.self.view_is c.self.invariant _ r e c.args.at c.args.byte c.requires
