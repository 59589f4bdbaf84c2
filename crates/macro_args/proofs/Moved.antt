-- Cells that are moved one by one.
use Rattle.std.proofs.Common.{zero, suc, ◌≡◌, ℕ, ◌+◌, ◌<◌, ◌≤◌, List, [], ◌∷◌, ◌++◌, length, take, set, get_or, Option, None, refl, sym, ap, ◌∙◌, subst, arith, add-one, append_assoc, inl, inr}
use Rattle.std.specs.Prelude.{slice_index_or}
use Rattle.std.proofs.lemmas.Bool.{cases_lt}
use Rattle.std.proofs.lemmas.List.{get_or-set_same, get_or-set_other, length-set}
use Rattle.std.proofs.Math.Seq.{take-suc}
use Rattle.token_lists.specs.declared.ListRef.{ListRef}

-- one more is on the stack
pub moved_on : (before cells : List (Option ListRef)) (place : ℕ) (cell : Option ListRef) → place < length cells → cell ≡ slice_index_or cells place None → (before ++ take place cells) ++ cell ∷ [] ≡ before ++ take (place + 1) cells
moved_on before cells place cell within is =
    append_assoc before (take place cells) (cell ∷ [])
    ∙ ap (λ (x : Option ListRef). before ++ (take place cells ++ x ∷ [])) is
    ∙ ap (λ (xs : List (Option ListRef)). before ++ xs) (sym (take-suc cells place None within) ∙ ap (λ (k : ℕ). take k cells) (sym (add-one place)))

-- and is gone where it was
pub gone_at : (cells : List (Option ListRef)) (place : ℕ) (cell : Option ListRef) → place < length cells → cell ≡ None → ((i : ℕ) → i < place → slice_index_or cells i None ≡ None) → (i : ℕ) → i < place + 1 → slice_index_or (set cells place cell) i None ≡ None
gone_at cells place cell within is gone i less = elim (cases_lt i place) [
  | inl before ↦ get_or-set_other cells place i cell None (λ same. omega (arith, same, before)) ∙ gone i before
  | inr more ↦
      let here : i ≡ place = omega (arith, less, more) in
      ap (λ (k : ℕ). get_or (set cells place cell) k None) here ∙ get_or-set_same cells place cell None within ∙ is
]

pub left_at : (cells whole : List (Option ListRef)) (place : ℕ) (cell : Option ListRef) → ((i : ℕ) → place ≤ i → slice_index_or cells i None ≡ slice_index_or whole i None) → (i : ℕ) → place + 1 ≤ i → slice_index_or (set cells place cell) i None ≡ slice_index_or whole i None
left_at cells whole place cell left i more = get_or-set_other cells place i cell None (λ same. omega (arith, same, more)) ∙ left i (omega (arith, more))

-- of the rest there was none
pub none_left : (cells whole : List (Option ListRef)) (place count : ℕ) → count ≤ place → ((i : ℕ) → i < place → slice_index_or cells i None ≡ None) → ((i : ℕ) → place ≤ i → slice_index_or cells i None ≡ slice_index_or whole i None) → ((i : ℕ) → count ≤ i → slice_index_or whole i None ≡ None) → (i : ℕ) → slice_index_or cells i None ≡ None
none_left cells whole place count past gone left free i = elim (cases_lt i place) [
  | inl less ↦ gone i less
  | inr more ↦ left i more ∙ free i (omega (arith, more, past))
]
