-- An array with marks, as groups.
use Rattle.std.proofs.Common.{◌≡◌, ◌+◌, ◌<◌, List, [], ◌∷◌, ◌++◌, length, Option, Some, refl, arith}
use Rattle.std.proofs.lemmas.List.Sums.{sum_by-cons}
use Rattle.save_stack.specs.Groups.{add_top, held, last_entry, but_last}
use Rattle.save_stack.specs.Table.{step, split, split_from, cells}

pub split_push-from : {X : Type 0} (os : List (Option X)) (o : Option X) (gs : List (List X)) → split_from (os ++ o ∷ []) gs ≡ step o (split_from os gs)
split_push-from [] o gs = refl
split_push-from (x ∷ os) o gs = split_push-from os o (step x gs)

pub split_push : {X : Type 0} (os : List (Option X)) (o : Option X) → split (os ++ o ∷ []) ≡ step o (split os)
split_push os o = split_push-from os o []

pub length_add : {X : Type 0} (x : X) (gs : List (List X)) → length (add_top x gs) ≡ length gs
length_add x [] = refl
length_add x (g ∷ gs) = refl

pub cells_open : {X : Type 0} (gs : List (List X)) → cells ([] ∷ gs) ≡ cells gs + 1
cells_open {X} gs = let none : List X = [] in omega (arith, sum_by-cons (λ (g : List X). 1 + length g) none gs)

pub cells_add : {X : Type 0} (x : X) (gs : List (List X)) → 0 < length gs → cells (add_top x gs) ≡ cells gs + 1
cells_add x [] some = absurd (omega arith)
cells_add {X} x (g ∷ gs) some = omega (arith, sum_by-cons (λ (g : List X). 1 + length g) g gs, sum_by-cons (λ (g : List X). 1 + length g) (x ∷ g) gs)

pub cells_held : {X : Type 0} (gs : List (List X)) → cells gs ≡ length gs + held gs
cells_held [] = refl
cells_held {X} (g ∷ gs) = omega (arith, cells_held gs, sum_by-cons (λ (g : List X). 1 + length g) g gs, sum_by-cons (λ (g : List X). length g) g gs)

pub last_added : {X : Type 0} (x : X) (gs : List (List X)) → 0 < length gs → last_entry (add_top x gs) ≡ Some x
last_added x [] some = absurd (omega arith)
last_added x (g ∷ gs) some = refl

pub but_added : {X : Type 0} (x : X) (gs : List (List X)) → 0 < length gs → but_last (add_top x gs) ≡ gs
but_added x [] some = absurd (omega arith)
but_added x (g ∷ gs) some = refl
