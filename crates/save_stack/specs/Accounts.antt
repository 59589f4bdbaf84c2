-- What is held: each value of the innermost map and each saved value, once. For whatever weight is given to values, a call
-- gains the weight of what it is given and loses that of what it hands back: no value is lost and none is doubled.
use Rattle.std.specs.Prelude.{◌≡◌, ℕ, ◌+◌, List, Option, None, Some, sum_by, Result, Ok, Err}
use Rattle.tex_defs.specs.declared.Full.{Full}
use Rattle.save_stack.specs.declared.Saved.{Saved}
use Rattle.save_stack.specs.Groups.{Stack, top}

abbrev pub saved_weight : {V : Type 0} → (V → ℕ) → List (Saved V) → ℕ
saved_weight w es = sum_by (λ e. w e.value) es

abbrev pub groups_weight : {V : Type 0} → (V → ℕ) → List (List (Saved V)) → ℕ
groups_weight w gs = sum_by (λ g. saved_weight w g) gs

abbrev pub weighs : {V : Type 0} → (V → ℕ) → Stack V → ℕ
weighs w s = sum_by w (top s.maps) + groups_weight w s.entries

abbrev pub optional : {V : Type 0} → (V → ℕ) → Option V → ℕ
optional w None = 0
optional w (Some v) = w v

-- what a local assignment hands back: the old value at the present level, or the new one where it is refused
abbrev pub handed_back : {V : Type 0} → (V → ℕ) → Result (Option V) (Full × V) → ℕ
handed_back w (Ok o) = optional w o
handed_back w (Err e) = w e.1

abbrev pub taken_weight : {V : Type 0} → (V → ℕ) → Option (ℕ × V) → ℕ
taken_weight w None = 0
taken_weight w (Some p) = w p.1

abbrev pub SetBalances : {V : Type 0} → Stack V → V → Result (Option V) (Full × V) → Stack V → Type 0
SetBalances {V} old given back new = (w : V → ℕ) → weighs w new + handed_back w back ≡ weighs w old + w given

abbrev pub SetAllBalances : {V : Type 0} → Stack V → V → V → Stack V → Type 0
SetAllBalances {V} old given back new = (w : V → ℕ) → weighs w new + w back ≡ weighs w old + w given

abbrev pub TakingBalances : {V : Type 0} → Stack V → Option (ℕ × V) → Stack V → Type 0
TakingBalances {V} old back new = (w : V → ℕ) → weighs w new + taken_weight w back ≡ weighs w old

abbrev pub KeepsAll : {V : Type 0} → Stack V → Stack V → Type 0
KeepsAll {V} old new = (w : V → ℕ) → weighs w new ≡ weighs w old

abbrev pub Gains : {V : Type 0} → Stack V → V → Stack V → Type 0
Gains {V} old given new = (w : V → ℕ) → weighs w new ≡ weighs w old + w given

-- what an array of saved values weighs, in which marks stand between the groups
abbrev pub mark_weight : {V : Type 0} → (V → ℕ) → Option (Saved V) → ℕ
mark_weight w None = 0
mark_weight w (Some e) = w e.value

abbrev pub array_weight : {V : Type 0} → (V → ℕ) → List (Option (Saved V)) → ℕ
array_weight w os = sum_by (λ o. mark_weight w o) os

-- all that was held is handed back
abbrev pub HandsBackAll : {V : Type 0} → Stack V → List V → List (Option (Saved V)) → Type 0
HandsBackAll {V} old values saved = (w : V → ℕ) → sum_by w values + array_weight w saved ≡ weighs w old
