-- How the maps are kept: one table of the present values, from which the saved values, taken back, give the map of each outer level.
use Rattle.std.specs.Prelude.{◌≡◌, ℕ, ◌+◌, ◌<◌, ◌≤◌, ◌^◌, List, [], ◌∷◌, length, sum_by, Option, None, Some, ◌⊎◌}
use Rattle.save_stack.specs.declared.Saved.{Saved}
use Rattle.save_stack.specs.Groups.{Stack, level_at, back_values, back_levels, undo_levels, add_top}
use Rattle.tex_defs.specs.declared.Token.{Token}
use Rattle.save_stack.specs.declared.GroupKind.{GroupKind}

-- a group's saved values are taken back, the last first
abbrev pub undo_values : {V : Type 0} → List (Saved V) → List V → List ℕ → List V
undo_values [] t l = t
undo_values (e ∷ es) t l = undo_values es (back_values e t l) (back_levels e l)

-- the map of each level, the innermost first
abbrev pub maps_of : {V : Type 0} → List V → List ℕ → List (List (Saved V)) → List (List V)
maps_of t l [] = t ∷ []
maps_of t l (g ∷ gs) = t ∷ maps_of (undo_values g t l) (undo_levels g l) gs

-- an array with a None where each group begins, as the groups, the innermost first
abbrev pub step : {X : Type 0} → Option X → List (List X) → List (List X)
step None gs = [] ∷ gs
step (Some x) gs = add_top x gs

abbrev pub split_from : {X : Type 0} → List (Option X) → List (List X) → List (List X)
split_from [] gs = gs
split_from (o ∷ os) gs = split_from os (step o gs)

abbrev pub split : {X : Type 0} → List (Option X) → List (List X)
split os = split_from os []

-- the items of the array, the marks among them
abbrev pub cells : {X : Type 0} → List (List X) → ℕ
cells gs = sum_by (λ g. 1 + length g) gs

abbrev pub stack_of : {V : Type 0} → List V → List ℕ → List (Option (Saved V)) → List (Option Token) → List GroupKind → (size most : ℕ) → Stack V
stack_of values levels saved after kinds size most = record {
  maps = maps_of values levels (split saved);
  levels = levels;
  entries = split saved;
  tokens = split after;
  kinds = kinds;
  size = size;
  most = most;
}

-- some entry is for this location
abbrev pub HasEntry : {V : Type 0} → List (Saved V) → ℕ → Type 0
HasEntry [] k = ⊥
HasEntry (e ∷ es) k = (e.loc ≡ k) ⊎ HasEntry es k

-- each entry is for a location of the table, and has a level below the group's
abbrev pub AreWithin : {V : Type 0} → List (Saved V) → ℕ → ℕ → Type 0
AreWithin [] n m = Unit {0}
AreWithin (e ∷ es) n m = (e.loc < n) × (e.level ≤ m) × AreWithin es n m

-- each location's level is at most the present one, and where it is the present one the group has an entry for it
abbrev pub IsBook : {V : Type 0} → List ℕ → List (List (Saved V)) → Type 0
IsBook l [] = (k : ℕ) → level_at l k ≡ 0
IsBook l (g ∷ gs) = ((k : ℕ) → level_at l k ≤ length gs + 1) × ((k : ℕ) → level_at l k ≡ length gs + 1 → HasEntry g k) × AreWithin g (length l) (length gs) × IsBook (undo_levels g l) gs

-- What the arrays keep. The rooms are what memory was taken for.
pub record IsSound {V : Type 0} (values : List V) (levels : List ℕ) (saved : List (Option (Saved V))) (after : List (Option Token)) (kinds : List GroupKind) (size most : ℕ) (saved_room after_room kinds_room values_room levels_room : ℕ) : Type 0 where
  pub same : length levels ≡ length values
  pub book : IsBook levels (split saved)
  pub groups : length (split saved) ≡ length kinds
  pub ends : length (split after) ≡ length kinds
  pub saved_cells : length saved ≡ cells (split saved)
  pub after_cells : length after ≡ cells (split after)
  pub fits : length saved + length after ≤ size + length kinds
  pub saved_rooms : size ≤ saved_room
  pub after_rooms : size ≤ after_room
  pub kinds_rooms : size ≤ kinds_room
  pub values_rooms : most ≤ values_room
  pub levels_rooms : most ≤ levels_room
  pub few : length levels ≤ most
  pub small : size < 2 ^ 32
  pub most_small : most < 2 ^ 32
