-- Files in memory: a list of names and bytes, of which the first of a name counts.
use Rattle.std.specs.Prelude.{◌≡◌, ◌<◌, ℕ, false, List, [], ◌∷◌, length, bytes_eq, slice_index_or, if◌then◌else◌}
use Rattle.tex_defs.specs.Places.{File, NotHeld, Holds}
use Rattle.world_io.specs.declared.store.Held.{Held}

-- what is held under a name
abbrev pub look_up : List Held → List ℕ → File
look_up [] name = NotHeld
look_up (h ∷ hs) name = if bytes_eq name h.name then Holds h.bytes else look_up hs name

-- none of the first n has this name
pub record Skips (hs : List Held) (name : List ℕ) (n : ℕ) : Type 0 where
  pub other : (k : ℕ) (d : Held) → k < n → k < length hs → bytes_eq name (slice_index_or hs k d).name ≡ false

-- the one at i is the first of this name
pub record IsFirst (hs : List Held) (name : List ℕ) (i : ℕ) : Type 0 where
  pub below : i < length hs
  pub here : (d : Held) → (slice_index_or hs i d).name ≡ name
  pub before : Skips hs name i
