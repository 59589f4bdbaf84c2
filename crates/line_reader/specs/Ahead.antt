-- What has been read ahead of files: for each reader that is begun, the bytes that its window holds.
use Rattle.std.specs.Prelude.{◌≡◌, ◌<◌, ℕ, ◌==◌, Bool, true, false, not, List, [], ◌∷◌, filter, length, slice_index_or, slice_set, if◌then◌else◌}

-- a reader's number, and the bytes read ahead of it
pub record Ahead : Type 0 where
  pub reader : ℕ
  pub bytes : List ℕ

-- whether this reader is begun
abbrev pub is_begun : ℕ → List Ahead → Bool
is_begun id [] = false
is_begun id (a ∷ others) = if a.reader == id then true else is_begun id others

-- what is read ahead of this reader; nothing where it isn't begun
abbrev pub ahead_of : ℕ → List Ahead → List ℕ
ahead_of id [] = []
ahead_of id (a ∷ others) = if a.reader == id then a.bytes else ahead_of id others

-- these bytes are read ahead of this reader, which is begun if it wasn't
abbrev pub with_ahead : ℕ → List ℕ → List Ahead → List Ahead
with_ahead id bytes [] = (record { reader = id; bytes = bytes }) ∷ []
with_ahead id bytes (a ∷ others) = if a.reader == id then (record { reader = id; bytes = bytes }) ∷ others else a ∷ with_ahead id bytes others

-- without this reader
abbrev pub forgotten : ℕ → List Ahead → List Ahead
forgotten id ahead = filter (λ a. not (a.reader == id)) ahead

-- this reader's window stands at this place
pub record IsWindowAt (id : ℕ) (ahead : List Ahead) (place : ℕ) : Type 0 where
  pub below : place < length ahead
  pub begun : is_begun id ahead ≡ true
  pub reader : (d : Ahead) → (slice_index_or ahead place d).reader ≡ id
  pub bytes : (d : Ahead) → (slice_index_or ahead place d).bytes ≡ ahead_of id ahead
  pub changed : (bytes : List ℕ) → slice_set ahead place (record { reader = id; bytes = bytes }) ≡ with_ahead id bytes ahead
