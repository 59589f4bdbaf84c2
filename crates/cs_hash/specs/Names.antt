-- The names that were entered, in order: of each the number of its string, and the table that finds them.
use Rattle.std.specs.Prelude.{◌≡◌, ℕ, suc, ◌<◌, List, [], ◌∷◌, length, map, slice_index, slice_index_or, Option, Some, None, bytes_eq, if◌then◌else◌}
use Rattle.cs_hash.specs.Index.{Leads}

-- `index` is the table inside, of which `Knows` alone speaks
pub record Names : Type 0 where
  pub strings : List ℕ
  pub hash_size : ℕ
  pub index : List ℕ

-- the bytes of a kept string
abbrev pub string_at : List (List ℕ) → ℕ → List ℕ
string_at kept string = slice_index_or kept string []

-- the names in the order entered, where these strings are kept
abbrev pub entered : Names → List (List ℕ) → List (List ℕ)
entered hash kept = map (string_at kept) hash.strings

-- the number of a name, where the first of these has the number k
unfoldable pub number_from : ℕ → List (List ℕ) → List ℕ → Option ℕ
number_from k [] name = None
number_from k (first ∷ names) name = if bytes_eq first name then Some k else number_from (suc k) names name

-- the number of a name among these, from 1, if it is one of them
abbrev pub name_number : List (List ℕ) → List ℕ → Option ℕ
name_number names name = number_from 1 names name

-- The names are strings of this pool, distinct, and the table finds each: what a hash and its pool keep
-- between calls. The pool may keep other strings too.
pub record Knows (hash : Names) (kept : List (List ℕ)) : Type 0 where
  pub within : (i : ℕ) → i < length hash.strings → slice_index hash.strings i < length kept
  pub distinct : (i j : ℕ) → i < length hash.strings → j < length hash.strings → string_at kept (slice_index hash.strings i) ≡ string_at kept (slice_index hash.strings j) → i ≡ j
  pub led : (i : ℕ) → i < length hash.strings → Leads hash.hash_size hash.index (string_at kept (slice_index hash.strings i)) (suc i)
