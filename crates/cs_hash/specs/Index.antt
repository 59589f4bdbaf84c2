-- The table inside: buckets, and behind them two slots for each name, in which the names of its bucket that
-- came later are told apart by their bits. A slot holds a name's number, or 0 where it is vacant.
use Rattle.std.specs.Prelude.{◌≡◌, ◌≢◌, ℕ, zero, suc, ◌+◌, ◌*◌, ◌/◌, ◌%◌, ◌^◌, ◌<◌, ◌≤◌, ◌==◌, nat_lt, List, length, slice_index, if◌then◌else◌}
use Rattle.std.specs.List.{fold}

-- the bucket of a name, among this many
unfoldable pub bucket_of : List ℕ → ℕ → ℕ
bucket_of name size = fold (λ code byte. (code % 4294967291) * 16777619 + byte) 0 name % 4294967291 % size

-- 1 or 0: nine for each byte of a name, its bits and whether another byte follows
unfoldable pub turn_of : List ℕ → ℕ → ℕ
turn_of name depth =
    if nat_lt (depth / 9) (length name) then
    (if depth % 9 == 8 then (if nat_lt (depth / 9 + 1) (length name) then 1 else 0) else slice_index name (depth / 9) / 2 ^ (depth % 9) % 2)
    else 0

-- the slot at which a search for the name looks after so many turns
unfoldable pub slot_at : ℕ → List ℕ → List ℕ → ℕ → ℕ
slot_at size index name zero = bucket_of name size
slot_at size index name (suc depth) = size + 2 * slice_index index (slot_at size index name depth) + turn_of name depth

-- a search for the name comes to this number, past slots that aren't vacant
pub record Leads (size : ℕ) (index name : List ℕ) (no : ℕ) : Type 0 where
  pub depth : ℕ
  pub found : slice_index index (slot_at size index name depth) ≡ no
  pub passed : (i : ℕ) → i < depth → slice_index index (slot_at size index name i) ≢ 0

-- no slot holds a number above `count`, and each slot lies before those of the name that it holds
pub record IsTable (strings index : List ℕ) (size string_room : ℕ) : Type 0 where
  pub positive : 0 < size
  pub small : size < 65536
  pub slots : length index ≡ 3 * size + 2
  pub count_fits : length strings ≤ size
  pub room : size ≤ string_room
  pub numbers : (s : ℕ) → slice_index index s ≤ length strings
  pub forward : (s : ℕ) → slice_index index s ≢ 0 → s < size + 2 * slice_index index s
