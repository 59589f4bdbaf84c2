-- How a pool lies in memory: one list of bytes, and where each kept string ends in it.
use Rattle.std.specs.Prelude.{◌≡◌, ℕ, zero, suc, slice_index, ◌-◌, ◌≤◌, ◌<◌, ◌^◌, List, [], ◌∷◌, length, take, drop, Bool, false, Some, None, if◌then◌else◌}
use Rattle.string_pool.specs.Pool.{Pool}

-- the strings that end at these places, the first of which begins at `from`
unfoldable pub pieces : List ℕ → ℕ → List ℕ → List (List ℕ)
pieces bytes from [] = []
pieces bytes from (end ∷ ends) = take (end - from) (drop from bytes) ∷ pieces bytes end ends

-- where a string begins: the first at `from`, each other where the one before it ends
abbrev pub start_of : ℕ → List ℕ → ℕ → ℕ
start_of from ends zero = from
start_of from ends (suc k) = slice_index ends k

-- where the last of them ends
unfoldable pub last_end : ℕ → List ℕ → ℕ
last_end from [] = from
last_end from (end ∷ ends) = last_end end ends

-- no string ends before it begins
unfoldable pub AreInOrder : ℕ → List ℕ → Type 0
AreInOrder from [] = Unit {0}
AreInOrder from (end ∷ ends) = (from ≤ end) × AreInOrder end ends

abbrev pub pool_of : List ℕ → List ℕ → ℕ → Bool → ℕ → ℕ → Pool
pool_of bytes ends kept is_open pool_size number_of_strings = record {
  kept = pieces bytes 0 ends;
  opened = if is_open then Some (drop kept bytes) else None;
  pool_size = pool_size;
  number_of_strings = number_of_strings;
}

pub record IsSound (bytes ends : List ℕ) (kept : ℕ) (is_open : Bool) (pool_size number_of_strings byte_room string_room : ℕ) : Type 0 where
  pub in_order : AreInOrder 0 ends
  pub last : last_end 0 ends ≡ kept
  pub within : kept ≤ length bytes
  pub nothing_open : is_open ≡ false → length bytes ≡ kept
  pub bytes_fit : length bytes ≤ pool_size
  pub strings_fit : length ends ≤ number_of_strings
  pub small_pool : pool_size < 2 ^ 32
  pub few_strings : number_of_strings < 2 ^ 32
  pub bytes_reserved : pool_size ≤ byte_room
  pub strings_reserved : number_of_strings ≤ string_room
