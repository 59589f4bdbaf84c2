-- How the strings lie in a pool, a hash and a list of numbers.
use Rattle.std.specs.Prelude.{◌≡◌, ℕ, ◌+◌, ◌<◌, ◌≤◌, List, length, map, slice_index, None}
use Rattle.tex_defs.specs.declared.Sizes.{Sizes}
use Rattle.string_pool.specs.Pool.{Pool, kept_bytes}
use Rattle.cs_hash.specs.Names.{Names, string_at, entered, Knows}
use Rattle.plain_tokens.specs.Tables.{bytes_of}
use Rattle.name_table.specs.Strings.{Strings}

-- the strings with these numbers
abbrev pub strings_at : Pool → List ℕ → List (List ℕ)
strings_at pool numbers = map (string_at pool.kept) numbers

abbrev pub strings_of : Names → Pool → List ℕ → Sizes → Strings
strings_of hash pool others sizes = record { names = entered hash pool.kept; others = strings_at pool others; sizes = sizes }

-- Each kept string is a name or one of the others, and all are within the sizes.
pub record IsSound (hash : Names) (pool : Pool) (others : List ℕ) (sizes : Sizes) (room : ℕ) : Type 0 where
  pub knows : Knows hash pool.kept
  pub closed : pool.opened ≡ None
  pub within : (i : ℕ) → i < length others → slice_index others i < length pool.kept
  pub count : length pool.kept ≡ length hash.strings + length others
  pub bytes : kept_bytes pool ≡ bytes_of (entered hash pool.kept) + bytes_of (strings_at pool others)
  pub strings_fit : length pool.kept ≤ sizes.number_of_strings
  pub names_fit : length hash.strings ≤ sizes.hash_size
  pub pool_size_is : pool.pool_size ≡ sizes.pool_size
  pub number_of_strings_is : pool.number_of_strings ≡ sizes.number_of_strings
  pub hash_size_is : hash.hash_size ≡ sizes.hash_size
  pub reserved : sizes.number_of_strings ≤ room
