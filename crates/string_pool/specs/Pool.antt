-- A pool as callers see it: the kept strings in order, the open string if there is one, and the two sizes.
use Rattle.std.specs.Prelude.{ℕ, List, [], ◌∷◌, ◌++◌, length, Option, Some, None, unwrap_or, ◌==◌, ◌+◌, if◌then◌else◌}
use Rattle.std.specs.List.{sum_by}
use Rattle.tex_defs.specs.declared.Full.{Full}
use Rattle.tex_defs.specs.declared.Table.TheVariants.{PoolSize, NumberOfStrings}

pub record Pool : Type 0 where
  pub kept : List (List ℕ)
  pub opened : Option (List ℕ)
  pub pool_size : ℕ
  pub number_of_strings : ℕ

abbrev pub empty_pool : ℕ → ℕ → Pool
empty_pool bytes strings = record { kept = []; opened = None; pool_size = bytes; number_of_strings = strings }

-- the bytes of all kept strings: the pool size that is used
abbrev pub kept_bytes : Pool → ℕ
kept_bytes pool = sum_by length pool.kept

-- the bytes of the open string
abbrev pub open_string : Pool → List ℕ
open_string pool = unwrap_or pool.opened []

-- a string was begun
abbrev pub begun : Pool → Pool
begun pool = record pool { opened = Some [] }

-- the open string has this byte more
abbrev pub with_byte : Pool → ℕ → Pool
with_byte pool byte = record pool { opened = Some (open_string pool ++ byte ∷ []) }

-- the open string is kept
abbrev pub closed : Pool → Pool
closed pool = record pool { kept = pool.kept ++ open_string pool ∷ []; opened = None }

-- the open string is gone
abbrev pub dropped : Pool → Pool
dropped pool = record pool { opened = None }

-- one more byte is refused where the kept bytes and those of the open string are the size
abbrev pub append_refusal : Pool → Option Full
append_refusal pool = if kept_bytes pool + length (open_string pool) == pool.pool_size then Some (record { table = PoolSize; used = kept_bytes pool; size = pool.pool_size }) else None

-- one more string is refused where as many are kept as the pool may hold
abbrev pub close_refusal : Pool → Option Full
close_refusal pool = if length pool.kept == pool.number_of_strings then Some (record { table = NumberOfStrings; used = length pool.kept; size = pool.number_of_strings }) else None
