-- What a search finds, and what entering a name changes.
use Rattle.std.specs.Prelude.{◌≡◌, ◌≢◌, ℕ, ◌+◌, ◌-◌, ◌*◌, ◌<◌, ◌≤◌, ◌==◌, nat_lt, List, [], ◌∷◌, ◌++◌, length, slice_index, Option, Some, None, Result, Ok, Err, if◌then◌else◌}
use Rattle.tex_defs.specs.declared.Full.{Full}
use Rattle.tex_defs.specs.declared.Table.TheVariants.{PoolSize, NumberOfStrings, HashSize}
use Rattle.string_pool.specs.Pool.{Pool, kept_bytes}
use Rattle.cs_hash.specs.Names.{Names, string_at, entered, name_number}
use Rattle.cs_hash.specs.Index.{slot_at}
use Rattle.cs_hash.specs.declared.Search.{Search}
use Rattle.cs_hash.specs.declared.Search.TheVariants.{Entered, Vacant}

-- a name more in the pool is refused by pool size, by number of strings, or else as `other` says
abbrev pub string_refusal : Pool → List ℕ → Option Full → Option Full
string_refusal pool name other =
    if nat_lt pool.pool_size (kept_bytes pool + length name) then Some (record { table = PoolSize; used = kept_bytes pool; size = pool.pool_size })
    else if length pool.kept == pool.number_of_strings then Some (record { table = NumberOfStrings; used = length pool.kept; size = pool.number_of_strings })
    else other

abbrev pub hash_refusal : Names → Option Full
hash_refusal hash = if length hash.strings == hash.hash_size then Some (record { table = HashSize; used = length hash.strings; size = hash.hash_size }) else None

-- the first of pool size, number of strings and hash size that has no room for a new name
abbrev pub entry_refusal : Names → Pool → List ℕ → Option Full
entry_refusal hash pool name = string_refusal pool name (hash_refusal hash)

-- the name is kept behind the other strings
abbrev pub with_string : Pool → List ℕ → Pool
with_string pool name = record pool { kept = pool.kept ++ name ∷ [] }

-- nothing has changed
pub record Stays (hash hash' : Names) (pool pool' : Pool) : Type 0 where
  pub hash_same : hash' ≡ hash
  pub pool_same : pool' ≡ pool

-- the name is the last now, under the next number
pub record Gains (hash hash' : Names) (pool pool' : Pool) (name : List ℕ) : Type 0 where
  pub names : entered hash' pool'.kept ≡ entered hash pool.kept ++ name ∷ []
  pub string : hash'.strings ≡ hash.strings ++ length pool.kept ∷ []
  pub size_same : hash'.hash_size ≡ hash.hash_size
  pub kept : pool' ≡ with_string pool name

-- a name that is there keeps its number; a new one is refused, and then nothing has changed, or gets the next
pub record Enters (hash hash' : Names) (pool pool' : Pool) (name : List ℕ) (result : Result ℕ Full) : Type 0 where
  pub there : (no : ℕ) → name_number (entered hash pool.kept) name ≡ Some no → (result ≡ Ok no) × Stays hash hash' pool pool'
  pub refused : (full : Full) → name_number (entered hash pool.kept) name ≡ None → entry_refusal hash pool name ≡ Some full → (result ≡ Err full) × Stays hash hash' pool pool'
  pub fresh : name_number (entered hash pool.kept) name ≡ None → entry_refusal hash pool name ≡ None → (result ≡ Ok (length hash.strings + 1)) × Gains hash hash' pool pool' name

-- a search has come to this slot past slots that hold other names
pub record IsAt (hash : Names) (kept : List (List ℕ)) (name : List ℕ) (slot depth : ℕ) : Type 0 where
  pub slot_is : slot ≡ slot_at hash.hash_size hash.index name depth
  pub passed : (i : ℕ) → i < depth → slice_index hash.index (slot_at hash.hash_size hash.index name i) ≢ 0
  pub others : (i : ℕ) → i < depth → string_at kept (slice_index hash.strings (slice_index hash.index (slot_at hash.hash_size hash.index name i) - 1)) ≢ name
  pub within : slot < hash.hash_size + 2 * length hash.strings + 2
  pub turns : depth ≤ slot

pub record IsEntered (hash : Names) (kept : List (List ℕ)) (name : List ℕ) (no : ℕ) : Type 0 where
  pub first : 0 < no
  pub last : no ≤ length hash.strings
  pub named : string_at kept (slice_index hash.strings (no - 1)) ≡ name

pub record IsVacant (hash : Names) (kept : List (List ℕ)) (name : List ℕ) (slot : ℕ) : Type 0 where
  pub depth : ℕ
  pub at : IsAt hash kept name slot depth
  pub vacant : slice_index hash.index slot ≡ 0

abbrev pub Finds : Names → List (List ℕ) → List ℕ → Search → Type 0
Finds hash kept name (Entered number) = IsEntered hash kept name number
Finds hash kept name (Vacant slot) = IsVacant hash kept name slot
