-- What callers see of a pool, before and after each change of what lies in memory.
use Rattle.std.proofs.Common.{◌≡◌, ◌≢◌, ℕ, ◌+◌, ◌-◌, ◌<◌, ◌≤◌, ◌==◌, Bool, true, false, List, [], ◌∷◌, ◌++◌, length, take, drop, get_or, Some, None, IsSome, slice_get, refl, subst, eq-eqb, arith}
use Rattle.std.proofs.lemmas.List.{drop-append-le, length-drop, take_all}
use Rattle.tex_defs.specs.declared.Full.{Full}
use Rattle.tex_defs.specs.declared.Table.TheVariants.{PoolSize, NumberOfStrings}
use Rattle.string_pool.specs.Pool.{Pool, kept_bytes, open_string, append_refusal, close_refusal, with_byte, closed, dropped}
use Rattle.string_pool.specs.Pieces.{last_end, IsSound, pool_of, start_of}
use Rattle.string_pool.proofs.Cuts.{kept_bytes_of, length-pieces, pieces-append, pieces-push, pieces-take, pieces-get}
use Rattle.std.proofs.lemmas.Bool.{false≢true}

-- the numbers that callers see
pub record IsSeen (pool : Pool) (bytes ends : List ℕ) (kept p n : ℕ) : Type 0 where
  pub kept_is : kept_bytes pool ≡ kept
  pub count_is : length pool.kept ≡ length ends
  pub pool_size_is : pool.pool_size ≡ p
  pub strings_is : pool.number_of_strings ≡ n
  pub open_is : IsSome pool.opened → kept + length (open_string pool) ≡ length bytes

seen_of : (bytes ends : List ℕ) (kept : ℕ) (is_open : Bool) (p n b s : ℕ) → IsSound bytes ends kept is_open p n b s → IsSeen (pool_of bytes ends kept is_open p n) bytes ends kept p n
seen_of bytes ends kept true p n b s sound = record {
  kept_is = kept_bytes_of bytes ends kept true p n b s sound;
  count_is = length-pieces bytes 0 ends;
  pool_size_is = refl;
  strings_is = refl;
  open_is = λ _. omega (arith, sound.within, length-drop kept bytes);
}
seen_of bytes ends kept false p n b s sound = record {
  kept_is = kept_bytes_of bytes ends kept false p n b s sound;
  count_is = length-pieces bytes 0 ends;
  pool_size_is = refl;
  strings_is = refl;
  open_is = λ o. absurd (false≢true o);
}

pub seen : (pool : Pool) (bytes ends : List ℕ) (kept : ℕ) (is_open : Bool) (p n b s : ℕ) → pool_of bytes ends kept is_open p n ≡ pool → IsSound bytes ends kept is_open p n b s → IsSeen pool bytes ends kept p n
seen pool bytes ends kept is_open p n b s view sound =
    let P : Pool → Type 0 = λ pool. IsSeen pool bytes ends kept p n in
    subst P view (seen_of bytes ends kept is_open p n b s sound)

pub bytes_refused : (pool : Pool) (kept p : ℕ) → kept_bytes pool ≡ kept → pool.pool_size ≡ p → kept + length (open_string pool) ≡ p → append_refusal pool ≡ Some (record { table = PoolSize; used = kept; size = p })
bytes_refused pool kept p k s full =
    let test : (kept_bytes pool + length (open_string pool) == pool.pool_size) ≡ true = eq-eqb _ _ (omega arith) in
    rw (test, k, s) refl

pub bytes_taken : (pool : Pool) → kept_bytes pool + length (open_string pool) ≢ pool.pool_size → append_refusal pool ≡ None
bytes_taken pool free =
    let test : (kept_bytes pool + length (open_string pool) == pool.pool_size) ≡ false = grind arith in
    rw test refl

pub string_refused : (pool : Pool) (count n : ℕ) → length pool.kept ≡ count → pool.number_of_strings ≡ n → count ≡ n → close_refusal pool ≡ Some (record { table = NumberOfStrings; used = count; size = n })
string_refused pool count n k s full =
    let test : (length pool.kept == pool.number_of_strings) ≡ true = eq-eqb _ _ (omega arith) in
    rw (test, k, s) refl

pub string_taken : (pool : Pool) → length pool.kept ≢ pool.number_of_strings → close_refusal pool ≡ None
string_taken pool free =
    let test : (length pool.kept == pool.number_of_strings) ≡ false = grind arith in
    rw test refl

-- the pool's own changes

appended_of : (bytes ends : List ℕ) (kept : ℕ) (is_open : Bool) (p n b s byte : ℕ) → IsSound bytes ends kept is_open p n b s → IsSome (pool_of bytes ends kept is_open p n).opened → pool_of (bytes ++ byte ∷ []) ends kept is_open p n ≡ with_byte (pool_of bytes ends kept is_open p n) byte
appended_of bytes ends kept true p n b s byte sound is_open =
    let fits : last_end 0 ends ≤ length bytes = omega (arith, sound.last, sound.within) in
    rw (pieces-append bytes (byte ∷ []) 0 ends sound.in_order fits, drop-append-le kept bytes (byte ∷ []) sound.within) refl
appended_of bytes ends kept false p n b s byte sound is_open = absurd (false≢true is_open)

pub appended : (pool : Pool) (bytes ends : List ℕ) (kept : ℕ) (is_open : Bool) (p n b s byte : ℕ) → pool_of bytes ends kept is_open p n ≡ pool → IsSound bytes ends kept is_open p n b s → IsSome pool.opened → pool_of (bytes ++ byte ∷ []) ends kept is_open p n ≡ with_byte pool byte
appended pool bytes ends kept is_open p n b s byte view sound =
    let P : Pool → Type 0 = λ pool. IsSome pool.opened → pool_of (bytes ++ byte ∷ []) ends kept is_open p n ≡ with_byte pool byte in
    subst P view (appended_of bytes ends kept is_open p n b s byte sound)

-- the cut up to the last byte is all that isn't kept
cut_all : (bytes : List ℕ) (kept from : ℕ) → from ≡ kept → kept ≤ length bytes → take (length bytes - from) (drop from bytes) ≡ drop kept bytes
cut_all bytes kept from same within = rw (same, ← length-drop kept bytes) (take_all (length (drop kept bytes)) (drop kept bytes) (omega arith))

closed_of : (bytes ends : List ℕ) (kept : ℕ) (is_open : Bool) (p n b s : ℕ) → IsSound bytes ends kept is_open p n b s → IsSome (pool_of bytes ends kept is_open p n).opened → pool_of bytes (ends ++ length bytes ∷ []) (length bytes) false p n ≡ closed (pool_of bytes ends kept is_open p n)
closed_of bytes ends kept true p n b s sound is_open =
    rw (pieces-push bytes 0 ends (length bytes), cut_all bytes kept (last_end 0 ends) sound.last sound.within) refl
closed_of bytes ends kept false p n b s sound is_open = absurd (false≢true is_open)

pub closed_is : (pool : Pool) (bytes ends : List ℕ) (kept : ℕ) (is_open : Bool) (p n b s : ℕ) → pool_of bytes ends kept is_open p n ≡ pool → IsSound bytes ends kept is_open p n b s → IsSome pool.opened → pool_of bytes (ends ++ length bytes ∷ []) (length bytes) false p n ≡ closed pool
closed_is pool bytes ends kept is_open p n b s view sound =
    let P : Pool → Type 0 = λ pool. IsSome pool.opened → pool_of bytes (ends ++ length bytes ∷ []) (length bytes) false p n ≡ closed pool in
    subst P view (closed_of bytes ends kept is_open p n b s sound)

pub dropped_is : (pool : Pool) (bytes ends : List ℕ) (kept : ℕ) (is_open : Bool) (p n b s : ℕ) → pool_of bytes ends kept is_open p n ≡ pool → IsSound bytes ends kept is_open p n b s → pool_of (take kept bytes) ends kept false p n ≡ dropped pool
dropped_is pool bytes ends kept is_open p n b s view sound =
    let P : Pool → Type 0 = λ pool. pool_of (take kept bytes) ends kept false p n ≡ dropped pool in
    let below : last_end 0 ends ≤ kept = omega (arith, sound.last) in
    subst P view (rw (pieces-take bytes kept 0 ends sound.in_order below sound.within) refl)

pub string_is : (pool : Pool) (bytes ends : List ℕ) (kept : ℕ) (is_open : Bool) (p n j start : ℕ) → pool_of bytes ends kept is_open p n ≡ pool → j < length ends → start ≡ start_of 0 ends j → slice_get pool.kept j ≡ Some (take (get_or ends j 0 - start) (drop start bytes))
string_is pool bytes ends kept is_open p n j start view below at =
    let P : Pool → Type 0 = λ pool. slice_get pool.kept j ≡ Some (take (get_or ends j 0 - start) (drop start bytes)) in
    subst P view (rw at (pieces-get bytes 0 ends j below))

pub string_room : (pool : Pool) → ((full : Full) → close_refusal pool ≡ Some full → ⊥) → length pool.kept ≢ pool.number_of_strings
string_room pool free same = free _ (string_refused pool _ _ refl refl same)
