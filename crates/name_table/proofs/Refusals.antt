-- The pool and the hash refuse a string exactly where the plain machine does.
use Rattle.std.proofs.Common.{◌≡◌, ℕ, ◌+◌, ◌≤◌, ◌==◌, nat_lt, nat_le, Bool, true, false, not, List, [], ◌∷◌, ◌++◌, length, Option, Some, None, refl, ap, sym, arith, if◌then◌else◌}
use Rattle.std.proofs.lemmas.Bool.{leb-true}
use Rattle.std.proofs.lemmas.Bool.Decides.{nat_tests}
use Rattle.std.proofs.lemmas.List.{length-map}
use Rattle.tex_defs.specs.declared.Full.{Full}
use Rattle.tex_defs.specs.declared.Table.{Table}
use Rattle.tex_defs.specs.declared.Table.TheVariants.{PoolSize, NumberOfStrings, HashSize}
use Rattle.tex_defs.specs.declared.Sizes.{Sizes}
use Rattle.tex_defs.specs.Sizes.{size_of}
use Rattle.string_pool.specs.Pool.{Pool, kept_bytes}
use Rattle.cs_hash.specs.Names.{Names, string_at, entered}
use Rattle.cs_hash.specs.Entry.{string_refusal, entry_refusal, hash_refusal}
use Rattle.plain_tokens.specs.Tables.{Demand, refused, full, string, hash as hash_demand, bytes_of}
use Rattle.name_table.specs.Strings.{Strings, name_refusal, other_refusal}
use Rattle.name_table.specs.Layout.{IsSound, strings_of, strings_at}

-- what is not refused has room
pub record HasRoom (sizes : Sizes) (d : Demand) (ds : List Demand) : Type 0 where
  pub here : d.used + d.need ≤ size_of sizes d.table
  pub behind : refused sizes ds ≡ None

some_none : (f : Full) → Some f ≡ None → ⊥
some_none f e = cc

room_of : (sizes : Sizes) (d : Demand) (ds : List Demand) (test : Bool) → nat_le (d.used + d.need) (size_of sizes d.table) ≡ test → (if test then refused sizes ds else Some (full sizes d)) ≡ None → HasRoom sizes d ds
room_of sizes d ds true test free = record { here = leb-true (d.used + d.need) (size_of sizes d.table) test; behind = free }
room_of sizes d ds false test free = absurd (some_none (full sizes d) free)

has_room : (sizes : Sizes) (d : Demand) (ds : List Demand) → refused sizes (d ∷ ds) ≡ None → HasRoom sizes d ds
has_room sizes d ds free = room_of sizes d ds (nat_le (d.used + d.need) (size_of sizes d.table)) refl free

abbrev pub bytes_demand : Strings → List ℕ → Demand
bytes_demand strings bytes = record { table = PoolSize; used = bytes_of strings.names + bytes_of strings.others; need = length bytes }

abbrev pub count_demand : Strings → Demand
count_demand strings = record { table = NumberOfStrings; used = length strings.names + length strings.others; need = 1 }

pub string_room : (strings : Strings) (bytes : List ℕ) (more : List Demand) → refused strings.sizes (string bytes strings.names strings.others ++ more) ≡ None → HasRoom strings.sizes (count_demand strings) more
string_room strings bytes more free =
    has_room strings.sizes (count_demand strings) more (has_room strings.sizes (bytes_demand strings bytes) (count_demand strings ∷ more) free).behind

pub name_room : (strings : Strings) (name : List ℕ) → name_refusal strings name ≡ None → HasRoom strings.sizes (hash_demand strings.names) []
name_room strings name free =
    has_room strings.sizes (hash_demand strings.names) [] (string_room strings name (hash_demand strings.names ∷ []) free).behind

pub not_refused : (sizes : Sizes) (d : Demand) (ds : List Demand) → d.used + d.need ≤ size_of sizes d.table → refused sizes ds ≡ None → refused sizes (d ∷ ds) ≡ None
not_refused sizes d ds here behind =
    let test : nat_le (d.used + d.need) (size_of sizes d.table) ≡ true = grind (arith, nat_tests) in
    rw test behind

-- one asks whether there is no room, the other whether there is
asked_first : (no_room room : Bool) (f g : Full) (x y : Option Full) → no_room ≡ not room → f ≡ g → x ≡ y → (if no_room then Some f else x) ≡ (if room then y else Some g)
asked_first no_room true f g x y tests fulls rest = rw tests rest
asked_first no_room false f g x y tests fulls rest = rw tests (ap (λ (f : Full). Some f) fulls)

passes_at : (size used need : ℕ) → nat_lt size (used + need) ≡ not (nat_le (used + need) size)
passes_at size used need = grind (arith, nat_tests)

passes : (size size' used used' need : ℕ) → size ≡ size' → used ≡ used' → nat_lt size (used + need) ≡ not (nat_le (used' + need) size')
passes size size' used used' need e f = rw (e, f) (passes_at size' used' need)

is_full_at : (size used : ℕ) → used ≤ size → (used == size) ≡ not (nat_le (used + 1) size)
is_full_at size used fits = grind (arith, nat_tests)

is_full : (size size' used used' : ℕ) → size ≡ size' → used ≡ used' → used' ≤ size' → (used == size) ≡ not (nat_le (used' + 1) size')
is_full size size' used used' e f fits = rw (e, f) (is_full_at size' used' fits)

full_of : (table : Table) (used used' size size' : ℕ) → used ≡ used' → size ≡ size' → ◌≡◌ {A = Full} (record { table = table; used = used; size = size }) (record { table = table; used = used'; size = size' })
full_of table used used' size size' e f = rw (e, f) refl

module _ (names : Names) (pool : Pool) (others : List ℕ) (sizes : Sizes) (room : ℕ) (sound : IsSound names pool others sizes room) where
  pub count_is : length pool.kept ≡ length (entered names pool.kept) + length (strings_at pool others)
  count_is = omega (arith, sound.count, length-map names.strings (string_at pool.kept), length-map others (string_at pool.kept))

  pub names_are : length names.strings ≡ length (entered names pool.kept)
  names_are = sym (length-map names.strings (string_at pool.kept))

  string_agrees : (bytes : List ℕ) (other : Option Full) (more : List Demand) → other ≡ refused sizes more → string_refusal pool bytes other ≡ refused sizes (string bytes (entered names pool.kept) (strings_at pool others) ++ more)
  string_agrees bytes other more rest =
      asked_first _ _ _ _ _ _
      (passes pool.pool_size sizes.pool_size (kept_bytes pool) (bytes_of (entered names pool.kept) + bytes_of (strings_at pool others)) (length bytes) sound.pool_size_is sound.bytes)
      (full_of PoolSize _ _ _ _ sound.bytes sound.pool_size_is)
      (asked_first _ _ _ _ _ _
      (is_full pool.number_of_strings sizes.number_of_strings (length pool.kept) (length (entered names pool.kept) + length (strings_at pool others)) sound.number_of_strings_is count_is (omega (arith, count_is, sound.strings_fit)))
      (full_of NumberOfStrings _ _ _ _ count_is sound.number_of_strings_is)
      rest)

  hash_agrees : hash_refusal names ≡ refused sizes (hash_demand (entered names pool.kept) ∷ [])
  hash_agrees =
      asked_first _ _ _ _ _ _
      (is_full names.hash_size sizes.hash_size (length names.strings) (length (entered names pool.kept)) sound.hash_size_is names_are (omega (arith, names_are, sound.names_fit)))
      (full_of HashSize _ _ _ _ names_are sound.hash_size_is)
      refl

  pub names_agree : (name : List ℕ) → entry_refusal names pool name ≡ name_refusal (strings_of names pool others sizes) name
  names_agree name = string_agrees name (hash_refusal names) (hash_demand (entered names pool.kept) ∷ []) hash_agrees

  pub others_agree : (bytes : List ℕ) → string_refusal pool bytes None ≡ other_refusal (strings_of names pool others sizes) bytes
  others_agree bytes = string_agrees bytes None [] refl
