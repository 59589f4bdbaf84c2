-- The primitives are distinct, and have room in tables of any sizes that are in range.
use Rattle.std.proofs.Common.{◌≡◌, ℕ, zero, suc, ◌+◌, ◌<◌, ◌≤◌, nat_le, ◌&&◌, Bool, true, false, List, [], ◌∷◌, ◌++◌, length, take, get_or, Option, Some, None, bytes_eq, refl, ap, sym, ◌∙◌, arith, if◌then◌else◌}
use Rattle.std.specs.List.{IsDistinct, AllByRecursion}
use Rattle.std.proofs.lemmas.Bool.{leb-true, false≢true}
use Rattle.std.proofs.lemmas.List.{take_more, take_all, length-take-le}
use Rattle.std.proofs.lemmas.List.Sums.{sum_by-take-le, sum_by_push}
use Rattle.tex_defs.specs.declared.Sizes.{Sizes}
use Rattle.tex_defs.specs.declared.Table.{Table}
use Rattle.tex_defs.specs.declared.Table.TheVariants.{PoolSize, NumberOfStrings, HashSize, MainMemorySize, SaveSize, InputStackSize, ParameterStackSize, TextInputLevels, BufferSize, GroupingLevels, ConditionStackSize, ExpansionDepth, DelayedWrites}
use Rattle.tex_defs.specs.Sizes.{is_in_range, least_size, greatest_size, first_out_among, first_out_of_range}
use Rattle.prim_table.specs.Primitives.{primitive_name, primitive_names, command_names, assignment_names, expandable_names, conditional_names, integer_names, dimension_names, glue_names, token_names}
use Rattle.prim_table.proofs.Table.{distinct}
use Rattle.plain_tokens.specs.Lookup.{number_from, name_number}
use Rattle.plain_tokens.specs.Tables.{bytes_of, hash}
use Rattle.name_table.specs.Strings.{Strings, name_refusal, with_name, primitives_alone}
use Rattle.name_table.proofs.Refusals.{bytes_demand, count_demand, not_refused}

-- how many there are, and their bytes
count_is : length primitive_names ≡ 186
unfolding primitive_names command_names assignment_names expandable_names conditional_names integer_names dimension_names glue_names token_names
count_is = refl

bytes_are : bytes_of primitive_names ≡ 1689
unfolding primitive_names command_names assignment_names expandable_names conditional_names integer_names dimension_names glue_names token_names
bytes_are = refl

-- a name differs from those before it

apart : (first : List ℕ) (names : List (List ℕ)) (k : ℕ) → AllByRecursion (λ (name : List ℕ). bytes_eq first name ≡ false) names → k < length names → bytes_eq first (get_or names k []) ≡ false
apart first [] k differ below = absurd (omega arith)
apart first (name ∷ names) zero differ below = differ.0
apart first (name ∷ names) (suc k) differ below = apart first names k differ.1 (omega arith)

new_from : (n : ℕ) (names : List (List ℕ)) (k : ℕ) → IsDistinct bytes_eq names → k < length names → number_from n (take k names) (get_or names k []) ≡ None
unfolding number_from IsDistinct
new_from n [] k differ below = absurd (omega arith)
new_from n (name ∷ names) zero differ below = refl
new_from n (name ∷ names) (suc k) differ below =
    rw (apart name names k differ.0 (omega arith)) (new_from (suc n) names k differ.1 (omega arith))

same_name : (k : ℕ) → primitive_name (k + 1) ≡ get_or primitive_names k []
unfolding primitive_name
same_name k = ap (λ (i : ℕ). get_or primitive_names i []) (omega arith)

is_new : (k : ℕ) → k < 186 → name_number (take k primitive_names) (primitive_name (k + 1)) ≡ None
is_new k below = rw (same_name k) (new_from 1 primitive_names k distinct (omega (arith, count_is)))

with_next : (k : ℕ) → k < 186 → take k primitive_names ++ primitive_name (k + 1) ∷ [] ≡ take (k + 1) primitive_names
with_next k below = rw (same_name k) (sym (take_more primitive_names k [] (omega (arith, count_is))))

-- and has room

out : (t : Table) → Some t ≡ None → ⊥
out t e = cc

none_out : (range : Bool) (table : Table) (others : Option Table) → (if range then others else Some table) ≡ None → (range ≡ true) × (others ≡ None)
none_out true table others e = (refl, e)
none_out false table others e = absurd (out table e)

both : (a b : Bool) → (a && b) ≡ true → (a ≡ true) × (b ≡ true)
both true b h = (refl, h)
both false b h = absurd (false≢true h)

at_least : (table : Table) (size : ℕ) → is_in_range table size ≡ true → least_size table ≤ size
at_least table size h = leb-true (least_size table) size (both (nat_le (least_size table) size) (nat_le size (greatest_size table)) h).0

record AreLarge (sizes : Sizes) : Type 0 where
  pub bytes : 4000 ≤ sizes.pool_size
  pub strings : 200 ≤ sizes.number_of_strings
  pub names : 1777 ≤ sizes.hash_size

are_large : (sizes : Sizes) → first_out_of_range sizes ≡ None → AreLarge sizes
are_large sizes in_range =
    let rest : List Table = MainMemorySize ∷ SaveSize ∷ InputStackSize ∷ ParameterStackSize ∷ TextInputLevels ∷ BufferSize ∷ GroupingLevels ∷ ConditionStackSize ∷ ExpansionDepth ∷ DelayedWrites ∷ [] in
    let first = none_out (is_in_range PoolSize sizes.pool_size) PoolSize (first_out_among sizes (NumberOfStrings ∷ HashSize ∷ rest)) in_range in
    let second = none_out (is_in_range NumberOfStrings sizes.number_of_strings) NumberOfStrings (first_out_among sizes (HashSize ∷ rest)) first.1 in
    let third = none_out (is_in_range HashSize sizes.hash_size) HashSize (first_out_among sizes rest) second.1 in
    record {
      bytes = at_least PoolSize sizes.pool_size first.0;
      strings = at_least NumberOfStrings sizes.number_of_strings second.0;
      names = at_least HashSize sizes.hash_size third.0;
    }

-- the first of them and the next have no more bytes than all
bytes_within : (k : ℕ) → k < 186 → bytes_of (take k primitive_names) + length (primitive_name (k + 1)) ≤ 1689
bytes_within k below =
    let joined : bytes_of (take (k + 1) primitive_names) ≡ bytes_of (take k primitive_names) + length (primitive_name (k + 1)) =
    ap bytes_of (sym (with_next k below)) ∙ sum_by_push length (take k primitive_names) (primitive_name (k + 1)) in
    omega (arith, joined, sum_by-take-le length primitive_names (k + 1), bytes_are)

-- the first k primitives
abbrev first_ones : Sizes → ℕ → Strings
first_ones sizes k = record { names = take k primitive_names; others = []; sizes = sizes }

has_room : (sizes : Sizes) (k : ℕ) → first_out_of_range sizes ≡ None → k < 186 → name_refusal (first_ones sizes k) (primitive_name (k + 1)) ≡ None
has_room sizes k in_range below =
    let large : AreLarge sizes = are_large sizes in_range in
    let before : Strings = first_ones sizes k in
    let few : length (take k primitive_names) ≡ k = length-take-le k primitive_names (omega (arith, count_is)) in
    not_refused sizes (bytes_demand before (primitive_name (k + 1))) (count_demand before ∷ hash before.names ∷ []) (omega (arith, large.bytes, bytes_within k below))
    (not_refused sizes (count_demand before) (hash before.names ∷ []) (omega (arith, large.strings, few))
    (not_refused sizes (hash before.names) [] (omega (arith, large.names, few)) refl))

module _ (strings : Strings) (sizes : Sizes) (k : ℕ) (name : List ℕ) (so_far : strings ≡ first_ones sizes k) (next : name ≡ primitive_name (k + 1)) (below : k < 186) where
  pub next_is_new : name_number strings.names name ≡ None
  next_is_new = rw next (ap (λ (s : Strings). name_number s.names (primitive_name (k + 1))) so_far ∙ is_new k below)

  pub next_has_room : first_out_of_range sizes ≡ None → name_refusal strings name ≡ None
  next_has_room in_range = rw next (ap (λ (s : Strings). name_refusal s (primitive_name (k + 1))) so_far ∙ has_room sizes k in_range below)

  pub next_stands : with_name strings name ≡ first_ones sizes (k + 1)
  next_stands =
      rw next (ap (λ (s : Strings). with_name s (primitive_name (k + 1))) so_far ∙ rw (with_next k below) refl)

pub all_stand : (sizes : Sizes) (k : ℕ) → 186 ≤ k → first_ones sizes k ≡ primitives_alone sizes
all_stand sizes k above = rw (take_all k primitive_names (omega (arith, count_is))) refl
