-- What the checker computes over the whole table, and the rule that it gives at each number.
use Rattle.std.proofs.Common.{◌≡◌, ℕ, zero, suc, ◌+◌, ◌-◌, ◌<◌, ◌≤◌, ◌&&◌, ◌==◌, nat_lt, nat_le, Bool, true, false, not, List, [], ◌∷◌, length, map, replicate, get_or, slice_get, Some, bytes_eq, refl, ap, sym, ◌∙◌, arith}
use Rattle.std.specs.List.{range_with_len, IsDistinct, AllByRecursion}
use Rattle.std.proofs.lemmas.Bool.{false≢true, ltb-true, leb-true, le-leb, eqb-true}
use Rattle.std.proofs.lemmas.List.{get_or-replicate}
use Rattle.std.proofs.lemmas.List.FromFn.{get_or-map-range_with_len}
use Rattle.prim_table.specs.declared.TheConstants.{TEXT, STARTS}
use Rattle.prim_table.specs.declared.Class.{Class}
use Rattle.prim_table.specs.declared.Class.TheVariants.{Command, Assignment, Expandable, Conditional, IntegerParameter, DimensionParameter, GlueParameter, TokenParameter}
use Rattle.prim_table.specs.Words.{words}
use Rattle.prim_table.specs.Primitives.{primitive_name, primitive_names, row_of, row_size, class_of, place_of, numbers_before, IsPlaced, command_names, assignment_names, expandable_names, conditional_names, integer_names, dimension_names, glue_names, token_names}

pub table_is : words TEXT.now STARTS ≡ primitive_names
unfolding primitive_names command_names assignment_names expandable_names conditional_names integer_names dimension_names glue_names token_names
table_is = refl

pub sizes_are : (class : Class) → length (row_of class) ≡ row_size class
unfolding command_names assignment_names expandable_names conditional_names integer_names dimension_names glue_names token_names
sizes_are Command = refl
sizes_are Assignment = refl
sizes_are Expandable = refl
sizes_are Conditional = refl
sizes_are IntegerParameter = refl
sizes_are DimensionParameter = refl
sizes_are GlueParameter = refl
sizes_are TokenParameter = refl

-- the name that stands at a number's place
abbrev name_placed : ℕ → List ℕ
name_placed j = get_or (row_of (class_of j)) (place_of j - 1) []

names_placed : map name_placed (range_with_len 1 186) ≡ primitive_names
unfolding class_of primitive_names command_names assignment_names expandable_names conditional_names integer_names dimension_names glue_names token_names
names_placed = refl

-- whether a number's place is one of its row, and the number is counted from the rows before
abbrev is_counted : ℕ → Bool
is_counted j = nat_lt 0 (place_of j) && (nat_le (place_of j) (row_size (class_of j)) && (numbers_before (class_of j) + place_of j == j))

all_counted : map is_counted (range_with_len 1 186) ≡ replicate 186 true
unfolding class_of
all_counted = refl

both : (a b : Bool) → (a && b) ≡ true → (a ≡ true) × (b ≡ true)
both true b h = (refl, h)
both false b h = absurd (false≢true h)

slice_get-get_or : (xs : List (List ℕ)) (k : ℕ) → k < length xs → slice_get xs k ≡ Some (get_or xs k [])
slice_get-get_or [] k below = absurd (omega arith)
slice_get-get_or (x ∷ xs) zero below = refl
slice_get-get_or (x ∷ xs) (suc k) below = slice_get-get_or xs k (omega arith)

pub placed : (j : ℕ) → 0 < j → j ≤ 186 → IsPlaced j
unfolding primitive_name
placed j low high =
    let inside : j - 1 < 186 = omega arith in
    let same : 1 + (j - 1) ≡ j = omega arith in
    let counted : is_counted j ≡ true = sym (get_or-map-range_with_len is_counted 1 186 (j - 1) j false inside same) ∙ ap (λ (bs : List Bool). get_or bs (j - 1) false) all_counted ∙ get_or-replicate 186 (j - 1) true false inside in
    let named : name_placed j ≡ primitive_name j = sym (get_or-map-range_with_len name_placed 1 186 (j - 1) j [] inside same) ∙ ap (λ (ns : List (List ℕ)). get_or ns (j - 1) []) names_placed in
    let one = both (nat_lt 0 (place_of j)) (nat_le (place_of j) (row_size (class_of j)) && (numbers_before (class_of j) + place_of j == j)) counted in
    let two = both (nat_le (place_of j) (row_size (class_of j))) (numbers_before (class_of j) + place_of j == j) one.1 in
    let first : 0 < place_of j = ltb-true 0 (place_of j) one.0 in
    let last : place_of j ≤ row_size (class_of j) = leb-true (place_of j) (row_size (class_of j)) two.0 in
    let within : place_of j - 1 < length (row_of (class_of j)) = omega (arith, sizes_are (class_of j)) in
    record {
      first = first;
      last = last;
      counted = eqb-true (numbers_before (class_of j) + place_of j) j two.1;
      named = slice_get-get_or (row_of (class_of j)) (place_of j - 1) within ∙ ap (λ (name : List ℕ). Some name) named;
    }

over : (m n : ℕ) → n < m → nat_le m n ≡ false
over m n above = grind arith

pub class_of-number : (class : Class) (k : ℕ) → 0 < k → k ≤ row_size class → class_of (numbers_before class + k) ≡ class
unfolding class_of
class_of-number Command k low high = rw (le-leb (0 + k) 22 (omega arith)) refl
class_of-number Assignment k low high = rw (over (22 + k) 22 (omega arith), le-leb (22 + k) 53 (omega arith)) refl
class_of-number Expandable k low high = rw (over (53 + k) 22 (omega arith), over (53 + k) 53 (omega arith), le-leb (53 + k) 64 (omega arith)) refl
class_of-number Conditional k low high = rw (over (64 + k) 22 (omega arith), over (64 + k) 53 (omega arith), over (64 + k) 64 (omega arith), le-leb (64 + k) 84 (omega arith)) refl
class_of-number IntegerParameter k low high = rw (over (84 + k) 22 (omega arith), over (84 + k) 53 (omega arith), over (84 + k) 64 (omega arith), over (84 + k) 84 (omega arith), le-leb (84 + k) 139 (omega arith)) refl
class_of-number DimensionParameter k low high = rw (over (139 + k) 22 (omega arith), over (139 + k) 53 (omega arith), over (139 + k) 64 (omega arith), over (139 + k) 84 (omega arith), over (139 + k) 139 (omega arith), le-leb (139 + k) 160 (omega arith)) refl
class_of-number GlueParameter k low high = rw (over (160 + k) 22 (omega arith), over (160 + k) 53 (omega arith), over (160 + k) 64 (omega arith), over (160 + k) 84 (omega arith), over (160 + k) 139 (omega arith), over (160 + k) 160 (omega arith), le-leb (160 + k) 178 (omega arith)) refl
class_of-number TokenParameter k low high = rw (over (178 + k) 22 (omega arith), over (178 + k) 53 (omega arith), over (178 + k) 64 (omega arith), over (178 + k) 84 (omega arith), over (178 + k) 139 (omega arith), over (178 + k) 160 (omega arith), over (178 + k) 178 (omega arith)) refl

pub number-within : (class : Class) (k : ℕ) → k ≤ row_size class → numbers_before class + k ≤ 186
number-within Command k high = omega arith
number-within Assignment k high = omega arith
number-within Expandable k high = omega arith
number-within Conditional k high = omega arith
number-within IntegerParameter k high = omega arith
number-within DimensionParameter k high = omega arith
number-within GlueParameter k high = omega arith
number-within TokenParameter k high = omega arith

-- whether a name differs from each of these
abbrev differs : List ℕ → List (List ℕ) → Bool
differs x [] = true
differs x (y ∷ ys) = not (bytes_eq x y) && differs x ys

abbrev all_differ : List (List ℕ) → Bool
all_differ [] = true
all_differ (x ∷ xs) = differs x xs && all_differ xs

not_true : (b : Bool) → not b ≡ true → b ≡ false
not_true true h = absurd (false≢true h)
not_true false h = refl

IsDistinct-from : (xs : List (List ℕ)) → all_differ xs ≡ true → IsDistinct bytes_eq xs
unfolding IsDistinct
IsDistinct-from [] h = tt
IsDistinct-from (x ∷ xs) h =
    let two = both (differs x xs) (all_differ xs) h in
    (apart xs two.0, IsDistinct-from xs two.1)
  where
    apart : (ys : List (List ℕ)) → differs x ys ≡ true → AllByRecursion (λ y. bytes_eq x y ≡ false) ys
    apart [] d = tt
    apart (y ∷ ys) d = let two = both (not (bytes_eq x y)) (differs x ys) d in (not_true (bytes_eq x y) two.0, apart ys two.1)

names_differ : all_differ primitive_names ≡ true
unfolding primitive_names command_names assignment_names expandable_names conditional_names integer_names dimension_names glue_names token_names
names_differ = refl

pub distinct : IsDistinct bytes_eq primitive_names
distinct = IsDistinct-from primitive_names names_differ
