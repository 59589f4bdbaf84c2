-- What names mean once one is assigned or entered, and at first.
use Rattle.std.proofs.Common.{◌≡◌, ℕ, zero, suc, ◌+◌, ◌-◌, ◌<◌, ◌≤◌, List, [], ◌∷◌, ◌++◌, length, get_or, set, map, replicate, drop, Bool, true, false, Option, None, Some, refl, ap, ap₂, subst, ◌∙◌, arith, rules}
use Rattle.std.specs.Prelude.{nat_lt, if◌then◌else◌}
use Rattle.std.specs.List.{range_with_len}
use Rattle.std.proofs.lemmas.Bool.{ltb-true}
use Rattle.std.proofs.lemmas.Option.{none-some}
use Rattle.std.proofs.lemmas.List.{get_or-set_same, get_or-set_other, get_or-replicate, get_or_past, get_or_append_left, get_or-append-add, length-replicate, length-map, length-drop}
use Rattle.std.proofs.lemmas.List.FromFn.{get_or-map-range_with_len}
use Rattle.tex_defs.specs.declared.Frozen.TheVariants as frozen
use Rattle.tex_defs.specs.declared.Name.{Name}
use Rattle.tex_defs.specs.declared.Name.TheVariants as name
use Rattle.tex_defs.specs.declared.Meaning.{Meaning}
use Rattle.tex_defs.specs.declared.Meaning.TheVariants as means
use Rattle.plain_tokens.specs.Meanings.{fixed_locations, location, fixed_meaning, looked_up, name_meaning, primitive_count, first_meaning, first_meanings}
use Rattle.save_stack.specs.Groups.{Stack, top, below}
use Rattle.equivalents.specs.declared.values.Loc.TheVariants as loc
use Rattle.equivalents.specs.declared.values.Val.TheVariants as val
use Rattle.equivalents.specs.Locations.{V, meaning_of}
use Rattle.equivalents.specs.Tables.{Tables}
use Rattle.equivalents.specs.First.{first_tables}
use Rattle.equivalents.specs.Groups.{Groups, put_all, placed, place_of, set_placed, set_name, entered, all_longer, first_groups}
use Rattle.equivalents.specs.Holding.{list_of}
use Rattle.equivalents.specs.Flat.{tables_of, groups_of, EachHas}
use Rattle.equivalents.specs.Laws.{IsWhole, IsInRange, meaning_now, meanings_outside, EachNames, AreAlike}

pub names_apart : (a b : Name) (k : ℕ) → IsInRange a → IsInRange b → location a ≡ Some k → location b ≡ Some k → a ≡ b
names_apart a b k is_a is_b there here = search rules

-- a name's place is its location, among those that there are
some_is : {A : Type 0} (a b : A) → Some a ≡ Some b → a ≡ b
some_is a b is = cc

placed_by : (count j k : ℕ) (b : Bool) → nat_lt j count ≡ b → (if b then Some j else None) ≡ Some k → (Some j ≡ Some k) × (k < count)
placed_by count j k true below is = (is, subst (λ (i : ℕ). i < count) (some_is j k is) (ltb-true j count below))
placed_by count j k false below is = absurd (none-some k is)

placed_is : (count : ℕ) (o : Option ℕ) (k : ℕ) → placed count o ≡ Some k → (o ≡ Some k) × (k < count)
placed_is count None k is = absurd (none-some k is)
placed_is count (Some j) k is = placed_by count j k (nat_lt j count) refl is

-- a name without a location means nothing that has a list
pub fixed_unlisted : (n : Name) → list_of (fixed_meaning n) ≡ None
fixed_unlisted (name.Active c) = refl
fixed_unlisted (name.Single c) = refl
fixed_unlisted name.Empty = refl
fixed_unlisted (name.Word n) = refl
fixed_unlisted (name.Frozen frozen.Relax) = refl
fixed_unlisted (name.Frozen frozen.Fi) = refl
fixed_unlisted (name.Frozen frozen.EndGroup) = refl
fixed_unlisted (name.Frozen frozen.EndWrite) = refl
fixed_unlisted (name.Frozen frozen.Inaccessible) = refl
fixed_unlisted (name.Frozen frozen.Unknown) = refl

-- ONE LIST OF MEANINGS

found_at : (cells : List (Meaning (Option ℕ))) (n : Name) (k : ℕ) (m : Meaning (Option ℕ)) → location n ≡ Some k → k < length cells → name_meaning (set cells k m) n ≡ m
found_at cells n k m there below = ap (λ (o : Option ℕ). looked_up (set cells k m) o (fixed_meaning n)) there ∙ get_or-set_same cells k m means.Undefined below

other_at : (cells : List (Meaning (Option ℕ))) (k : ℕ) (o : Option ℕ) (m fixed : Meaning (Option ℕ)) → (o ≡ Some k → ⊥) → looked_up (set cells k m) o fixed ≡ looked_up cells o fixed
other_at cells k None m fixed differ = refl
other_at cells k (Some j) m fixed differ = get_or-set_other cells k j m means.Undefined (λ e. differ (ap Some e))

-- one more, which is undefined
appended : (cells : List (Meaning (Option ℕ))) (k : ℕ) → get_or (cells ++ means.Undefined ∷ []) k means.Undefined ≡ get_or cells k means.Undefined
appended [] zero = refl
appended [] (suc k) = refl
appended (c ∷ cells) zero = refl
appended (c ∷ cells) (suc k) = appended cells k

pub appended_at : (cells : List (Meaning (Option ℕ))) (o : Option ℕ) (fixed : Meaning (Option ℕ)) → looked_up (cells ++ means.Undefined ∷ []) o fixed ≡ looked_up cells o fixed
appended_at cells None fixed = refl
appended_at cells (Some k) fixed = appended cells k

-- THE MAPS

module _ (n : Name) where
  abbrev means_in : Tables → Meaning (Option ℕ)
  means_in t = name_meaning t.meanings n

  longer_all : (ms : List Tables) → map means_in (all_longer ms) ≡ map means_in ms
  longer_all [] = refl
  longer_all (t ∷ ms) = ap₂ (λ (x : Meaning (Option ℕ)) (xs : List (Meaning (Option ℕ))). x ∷ xs) (appended_at t.meanings (location n) (fixed_meaning n)) (longer_all ms)

  module _ (k : ℕ) (m : Meaning (Option ℕ)) where
    set_in_all : (count : ℕ) (ms : List Tables) → EachNames count ms → location n ≡ Some k → k < count → map means_in (put_all ms (loc.Means k) (val.Meant m)) ≡ replicate (length ms) m
    set_in_all count [] alike there below = refl
    set_in_all count (t ∷ ms) alike there below =
        ap₂ (λ (x : Meaning (Option ℕ)) (xs : List (Meaning (Option ℕ))). x ∷ xs) (found_at t.meanings n k m there (omega (arith, below, alike.0))) (set_in_all count ms alike.1 there below)

    others_in_all : (ms : List Tables) → (location n ≡ Some k → ⊥) → map means_in (put_all ms (loc.Means k) (val.Meant m)) ≡ map means_in ms
    others_in_all [] differ = refl
    others_in_all (t ∷ ms) differ =
        ap₂ (λ (x : Meaning (Option ℕ)) (xs : List (Meaning (Option ℕ))). x ∷ xs) (other_at t.meanings k (location n) m (fixed_meaning n) differ) (others_in_all ms differ)

-- ASSIGNMENTS

module _ (g : Groups) (n : Name) (m : Meaning (Option ℕ)) where
  set_now : (global : Bool) (k : ℕ) → location n ≡ Some k → k < length g.now.meanings → meaning_now (set_placed global g (Some k) m) n ≡ m
  set_now true k there below = found_at g.now.meanings n k m there below
  set_now false k there below = found_at g.now.meanings n k m there below

  pub changes : (global : Bool) (k : ℕ) → place_of g n ≡ Some k → meaning_now (set_name global g n m) n ≡ m
  changes global k is =
      let at = placed_is (length g.now.meanings) (location n) k is in
      ap (λ (o : Option ℕ). meaning_now (set_placed global g o m) n) is ∙ set_now global k at.0 at.1

  local_placed : (o : Option ℕ) → (set_placed false g o m).outer ≡ g.outer
  local_placed None = refl
  local_placed (Some k) = refl

  pub local : (set_name false g n m).outer ≡ g.outer
  local = local_placed (place_of g n)

  pub outside : (k : ℕ) → AreAlike g → place_of g n ≡ Some k → meanings_outside (set_name true g n m) n ≡ replicate (length g.outer) m
  outside k alike is =
      let at = placed_is (length g.now.meanings) (location n) k is in
      ap (λ (o : Option ℕ). meanings_outside (set_placed true g o m) n) is ∙ set_in_all n k m (length g.now.meanings) g.outer alike at.0 at.1

  module _ (other : Name) (apart : (k : ℕ) → location n ≡ Some k → location other ≡ Some k → ⊥) where
    -- where the name has a place
    by_place : (B : Option ℕ → Type 0) → B None → ((k : ℕ) → (location other ≡ Some k → ⊥) → B (Some k)) → B (place_of g n)
    by_place B none some = by (place_of g n) refl
      where
        by : (o : Option ℕ) → place_of g n ≡ o → B o
        by None is = none
        by (Some k) is = some k (apart k (placed_is (length g.now.meanings) (location n) k is).0)

    now_by : (global : Bool) (k : ℕ) → (location other ≡ Some k → ⊥) → meaning_now (set_placed global g (Some k) m) other ≡ meaning_now g other
    now_by true k differ = other_at g.now.meanings k (location other) m (fixed_meaning other) differ
    now_by false k differ = other_at g.now.meanings k (location other) m (fixed_meaning other) differ

    outside_by : (global : Bool) (k : ℕ) → (location other ≡ Some k → ⊥) → meanings_outside (set_placed global g (Some k) m) other ≡ meanings_outside g other
    outside_by true k differ = others_in_all other k m g.outer differ
    outside_by false k differ = refl

    pub others : (global : Bool) → meaning_now (set_name global g n m) other ≡ meaning_now g other
    others global = by_place (λ o. meaning_now (set_placed global g o m) other ≡ meaning_now g other) refl (now_by global)

    pub others_outside : (global : Bool) → meanings_outside (set_name global g n m) other ≡ meanings_outside g other
    others_outside global = by_place (λ o. meanings_outside (set_placed global g o m) other ≡ meanings_outside g other) refl (outside_by global)

pub entering : (g : Groups) (n : Name) → meaning_now (entered g) n ≡ meaning_now g n
entering g n = appended_at g.now.meanings (location n) (fixed_meaning n)

pub entering_outside : (g : Groups) (n : Name) → meanings_outside (entered g) n ≡ meanings_outside g n
entering_outside g n = longer_all n g.outer

-- the maps of whole groups have the same names
count_of : (cells : List V) → length (tables_of cells).meanings ≡ length cells - 2918
count_of cells = omega (arith, length-map (drop 2918 cells) meaning_of, length-drop 2918 cells)

each_names : (n count : ℕ) → n - 2918 ≡ count → (ms : List (List V)) → EachHas n ms → EachNames count (map tables_of ms)
each_names n count is [] has = tt
each_names n count is (m ∷ ms) has = (omega (arith, count_of m, has.0, is), each_names n count is ms has.1)

has_below : (n : ℕ) (ms : List (List V)) → EachHas n ms → EachHas n (below ms)
has_below n [] has = tt
has_below n (m ∷ ms) has = has.1

pub alike : (s : Stack V) → IsWhole s → AreAlike (groups_of s)
alike s whole = each_names (length s.levels) (length (groups_of s).now.meanings) (omega (arith, count_of (top s.maps), whole.located)) (below s.maps) (has_below (length s.levels) s.maps whole.alike)

-- INITEX'S NAMES

module _ (knows : ℕ → Bool) where
  abbrev firsts : List (Meaning (Option ℕ))
  firsts = first_meanings knows

  first_now : (first_groups knows).now.meanings ≡ firsts
  unfolding first_tables
  first_now = refl

  first_undefined : (k : ℕ) → k < fixed_locations → get_or firsts k means.Undefined ≡ means.Undefined
  first_undefined k below =
      get_or_append_left (replicate fixed_locations means.Undefined) (map (first_meaning knows) (range_with_len 1 primitive_count)) means.Undefined k (omega (arith, below, length-replicate {A = Meaning (Option ℕ)} fixed_locations means.Undefined))
      ∙ get_or-replicate fixed_locations k means.Undefined means.Undefined below

  first_primitive : (i : ℕ) → i < primitive_count → get_or firsts (fixed_locations + i) means.Undefined ≡ first_meaning knows (1 + i)
  first_primitive i below =
      let long : length (replicate {A = Meaning (Option ℕ)} fixed_locations means.Undefined) ≡ fixed_locations = length-replicate {A = Meaning (Option ℕ)} fixed_locations means.Undefined in
      subst (λ (x : ℕ). get_or firsts (x + i) means.Undefined ≡ first_meaning knows (1 + i)) long (
      get_or-append-add (replicate fixed_locations means.Undefined) (map (first_meaning knows) (range_with_len 1 primitive_count)) i means.Undefined
      ∙ get_or-map-range_with_len (first_meaning knows) 1 primitive_count i (1 + i) means.Undefined below refl)

  first_count : length firsts ≡ fixed_locations + primitive_count
  first_count = refl

  named : (n : Name) (k : ℕ) (m : Meaning (Option ℕ)) → location n ≡ Some k → get_or firsts k means.Undefined ≡ m → meaning_now (first_groups knows) n ≡ m
  named n k m there is =
      ap (λ (cells : List (Meaning (Option ℕ))). name_meaning cells n) first_now
      ∙ ap (λ (o : Option ℕ). looked_up firsts o (fixed_meaning n)) there
      ∙ is

  word_location : (i : ℕ) → location (name.Word (suc i)) ≡ Some (fixed_locations + i)
  word_location i = grind arith

  pub primitives : (n : ℕ) → 0 < n → n ≤ primitive_count → meaning_now (first_groups knows) (name.Word n) ≡ first_meaning knows n
  primitives zero some within = absurd (omega arith)
  primitives (suc i) some within =
      let same : 1 + i ≡ suc i = omega arith in
      named (name.Word (suc i)) (fixed_locations + i) (first_meaning knows (suc i)) (word_location i) (first_primitive i (omega (arith, within)) ∙ ap (first_meaning knows) same)

  pub words : (n : ℕ) → primitive_count < n → meaning_now (first_groups knows) (name.Word n) ≡ means.Undefined
  words zero past = absurd (omega arith)
  words (suc i) past = named (name.Word (suc i)) (fixed_locations + i) means.Undefined (word_location i) (get_or_past firsts (fixed_locations + i) means.Undefined (omega (arith, past, first_count)))

  pub active : (c : ℕ) → c < 256 → meaning_now (first_groups knows) (name.Active c) ≡ means.Undefined
  active c below = named (name.Active c) c means.Undefined refl (first_undefined c (omega (arith, below)))

  pub single : (c : ℕ) → c < 256 → meaning_now (first_groups knows) (name.Single c) ≡ means.Undefined
  single c below = named (name.Single c) (256 + c) means.Undefined refl (first_undefined (256 + c) (omega (arith, below)))

  pub empty : meaning_now (first_groups knows) name.Empty ≡ means.Undefined
  empty = named name.Empty 512 means.Undefined refl (first_undefined 512 (omega arith))
