-- Which lists locations and saved values hold, and that these have the other numbers.
use Rattle.std.proofs.Common.{◌≡◌, ℕ, zero, suc, Bool, true, false, ◌||◌, ◌⊎◌, List, [], ◌∷◌, ◌++◌, map, replicate, cond, Option, Some, None, refl, sym, ap, ap₂, ◌∙◌, ⊎_elim, inl, inr}
use Rattle.std.specs.Prelude.{◌==◌, if◌then◌else◌, slice_set, slice_index_or}
use Rattle.std.specs.List.{range_with_len}
use Rattle.std.proofs.Math.Bool.{or_assoc}
use Rattle.std.proofs.lemmas.Bool.{eq-eqb, ne_eqb, or_cases, or_parts, or_left, or_right}
use Rattle.tex_defs.specs.declared.Name.{Name}
use Rattle.tex_defs.specs.declared.Meaning.{Meaning}
use Rattle.tex_defs.specs.declared.Meaning.TheVariants as means
use Rattle.tex_defs.specs.declared.RegisterKind.TheVariants as register
use Rattle.plain_tokens.specs.Meanings.{is_listed, first_meaning, first_meanings, primitive_count, fixed_locations}
use Rattle.save_stack.specs.declared.Saved.{Saved}
use Rattle.save_stack.specs.Groups.{below, add_top}
use Rattle.equivalents.specs.declared.values.CodeKind.TheVariants as code
use Rattle.equivalents.specs.declared.values.Loc.{Loc}
use Rattle.equivalents.specs.declared.values.Loc.TheVariants as loc
use Rattle.equivalents.specs.declared.values.Val.TheVariants as val
use Rattle.equivalents.specs.Locations.{V, tokens_of, meaning_of as meaning_in}
use Rattle.equivalents.specs.Tables.{Tables, put, get}
use Rattle.equivalents.specs.First.{first_tables}
use Rattle.equivalents.specs.Groups.{Groups, is_present, entry_for, set, place_of, set_placed, set_name, entered, uncovered, closed, first_groups}
use Rattle.equivalents.specs.Holding.{list_of, value_list, with_list, lists_of, lists_of_meanings, lists_of_saved, lists_of_entries, lists_of_table, lists_held, lists_outside}
use Rattle.plain_machine.specs.Numbers.{number_of_list, meaning_of, meanings_of, value_of, tables_of, saved_of, groups_of, renumbered}
use Rattle.plain_machine.proofs.GroupNumbers.{set_of, set_name_of}

-- Each list of a map outside is held: by its location now, or by a saved value.
abbrev pub OutsideIsHeld : Groups → Type 0
OutsideIsHeld g = (n : ℕ) → is_listed (lists_outside g.outer) n ≡ true → is_listed (lists_held g) n ≡ true

-- THE OTHER NUMBERS

module _ (number : ℕ → ℕ) where
  abbrev numbers : List ℕ → List ℕ
  numbers ns = map number ns

  with_of : (o : Option ℕ) (ns : List ℕ) → with_list (number_of_list number o) (numbers ns) ≡ numbers (with_list o ns)
  with_of None ns = refl
  with_of (Some n) ns = refl

  join_of : (ms ns : List ℕ) → numbers ms ++ numbers ns ≡ numbers (ms ++ ns)
  join_of [] ns = refl
  join_of (m ∷ ms) ns = ap (λ (ks : List ℕ). number m ∷ ks) (join_of ms ns)

  lists_as : (xs : List (Option ℕ)) → lists_of (map (number_of_list number) xs) ≡ numbers (lists_of xs)
  lists_as [] = refl
  lists_as (x ∷ xs) = ap (with_list (number_of_list number x)) (lists_as xs) ∙ with_of x (lists_of xs)

  list_as : (m : Meaning (Option ℕ)) → list_of (meaning_of number m) ≡ number_of_list number (list_of m)
  list_as (means.Macro long outer list) = refl
  list_as m = refl

  value_as : (v : V) → value_list (value_of number v) ≡ number_of_list number (value_list v)
  value_as (val.Meant m) = list_as m
  value_as (val.Tokens list) = refl
  value_as v = refl

  meanings_as : (ms : List (Meaning (Option ℕ))) → lists_of_meanings (meanings_of number ms) ≡ numbers (lists_of_meanings ms)
  meanings_as [] = refl
  meanings_as (m ∷ ms) = ap₂ with_list (list_as m) (meanings_as ms) ∙ with_of (list_of m) (lists_of_meanings ms)

  saved_as : (es : List (Saved V)) → lists_of_saved (map (saved_of number) es) ≡ numbers (lists_of_saved es)
  saved_as [] = refl
  saved_as (e ∷ es) = ap₂ with_list (value_as e.value) (saved_as es) ∙ with_of (value_list e.value) (lists_of_saved es)

  entries_as : (gs : List (List (Saved V))) → lists_of_entries (map (λ es. map (saved_of number) es) gs) ≡ numbers (lists_of_entries gs)
  entries_as [] = refl
  entries_as (g ∷ gs) = ap₂ (λ (ms ns : List ℕ). ms ++ ns) (saved_as g) (entries_as gs) ∙ join_of (lists_of_saved g) (lists_of_entries gs)

  table_as : (m : Tables) → lists_of_table (tables_of number m) ≡ numbers (lists_of_table m)
  table_as m =
      ap₂ (λ (ms ns : List ℕ). ms ++ ns) (lists_as m.toks) (ap₂ (λ (ms ns : List ℕ). ms ++ ns) (lists_as m.parameters) (meanings_as m.meanings) ∙ join_of (lists_of m.parameters) (lists_of_meanings m.meanings))
      ∙ join_of (lists_of m.toks) (lists_of m.parameters ++ lists_of_meanings m.meanings)

  -- what is held has the other numbers
  pub held_as : (g : Groups) → lists_held (groups_of number g) ≡ numbers (lists_held g)
  held_as g = ap₂ (λ (ms ns : List ℕ). ms ++ ns) (table_as g.now) (entries_as g.entries) ∙ join_of (lists_of_table g.now) (lists_of_entries g.entries)

-- WHO HOLDS A LIST

-- the list of this number
abbrev pub is_number : ℕ → Option ℕ → Bool
is_number n None = false
is_number n (Some number) = number == n

module _ (n : ℕ) where
  pub listed_join : (xs ys : List ℕ) → is_listed (xs ++ ys) n ≡ (is_listed xs n || is_listed ys n)
  listed_join [] ys = refl
  listed_join (x ∷ xs) ys = ap (λ (b : Bool). (x == n) || b) (listed_join xs ys) ∙ sym (or_assoc (x == n) (is_listed xs n) (is_listed ys n))

  listed_with : (o : Option ℕ) (ns : List ℕ) → is_listed (with_list o ns) n ≡ (is_number n o || is_listed ns n)
  listed_with None ns = refl
  listed_with (Some k) ns = refl

  abbrev Has : List ℕ → Type 0
  Has ns = is_listed ns n ≡ true

  abbrev Is : Option ℕ → Type 0
  Is o = is_number n o ≡ true

  pub join_cases : (xs ys : List ℕ) → Has (xs ++ ys) → Has xs ⊎ Has ys
  join_cases xs ys h = or_cases (is_listed xs n) (is_listed ys n) (sym (listed_join xs ys) ∙ h)

  pub join_left : (xs ys : List ℕ) → Has xs → Has (xs ++ ys)
  join_left xs ys h = listed_join xs ys ∙ or_left (is_listed xs n) (is_listed ys n) h

  pub join_right : (xs ys : List ℕ) → Has ys → Has (xs ++ ys)
  join_right xs ys h = listed_join xs ys ∙ or_right (is_listed xs n) (is_listed ys n) h

  with_cases : (o : Option ℕ) (ns : List ℕ) → Has (with_list o ns) → Is o ⊎ Has ns
  with_cases o ns h = or_cases (is_number n o) (is_listed ns n) (sym (listed_with o ns) ∙ h)

  with_first : (o : Option ℕ) (ns : List ℕ) → Is o → Has (with_list o ns)
  with_first o ns h = listed_with o ns ∙ or_left (is_number n o) (is_listed ns n) h

  with_rest : (o : Option ℕ) (ns : List ℕ) → Has ns → Has (with_list o ns)
  with_rest o ns h = listed_with o ns ∙ or_right (is_number n o) (is_listed ns n) h

  -- one of two places, where each of them is one of two
  join_set : {A : Type 0} (xs xs' ys : List ℕ) → (Has xs' → A ⊎ Has xs) → Has (xs' ++ ys) → A ⊎ Has (xs ++ ys)
  join_set xs xs' ys f h = ⊎_elim (λ a. ⊎_elim (λ b. inl b) (λ b. inr (join_left xs ys b)) (f a)) (λ a. inr (join_right xs ys a)) (join_cases xs' ys h)

  join_then : {A : Type 0} (xs ys ys' : List ℕ) → (Has ys' → A ⊎ Has ys) → Has (xs ++ ys') → A ⊎ Has (xs ++ ys)
  join_then xs ys ys' f h = ⊎_elim (λ a. inr (join_left xs ys a)) (λ a. ⊎_elim (λ b. inl b) (λ b. inr (join_right xs ys b)) (f a)) (join_cases xs ys' h)

  -- a list of holders, of which one holds another list
  lists_set : (xs : List (Option ℕ)) (k : ℕ) (o : Option ℕ) → Has (lists_of (slice_set xs k o)) → Is o ⊎ Has (lists_of xs)
  lists_set [] k o h = inr h
  lists_set (x ∷ xs) zero o h = ⊎_elim (λ a. inl a) (λ a. inr (with_rest x (lists_of xs) a)) (with_cases o (lists_of xs) h)
  lists_set (x ∷ xs) (suc k) o h =
      ⊎_elim (λ a. inr (with_first x (lists_of xs) a)) (λ a. ⊎_elim (λ b. inl b) (λ b. inr (with_rest x (lists_of xs) b)) (lists_set xs k o a)) (with_cases x (lists_of (slice_set xs k o)) h)

  meanings_set : (ms : List (Meaning (Option ℕ))) (k : ℕ) (v : Meaning (Option ℕ)) → Has (lists_of_meanings (slice_set ms k v)) → Is (list_of v) ⊎ Has (lists_of_meanings ms)
  meanings_set [] k v h = inr h
  meanings_set (m ∷ ms) zero v h = ⊎_elim (λ a. inl a) (λ a. inr (with_rest (list_of m) (lists_of_meanings ms) a)) (with_cases (list_of v) (lists_of_meanings ms) h)
  meanings_set (m ∷ ms) (suc k) v h =
      ⊎_elim (λ a. inr (with_first (list_of m) (lists_of_meanings ms) a))
      (λ a. ⊎_elim (λ b. inl b) (λ b. inr (with_rest (list_of m) (lists_of_meanings ms) b)) (meanings_set ms k v a)) (with_cases (list_of m) (lists_of_meanings (slice_set ms k v)) h)

  lists_at : (xs : List (Option ℕ)) (k : ℕ) → Is (slice_index_or xs k None) → Has (lists_of xs)
  lists_at [] k h = h
  lists_at (x ∷ xs) zero h = with_first x (lists_of xs) h
  lists_at (x ∷ xs) (suc k) h = with_rest x (lists_of xs) (lists_at xs k h)

  pub meanings_at : (ms : List (Meaning (Option ℕ))) (k : ℕ) → Is (list_of (slice_index_or ms k means.Undefined)) → Has (lists_of_meanings ms)
  meanings_at [] k h = h
  meanings_at (m ∷ ms) zero h = with_first (list_of m) (lists_of_meanings ms) h
  meanings_at (m ∷ ms) (suc k) h = with_rest (list_of m) (lists_of_meanings ms) (meanings_at ms k h)

  -- TABLES

  tokens_is : (v : V) → Is (tokens_of v) → Is (value_list v)
  tokens_is (val.Tokens list) h = h
  tokens_is v h = cc

  meaning_is : (v : V) → Is (list_of (meaning_in v)) → Is (value_list v)
  meaning_is (val.Meant m) h = h
  meaning_is v h = cc

  put_cases : (m : Tables) (l : Loc) (v : V) → Has (lists_of_table (put m l v)) → Is (value_list v) ⊎ Has (lists_of_table m)
  put_cases m (loc.Register register.Toks k) v h =
      join_set (lists_of m.toks) (lists_of (slice_set m.toks k (tokens_of v))) (lists_of m.parameters ++ lists_of_meanings m.meanings)
      (λ a. ⊎_elim (λ b. inl (tokens_is v b)) (λ b. inr b) (lists_set m.toks k (tokens_of v) a)) h
  put_cases m (loc.Tokens k) v h =
      join_then (lists_of m.toks) (lists_of m.parameters ++ lists_of_meanings m.meanings) (lists_of (slice_set m.parameters k (tokens_of v)) ++ lists_of_meanings m.meanings)
      (λ a. join_set (lists_of m.parameters) (lists_of (slice_set m.parameters k (tokens_of v))) (lists_of_meanings m.meanings)
      (λ b. ⊎_elim (λ d. inl (tokens_is v d)) (λ d. inr d) (lists_set m.parameters k (tokens_of v) b)) a) h
  put_cases m (loc.Means k) v h =
      join_then (lists_of m.toks) (lists_of m.parameters ++ lists_of_meanings m.meanings) (lists_of m.parameters ++ lists_of_meanings (slice_set m.meanings k (meaning_in v)))
      (λ a. join_then (lists_of m.parameters) (lists_of_meanings m.meanings) (lists_of_meanings (slice_set m.meanings k (meaning_in v)))
      (λ b. ⊎_elim (λ d. inl (meaning_is v d)) (λ d. inr d) (meanings_set m.meanings k (meaning_in v) b)) a) h
  put_cases m (loc.Code code.Category c) v h = inr h
  put_cases m (loc.Code code.Lowercase c) v h = inr h
  put_cases m (loc.Code code.Uppercase c) v h = inr h
  put_cases m (loc.Code code.SpaceFactor c) v h = inr h
  put_cases m (loc.Code code.Math c) v h = inr h
  put_cases m (loc.Code code.Delimiter c) v h = inr h
  put_cases m (loc.Register register.Count k) v h = inr h
  put_cases m (loc.Register register.Dimen k) v h = inr h
  put_cases m (loc.Register register.Skip k) v h = inr h
  put_cases m (loc.Register register.Muskip k) v h = inr h
  put_cases m l v h = inr h

  pub names_hold : (m : Tables) → Has (lists_of_meanings m.meanings) → Has (lists_of_table m)
  names_hold m h = join_right (lists_of m.toks) (lists_of m.parameters ++ lists_of_meanings m.meanings) (join_right (lists_of m.parameters) (lists_of_meanings m.meanings) h)

  get_held : (m : Tables) (l : Loc) → Is (value_list (get m l)) → Has (lists_of_table m)
  get_held m (loc.Register register.Toks k) h = join_left (lists_of m.toks) (lists_of m.parameters ++ lists_of_meanings m.meanings) (lists_at m.toks k h)
  get_held m (loc.Tokens k) h = join_right (lists_of m.toks) (lists_of m.parameters ++ lists_of_meanings m.meanings) (join_left (lists_of m.parameters) (lists_of_meanings m.meanings) (lists_at m.parameters k h))
  get_held m (loc.Means k) h = names_hold m (meanings_at m.meanings k h)
  get_held m (loc.Code code.Category c) h = cc
  get_held m (loc.Code code.Lowercase c) h = cc
  get_held m (loc.Code code.Uppercase c) h = cc
  get_held m (loc.Code code.SpaceFactor c) h = cc
  get_held m (loc.Code code.Math c) h = cc
  get_held m (loc.Code code.Delimiter c) h = cc
  get_held m (loc.Register register.Count k) h = cc
  get_held m (loc.Register register.Dimen k) h = cc
  get_held m (loc.Register register.Skip k) h = cc
  get_held m (loc.Register register.Muskip k) h = cc
  get_held m l h = cc

  pub now_held : (g : Groups) → Has (lists_of_table g.now) → Has (lists_held g)
  now_held g h = join_left (lists_of_table g.now) (lists_of_entries g.entries) h

  -- the list that stands at a location
  pub value_is_held : (g : Groups) (l : Loc) → Is (value_list (get g.now l)) → Has (lists_held g)
  value_is_held g l h = now_held g (get_held g.now l h)

  pub standing_is_held : (g : Groups) (l : Loc) → Is (tokens_of (get g.now l)) → Has (lists_held g)
  standing_is_held g l h = value_is_held g l (tokens_is (get g.now l) h)

  saved_held : (g : Groups) → Has (lists_of_entries g.entries) → Has (lists_held g)
  saved_held g h = join_right (lists_of_table g.now) (lists_of_entries g.entries) h

  -- ASSIGNMENTS

  add_cases : (e : Saved V) (gs : List (List (Saved V))) → Has (lists_of_entries (add_top e gs)) → Is (value_list e.value) ⊎ Has (lists_of_entries gs)
  add_cases e [] h = inr h
  add_cases e (g ∷ gs) h = join_set (lists_of_saved g) (lists_of_saved (e ∷ g)) (lists_of_entries gs) (λ a. with_cases (value_list e.value) (lists_of_saved g) a) h

  saved_cases : (b : Bool) (g : Groups) (l : Loc) → Has (lists_of_entries (cond b g.entries (add_top (entry_for g l) g.entries))) → Has (lists_held g)
  saved_cases true g l h = saved_held g h
  saved_cases false g l h = ⊎_elim (λ a. now_held g (get_held g.now l a)) (λ a. saved_held g a) (add_cases (entry_for g l) g.entries h)

  now_cases : (g : Groups) (l : Loc) (v : V) → Has (lists_of_table (put g.now l v)) → Is (value_list v) ⊎ Has (lists_held g)
  now_cases g l v h = ⊎_elim (λ a. inl a) (λ a. inr (now_held g a)) (put_cases g.now l v h)

  -- what is held then is the value's list, or was held
  pub set_cases : (global : Bool) (g : Groups) (l : Loc) (v : V) → Has (lists_held (set global g l v)) → Is (value_list v) ⊎ Has (lists_held g)
  set_cases true g l v h = ⊎_elim (now_cases g l v) (λ a. inr (saved_held g a)) (join_cases (lists_of_table (put g.now l v)) (lists_of_entries g.entries) h)
  set_cases false g l v h =
      ⊎_elim (now_cases g l v) (λ a. inr (saved_cases (is_present g l) g l a)) (join_cases (lists_of_table (put g.now l v)) (lists_of_entries (cond (is_present g l) g.entries (add_top (entry_for g l) g.entries))) h)

  placed_cases : (global : Bool) (g : Groups) (o : Option ℕ) (m : Meaning (Option ℕ)) → Has (lists_held (set_placed global g o m)) → Is (list_of m) ⊎ Has (lists_held g)
  placed_cases global g None m h = inr h
  placed_cases global g (Some k) m h = set_cases global g (loc.Means k) (val.Meant m) h

  pub name_cases : (global : Bool) (g : Groups) (name : Name) (m : Meaning (Option ℕ)) → Has (lists_held (set_name global g name m)) → Is (list_of m) ⊎ Has (lists_held g)
  name_cases global g name m h = placed_cases global g (place_of g name) m h

  -- GROUPS

  uncovered_held : (m : Tables) (ms : List Tables) → Has (lists_of_table (uncovered m ms)) → Has (lists_of_table m) ⊎ Has (lists_outside ms)
  uncovered_held m [] h = inl h
  uncovered_held m (o ∷ os) h = inr (join_left (lists_of_table o) (lists_outside os) h)

  below_held : (gs : List (List (Saved V))) → Has (lists_of_entries (below gs)) → Has (lists_of_entries gs)
  below_held [] h = h
  below_held (g ∷ gs) h = join_right (lists_of_saved g) (lists_of_entries gs) h

  pub closed_held : (g : Groups) → OutsideIsHeld g → Has (lists_held (closed g)) → Has (lists_held g)
  closed_held g outside h =
      ⊎_elim (λ a. ⊎_elim (λ b. now_held g b) (λ b. outside n b) (uncovered_held g.now g.outer a)) (λ a. saved_held g (below_held g.entries a))
      (join_cases (lists_of_table (uncovered g.now g.outer)) (lists_of_entries (below g.entries)) h)

-- a name more holds nothing
longer_lists : (ms : List (Meaning (Option ℕ))) → lists_of_meanings (ms ++ means.Undefined ∷ []) ≡ lists_of_meanings ms
longer_lists [] = refl
longer_lists (m ∷ ms) = ap (with_list (list_of m)) (longer_lists ms)

pub entered_lists : (g : Groups) → lists_held (entered g) ≡ lists_held g
entered_lists g = ap (λ (ns : List ℕ). (lists_of g.now.toks ++ (lists_of g.now.parameters ++ ns)) ++ lists_of_entries g.entries) (longer_lists g.now.meanings)

-- INITEX's hold nothing
none_of : (k : ℕ) → lists_of (replicate k None) ≡ []
none_of zero = refl
none_of (suc k) = none_of k

undefined_of : (k : ℕ) (ms : List (Meaning (Option ℕ))) → lists_of_meanings (replicate k means.Undefined ++ ms) ≡ lists_of_meanings ms
undefined_of zero ms = refl
undefined_of (suc k) ms = undefined_of k ms

first_none : (b : Bool) (k : ℕ) → list_of (if b then means.Prim k else means.Undefined) ≡ None
first_none true k = refl
first_none false k = refl

primitives_none : (knows : ℕ → Bool) (ks : List ℕ) → lists_of_meanings (map (first_meaning knows) ks) ≡ []
primitives_none knows [] = refl
primitives_none knows (k ∷ ks) = ap₂ with_list (first_none (knows k) k) (primitives_none knows ks)

names_none : (knows : ℕ → Bool) → lists_of_meanings (first_meanings knows) ≡ []
names_none knows = undefined_of fixed_locations (map (first_meaning knows) (range_with_len 1 primitive_count)) ∙ primitives_none knows (range_with_len 1 primitive_count)

table_none : (knows : ℕ → Bool) → lists_of_table (first_tables knows) ≡ []
unfolding first_tables
table_none knows = ap₂ (λ (ms ns : List ℕ). ms ++ ns) (none_of 256) (ap₂ (λ (ms ns : List ℕ). ms ++ ns) (none_of 8) (names_none knows))

pub first_lists : (knows : ℕ → Bool) → lists_held (first_groups knows) ≡ []
first_lists knows = ap (λ (ns : List ℕ). ns ++ []) (table_none knows)

-- A NEW NUMBER for a list that isn't held

module _ (number : ℕ → ℕ) (id new : ℕ) where
  abbrev Free : List ℕ → Type 0
  Free ns = is_listed ns id ≡ false

  pub other_number : (n : ℕ) → (n ≡ id → ⊥) → renumbered number id new n ≡ number n
  other_number n h = ap (λ (b : Bool). if b then new else number n) (ne_eqb n id h)

  pub new_number : (n : ℕ) → n ≡ id → renumbered number id new n ≡ new
  new_number n h = ap (λ (b : Bool). if b then new else number n) (eq-eqb n id h)

  join_free : (xs ys : List ℕ) → Free (xs ++ ys) → Free xs × Free ys
  join_free xs ys h = or_parts (is_listed xs id) (is_listed ys id) (sym (listed_join id xs ys) ∙ h)

  with_free : (o : Option ℕ) (ns : List ℕ) → Free (with_list o ns) → (is_number id o ≡ false) × Free ns
  with_free o ns h = or_parts (is_number id o) (is_listed ns id) (sym (listed_with id o ns) ∙ h)

  list_renumbered : (o : Option ℕ) → is_number id o ≡ false → number_of_list (renumbered number id new) o ≡ number_of_list number o
  list_renumbered None h = refl
  list_renumbered (Some k) h = ap (λ (n : ℕ). Some n) (other_number k (λ e. (let f : is_number id (Some k) ≡ true = eq-eqb k id e in cc)))

  meaning_renumbered : (m : Meaning (Option ℕ)) → is_number id (list_of m) ≡ false → meaning_of (renumbered number id new) m ≡ meaning_of number m
  meaning_renumbered (means.Macro long outer list) h = ap (λ (o : Option ℕ). means.Macro long outer o) (list_renumbered list h)
  meaning_renumbered m h = refl

  value_renumbered : (v : V) → is_number id (value_list v) ≡ false → value_of (renumbered number id new) v ≡ value_of number v
  value_renumbered (val.Meant m) h = ap (λ (x : Meaning (Option ℕ)). val.Meant x) (meaning_renumbered m h)
  value_renumbered (val.Tokens list) h = ap (λ (o : Option ℕ). val.Tokens o) (list_renumbered list h)
  value_renumbered v h = refl

  lists_renumbered : (xs : List (Option ℕ)) → Free (lists_of xs) → map (number_of_list (renumbered number id new)) xs ≡ map (number_of_list number) xs
  lists_renumbered [] h = refl
  lists_renumbered (x ∷ xs) h =
      let parts : (is_number id x ≡ false) × Free (lists_of xs) = with_free x (lists_of xs) h in
      ap₂ (λ (y : Option ℕ) (ys : List (Option ℕ)). y ∷ ys) (list_renumbered x parts.0) (lists_renumbered xs parts.1)

  meanings_renumbered : (ms : List (Meaning (Option ℕ))) → Free (lists_of_meanings ms) → meanings_of (renumbered number id new) ms ≡ meanings_of number ms
  meanings_renumbered [] h = refl
  meanings_renumbered (m ∷ ms) h =
      let parts : (is_number id (list_of m) ≡ false) × Free (lists_of_meanings ms) = with_free (list_of m) (lists_of_meanings ms) h in
      ap₂ (λ (y : Meaning (Option ℕ)) (ys : List (Meaning (Option ℕ))). y ∷ ys) (meaning_renumbered m parts.0) (meanings_renumbered ms parts.1)

  saved_renumbered : (es : List (Saved V)) → Free (lists_of_saved es) → map (saved_of (renumbered number id new)) es ≡ map (saved_of number) es
  saved_renumbered [] h = refl
  saved_renumbered (e ∷ es) h =
      let parts : (is_number id (value_list e.value) ≡ false) × Free (lists_of_saved es) = with_free (value_list e.value) (lists_of_saved es) h in
      ap₂ (λ (v : V) (ys : List (Saved V)). record { loc = e.loc; value = v; level = e.level } ∷ ys) (value_renumbered e.value parts.0) (saved_renumbered es parts.1)

  entries_renumbered : (gs : List (List (Saved V))) → Free (lists_of_entries gs) → map (λ es. map (saved_of (renumbered number id new)) es) gs ≡ map (λ es. map (saved_of number) es) gs
  entries_renumbered [] h = refl
  entries_renumbered (g ∷ gs) h =
      let parts : Free (lists_of_saved g) × Free (lists_of_entries gs) = join_free (lists_of_saved g) (lists_of_entries gs) h in
      ap₂ (λ (y : List (Saved V)) (ys : List (List (Saved V))). y ∷ ys) (saved_renumbered g parts.0) (entries_renumbered gs parts.1)

  table_renumbered : (m : Tables) → Free (lists_of_table m) → tables_of (renumbered number id new) m ≡ tables_of number m
  table_renumbered m h =
      let parts : Free (lists_of m.toks) × Free (lists_of m.parameters ++ lists_of_meanings m.meanings) = join_free (lists_of m.toks) (lists_of m.parameters ++ lists_of_meanings m.meanings) h in
      let others : Free (lists_of m.parameters) × Free (lists_of_meanings m.meanings) = join_free (lists_of m.parameters) (lists_of_meanings m.meanings) parts.1 in
      λ i. record m { toks = lists_renumbered m.toks parts.0 i; parameters = lists_renumbered m.parameters others.0 i; meanings = meanings_renumbered m.meanings others.1 i }

  outer_renumbered : (ms : List Tables) → Free (lists_outside ms) → map (tables_of (renumbered number id new)) ms ≡ map (tables_of number) ms
  outer_renumbered [] h = refl
  outer_renumbered (m ∷ ms) h =
      let parts : Free (lists_of_table m) × Free (lists_outside ms) = join_free (lists_of_table m) (lists_outside ms) h in
      ap₂ (λ (y : Tables) (ys : List Tables). y ∷ ys) (table_renumbered m parts.0) (outer_renumbered ms parts.1)

  pub groups_renumbered : (g : Groups) → Free (lists_held g) → Free (lists_outside g.outer) → groups_of (renumbered number id new) g ≡ groups_of number g
  groups_renumbered g h outside =
      let parts : Free (lists_of_table g.now) × Free (lists_of_entries g.entries) = join_free (lists_of_table g.now) (lists_of_entries g.entries) h in
      λ i. record g { now = table_renumbered g.now parts.0 i; outer = outer_renumbered g.outer outside i; entries = entries_renumbered g.entries parts.1 i }

  -- the name means the new macro, and each other location what it had
  pub defined_free : (global : Bool) (g : Groups) → Free (lists_held g) → Free (lists_outside g.outer) → (name : Name) (long outer : Bool) →
      groups_of (renumbered number id new) (set_name global g name (means.Macro long outer (Some id))) ≡ set_name global (groups_of number g) name (means.Macro long outer (Some new))
  defined_free global g h outside name long outer =
      sym (set_name_of (renumbered number id new) global g name (means.Macro long outer (Some id)))
      ∙ ap₂ (λ (x : Groups) (k : ℕ). set_name global x name (means.Macro long outer (Some k))) (groups_renumbered g h outside) (new_number id refl)

  -- and so does a location
  pub listed_free : (global : Bool) (g : Groups) → Free (lists_held g) → Free (lists_outside g.outer) → (l : Loc) →
      groups_of (renumbered number id new) (set global g l (val.Tokens (Some id))) ≡ set global (groups_of number g) l (val.Tokens (Some new))
  listed_free global g h outside l =
      sym (set_of (renumbered number id new) global g l (val.Tokens (Some id)))
      ∙ ap₂ (λ (x : Groups) (k : ℕ). set global x l (val.Tokens (Some k))) (groups_renumbered g h outside) (new_number id refl)
