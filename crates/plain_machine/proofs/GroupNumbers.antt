-- Assignments and groups do the same under other numbers of the lists.
use Rattle.std.proofs.Common.{◌≡◌, ℕ, ◌+◌, Bool, true, false, List, [], ◌∷◌, ◌++◌, length, map, replicate, cond, Option, Some, None, refl, sym, ap, ap₂, ◌∙◌, zero, suc}
use Rattle.std.specs.Prelude.{if◌then◌else◌, slice_set, fold}
use Rattle.std.specs.List.{range_with_len}
use Rattle.std.proofs.Math.ListN.{get_or-map}
use Rattle.std.proofs.lemmas.List.{map-set, map-append, length-map}
use Rattle.tex_defs.specs.declared.Token.{Token}
use Rattle.tex_defs.specs.declared.Table.TheVariants.{GroupingLevels}
use Rattle.tex_defs.specs.declared.Name.{Name}
use Rattle.tex_defs.specs.declared.Meaning.{Meaning}
use Rattle.tex_defs.specs.declared.Meaning.TheVariants as means
use Rattle.tex_defs.specs.declared.RegisterKind.TheVariants as register
use Rattle.plain_tokens.specs.Meanings.{location, first_meaning, first_meanings, primitive_count, fixed_locations}
use Rattle.plain_tokens.specs.Tables.{Demand}
use Rattle.save_stack.specs.declared.GroupKind.{GroupKind}
use Rattle.save_stack.specs.declared.Saved.{Saved}
use Rattle.save_stack.specs.Groups.{top, below, add_top, held, back_levels, undo_levels}
use Rattle.equivalents.specs.declared.values.CodeKind.TheVariants as code
use Rattle.equivalents.specs.declared.values.Loc.{Loc}
use Rattle.equivalents.specs.declared.values.Loc.TheVariants as loc
use Rattle.equivalents.specs.declared.values.Val.TheVariants as val
use Rattle.equivalents.specs.Locations.{V, index, category_of, glue_of, tokens_of, meaning_of as meaning_in, number_value as number_in, value_seen}
use Rattle.equivalents.specs.Tables.{Tables, put, get, longer}
use Rattle.equivalents.specs.First.{first_tables}
use Rattle.equivalents.specs.Groups.{Groups, level_of, depth, is_present, entry_for, put_all, set_local, set_global, set, placed, place_of, set_placed, set_name, all_longer, entered, opened, uncovered, beneath, closed, with_token, tokens_after, current_group, saves, save, set_demands, placed_demands, name_demands, group_demands, token_demands, first_groups}
use Rattle.plain_machine.specs.Numbers.{number_of_list, meaning_of, meanings_of, value_of, tables_of, saved_of, groups_of}
use Rattle.plain_machine.proofs.Renumbering.{seen_as_of}

module _ (number : ℕ → ℕ) where
  -- VALUES

  category_same : (v : V) → category_of (value_of number v) ≡ category_of v
  category_same (val.Meant m) = refl
  category_same (val.Tokens list) = refl
  category_same v = refl

  number_same : (v : V) → number_in (value_of number v) ≡ number_in v
  number_same (val.Meant m) = refl
  number_same (val.Tokens list) = refl
  number_same v = refl

  glue_same : (v : V) → glue_of (value_of number v) ≡ glue_of v
  glue_same (val.Meant m) = refl
  glue_same (val.Tokens list) = refl
  glue_same v = refl

  pub tokens_as : (v : V) → tokens_of (value_of number v) ≡ number_of_list number (tokens_of v)
  tokens_as (val.Meant m) = refl
  tokens_as (val.Tokens list) = refl
  tokens_as v = refl

  meaning_as : (v : V) → meaning_in (value_of number v) ≡ meaning_of number (meaning_in v)
  meaning_as (val.Meant m) = refl
  meaning_as (val.Tokens list) = refl
  meaning_as v = refl

  -- TABLES

  lists_set : (xs : List (Option ℕ)) (k : ℕ) (v : V) → slice_set (map (number_of_list number) xs) k (tokens_of (value_of number v)) ≡ map (number_of_list number) (slice_set xs k (tokens_of v))
  lists_set xs k v = ap (slice_set (map (number_of_list number) xs) k) (tokens_as v) ∙ sym (map-set (number_of_list number) xs k (tokens_of v))

  meanings_set : (ms : List (Meaning (Option ℕ))) (k : ℕ) (v : V) → slice_set (meanings_of number ms) k (meaning_in (value_of number v)) ≡ meanings_of number (slice_set ms k (meaning_in v))
  meanings_set ms k v = ap (slice_set (meanings_of number ms) k) (meaning_as v) ∙ sym (map-set (meaning_of number) ms k (meaning_in v))

  put_of : (m : Tables) (l : Loc) (v : V) → put (tables_of number m) l (value_of number v) ≡ tables_of number (put m l v)
  put_of m (loc.Code code.Category c) v = λ i. record (tables_of number m) { categories = slice_set m.categories c (category_same v i) }
  put_of m (loc.Code code.Lowercase c) v = λ i. record (tables_of number m) { lowercase = slice_set m.lowercase c (number_same v i) }
  put_of m (loc.Code code.Uppercase c) v = λ i. record (tables_of number m) { uppercase = slice_set m.uppercase c (number_same v i) }
  put_of m (loc.Code code.SpaceFactor c) v = λ i. record (tables_of number m) { space_factors = slice_set m.space_factors c (number_same v i) }
  put_of m (loc.Code code.Math c) v = λ i. record (tables_of number m) { math_codes = slice_set m.math_codes c (number_same v i) }
  put_of m (loc.Code code.Delimiter c) v = λ i. record (tables_of number m) { delimiters = slice_set m.delimiters c (number_same v i) }
  put_of m (loc.Integer n) v = λ i. record (tables_of number m) { integers = slice_set m.integers n (number_same v i) }
  put_of m (loc.Dimension n) v = λ i. record (tables_of number m) { dimensions = slice_set m.dimensions n (number_same v i) }
  put_of m (loc.Glue n) v = λ i. record (tables_of number m) { glues = slice_set m.glues n (glue_same v i) }
  put_of m (loc.Register register.Count n) v = λ i. record (tables_of number m) { counts = slice_set m.counts n (number_same v i) }
  put_of m (loc.Register register.Dimen n) v = λ i. record (tables_of number m) { dimens = slice_set m.dimens n (number_same v i) }
  put_of m (loc.Register register.Skip n) v = λ i. record (tables_of number m) { skips = slice_set m.skips n (glue_same v i) }
  put_of m (loc.Register register.Muskip n) v = λ i. record (tables_of number m) { muskips = slice_set m.muskips n (glue_same v i) }
  put_of m (loc.Register register.Toks n) v = λ i. record (tables_of number m) { toks = lists_set m.toks n v i }
  put_of m (loc.Tokens n) v = λ i. record (tables_of number m) { parameters = lists_set m.parameters n v i }
  put_of m (loc.Means n) v = λ i. record (tables_of number m) { meanings = meanings_set m.meanings n v i }

  pub get_of : (m : Tables) (l : Loc) → get (tables_of number m) l ≡ value_of number (get m l)
  get_of m (loc.Register register.Toks n) = ap (λ (o : Option ℕ). val.Tokens o) (get_or-map (number_of_list number) m.toks n None)
  get_of m (loc.Tokens n) = ap (λ (o : Option ℕ). val.Tokens o) (get_or-map (number_of_list number) m.parameters n None)
  get_of m (loc.Means n) = ap (λ (x : Meaning (Option ℕ)). val.Meant x) (get_or-map (meaning_of number) m.meanings n means.Undefined)
  get_of m (loc.Code code.Category c) = refl
  get_of m (loc.Code code.Lowercase c) = refl
  get_of m (loc.Code code.Uppercase c) = refl
  get_of m (loc.Code code.SpaceFactor c) = refl
  get_of m (loc.Code code.Math c) = refl
  get_of m (loc.Code code.Delimiter c) = refl
  get_of m (loc.Integer n) = refl
  get_of m (loc.Dimension n) = refl
  get_of m (loc.Glue n) = refl
  get_of m (loc.Register register.Count n) = refl
  get_of m (loc.Register register.Dimen n) = refl
  get_of m (loc.Register register.Skip n) = refl
  get_of m (loc.Register register.Muskip n) = refl

  value_same : (v : V) → value_seen (value_of number v) ≡ value_seen v
  value_same (val.Number n) = refl
  value_same (val.Skip g) = refl
  value_same (val.Meant m) = ap (λ (seen : Meaning Unit). val.Meant seen) (seen_as_of number m)
  value_same (val.Tokens list) = refl

  -- as readings see what stands at a location
  pub fetched_same : (m : Tables) (l : Loc) → value_seen (get (tables_of number m) l) ≡ value_seen (get m l)
  fetched_same m l = ap value_seen (get_of m l) ∙ value_same (get m l)

  longer_of : (m : Tables) → longer (tables_of number m) ≡ tables_of number (longer m)
  longer_of m = λ i. record (tables_of number m) { meanings = sym (map-append (meaning_of number) m.meanings (means.Undefined ∷ [])) i }

  -- ALL MAPS

  abbrev each : List Tables → List Tables
  each ms = map (tables_of number) ms

  put_all_of : (ms : List Tables) (l : Loc) (v : V) → put_all (each ms) l (value_of number v) ≡ each (put_all ms l v)
  put_all_of [] l v = refl
  put_all_of (m ∷ ms) l v = ap₂ (λ (x : Tables) (xs : List Tables). x ∷ xs) (put_of m l v) (put_all_of ms l v)

  all_longer_of : (ms : List Tables) → all_longer (each ms) ≡ each (all_longer ms)
  all_longer_of [] = refl
  all_longer_of (m ∷ ms) = ap₂ (λ (x : Tables) (xs : List Tables). x ∷ xs) (longer_of m) (all_longer_of ms)

  uncovered_of : (m : Tables) (ms : List Tables) → uncovered (tables_of number m) (each ms) ≡ tables_of number (uncovered m ms)
  uncovered_of m [] = refl
  uncovered_of m (n ∷ ns) = refl

  beneath_of : (ms : List Tables) → beneath (each ms) ≡ each (beneath ms)
  beneath_of [] = refl
  beneath_of (m ∷ ms) = refl

  -- SAVED VALUES

  abbrev saved_all : List (Saved V) → List (Saved V)
  saved_all es = map (saved_of number) es

  abbrev entries_of : List (List (Saved V)) → List (List (Saved V))
  entries_of gs = map saved_all gs

  entry_of : (g : Groups) (l : Loc) → entry_for (groups_of number g) l ≡ saved_of number (entry_for g l)
  entry_of g l = λ i. record { loc = index l; value = get_of g.now l i; level = level_of g l }

  add_of : (e : Saved V) (gs : List (List (Saved V))) → add_top (saved_of number e) (entries_of gs) ≡ entries_of (add_top e gs)
  add_of e [] = refl
  add_of e (g ∷ gs) = refl

  added_of : (g : Groups) (l : Loc) → add_top (entry_for (groups_of number g) l) (entries_of g.entries) ≡ entries_of (add_top (entry_for g l) g.entries)
  added_of g l = ap (λ (e : Saved V). add_top e (entries_of g.entries)) (entry_of g l) ∙ add_of (entry_for g l) g.entries

  saved_if : (b : Bool) (g : Groups) (l : Loc) → cond b (entries_of g.entries) (add_top (entry_for (groups_of number g) l) (entries_of g.entries)) ≡ entries_of (cond b g.entries (add_top (entry_for g l) g.entries))
  saved_if true g l = refl
  saved_if false g l = added_of g l

  below_of : (gs : List (List (Saved V))) → below (entries_of gs) ≡ entries_of (below gs)
  below_of [] = refl
  below_of (g ∷ gs) = refl

  top_of : (gs : List (List (Saved V))) → top (entries_of gs) ≡ saved_all (top gs)
  top_of [] = refl
  top_of (g ∷ gs) = refl

  undo_of : (es : List (Saved V)) (levels : List ℕ) → undo_levels (saved_all es) levels ≡ undo_levels es levels
  undo_of [] levels = refl
  undo_of (e ∷ es) levels = undo_of es (back_levels e levels)

  held_of : (gs : List (List (Saved V))) → held (entries_of gs) ≡ held gs
  held_of gs = held_from 0 gs where
    held_from : (n : ℕ) (gs : List (List (Saved V))) → fold (λ a g. a + length g) n (entries_of gs) ≡ fold (λ a g. a + length g) n gs
    held_from n [] = refl
    held_from n (g ∷ gs) = ap (λ (k : ℕ). fold (λ (a : ℕ) (x : List (Saved V)). a + length x) (n + k) (entries_of gs)) (length-map g (saved_of number)) ∙ held_from (n + length g) gs

  -- ASSIGNMENTS

  set_local_of : (g : Groups) (l : Loc) (v : V) → set_local (groups_of number g) l (value_of number v) ≡ groups_of number (set_local g l v)
  set_local_of g l v = λ i. record (groups_of number g) {
    now = put_of g.now l v i;
    levels = slice_set g.levels (index l) (depth g);
    entries = saved_if (is_present g l) g l i;
  }

  set_global_of : (g : Groups) (l : Loc) (v : V) → set_global (groups_of number g) l (value_of number v) ≡ groups_of number (set_global g l v)
  set_global_of g l v = λ i. record (groups_of number g) { now = put_of g.now l v i; outer = put_all_of g.outer l v i; levels = slice_set g.levels (index l) 0 }

  pub set_of : (global : Bool) (g : Groups) (l : Loc) (v : V) → set global (groups_of number g) l (value_of number v) ≡ groups_of number (set global g l v)
  set_of true g l v = set_global_of g l v
  set_of false g l v = set_local_of g l v

  -- a name's location is there whatever the lists are called
  place_same : (g : Groups) (n : Name) → place_of (groups_of number g) n ≡ place_of g n
  place_same g n = ap (λ (k : ℕ). placed k (location n)) (length-map g.now.meanings (meaning_of number))

  set_placed_of : (global : Bool) (g : Groups) (o : Option ℕ) (m : Meaning (Option ℕ)) → set_placed global (groups_of number g) o (meaning_of number m) ≡ groups_of number (set_placed global g o m)
  set_placed_of global g None m = refl
  set_placed_of global g (Some k) m = set_of global g (loc.Means k) (val.Meant m)

  pub set_name_of : (global : Bool) (g : Groups) (n : Name) (m : Meaning (Option ℕ)) → set_name global (groups_of number g) n (meaning_of number m) ≡ groups_of number (set_name global g n m)
  set_name_of global g n m = ap (λ (o : Option ℕ). set_placed global (groups_of number g) o (meaning_of number m)) (place_same g n) ∙ set_placed_of global g (place_of g n) m

  -- a location gets what stands at another
  pub groups_shared : (global : Bool) (g : Groups) (l m : Loc) → groups_of number (set global g l (get g.now m)) ≡ set global (groups_of number g) l (get (tables_of number g.now) m)
  groups_shared global g l m = sym (ap (set global (groups_of number g) l) (get_of g.now m) ∙ set_of global g l (get g.now m))

  -- NAMES AND GROUPS

  pub entered_of : (g : Groups) → entered (groups_of number g) ≡ groups_of number (entered g)
  entered_of g = λ i. record (groups_of number g) { now = longer_of g.now i; outer = all_longer_of g.outer i; levels = g.levels ++ 0 ∷ [] }

  pub opened_of : (g : Groups) (kind : GroupKind) → opened (groups_of number g) kind ≡ groups_of number (opened g kind)
  opened_of g kind = refl

  pub closed_of : (g : Groups) → closed (groups_of number g) ≡ groups_of number (closed g)
  closed_of g = λ i. record (groups_of number (closed g)) {
    now = uncovered_of g.now g.outer i;
    outer = beneath_of g.outer i;
    levels = levels_of i;
    entries = below_of g.entries i;
  } where
    levels_of : undo_levels (top (entries_of g.entries)) g.levels ≡ undo_levels (top g.entries) g.levels
    levels_of = ap (λ (es : List (Saved V)). undo_levels es g.levels) (top_of g.entries) ∙ undo_of (top g.entries) g.levels

  pub with_token_of : (g : Groups) (t : Token) → with_token (groups_of number g) t ≡ groups_of number (with_token g t)
  with_token_of g t = refl

  -- what is seen of the open groups
  pub depth_of : (g : Groups) → depth (groups_of number g) ≡ depth g
  depth_of g = refl

  pub kind_same : (g : Groups) → current_group (groups_of number g) ≡ current_group g
  kind_same g = refl

  pub tokens_after_of : (g : Groups) → tokens_after (groups_of number g) ≡ tokens_after g
  tokens_after_of g = refl

  -- WHAT THEY NEED

  pub saves_of : (g : Groups) → saves (groups_of number g) ≡ saves g
  saves_of g = ap (λ (k : ℕ). depth g + (k + held g.tokens)) (held_of g.entries)

  save_of : (g : Groups) → save (groups_of number g) ≡ save g
  save_of g = rw (held_of g.entries)

  pub set_demands_of : (global : Bool) (g : Groups) (l : Loc) → set_demands global (groups_of number g) l ≡ set_demands global g l
  set_demands_of global g l = ap (λ (d : Demand). cond global [] (cond (is_present g l) [] (d ∷ []))) (save_of g)

  placed_demands_of : (global : Bool) (g : Groups) (o : Option ℕ) → placed_demands global (groups_of number g) o ≡ placed_demands global g o
  placed_demands_of global g None = refl
  placed_demands_of global g (Some k) = set_demands_of global g (loc.Means k)

  pub name_demands_of : (global : Bool) (g : Groups) (n : Name) → name_demands global (groups_of number g) n ≡ name_demands global g n
  name_demands_of global g n = ap (placed_demands global (groups_of number g)) (place_same g n) ∙ placed_demands_of global g (place_of g n)

  pub group_demands_of : (g : Groups) → group_demands (groups_of number g) ≡ group_demands g
  group_demands_of g = ap (λ (d : Demand). d ∷ record { table = GroupingLevels; used = depth g; need = 1 } ∷ []) (save_of g)

  pub token_demands_of : (g : Groups) → token_demands (groups_of number g) ≡ token_demands g
  token_demands_of g = ap (λ (d : Demand). d ∷ []) (save_of g)

  -- INITEX'S hold no list

  no_lists : (k : ℕ) → map (number_of_list number) (replicate k None) ≡ replicate k None
  no_lists zero = refl
  no_lists (suc k) = ap (λ (xs : List (Option ℕ)). None ∷ xs) (no_lists k)

  first_replicate : (k : ℕ) (cells : List (Meaning (Option ℕ))) → meanings_of number cells ≡ cells → meanings_of number (replicate k means.Undefined ++ cells) ≡ replicate k means.Undefined ++ cells
  first_replicate zero cells h = h
  first_replicate (suc k) cells h = ap (λ (ms : List (Meaning (Option ℕ))). means.Undefined ∷ ms) (first_replicate k cells h)

  first_cell : (b : Bool) (k : ℕ) → meaning_of number (if b then means.Prim k else means.Undefined) ≡ (if b then means.Prim k else means.Undefined)
  first_cell true k = refl
  first_cell false k = refl

  first_primitives : (knows : ℕ → Bool) (ks : List ℕ) → meanings_of number (map (first_meaning knows) ks) ≡ map (first_meaning knows) ks
  first_primitives knows [] = refl
  first_primitives knows (k ∷ ks) = rw (first_cell (knows k) k, first_primitives knows ks)

  first_meanings_of : (knows : ℕ → Bool) → meanings_of number (first_meanings knows) ≡ first_meanings knows
  first_meanings_of knows = first_replicate fixed_locations (map (first_meaning knows) (range_with_len 1 primitive_count)) (first_primitives knows (range_with_len 1 primitive_count))

  first_tables_of : (knows : ℕ → Bool) → tables_of number (first_tables knows) ≡ first_tables knows
  unfolding first_tables
  first_tables_of knows = λ i. record (first_tables knows) { toks = no_lists 256 i; parameters = no_lists 8 i; meanings = first_meanings_of knows i }

  pub first_groups_of : (knows : ℕ → Bool) → groups_of number (first_groups knows) ≡ first_groups knows
  first_groups_of knows = ap (λ (m : Tables). record (first_groups knows) { now = m }) (first_tables_of knows)
