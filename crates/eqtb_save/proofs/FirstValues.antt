-- INITEX's values in one list are the machine's.
use Rattle.std.proofs.Common.{◌≡◌, ℕ, ◌+◌, ◌≤◌, List, [], ◌∷◌, ◌++◌, length, map, drop, replicate, Bool, true, false, Option, None, refl, sym, ap, ap₂, subst, ◌∙◌, append-nil, append_assoc, arith}
use Rattle.std.specs.Prelude.{if◌then◌else◌}
use Rattle.std.specs.List.{range_with_len}
use Rattle.std.proofs.lemmas.List.{replicate-append-replicate, length-append, length-replicate}
use Rattle.tex_defs.specs.declared.Sizes.{Sizes}
use Rattle.tex_defs.specs.declared.Token.{Token}
use Rattle.tex_defs.specs.declared.Meaning.TheVariants as means
use Rattle.save_stack.specs.Groups.{Stack, begun, extended, top}
use Rattle.save_stack.specs.Mapped.{mapped}
use Rattle.plain_tokens.specs.Categories.{initial_categories}
use Rattle.plain_tokens.specs.Meanings.{first_meaning, fixed_locations, primitive_count}
use Rattle.equivalents.specs.Locations.{V, locations_without_names}
use Rattle.equivalents.specs.First.{first_tables}
use Rattle.equivalents.specs.Tables.{Tables}
use Rattle.equivalents.specs.Flat.{tables_of, groups_of}
use Rattle.equivalents.specs.Groups.{Groups, outermost, first_groups}
use Rattle.equivalents.specs.Holding.{list_of, with_list, lists_of_meanings, lists_held}
use Rattle.equivalents.specs.Laws.{IsWhole}
use Rattle.token_lists.specs.Holders.{times}
use Rattle.eqtb_save.specs.Values.{numbered_value, categories_in}
use Rattle.eqtb_save.specs.First.{Adds, with_all, first_values}
use Rattle.eqtb_save.specs.Table.{Table, IsSound, first_table}
use Rattle.eqtb_save.proofs.Held.{K}
use Rattle.eqtb_save.proofs.FirstSorts.{first_suited}

-- THE OUTERMOST LEVEL ALONE

module _ (size most : ℕ) where
  push : (xs : List V) (v : V) → extended (begun xs size most) v ≡ begun (xs ++ v ∷ []) size most
  push xs v =
      let levels : replicate (length xs) 0 ++ 0 ∷ [] ≡ replicate (length (xs ++ v ∷ [])) 0 = replicate-append-replicate (length xs) 1 0 ∙ ap (λ (n : ℕ). replicate n 0) (sym (length-append xs (v ∷ []))) in
      ap (λ (ls : List ℕ). let s : Stack V = record { maps = (xs ++ v ∷ []) ∷ []; levels = ls; entries = []; tokens = []; kinds = []; size = size; most = most } in s) levels

  push_all : (xs vs : List V) → with_all (begun xs size most) vs ≡ begun (xs ++ vs) size most
  push_all xs [] = ap (λ (ys : List V). begun ys size most) (sym (append-nil xs))
  push_all xs (v ∷ vs) = ap (λ (s : Stack V). with_all s vs) (push xs v) ∙ push_all (xs ++ v ∷ []) vs ∙ ap (λ (ys : List V). begun ys size most) (append_assoc xs (v ∷ []) vs)

  pub filled : {s t : Stack K} {row : List V} → s ≡ begun [] size most → Adds s t row → mapped numbered_value t ≡ begun row size most
  filled {s} {t} {row} is adds = adds.after ∙ ap (λ (x : Stack K). with_all (mapped numbered_value x) row) is ∙ push_all [] row

-- INITEX'S VALUES, computed

module _ (knows : ℕ → Bool) where
  first_tables_of : tables_of (first_values knows) ≡ first_tables knows
  unfolding first_values first_tables initial_categories
  first_tables_of = refl

  first_count : length (first_values knows) ≡ locations_without_names + length (first_tables knows).meanings
  unfolding first_values first_tables
  first_count = refl

  groups_first : (size most : ℕ) → groups_of (begun (first_values knows) size most) ≡ first_groups knows
  groups_first size most = ap₂ (λ (m : Tables) (n : ℕ). outermost m n) first_tables_of first_count

  whole_first : (size most : ℕ) → IsWhole (begun (first_values knows) size most)
  whole_first size most =
      let same : length (first_values knows) ≡ length (replicate (length (first_values knows)) 0) = sym (length-replicate (length (first_values knows)) 0) in
      record { suited = (first_suited knows, tt); maps = refl; located = same; alike = (same, tt) }

  no_list : (n : ℕ) → list_of (first_meaning knows n) ≡ None
  no_list n = by_case (knows n)
    where
      by_case : (b : Bool) → list_of (if b then means.Prim n else means.Undefined) ≡ None
      by_case true = refl
      by_case false = refl

  no_lists : (ns : List ℕ) → lists_of_meanings (map (first_meaning knows) ns) ≡ []
  no_lists [] = refl
  no_lists (n ∷ ns) = ap₂ (λ (o : Option ℕ) (xs : List ℕ). with_list o xs) (no_list n) (no_lists ns)

  none_held : lists_held (first_groups knows) ≡ []
  unfolding first_tables
  none_held = ap (λ (xs : List ℕ). xs ++ []) (no_lists (range_with_len 1 primitive_count))

  -- THE TABLE

  module _ (sizes : Sizes) where
    abbrev most : ℕ
    most = locations_without_names + fixed_locations + sizes.hash_size

    module _ (s t : Stack K) (begins : s ≡ begun [] sizes.save_size (locations_without_names + fixed_locations + sizes.hash_size)) (adds : Adds s t (first_values knows)) (closing : List Token) (empty : closing ≡ []) where
      is : mapped numbered_value t ≡ begun (first_values knows) sizes.save_size most
      is = filled sizes.save_size most begins adds

      is_groups : groups_of (mapped numbered_value t) ≡ first_groups knows
      is_groups = ap groups_of is ∙ groups_first sizes.save_size most

      pub first_sound : (categories : List ℕ) (room : ℕ) → categories ≡ categories_in (top (mapped numbered_value t).maps) → sizes.save_size ≤ room → IsSound categories (mapped numbered_value t) closing room 0 None sizes
      first_sound categories room codes rooms = record {
        whole = subst (λ (x : Stack V). IsWhole x) (sym is) (whole_first sizes.save_size most);
        codes = codes;
        save_size = ap (λ (x : Stack V). x.size) is;
        most = ap (λ (x : Stack V). x.most) is;
        rooms = rooms;
        levels = omega (arith, ap (λ (x : Stack V). length x.kinds) is);
        idle = λ none. omega (arith, ap length empty);
      }

      pub first_view : ◌≡◌ {A = Table} (record { groups = groups_of (mapped numbered_value t); closing = drop 0 closing; ending = None; sizes = sizes }) (first_table knows sizes)
      first_view = ap₂ (λ (g : Groups) (ts : List Token). let r : Table = record { groups = g; closing = ts; ending = None; sizes = sizes } in r) is_groups (ap (drop 0) empty)

      pub first_free : (h : ℕ) → times h (lists_held (groups_of (mapped numbered_value t))) ≡ 0
      first_free h = ap (λ (g : Groups). times h (lists_held g)) is_groups ∙ ap (times h) none_held

      pub first_levels : 256 ≤ length t.levels
      first_levels = omega (arith, ap (λ (x : Stack V). length x.levels) is, length-replicate {A = ℕ} (length (first_values knows)) 0, (first_suited knows).long)
