-- An engine's maps and the machine's groups go together.
use Rattle.std.proofs.Common.{◌≡◌, ◌-◌, ◌<◌, List, [], ◌∷◌, ◌++◌, length, map, set, take, get_or, cond, refl, sym, ap₂, arith}
use Rattle.save_stack.specs.declared.GroupKind.{GroupKind}
use Rattle.save_stack.specs.declared.Saved.{Saved}
use Rattle.save_stack.specs.Groups.{Stack, top, below, put_top, put_all, set_top, add_top, each_longer, level_at, undo_levels, defined, gdefined, opened, extended, restored}
use Rattle.save_stack.specs.Closing.{closed}
use Rattle.equivalents.specs.declared.values.Loc.{Loc}
use Rattle.equivalents.specs.Locations.{V, IsInRow, index}
use Rattle.equivalents.specs.Tables.{Tables, put, get, longer}
use Rattle.equivalents.specs.Groups as machine
use Rattle.equivalents.specs.Groups.{Groups, all_longer, uncovered, beneath}
use Rattle.equivalents.specs.Flat.{tables_of, groups_of, EachIsSuited}
use Rattle.equivalents.specs.Laws.{IsWhole}
use Rattle.equivalents.proofs.Decoding.{decodes, lengthens}
use Rattle.equivalents.proofs.Reading.{reads}
use Rattle.equivalents.proofs.Whole.{undefined, top_suited}

-- ONE LOCATION CHANGES

module _ (l : Loc) (v : V) (within : IsInRow l) where
  top_put : (ms : List (List V)) → tables_of (top (put_top ms (index l) v)) ≡ put (tables_of (top ms)) l v
  top_put [] = decodes [] l v within
  top_put (m ∷ ms) = decodes m l v within

  below_put : (ms : List (List V)) → map tables_of (below (put_top ms (index l) v)) ≡ map tables_of (below ms)
  below_put [] = refl
  below_put (m ∷ ms) = refl

  top_all : (ms : List (List V)) → tables_of (top (put_all ms (index l) v)) ≡ put (tables_of (top ms)) l v
  top_all [] = decodes [] l v within
  top_all (m ∷ ms) = decodes m l v within

  each_put : (ms : List (List V)) → map tables_of (put_all ms (index l) v) ≡ machine.put_all (map tables_of ms) l v
  each_put [] = refl
  each_put (m ∷ ms) = ap₂ (λ (x : Tables) (xs : List Tables). x ∷ xs) (decodes m l v within) (each_put ms)

  below_all : (ms : List (List V)) → map tables_of (below (put_all ms (index l) v)) ≡ machine.put_all (map tables_of (below ms)) l v
  below_all [] = refl
  below_all (m ∷ ms) = each_put ms

-- MORE LOCATIONS, MORE AND FEWER MAPS

top_longer : (ms : List (List V)) → EachIsSuited ms → 0 < length ms → tables_of (top (each_longer ms undefined)) ≡ longer (tables_of (top ms))
top_longer [] suited some = absurd (omega arith)
top_longer (m ∷ ms) suited some = lengthens m suited.0.long

each_is_longer : (ms : List (List V)) → EachIsSuited ms → map tables_of (each_longer ms undefined) ≡ all_longer (map tables_of ms)
each_is_longer [] suited = refl
each_is_longer (m ∷ ms) suited = ap₂ (λ (x : Tables) (xs : List Tables). x ∷ xs) (lengthens m suited.0.long) (each_is_longer ms suited.1)

below_longer : (ms : List (List V)) → EachIsSuited ms → map tables_of (below (each_longer ms undefined)) ≡ all_longer (map tables_of (below ms))
below_longer [] suited = refl
below_longer (m ∷ ms) suited = each_is_longer ms suited.1

all_maps : (ms : List (List V)) → 0 < length ms → map tables_of ms ≡ tables_of (top ms) ∷ map tables_of (below ms)
all_maps [] some = absurd (omega arith)
all_maps (m ∷ ms) some = refl

top_below : (x : List V) (ms : List (List V)) → 1 < length ms → tables_of (top (below (set_top x ms))) ≡ uncovered (tables_of (top ms)) (map tables_of (below ms))
top_below x [] some = absurd (omega arith)
top_below x (m ∷ []) some = absurd (omega arith)
top_below x (m ∷ n ∷ ms) some = refl

below_below : (x : List V) (ms : List (List V)) → map tables_of (below (below (set_top x ms))) ≡ beneath (map tables_of (below ms))
below_below x [] = refl
below_below x (m ∷ []) = refl
below_below x (m ∷ n ∷ ms) = refl

no_entries : (gs : List (List (Saved V))) → below (set_top [] gs) ≡ below gs
no_entries [] = refl
no_entries (g ∷ gs) = refl

-- THE CALLS

module _ (s : Stack V) where
  pub sets_all : (l : Loc) (v : V) → IsInRow l → groups_of (gdefined s (index l) v) ≡ machine.set_global (groups_of s) l v
  sets_all l v within = λ i. record {
    now = top_all l v within s.maps i;
    outer = below_all l v within s.maps i;
    levels = set s.levels (index l) 0;
    entries = s.entries;
    tokens = s.tokens;
    kinds = s.kinds;
  }

  module _ (whole : IsWhole s) where
    some : 0 < length s.maps
    some = omega (arith, whole.maps)

    pub sets : (l : Loc) (v : V) → IsInRow l → index l < length s.levels → groups_of (defined s (index l) v) ≡ machine.set_local (groups_of s) l v
    sets l v within placed =
        let old : get_or (top s.maps) (index l) v ≡ get (tables_of (top s.maps)) l = sym (reads (top s.maps) l v (top_suited s.maps whole.suited some) within (omega (arith, whole.located, placed))) in
        λ i. record {
          now = top_put l v within s.maps i;
          outer = below_put l v within s.maps i;
          levels = set s.levels (index l) (length s.kinds);
          entries = cond (machine.is_present (groups_of s) l) s.entries (add_top (record { loc = index l; value = old i; level = level_at s.levels (index l) }) s.entries);
          tokens = s.tokens;
          kinds = s.kinds;
        }

    pub opens : (kind : GroupKind) → groups_of (opened s kind) ≡ machine.opened (groups_of s) kind
    opens kind = λ i. record {
      now = tables_of (top s.maps);
      outer = all_maps s.maps some i;
      levels = s.levels;
      entries = [] ∷ s.entries;
      tokens = [] ∷ s.tokens;
      kinds = s.kinds ++ kind ∷ [];
    }

    pub closes : 0 < length s.kinds → groups_of (closed (restored s)) ≡ machine.closed (groups_of s)
    closes some_kind = λ i. record {
      now = top_below (top (below s.maps)) s.maps (omega (arith, whole.maps, some_kind)) i;
      outer = below_below (top (below s.maps)) s.maps i;
      levels = undo_levels (top s.entries) s.levels;
      entries = no_entries s.entries i;
      tokens = below s.tokens;
      kinds = take (length s.kinds - 1) s.kinds;
    }

    pub enters : groups_of (extended s undefined) ≡ machine.entered (groups_of s)
    enters = λ i. record {
      now = top_longer s.maps whole.suited some i;
      outer = below_longer s.maps whole.suited i;
      levels = s.levels ++ 0 ∷ [];
      entries = s.entries;
      tokens = s.tokens;
      kinds = s.kinds;
    }
