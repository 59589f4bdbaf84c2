-- Where locations stand among all values.
use Rattle.std.proofs.Common.{◌≡◌, ℕ, ◌+◌, ◌<◌, ◌≤◌, List, [], ◌∷◌, length, set, map, drop, get_or, refl, sym, ap, ◌∙◌, arith}
use Rattle.std.specs.Prelude.{pos}
use Rattle.std.proofs.lemmas.List.{length-map, length-drop}
use Rattle.tex_defs.specs.declared.RegisterKind.TheVariants as register
use Rattle.token_lists.specs.Holders.{times}
use Rattle.save_stack.specs.Groups.{Stack, top, IsAt}
use Rattle.save_stack.specs.Mapped.{mapped}
use Rattle.save_stack.proofs.Mapped.{get_as}
use Rattle.equivalents.specs.declared.values.CodeKind.TheVariants as code
use Rattle.equivalents.specs.declared.values.Loc.{Loc}
use Rattle.equivalents.specs.declared.values.Loc.TheVariants as loc
use Rattle.equivalents.specs.declared.values.Val.TheVariants as val
use Rattle.equivalents.specs.Locations.{V, IsInRow, index, category_of, meaning_of, zero_value}
use Rattle.equivalents.specs.Tables.{get}
use Rattle.equivalents.specs.Groups.{Groups, IsLocation}
use Rattle.equivalents.specs.Flat.{groups_of}
use Rattle.equivalents.specs.Holding.{lists_held}
use Rattle.equivalents.specs.Laws.{IsWhole}
use Rattle.equivalents.proofs.Whole.{top_suited}
use Rattle.equivalents.proofs.Reading.{reads}
use Rattle.eqtb_save.specs.Values.{numbered_value}
use Rattle.eqtb_save.specs.Table.{mirrored}
use Rattle.eqtb_save.proofs.Codes.{noted_in}
use Rattle.eqtb_save.proofs.Held.{K, weight, at_held}

pub in_row : (g : Groups) (l : Loc) → IsLocation g l → IsInRow l
in_row g (loc.Code kind c) is = is
in_row g (loc.Integer i) is = is
in_row g (loc.Dimension i) is = is
in_row g (loc.Glue i) is = is
in_row g (loc.Register kind n) is = is
in_row g (loc.Tokens i) is = is
in_row g (loc.Means n) is = tt

below : (g : Groups) (count : ℕ) → length g.now.meanings + 2918 ≡ count → (l : Loc) → IsLocation g l → index l < count
below g count long (loc.Code code.Category c) is = omega arith
below g count long (loc.Code code.Lowercase c) is = omega arith
below g count long (loc.Code code.Uppercase c) is = omega arith
below g count long (loc.Code code.SpaceFactor c) is = omega arith
below g count long (loc.Code code.Math c) is = omega arith
below g count long (loc.Code code.Delimiter c) is = omega arith
below g count long (loc.Integer i) is = omega arith
below g count long (loc.Dimension i) is = omega arith
below g count long (loc.Glue i) is = omega arith
below g count long (loc.Register register.Count n) is = omega arith
below g count long (loc.Register register.Dimen n) is = omega arith
below g count long (loc.Register register.Skip n) is = omega arith
below g count long (loc.Register register.Muskip n) is = omega arith
below g count long (loc.Register register.Toks n) is = omega arith
below g count long (loc.Tokens i) is = omega arith
below g count long (loc.Means n) is = omega arith

-- the names stand last
pub names_last : (s : Stack V) → IsWhole s → length (groups_of s).now.meanings + 2918 ≡ length s.levels
names_last s whole =
    let suited = top_suited s.maps whole.suited (omega (arith, whole.maps)) in
    omega (arith, suited.long, whole.located, length-map (drop 2918 (top s.maps)) meaning_of, length-drop 2918 (top s.maps))

pub placed : (s : Stack V) (g : Groups) → groups_of s ≡ g → IsWhole s → (l : Loc) → IsLocation g l → index l < length s.levels
placed s g view whole l is = below g (length s.levels) (ap (λ (x : Groups). length x.now.meanings + 2918) (sym view) ∙ names_last s whole) l is

-- THE VALUES AS THEY ARE KEPT

pub top_mapped : (s : Stack K) → top (mapped numbered_value s).maps ≡ map numbered_value (top s.maps)
top_mapped s = of s.maps
  where
    of : (ms : List (List K)) → top (map (λ m. map numbered_value m) ms) ≡ map numbered_value (top ms)
    of [] = refl
    of (m ∷ ms) = refl

pub top_count : (s : Stack K) → IsWhole (mapped numbered_value s) → length (top s.maps) ≡ length s.levels
top_count s whole = sym (length-map (top s.maps) numbered_value) ∙ ap (λ (m : List V). length m) (sym (top_mapped s)) ∙ whole.located

-- what was read is what stands at the location
pub read : (s : Stack K) (g : Groups) → groups_of (mapped numbered_value s) ≡ g → IsWhole (mapped numbered_value s) → (l : Loc) (v : K) → IsLocation g l → IsAt (top s.maps) (index l) v → numbered_value v ≡ get g.now l
read s g view whole l v is at =
    let cells = top (mapped numbered_value s).maps in
    ap numbered_value (at v) ∙ sym (get_as numbered_value (top s.maps) (index l) v) ∙ ap (λ (m : List V). get_or m (index l) (numbered_value v)) (sym (top_mapped s))
    ∙ sym (reads cells l (numbered_value v) (top_suited (mapped numbered_value s).maps whole.suited (omega (arith, whole.maps))) (in_row g l is) (omega (arith, whole.located, placed (mapped numbered_value s) g view whole l is)))
    ∙ ap (λ (x : Groups). get x.now l) view

pub read_held : (s : Stack K) (g : Groups) → groups_of (mapped numbered_value s) ≡ g → IsWhole (mapped numbered_value s) → (l : Loc) (v : K) → IsLocation g l → IsAt (top s.maps) (index l) v → (h : ℕ) → weight h v ≤ times h (lists_held g)
read_held s g view whole l v is at h = at_held s g (index l) v view whole (omega (arith, top_count s whole, placed (mapped numbered_value s) g view whole l is)) at h

zero_kept : K
zero_kept = val.Number (pos 0)

-- what is mirrored is the category code of what was read
pub noted_get : (cs : List ℕ) (s : Stack K) (k : ℕ) (v : K) → k < 256 → IsAt (top s.maps) k v → set cs k (category_of (numbered_value v)) ≡ mirrored cs (top (mapped numbered_value s).maps) k
unfolding zero_kept
noted_get cs s k v within at =
    ap (λ (x : V). set cs k (category_of x)) (ap numbered_value (at zero_kept) ∙ sym (get_as numbered_value (top s.maps) k zero_kept) ∙ ap (λ (m : List V). get_or m k zero_value) (sym (top_mapped s)))
    ∙ sym (noted_in cs (top (mapped numbered_value s).maps) k within)
