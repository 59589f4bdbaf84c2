-- After each call all maps have all locations, and each value suits its location.
use Rattle.std.proofs.Common.{◌≡◌, ℕ, suc, ◌+◌, ◌-◌, ◌<◌, ◌≤◌, List, [], ◌∷◌, ◌++◌, length, set, get_or, refl, sym, ap, subst, ◌∙◌, inl, inr, arith}
use Rattle.std.proofs.lemmas.Bool.{cases_eq, cases_lt}
use Rattle.std.proofs.lemmas.List.{get_or-set_same, get_or-set_other, get_or_append_left, get_or-append_right, length-set, length-append, length-take-le}
use Rattle.tex_defs.specs.declared.Meaning.TheVariants as means
use Rattle.tex_defs.specs.declared.Token.{Token}
use Rattle.save_stack.specs.declared.GroupKind.{GroupKind}
use Rattle.save_stack.specs.Groups.{Stack, top, below, put_top, put_all, set_top, each_longer, defined, gdefined, opened, with_token, extended, restored}
use Rattle.save_stack.specs.Closing.{closed}
use Rattle.save_stack.proofs.Undo.{length_undone_levels}
use Rattle.equivalents.specs.declared.values.Loc.{Loc}
use Rattle.equivalents.specs.declared.values.Val.TheVariants as val
use Rattle.equivalents.specs.Locations.{V, IsInRow, index, Suits, zero_value}
use Rattle.equivalents.specs.Flat.{AreSuited, EachIsSuited, EachHas}
use Rattle.equivalents.specs.Laws.{IsWhole}
use Rattle.equivalents.proofs.Sorts.{Sort, meaning, sort_of, sort_at, IsOf, same_sort, suits_sort}

-- ONE MAP

suits_alike : (l m : Loc) (v : V) → IsInRow l → IsInRow m → index m ≡ index l → Suits l v → Suits m v
suits_alike l m v within within' same suits =
    let sorts : sort_of l ≡ sort_of m = same_sort l within ∙ ap (λ (k : ℕ). sort_at k) (sym same) ∙ sym (same_sort m within') in
    subst (λ (A : Type 0). A) (suits_sort l v ∙ ap (λ (s : Sort). IsOf s v) sorts ∙ sym (suits_sort m v)) suits

abbrev pub undefined : V
undefined = val.Meant means.Undefined

only_names : (k : ℕ) → 2918 ≤ k → sort_at k ≡ meaning
only_names k far = grind arith

module _ (cells : List V) (suited : AreSuited cells) where
  set_suited : (l : Loc) (v : V) → IsInRow l → Suits l v → AreSuited (set cells (index l) v)
  set_suited l v within suits = record {
    suits = λ m within' placed. elim (cases_eq (index m) (index l)) [
      | inl same ↦
          let new : get_or (set cells (index l) v) (index m) zero_value ≡ v = ap (λ (k : ℕ). get_or (set cells (index l) v) k zero_value) same ∙ get_or-set_same cells (index l) v zero_value (omega (arith, placed, same, length-set cells (index l) v)) in
          subst (λ (x : V). Suits m x) (sym new) (suits_alike l m v within within' same suits)
      | inr other ↦ subst (λ (x : V). Suits m x) (sym (get_or-set_other cells (index l) (index m) v zero_value other)) (suited.suits m within' (omega (arith, placed, length-set cells (index l) v)))
    ];
    long = omega (arith, suited.long, length-set cells (index l) v);
  }

  longer_suited : AreSuited (cells ++ undefined ∷ [])
  longer_suited = record {
    suits = λ m within placed. elim (cases_lt (index m) (length cells)) [
      | inl old ↦ subst (λ (x : V). Suits m x) (sym (get_or_append_left cells (undefined ∷ []) zero_value (index m) old)) (suited.suits m within old)
      | inr new ↦
          let none : index m - length cells ≡ 0 = omega (arith, placed, new, length-append cells (undefined ∷ [])) in
          let here : get_or (cells ++ undefined ∷ []) (index m) zero_value ≡ undefined =
          get_or-append_right cells (undefined ∷ []) (length cells) (index m) zero_value refl new ∙ ap (λ (k : ℕ). get_or (undefined ∷ []) k zero_value) none in
          let sort : sort_of m ≡ meaning = same_sort m within ∙ only_names (index m) (omega (arith, suited.long, new)) in
          subst (λ (x : V). Suits m x) (sym here) (subst (λ (A : Type 0). A) (sym (suits_sort m undefined ∙ ap (λ (s : Sort). IsOf s undefined) sort)) tt)
    ];
    long = omega (arith, suited.long, length-append cells (undefined ∷ []));
  }

-- ALL MAPS

module _ (l : Loc) (v : V) (within : IsInRow l) (suits : Suits l v) where
  each_put_suited : (ms : List (List V)) → EachIsSuited ms → EachIsSuited (put_all ms (index l) v)
  each_put_suited [] suited = tt
  each_put_suited (m ∷ ms) suited = (set_suited m suited.0 l v within suits, each_put_suited ms suited.1)

  top_put_suited : (ms : List (List V)) → EachIsSuited ms → EachIsSuited (put_top ms (index l) v)
  top_put_suited [] suited = tt
  top_put_suited (m ∷ ms) suited = (set_suited m suited.0 l v within suits, suited.1)

module _ (k n : ℕ) (v : V) where
  put_all_has : (ms : List (List V)) → EachHas n ms → EachHas n (put_all ms k v)
  put_all_has [] has = tt
  put_all_has (m ∷ ms) has = (length-set m k v ∙ has.0, put_all_has ms has.1)

  put_top_has : (ms : List (List V)) → EachHas n ms → EachHas n (put_top ms k v)
  put_top_has [] has = tt
  put_top_has (m ∷ ms) has = (length-set m k v ∙ has.0, has.1)

put_all_count : (ms : List (List V)) (k : ℕ) (v : V) → length (put_all ms k v) ≡ length ms
put_all_count [] k v = refl
put_all_count (m ∷ ms) k v = ap suc (put_all_count ms k v)

put_top_count : (ms : List (List V)) (k : ℕ) (v : V) → length (put_top ms k v) ≡ length ms
put_top_count [] k v = refl
put_top_count (m ∷ ms) k v = refl

top_has : (n : ℕ) (ms : List (List V)) → 0 < length ms → EachHas n ms → length (top ms) ≡ n
top_has n [] some has = absurd (omega arith)
top_has n (m ∷ ms) some has = has.0

each_longer_suited : (ms : List (List V)) → EachIsSuited ms → EachIsSuited (each_longer ms undefined)
each_longer_suited [] suited = tt
each_longer_suited (m ∷ ms) suited = (longer_suited m suited.0, each_longer_suited ms suited.1)

each_longer_has : (n : ℕ) (ms : List (List V)) → EachHas n ms → EachHas (n + 1) (each_longer ms undefined)
each_longer_has n [] has = tt
each_longer_has n (m ∷ ms) has = (omega (arith, has.0, length-append m (undefined ∷ [])), each_longer_has n ms has.1)

each_longer_count : (ms : List (List V)) → length (each_longer ms undefined) ≡ length ms
each_longer_count [] = refl
each_longer_count (m ∷ ms) = ap suc (each_longer_count ms)

pub top_suited : (ms : List (List V)) → EachIsSuited ms → 0 < length ms → AreSuited (top ms)
top_suited [] suited some = absurd (omega arith)
top_suited (m ∷ ms) suited some = suited.0

below_suited : (x : List V) (ms : List (List V)) → EachIsSuited ms → EachIsSuited (below (set_top x ms))
below_suited x [] suited = tt
below_suited x (m ∷ ms) suited = suited.1

below_has : (n : ℕ) (x : List V) (ms : List (List V)) → EachHas n ms → EachHas n (below (set_top x ms))
below_has n x [] has = tt
below_has n x (m ∷ ms) has = has.1

below_count : (x : List V) (ms : List (List V)) → length (below (set_top x ms)) ≡ length ms - 1
below_count x [] = refl
below_count x (m ∷ ms) = omega arith

-- THE CALLS

-- groups with these maps
whole_with : (s : Stack V) → EachIsSuited s.maps → length s.maps ≡ 1 + length s.kinds → EachHas (length s.levels) s.maps → IsWhole s
whole_with s suited counted has = record { suited = suited; maps = counted; located = top_has (length s.levels) s.maps (omega (arith, counted)) has; alike = has }

module _ (s : Stack V) (whole : IsWhole s) where
  pub sets : (l : Loc) (v : V) → IsInRow l → Suits l v → IsWhole (defined s (index l) v)
  sets l v within suits = whole_with (defined s (index l) v) (top_put_suited l v within suits s.maps whole.suited) (put_top_count s.maps (index l) v ∙ whole.maps)
      (subst (λ (n : ℕ). EachHas n (put_top s.maps (index l) v)) (sym (length-set s.levels (index l) (length s.kinds))) (put_top_has (index l) (length s.levels) v s.maps whole.alike))

  pub sets_all : (l : Loc) (v : V) → IsInRow l → Suits l v → IsWhole (gdefined s (index l) v)
  sets_all l v within suits = whole_with (gdefined s (index l) v) (each_put_suited l v within suits s.maps whole.suited) (put_all_count s.maps (index l) v ∙ whole.maps)
      (subst (λ (n : ℕ). EachHas n (put_all s.maps (index l) v)) (sym (length-set s.levels (index l) 0)) (put_all_has (index l) (length s.levels) v s.maps whole.alike))

  pub opens : (kind : GroupKind) → IsWhole (opened s kind)
  opens kind = whole_with (opened s kind) (top_suited s.maps whole.suited (omega (arith, whole.maps)), whole.suited) (omega (arith, whole.maps, length-append s.kinds (kind ∷ []))) (whole.located, whole.alike)

  pub keeps : (t : Token) → IsWhole (with_token s t)
  keeps t = whole_with (with_token s t) whole.suited whole.maps whole.alike

  pub closes : 0 < length s.kinds → IsWhole (closed (restored s))
  closes some_kind =
      let m = top (below s.maps) in
      whole_with (closed (restored s)) (below_suited m s.maps whole.suited) (omega (arith, below_count m s.maps, whole.maps, some_kind, length-take-le (length s.kinds - 1) s.kinds (omega arith)))
      (subst (λ (n : ℕ). EachHas n (below (set_top m s.maps))) (sym (length_undone_levels (top s.entries) s.levels)) (below_has (length s.levels) m s.maps whole.alike))

  pub enters : IsWhole (extended s undefined)
  enters = whole_with (extended s undefined) (each_longer_suited s.maps whole.suited) (each_longer_count s.maps ∙ whole.maps)
      (subst (λ (n : ℕ). EachHas n (each_longer s.maps undefined)) (sym (length-append s.levels (0 ∷ []))) (each_longer_has (length s.levels) s.maps whole.alike))
