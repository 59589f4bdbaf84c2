-- The outer maps: there is one for each open group, and each of their lists is held now.
use Rattle.std.proofs.Common.{◌≡◌, ℕ, ◌+◌, ◌-◌, ◌<◌, List, [], ◌∷◌, length, map, Bool, true, false, cond, inl, inr, refl, ap, arith}
use Rattle.std.specs.Prelude.{sum_by, ◌==◌, ◌||◌}
use Rattle.std.proofs.lemmas.Bool.{eq-eqb, eqb-true, cases_lt}
use Rattle.std.proofs.lemmas.List.{length-map}
use Rattle.std.proofs.lemmas.List.Sums.{sum_by-cons}
use Rattle.plain_tokens.specs.Meanings.{is_listed}
use Rattle.token_lists.specs.Accounts.{holds}
use Rattle.token_lists.specs.Holders.{times}
use Rattle.save_stack.specs.declared.Saved.{Saved}
use Rattle.save_stack.specs.Groups.{Stack, top, below}
use Rattle.save_stack.specs.Origins.{Each, EachMap, EachSaved, EachGroup, AreHeld}
use Rattle.save_stack.specs.Accounts.{saved_weight, groups_weight}
use Rattle.save_stack.specs.Mapped.{mapped}
use Rattle.equivalents.specs.Locations.{V}
use Rattle.equivalents.specs.Groups.{Groups}
use Rattle.equivalents.specs.Flat.{tables_of, groups_of, EachIsSuited}
use Rattle.equivalents.specs.Holding.{lists_of_table, lists_held, lists_outside}
use Rattle.equivalents.specs.Laws.{IsWhole}
use Rattle.eqtb_save.specs.Values.{numbered_value}
use Rattle.eqtb_save.specs.Holding.{val_holds}
use Rattle.eqtb_save.proofs.Held.{K, weight, held_is, map_holds, times_append}

length_below : (ms : List (List V)) → length (below ms) ≡ length ms - 1
length_below [] = refl
length_below (m ∷ ms) = omega arith

pub outer_count : (s : Stack V) → IsWhole s → length (groups_of s).outer ≡ length s.kinds
outer_count s whole = omega (arith, length-map (below s.maps) tables_of, length_below s.maps, whole.maps)

-- a number that stands among these, and how often it does

counted_if : (b l : Bool) (n : ℕ) → (b || l) ≡ true → (l ≡ true → 0 < n) → 0 < cond b 1 0 + n
counted_if true l n is rest = omega arith
counted_if false l n is rest = omega (arith, rest is)

listed_if : (b l : Bool) (n : ℕ) → 0 < cond b 1 0 + n → (0 < n → l ≡ true) → (b || l) ≡ true
listed_if true l n some rest = refl
listed_if false l n some rest = rest (omega (arith, some))

module _ (id : ℕ) where
  counted : (ns : List ℕ) → is_listed ns id ≡ true → 0 < times id ns
  counted [] is = absurd (cc)
  counted (n ∷ ns) is = omega (arith, counted_if (n == id) (is_listed ns id) (times id ns) is (counted ns), sum_by-cons (λ (k : ℕ). holds k id) n ns)

  listed : (ns : List ℕ) → 0 < times id ns → is_listed ns id ≡ true
  listed [] some = absurd (omega arith)
  listed (n ∷ ns) some = listed_if (n == id) (is_listed ns id) (times id ns) (omega (arith, some, sum_by-cons (λ (k : ℕ). holds k id) n ns)) (listed ns)

  -- the value doesn't hold the list
  abbrev free : K → Bool
  free v = weight id v == 0

  each_free : (m : List K) → sum_by (weight id) m ≡ 0 → Each free m
  each_free [] none = tt
  each_free (v ∷ m) none =
      let sum = sum_by-cons (weight id) v m in
      (eq-eqb (weight id v) 0 (omega (arith, sum, none)), each_free m (omega (arith, sum, none)))

  saved_free : (es : List (Saved K)) → saved_weight (weight id) es ≡ 0 → EachSaved free es
  saved_free [] none = tt
  saved_free (e ∷ es) none =
      let sum = sum_by-cons (λ (x : Saved K). weight id x.value) e es in
      (eq-eqb (weight id e.value) 0 (omega (arith, sum, none)), saved_free es (omega (arith, sum, none)))

  groups_free : (gs : List (List (Saved K))) → groups_weight (weight id) gs ≡ 0 → EachGroup free gs
  groups_free [] none = tt
  groups_free (g ∷ gs) none =
      let sum = sum_by-cons (λ (x : List (Saved K)). saved_weight (weight id) x) g gs in
      (saved_free g (omega (arith, sum, none)), groups_free gs (omega (arith, sum, none)))

  -- a map without the list
  map_free : (m : List K) → Each free m → sum_by (λ v. val_holds v id) (map numbered_value m) ≡ 0
  map_free [] all = refl
  map_free (v ∷ m) all = omega (arith, sum_by-cons (λ (x : V). val_holds x id) (numbered_value v) (map numbered_value m), eqb-true (weight id v) 0 all.0, map_free m all.1)

  maps_free : (ms : List (List K)) → EachMap free ms → EachIsSuited (map (λ m. map numbered_value m) ms) → times id (lists_outside (map tables_of (map (λ m. map numbered_value m) ms))) ≡ 0
  maps_free [] all suited = refl
  maps_free (m ∷ ms) all suited = omega (
    arith,
    times_append id (lists_of_table (tables_of (map numbered_value m))) (lists_outside (map tables_of (map (λ (x : List K). map numbered_value x) ms))),
    map_holds id (map numbered_value m) suited.0,
    map_free m all.0,
    maps_free ms all.1 suited.1,
  )

  below_free : (ms : List (List K)) → EachMap free ms → EachIsSuited (map (λ m. map numbered_value m) ms) → times id (lists_outside (map tables_of (below (map (λ m. map numbered_value m) ms)))) ≡ 0
  below_free [] all suited = refl
  below_free (m ∷ ms) all suited = maps_free ms all.1 suited.1

  pub outside_held : (s : Stack K) (g : Groups) → groups_of (mapped numbered_value s) ≡ g → IsWhole (mapped numbered_value s) → AreHeld s → is_listed (lists_outside g.outer) id ≡ true → is_listed (lists_held g) id ≡ true
  outside_held s g view whole origins is = elim (cases_lt 0 (times id (lists_held g))) [
    | inl some ↦ listed (lists_held g) some
    | inr none ↦
        let weigh = held_is s g view whole id in
        let all = origins free (each_free (top s.maps) (omega (arith, weigh, none))) (groups_free s.entries (omega (arith, weigh, none))) in
        let away : times id (lists_outside (groups_of (mapped numbered_value s)).outer) ≡ 0 = below_free s.maps all whole.suited in
        absurd (omega (arith, counted (lists_outside g.outer) is, away, ap (λ (x : Groups). times id (lists_outside x.outer)) view))
  ]
