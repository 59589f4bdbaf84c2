-- How often a list may be held.
use Rattle.std.proofs.Common.{◌≡◌, ℕ, ◌+◌, ◌≤◌, List, [], ◌∷◌, ◌++◌, length, map, drop, Bool, true, false, cond, Option, None, Some, ap, arith}
use Rattle.std.specs.Prelude.{◌==◌}
use Rattle.std.proofs.lemmas.List.{length-map, length-take}
use Rattle.std.proofs.lemmas.List.Sums.{sum_by-cons}
use Rattle.tex_defs.specs.declared.Meaning.{Meaning}
use Rattle.token_lists.specs.Holders.{times}
use Rattle.save_stack.specs.declared.Saved.{Saved}
use Rattle.save_stack.specs.Groups.{Stack, top, held as count_of}
use Rattle.equivalents.specs.Locations.{V, tokens_of}
use Rattle.equivalents.specs.Groups.{Groups, saves}
use Rattle.equivalents.specs.Flat.{row, groups_of}
use Rattle.equivalents.specs.Holding.{value_list, list_of, lists_of, lists_of_meanings, lists_of_saved, lists_of_entries, lists_of_table, lists_held}
use Rattle.meanings.specs.Holding.{list_holds}
use Rattle.eqtb_save.proofs.Held.{times_with, times_append}

once : (b : Bool) → cond b 1 0 ≤ 1
once true = omega arith
once false = omega arith

list_once : (o : Option ℕ) (h : ℕ) → list_holds o h ≤ 1
list_once None h = omega arith
list_once (Some id) h = once (id == h)

module _ (h : ℕ) where
  lists_bound : (xs : List (Option ℕ)) → times h (lists_of xs) ≤ length xs
  lists_bound [] = omega arith
  lists_bound (x ∷ xs) = omega (arith, times_with h x (lists_of xs), list_once x h, lists_bound xs)

  meanings_bound : (ms : List (Meaning (Option ℕ))) → times h (lists_of_meanings ms) ≤ length ms
  meanings_bound [] = omega arith
  meanings_bound (m ∷ ms) = omega (arith, times_with h (list_of m) (lists_of_meanings ms), list_once (list_of m) h, meanings_bound ms)

  saved_bound : (es : List (Saved V)) → times h (lists_of_saved es) ≤ length es
  saved_bound [] = omega arith
  saved_bound (e ∷ es) = omega (arith, times_with h (value_list e.value) (lists_of_saved es), list_once (value_list e.value) h, saved_bound es)

  entries_bound : (gs : List (List (Saved V))) → times h (lists_of_entries gs) ≤ count_of gs
  entries_bound [] = omega arith
  entries_bound (g ∷ gs) = omega (arith, times_append h (lists_of_saved g) (lists_of_entries gs), saved_bound g, entries_bound gs, sum_by-cons (λ (x : List (Saved V)). length x) g gs)

  held_bound : (g : Groups) → times h (lists_held g) ≤ length g.now.toks + length g.now.parameters + length g.now.meanings + count_of g.entries
  held_bound g = omega (
    arith,
    times_append h (lists_of_table g.now) (lists_of_entries g.entries),
    times_append h (lists_of g.now.toks) (lists_of g.now.parameters ++ lists_of_meanings g.now.meanings),
    times_append h (lists_of g.now.parameters) (lists_of_meanings g.now.meanings),
    lists_bound g.now.toks,
    lists_bound g.now.parameters,
    meanings_bound g.now.meanings,
    entries_bound g.entries,
  )

row_count : (a n : ℕ) (cells : List V) → length (map tokens_of (row a n cells)) ≤ n
row_count a n cells = omega (arith, length-map (row a n cells) tokens_of, length-take n (drop a cells))

-- no more than the locations with lists and the saved values
pub held_few : (s : Stack V) (g : Groups) (names save : ℕ) → groups_of s ≡ g → length g.now.meanings ≤ names → saves g ≤ save → (h : ℕ) → times h (lists_held g) ≤ 264 + (names + save)
held_few s g names save view few fits h = omega (
  arith,
  held_bound h g,
  few,
  fits,
  row_count 2654 256 (top s.maps),
  row_count 2910 8 (top s.maps),
  ap (λ (x : Groups). length x.now.toks) view,
  ap (λ (x : Groups). length x.now.parameters) view,
)
