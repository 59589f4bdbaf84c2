-- The lists in front of all lines, as one list.
use Rattle.std.proofs.Common.{◌≡◌, ℕ, ◌+◌, List, [], ◌∷◌, ◌++◌, length, Option, refl, ap, ◌∙◌, arith}
use Rattle.std.specs.Prelude.{sum_by}
use Rattle.std.proofs.lemmas.List.{map-append}
use Rattle.std.proofs.lemmas.List.Sums.{sum_by-cons, sum_by-append}
use Rattle.plain_tokens.specs.Puts as plain
use Rattle.token_lists.specs.Table.{Entry}
use Rattle.input_stack.specs.Puts.{Put}
use Rattle.input_stack.specs.Pending.{Pending, Below, times, lists_in, lists_below}
use Rattle.input_stack.specs.Puts.{lists_of}
use Rattle.input_state.specs.HeldLists.{covered_puts}
use Rattle.input_state.specs.HeldViews.{front, fronts, covers, puts_below, puts_in}
use Rattle.input_state.proofs.Counting.{times_append}

-- as they are shown
abbrev pub all_fronts : List (Option Entry) → Pending → List plain.Put
all_fronts table p = fronts table p.puts ++ covered_puts (covers table p.sources)

below_shown : (table : List (Option Entry)) (bs : List Below) → fronts table (puts_below bs) ≡ covered_puts (covers table bs)
below_shown table [] = refl
below_shown table (b ∷ bs) = map-append (front table) b.puts (puts_below bs) ∙ ap (λ (ps : List plain.Put). fronts table b.puts ++ ps) (below_shown table bs)

pub fronts_in : (table : List (Option Entry)) (p : Pending) → fronts table (puts_in p) ≡ all_fronts table p
fronts_in table p = map-append (front table) p.puts (puts_below p.sources) ∙ ap (λ (ps : List plain.Put). fronts table p.puts ++ ps) (below_shown table p.sources)

-- HELD

lists_append : (h : ℕ) (ps qs : List Put) → times h (lists_in (ps ++ qs)) ≡ times h (lists_in ps) + times h (lists_in qs)
lists_append h [] qs = omega arith
lists_append h (p ∷ ps) qs = omega (arith, lists_append h ps qs, times_append h (lists_of p) (lists_in (ps ++ qs)), times_append h (lists_of p) (lists_in ps))

below_lists : (h : ℕ) (bs : List Below) → times h (lists_below bs) ≡ times h (lists_in (puts_below bs))
below_lists h [] = refl
below_lists h (b ∷ bs) = omega (arith, below_lists h bs, times_append h (lists_in b.puts) (lists_below bs), lists_append h b.puts (puts_below bs))

pub held_in_all : (h : ℕ) (p : Pending) → times h (lists_in p.puts ++ lists_below p.sources) ≡ times h (lists_in (puts_in p))
held_in_all h p = omega (arith, times_append h (lists_in p.puts) (lists_below p.sources), below_lists h p.sources, lists_append h p.puts (puts_below p.sources))

-- SUMS

sum_below : (f : Put → ℕ) (bs : List Below) → sum_by (λ (b : Below). sum_by f b.puts) bs ≡ sum_by f (puts_below bs)
sum_below f [] = refl
sum_below f (b ∷ bs) = omega (arith, sum_below f bs, sum_by-cons (λ (x : Below). sum_by f x.puts) b bs, sum_by-append f b.puts (puts_below bs))

pub sum_in : (f : Put → ℕ) (p : Pending) → sum_by f p.puts + sum_by (λ (b : Below). sum_by f b.puts) p.sources ≡ sum_by f (puts_in p)
sum_in f p = omega (arith, sum_below f p.sources, sum_by-append f p.puts (puts_below p.sources))

-- a level more for each file
one_more : (f : Put → ℕ) (bs : List Below) → sum_by (λ (b : Below). 1 + sum_by f b.puts) bs ≡ sum_by (λ (b : Below). sum_by f b.puts) bs + length bs
one_more f [] = refl
one_more f (b ∷ bs) = omega (arith, one_more f bs, sum_by-cons (λ (x : Below). 1 + sum_by f x.puts) b bs, sum_by-cons (λ (x : Below). sum_by f x.puts) b bs)

pub levels_in : (f : Put → ℕ) (p : Pending) → sum_by f p.puts + sum_by (λ (b : Below). 1 + sum_by f b.puts) p.sources ≡ sum_by f (puts_in p) + length p.sources
levels_in f p = omega (arith, sum_in f p, one_more f p.sources)

pub covers_length : (table : List (Option Entry)) (bs : List Below) → length (covers table bs) ≡ length bs
covers_length table [] = refl
covers_length table (b ∷ bs) = omega (arith, covers_length table bs)
