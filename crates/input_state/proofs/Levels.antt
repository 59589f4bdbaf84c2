-- Levels as lists in front.
use Rattle.std.proofs.Common.{◌≡◌, ℕ, ◌+◌, ◌<◌, ◌≤◌, List, [], ◌∷◌, ◌++◌, map, length, Option, None, Some, inl, inr, refl, ap, ap₂, subst, arith}
use Rattle.std.specs.Prelude.{sum_by, Bool, true, false}
use Rattle.std.proofs.lemmas.Bool.{cases_eq, cases_lt}
use Rattle.std.proofs.lemmas.List.Sums.{sum_by-cons, sum_by-append}
use Rattle.tex_defs.specs.declared.Token.{Token}
use Rattle.plain_tokens.specs.Puts as plain
use Rattle.token_lists.specs.Accounts.{holds}
use Rattle.plain_tokens.specs.Puts.{list_of_tokens}
use Rattle.plain_tokens.specs.Tables.{put_words, whole_words, argument_words, list_words, lists_words}
use Rattle.token_lists.specs.Table.{Entry, tokens_at}
use Rattle.input_stack.specs.Puts.{Put, Item, Text, First, Later, Gap, argument_of, later_of, numbers, used_of, without_ended, unless_ended, put_top, put_in_front, without_gaps, pulled, pulled_top}
use Rattle.input_stack.specs.Pending.{Pending, Below, end_token_lists, put, listed_put, used_levels, times}
use Rattle.input_stack.proofs.Kept.{holds_itself}
use Rattle.input_state.specs.HeldLists.{Covered}
use Rattle.input_state.specs.HeldViews.{plain_item, whole_of, argument_text, front, fronts, own_of, owns, opens, cells_of, covers, puts_below, puts_in, IsOf, AreOf, IsFront, AreFronts}
use Rattle.input_state.proofs.Counting.{words_at, times_cons, times_append, holds_other}
use Rattle.input_state.proofs.Fronts.{front_levels}
use Rattle.input_state.proofs.Shares.{owns_append}
use Rattle.input_state.proofs.Sources.{all_fronts, fronts_in, levels_in, covers_length}

-- THE ARGUMENTS THAT ARE READ

pub texts_of : (cells : List (Option ℕ)) (ts : List Token) → AreOf cells (map Text ts)
texts_of cells [] = tt
texts_of cells (t ∷ ts) = (tt, texts_of cells ts)

pub listed_is : (shared : Bool) (n : ℕ) (ts : List Token) → IsFront (listed_put shared n ts)
listed_is shared n ts = record { reading = tt; items = texts_of [] ts }

later_is : (cells : List (Option ℕ)) (x : Item) → IsOf cells (argument_of x) → IsOf cells (later_of x)
later_is cells (Text t) is = tt
later_is cells (First n t) is = tt
later_is cells (Later n t) is = is
later_is cells Gap is = tt

settled_is : (p : Put) (xs : List Item) (below rest : List Put) → AreOf p.arguments xs → AreFronts below → AreFronts rest → AreFronts (unless_ended p xs below rest)
settled_is p [] below rest a b c = b
settled_is p (x ∷ xs) below rest a b c = (record { reading = later_is p.arguments x a.0; items = a }, c)

pub fronts_settle : (ps : List Put) → AreFronts ps → AreFronts (without_ended ps)
fronts_settle [] a = tt
fronts_settle (p ∷ ps) a = settled_is p p.items (without_ended ps) ps a.0.items (fronts_settle ps a.1) a.1

fronts_first : (ps qs : List Put) → AreFronts (ps ++ qs) → AreFronts ps
fronts_first [] qs a = tt
fronts_first (p ∷ ps) qs a = (a.0, fronts_first ps qs a.1)

fronts_rest : (ps qs : List Put) → AreFronts (ps ++ qs) → AreFronts qs
fronts_rest [] qs a = a
fronts_rest (p ∷ ps) qs a = fronts_rest ps qs a.1

fronts_both : (ps qs : List Put) → AreFronts ps → AreFronts qs → AreFronts (ps ++ qs)
fronts_both [] qs a b = b
fronts_both (p ∷ ps) qs a b = (a.0, fronts_both ps qs a.1 b)

-- the first of them changed
pub fronts_behind : (ps qs rs : List Put) → (AreFronts ps → AreFronts qs) → AreFronts (ps ++ rs) → AreFronts (qs ++ rs)
fronts_behind ps qs rs f a = fronts_both qs rs (f (fronts_first ps rs a)) (fronts_rest ps rs a)

pub simple_settled : (p : Pending) → AreFronts (puts_in p) → AreFronts (puts_in (end_token_lists p))
simple_settled p a = fronts_behind p.puts (without_ended p.puts) (puts_below p.sources) (fronts_settle p.puts) a

put_is : (p : Put) (xs : List Item) (ps : List Put) → IsFront p → AreFronts ps → AreFronts (put_top p xs ps)
put_is p [] ps a b = b
put_is p (x ∷ xs) ps a b = (a, fronts_settle ps b)

pub simple_put : (p : Put) (q : Pending) → IsFront p → AreFronts (puts_in q) → AreFronts (puts_in (put p q))
simple_put p q a b = fronts_behind q.puts (put_in_front p q.puts) (puts_below q.sources) (put_is p p.items q.puts a) b

without_is : (cells : List (Option ℕ)) (xs : List Item) → AreOf cells xs → AreOf cells (without_gaps xs)
without_is cells [] a = tt
without_is cells (Text t ∷ xs) a = a
without_is cells (First n t ∷ xs) a = a
without_is cells (Later n t ∷ xs) a = a
without_is cells (Gap ∷ xs) a = without_is cells xs a.1

pulled_is : (p : Put) (xs : List Item) (below rest : List Put) → AreOf p.arguments xs → AreFronts below → AreFronts rest → AreFronts (pulled_top p xs below rest)
pulled_is p [] below rest a b c = b
pulled_is p (x ∷ xs) below rest a b c = (record { reading = a.0; items = a.1 }, c)

pub fronts_pull : (ps : List Put) → AreFronts ps → AreFronts (pulled ps)
fronts_pull [] a = tt
fronts_pull (p ∷ ps) a = pulled_is p (without_gaps p.items) (pulled ps) ps (without_is p.arguments p.items a.0.items) (fronts_pull ps a.1) a.1

-- an open argument is one of a call in front

same_held : (n h : ℕ) → 0 < holds n h → n ≡ h
same_held n h some = elim (cases_eq n h) [ inl is ↦ is | inr other ↦ absurd (omega (arith, some, holds_other n h other)) ]

own_cells : (h : ℕ) (b : Bool) (n : ℕ) (ns : List ℕ) → times h ns ≤ times h (own_of b n ns)
own_cells h true n ns = omega arith
own_cells h false n ns = omega (arith, times_cons h n ns)

open_own : (cells : List (Option ℕ)) (o : Option ℕ) (h : ℕ) → IsOf cells o → 0 < times h (numbers (o ∷ [])) → 0 < times h (numbers cells)
open_own cells None h is some = absurd (omega (arith, some))
open_own cells (Some n) h is some = subst (λ (k : ℕ). 0 < times k (numbers cells)) (same_held n h (omega (arith, some, times_cons h n []))) is

pub opens_own : (ps : List Put) → AreFronts ps → (h : ℕ) → 0 < times h (opens ps) → 0 < times h (owns ps)
opens_own [] a h some = some
opens_own (p ∷ ps) a h some = elim (cases_lt 0 (times h (numbers (p.reading ∷ [])))) [
  | inl here ↦ omega (arith, open_own p.arguments p.reading h a.0.reading here, own_cells h p.body p.list (numbers p.arguments), times_append h (own_of p.body p.list (numbers p.arguments)) (owns ps))
  | inr none ↦ omega (arith, opens_own ps a.1 h (omega (arith, some, none, times_append h (numbers (p.reading ∷ [])) (opens ps))), times_append h (own_of p.body p.list (numbers p.arguments)) (owns ps))
]

pub no_opens : (ps : List Put) → AreFronts ps → (h : ℕ) → times h (owns ps) ≡ 0 → times h (opens ps) ≡ 0
no_opens ps a h none = elim (cases_lt 0 (times h (opens ps))) [
  | inl some ↦ absurd (omega (arith, opens_own ps a h some, none))
  | inr free ↦ omega (arith, free)
]

pub cells_owned : (ps : List Put) (h : ℕ) → times h (cells_of ps) ≤ times h (owns ps)
cells_owned [] h = omega arith
cells_owned (p ∷ ps) h =
    omega (arith, cells_owned ps h, own_cells h p.body p.list (numbers p.arguments), times_append h (numbers p.arguments) (cells_of ps), times_append h (own_of p.body p.list (numbers p.arguments)) (owns ps))

-- WORDS

some_tokens : (ts : List Token) → 0 < length ts → lists_words (list_of_tokens ts) ≡ list_words ts
some_tokens [] some = absurd (omega (arith, some))
some_tokens (t ∷ ts) some = omega (arith, sum_by-cons list_words (t ∷ ts) [])

cell_words : (table : List (Option Entry)) (cells : List (Option ℕ)) → ((h : ℕ) → 0 < times h (numbers cells) → 0 < length (tokens_at table h)) → sum_by (words_at table) (numbers cells) ≡ argument_words (map (argument_text table) cells)
cell_words table [] listed = refl
cell_words table (None ∷ cells) listed = omega (arith, cell_words table cells listed, sum_by-cons (λ (a : List Token). lists_words (list_of_tokens a)) [] (map (argument_text table) cells))
cell_words table (Some n ∷ cells) listed =
    let more = cell_words table cells (λ h some. listed h (omega (arith, some, times_cons h n (numbers cells)))) in
    let here = some_tokens (tokens_at table n) (listed n (omega (arith, times_cons n n (numbers cells), holds_itself n))) in
    omega (arith, more, here, sum_by-cons (words_at table) n (numbers cells), sum_by-cons (λ (a : List Token). lists_words (list_of_tokens a)) (tokens_at table n) (map (argument_text table) cells))

own_words : (table : List (Option Entry)) (b : Bool) (n : ℕ) (ns : List ℕ) → sum_by (words_at table) (own_of b n ns) ≡ whole_words (whole_of b n (tokens_at table n)) + sum_by (words_at table) ns
own_words table true n ns = omega arith
own_words table false n ns = sum_by-cons (words_at table) n ns

pub front_words : (table : List (Option Entry)) (ps : List Put) → ((h : ℕ) → 0 < times h (cells_of ps) → 0 < length (tokens_at table h)) → sum_by (words_at table) (owns ps) ≡ put_words (fronts table ps)
front_words table [] listed = refl
front_words table (p ∷ ps) listed =
    let here = cell_words table p.arguments (λ h some. listed h (omega (arith, some, times_append h (numbers p.arguments) (cells_of ps)))) in
    let more = front_words table ps (λ h some. listed h (omega (arith, some, times_append h (numbers p.arguments) (cells_of ps)))) in
    omega (arith, here, more, own_words table p.body p.list (numbers p.arguments), sum_by-append (words_at table) (own_of p.body p.list (numbers p.arguments)) (owns ps), sum_by-cons (λ (x : plain.Put). whole_words x.list + argument_words x.arguments) (front table p) (fronts table ps))

-- LEVELS

pub levels_used : (table : List (Option Entry)) (q : Pending) → used_levels q ≡ plain.put_levels (all_fronts table q) + length (covers table q.sources)
levels_used table q = omega (arith, levels_in (λ (p : Put). used_of p.items) q, front_levels table (puts_in q), ap plain.put_levels (fronts_in table q), covers_length table q.sources)

-- LISTS THAT STAY

cells_stay : (old new : List (Option Entry)) (cells : List (Option ℕ)) → ((h : ℕ) → 0 < times h (numbers cells) → tokens_at new h ≡ tokens_at old h) → map (argument_text new) cells ≡ map (argument_text old) cells
cells_stay old new [] same = refl
cells_stay old new (None ∷ cells) same = ap (λ (ts : List (List Token)). [] ∷ ts) (cells_stay old new cells same)
cells_stay old new (Some n ∷ cells) same =
    let more = cells_stay old new cells (λ h some. same h (omega (arith, some, times_cons h n (numbers cells)))) in
    ap₂ (λ (t : List Token) (ts : List (List Token)). t ∷ ts) (same n (omega (arith, times_cons n n (numbers cells), holds_itself n))) more

whole_stays : (old new : List (Option Entry)) (b : Bool) (n : ℕ) (ns : List ℕ) → ((h : ℕ) → 0 < times h (own_of b n ns) → tokens_at new h ≡ tokens_at old h) → whole_of b n (tokens_at new n) ≡ whole_of b n (tokens_at old n)
whole_stays old new true n ns same = refl
whole_stays old new false n ns same = ap plain.Own (same n (omega (arith, times_cons n n ns, holds_itself n)))

inner_cells : (h : ℕ) (b : Bool) (n : ℕ) (ns : List ℕ) → times h ns ≤ times h (own_of b n ns)
inner_cells h true n ns = omega arith
inner_cells h false n ns = omega (arith, times_cons h n ns)

-- a macro's body is seen by its number
pub fronts_stay : (old new : List (Option Entry)) (ps : List Put) → ((h : ℕ) → 0 < times h (owns ps) → tokens_at new h ≡ tokens_at old h) → fronts new ps ≡ fronts old ps
fronts_stay old new [] same = refl
fronts_stay old new (p ∷ ps) same =
    let ns = numbers p.arguments in
    let here : (h : ℕ) → 0 < times h (own_of p.body p.list ns) → tokens_at new h ≡ tokens_at old h = λ h some. same h (omega (arith, some, times_append h (own_of p.body p.list ns) (owns ps))) in
    let more = fronts_stay old new ps (λ h some. same h (omega (arith, some, times_append h (own_of p.body p.list ns) (owns ps)))) in
    let first : front new p ≡ front old p =
    ap₂ (λ (w : plain.Whole) (ts : List (List Token)). record { list = w; arguments = ts; items = map plain_item p.items }) (whole_stays old new p.body p.list ns here) (cells_stay old new p.arguments (λ h some. here h (omega (arith, some, inner_cells h p.body p.list ns)))) in
    ap₂ (λ (x : plain.Put) (xs : List plain.Put). x ∷ xs) first more

-- so are those beneath
below_stay : (old new : List (Option Entry)) (bs : List Below) → ((h : ℕ) → 0 < times h (owns (puts_below bs)) → tokens_at new h ≡ tokens_at old h) → covers new bs ≡ covers old bs
below_stay old new [] same = refl
below_stay old new (b ∷ bs) same =
    let here = fronts_stay old new b.puts (λ h some. same h (omega (arith, some, owns_append h b.puts (puts_below bs)))) in
    let more = below_stay old new bs (λ h some. same h (omega (arith, some, owns_append h b.puts (puts_below bs)))) in
    ap₂ (λ (ps : List plain.Put) (cs : List Covered). record { line = b.source.line; puts = ps } ∷ cs) here more

pub all_stay : (old new : List (Option Entry)) (p : Pending) → ((h : ℕ) → 0 < times h (owns (puts_in p)) → tokens_at new h ≡ tokens_at old h) → (fronts new p.puts ≡ fronts old p.puts) × (covers new p.sources ≡ covers old p.sources)
all_stay old new p same = (
  fronts_stay old new p.puts (λ h some. same h (omega (arith, some, owns_append h p.puts (puts_below p.sources)))),
  below_stay old new p.sources (λ h some. same h (omega (arith, some, owns_append h p.puts (puts_below p.sources)))),
)
