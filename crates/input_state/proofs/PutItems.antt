-- What a call with arguments puts.
use Rattle.std.proofs.Common.{zero, suc, ◌≡◌, ℕ, ◌-◌, ◌<◌, ◌≤◌, List, [], ◌∷◌, ◌++◌, map, take, length, Option, None, Some, refl, sym, ap, ap₂, ◌∙◌, subst, arith}
use Rattle.std.specs.Prelude.{slice_get, option_map}
use Rattle.std.proofs.lemmas.Option.{none-some, same_Some}
use Rattle.std.proofs.lemmas.List.Sums.{sum_by-cons}
use Rattle.tex_defs.specs.declared.Token.{Token}
use Rattle.tex_defs.specs.declared.Token.TheVariants as token
use Rattle.tex_defs.specs.declared.Meaning.{Meaning}
use Rattle.tex_defs.specs.declared.Meaning.TheVariants as means
use Rattle.plain_tokens.specs.Puts as plain
use Rattle.token_lists.specs.declared.ListRef.{ListRef}
use Rattle.token_lists.specs.Ids.{id_of}
use Rattle.token_lists.specs.Table.{Entry, tokens_at}
use Rattle.token_lists.specs.Accounts.{cell_holds, cells_hold}
use Rattle.macro_args.specs.declared.args.Args.{Args}
use Rattle.macro_args.specs.Args.{args_in, args_hold, cell_tokens, IsFilled}
use Rattle.equivalents.specs.Holding.{list_of}
use Rattle.input_stack.specs.Puts.{Put, Item, Later, numbers, put_in_front, put_top}
use Rattle.input_stack.specs.Calls.{Argument, call_put, substituted, body_of, spread, argument_items, placed_argument, token_items, argument_list, tokens_of}
use Rattle.input_stack.specs.CallViews.{argument_in, arguments_in}
use Rattle.input_stack.specs.Pending.{times}
use Rattle.input_stack.proofs.CallKept.{filled_holds}
use Rattle.input_stack.proofs.Kept.{holds_itself}
use Rattle.input_state.specs.Macros.{list_at}
use Rattle.input_state.specs.Calls.{macro_put, called, called_top}
use Rattle.input_state.specs.HeldViews.{plain_item, argument_text, front, fronts, IsOf, AreOf, IsFront}
use Rattle.input_state.proofs.Counting.{times_cons}
use Rattle.input_state.proofs.Calling.{same_body}
use Rattle.input_state.proofs.Fronts.{fronts_settled}

-- THE ARGUMENTS' LISTS

cells_numbers : (table : List (Option Entry)) (cells : List (Option ListRef)) (h : ℕ) → times h (numbers (map argument_list (map (argument_in table) cells))) ≡ cells_hold cells h
cells_numbers table [] h = refl
cells_numbers table (None ∷ cells) h = omega (arith, cells_numbers table cells h, sum_by-cons (λ (c : Option ListRef). cell_holds c h) None cells)
cells_numbers table (Some r ∷ cells) h = omega (arith, cells_numbers table cells h, times_cons h (id_of r) (numbers (map argument_list (map (argument_in table) cells))), sum_by-cons (λ (c : Option ListRef). cell_holds c h) (Some r) cells)

pub args_numbers : (table : List (Option Entry)) (args : Args) (h : ℕ) → IsFilled args → times h (numbers (map argument_list (arguments_in table args))) ≡ args_hold args h
args_numbers table args h filled = cells_numbers table (take args.count args.lists) h ∙ sym (filled_holds args h filled)

cells_texts : (table : List (Option Entry)) (cells : List (Option ListRef)) → map (argument_text table) (map argument_list (map (argument_in table) cells)) ≡ map (λ cell. cell_tokens table cell) cells
cells_texts table [] = refl
cells_texts table (None ∷ cells) = ap (λ (us : List (List Token)). [] ∷ us) (cells_texts table cells)
cells_texts table (Some r ∷ cells) = ap (λ (us : List (List Token)). tokens_at table (id_of r) ∷ us) (cells_texts table cells)

cells_tokens : (table : List (Option Entry)) (cells : List (Option ListRef)) → map tokens_of (map (argument_in table) cells) ≡ map (λ cell. cell_tokens table cell) cells
cells_tokens table [] = refl
cells_tokens table (None ∷ cells) = ap (λ (us : List (List Token)). [] ∷ us) (cells_tokens table cells)
cells_tokens table (Some r ∷ cells) = ap (λ (us : List (List Token)). tokens_at table (id_of r) ∷ us) (cells_tokens table cells)

cells_length : (table : List (Option Entry)) (cells : List (Option ListRef)) (n : ℕ) → n ≤ length cells → length (map (λ cell. cell_tokens table cell) (take n cells)) ≡ n
cells_length table cells zero l = refl
cells_length table [] (suc n) l = absurd (omega (arith, l))
cells_length table (c ∷ cells) (suc n) l = omega (arith, cells_length table cells n (omega (arith, l)))

pub args_length : (table : List (Option Entry)) (args : Args) → IsFilled args → length (args_in table args) ≡ args.count
args_length table args filled = cells_length table args.lists args.count (omega (arith, filled.few, args.nine))

-- THE ITEMS

later_of_it : (cells : List (Option ℕ)) (n : ℕ) (ts : List Token) → 0 < times n (numbers cells) → AreOf cells (map (Later n) ts)
later_of_it cells n [] some = tt
later_of_it cells n (t ∷ ts) some = (some, later_of_it cells n ts some)

spread_is : (cells : List (Option ℕ)) (n : ℕ) (ts : List Token) → 0 < times n (numbers cells) → AreOf cells (spread n ts)
spread_is cells n [] some = (tt, tt)
spread_is cells n (t ∷ ts) some = (some, later_of_it cells n ts some)

argument_is : (cells : List (Option ℕ)) (a : Option Argument) → IsOf cells (argument_list a) → AreOf cells (argument_items a)
argument_is cells None is = (tt, tt)
argument_is cells (Some a) is = spread_is cells a.list a.tokens is

-- an argument has its number among those of all
more_of : (c : Option ℕ) (cells : List (Option ℕ)) (o : Option ℕ) → IsOf cells o → IsOf (c ∷ cells) o
more_of None cells None is = tt
more_of None cells (Some n) is = is
more_of (Some k) cells None is = tt
more_of (Some k) cells (Some n) is = omega (arith, is, times_cons n k (numbers cells))

first_of : (o : Option ℕ) (cells : List (Option ℕ)) → IsOf (o ∷ cells) o
first_of None cells = tt
first_of (Some n) cells = omega (arith, times_cons n n (numbers cells), holds_itself n)

got_is : (us : List (Option Argument)) (k : ℕ) (a : Option Argument) → slice_get us k ≡ Some a → IsOf (map argument_list us) (argument_list a)
got_is [] k a is = absurd (none-some a is)
got_is (b ∷ us) zero a is = subst_first b a (same_Some b a is)
  where
    subst_first : (b a : Option Argument) → b ≡ a → IsOf (argument_list b ∷ map argument_list us) (argument_list a)
    subst_first b a e = subst (λ (x : Option Argument). IsOf (argument_list b ∷ map argument_list us) (argument_list x)) e (first_of (argument_list b) (map argument_list us))
got_is (b ∷ us) (suc k) a is = more_of (argument_list b) (map argument_list us) (argument_list a) (got_is us k a is)

placed_is : (us : List (Option Argument)) (n k : ℕ) (o : Option (Option Argument)) → slice_get us k ≡ o → AreOf (map argument_list us) (placed_argument n o)
placed_is us n k None is = (tt, tt)
placed_is us n k (Some a) is = argument_is (map argument_list us) a (got_is us k a is)

token_is : (us : List (Option Argument)) (t : Token) → AreOf (map argument_list us) (token_items us t)
token_is us (token.Char category code) = (tt, tt)
token_is us (token.Named name) = (tt, tt)
token_is us (token.Marked name) = (tt, tt)
token_is us (token.Place c) = (tt, tt)
token_is us (token.Number n) = placed_is us n (n - 1) (slice_get us (n - 1)) refl
token_is us token.EndPlaces = (tt, tt)

both_are : (cells : List (Option ℕ)) (xs ys : List Item) → AreOf cells xs → AreOf cells ys → AreOf cells (xs ++ ys)
both_are cells [] ys a b = b
both_are cells (x ∷ xs) ys a b = (a.0, both_are cells xs ys a.1 b)

items_are : (us : List (Option Argument)) (ts : List Token) → AreOf (map argument_list us) (substituted us ts)
items_are us [] = tt
items_are us (t ∷ ts) = both_are (map argument_list us) (token_items us t) (substituted us ts) (token_is us t) (items_are us ts)

pub call_is : (n : ℕ) (ts : List Token) (us : List (Option Argument)) → IsFront (call_put n ts us)
call_is n ts us = record { reading = tt; items = items_are us (body_of ts) }

-- AS PLAIN ITEMS

later_plain : (n : ℕ) (ts : List Token) → map plain_item (map (Later n) ts) ≡ map plain.Later ts
later_plain n [] = refl
later_plain n (t ∷ ts) = ap (λ (xs : List plain.Item). plain.Later t ∷ xs) (later_plain n ts)

spread_plain : (n : ℕ) (ts : List Token) → map plain_item (spread n ts) ≡ plain.spread ts
spread_plain n [] = refl
spread_plain n (t ∷ ts) = ap (λ (xs : List plain.Item). plain.First t ∷ xs) (later_plain n ts)

argument_plain : (a : Option Argument) → map plain_item (argument_items a) ≡ plain.spread (tokens_of a)
argument_plain None = refl
argument_plain (Some a) = spread_plain a.list a.tokens

placed_plain : (n : ℕ) (o : Option (Option Argument)) → map plain_item (placed_argument n o) ≡ plain.placed_argument n (option_map tokens_of o)
placed_plain n None = refl
placed_plain n (Some a) = argument_plain a

got_plain : (us : List (Option Argument)) (k : ℕ) → option_map tokens_of (slice_get us k) ≡ slice_get (map tokens_of us) k
got_plain [] k = refl
got_plain (a ∷ us) zero = refl
got_plain (a ∷ us) (suc k) = got_plain us k

token_plain : (us : List (Option Argument)) (t : Token) → map plain_item (token_items us t) ≡ plain.token_items (map tokens_of us) t
token_plain us (token.Char category code) = refl
token_plain us (token.Named name) = refl
token_plain us (token.Marked name) = refl
token_plain us (token.Place c) = refl
token_plain us (token.Number n) = placed_plain n (slice_get us (n - 1)) ∙ ap (plain.placed_argument n) (got_plain us (n - 1))
token_plain us token.EndPlaces = refl

map_both : (xs ys : List Item) → map plain_item (xs ++ ys) ≡ map plain_item xs ++ map plain_item ys
map_both [] ys = refl
map_both (x ∷ xs) ys = ap (λ (zs : List plain.Item). plain_item x ∷ zs) (map_both xs ys)

items_plain : (us : List (Option Argument)) (ts : List Token) → map plain_item (substituted us ts) ≡ plain.substituted (map tokens_of us) ts
items_plain us [] = refl
items_plain us (t ∷ ts) = map_both (token_items us t) (substituted us ts) ∙ ap₂ (λ (xs ys : List plain.Item). xs ++ ys) (token_plain us t) (items_plain us ts)

-- what is put, seen plainly
pub call_front : (table : List (Option Entry)) (n : ℕ) (ts : List Token) (args : Args) → front table (call_put n ts (arguments_in table args)) ≡ plain.call_put n ts (args_in table args)
call_front table n ts args =
    ap₂ (λ (us : List (List Token)) (xs : List plain.Item). let p : plain.Put = record { list = plain.Macro n; arguments = us; items = xs } in p)
    (cells_texts table (take args.count args.lists))
    (items_plain (arguments_in table args) (body_of ts) ∙ ap₂ plain.substituted (cells_tokens table (take args.count args.lists)) (sym (same_body ts)))

top_called : (table : List (Option Entry)) (p : Put) (xs : List Item) (ps : List Put) → fronts table (put_top p xs ps) ≡ called_top (front table p) (map plain_item xs) (fronts table ps)
top_called table p [] ps = refl
top_called table p (x ∷ xs) ps = ap (λ (qs : List plain.Put). front table p ∷ qs) (fronts_settled table ps)

pub front_called : (table : List (Option Entry)) (p : Put) (ps : List Put) → fronts table (put_in_front p ps) ≡ called (front table p) (fronts table ps)
front_called table p ps = top_called table p p.items ps

-- what a name puts
pub macro_put_is : (lists : List (List Token)) (m : Meaning (Option ℕ)) (k : ℕ) (args : List (List Token)) → list_of m ≡ Some k → macro_put lists m args ≡ plain.call_put k (list_at lists k) args
macro_put_is lists means.Undefined k args is = absurd (none-some k is)
macro_put_is lists means.RelaxMarked k args is = absurd (none-some k is)
macro_put_is lists (means.Char category code) k args is = absurd (none-some k is)
macro_put_is lists (means.CharGiven code) k args is = absurd (none-some k is)
macro_put_is lists (means.MathGiven code) k args is = absurd (none-some k is)
macro_put_is lists (means.Register r n) k args is = absurd (none-some k is)
macro_put_is lists (means.Prim number) k args is = absurd (none-some k is)
macro_put_is lists (means.Macro long outer None) k args is = absurd (none-some k is)
macro_put_is lists (means.Macro long outer (Some i)) k args is = ap (λ (n : ℕ). plain.call_put n (list_at lists n) args) (same_Some i k is)
