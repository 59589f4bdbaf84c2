-- Gaps in front of items.
use Rattle.std.proofs.Common.{◌≡◌, ℕ, ◌<◌, List, [], ◌∷◌, ◌++◌, map, length, Option, Some, true, false, refl, sym, ap, ◌∙◌, subst, arith}
use Rattle.input_stack.specs.Puts.{Item, Put, Text, First, Later, Gap, first, without_gaps, flat, next_item, pulled, pulled_top, is_empty, argument_of}
use Rattle.tex_defs.specs.declared.Token.{Token}
use Rattle.token_lists.specs.Table.{Entry}
use Rattle.input_stack.specs.WholeLevel.{WholeLevel}
use Rattle.input_stack.specs.WholeLevel as level
use Rattle.input_stack.specs.Rest.{number, rest}
use Rattle.input_stack.specs.CallViews.{put_of_call, items_of}
use Rattle.input_stack.specs.Levels.{level_item, is_level_passed, is_top_passed}
use Rattle.input_stack.specs.Pending.{Pending, plain_put, without_top}
use Rattle.input_stack.specs.Pulls.{Passes}
use Rattle.input_stack.specs.View.{pending_in, put_of}

-- the first of some items, or of those behind gaps
abbrev pub first_item : List Item → List Item → Option Item
first_item [] ys = first (without_gaps ys)
first_item (x ∷ xs) ys = Some x

pub gaps_first : (xs ys : List Item) → first (without_gaps (xs ++ ys)) ≡ first_item (without_gaps xs) ys
gaps_first [] ys = refl
gaps_first (Text t ∷ xs) ys = refl
gaps_first (First n t ∷ xs) ys = refl
gaps_first (Later n t ∷ xs) ys = refl
gaps_first (Gap ∷ xs) ys = gaps_first xs ys

pub gaps_none : (xs ys : List Item) → without_gaps xs ≡ [] → without_gaps (xs ++ ys) ≡ without_gaps ys
gaps_none [] ys is = refl
gaps_none (Text t ∷ xs) ys is = cc
gaps_none (First n t ∷ xs) ys is = cc
gaps_none (Later n t ∷ xs) ys is = cc
gaps_none (Gap ∷ xs) ys is = gaps_none xs ys is

-- what is next, where a list on top has an item that is no gap
pub next_top : (p : Put) (ps : List Put) (x : Item) (left : List Item) → without_gaps p.items ≡ x ∷ left → next_item (p ∷ ps) ≡ Some x
next_top p ps x left is = gaps_first p.items (flat ps) ∙ ap (λ (xs : List Item). first_item xs (flat ps)) is

pub pulled_is : (p : Put) (ps : List Put) (x : Item) (left : List Item) → without_gaps p.items ≡ x ∷ left → pulled (p ∷ ps) ≡ record { list = p.list; body = p.body; arguments = p.arguments; reading = argument_of x; items = left } ∷ ps
pulled_is p ps x left is = ap (λ (xs : List Item). pulled_top p xs (pulled ps) ps) is

no_items : (xs : List Item) → is_empty xs ≡ true → xs ≡ []
no_items [] is = refl
no_items (x ∷ xs) is = cc

-- nothing but gaps is passed over
pub next_passed : (p : Put) (ps : List Put) → is_empty (without_gaps p.items) ≡ true → next_item (p ∷ ps) ≡ next_item ps
next_passed p ps is = ap first (gaps_none p.items (flat ps) (no_items (without_gaps p.items) is))

pub pulled_passed : (p : Put) (ps : List Put) → is_empty (without_gaps p.items) ≡ true → pulled (p ∷ ps) ≡ pulled ps
pulled_passed p ps is = ap (λ (xs : List Item). pulled_top p xs (pulled ps) ps) (no_items (without_gaps p.items) is)

-- BY LEVELS

plain_passed : (ts : List Token) → is_empty (map Text ts) ≡ true → is_empty (without_gaps (map Text ts)) ≡ true
plain_passed [] is = refl
plain_passed (t ∷ ts) is = cc

plain_next : (n : ℕ) (ts : List Token) (ps : List Put) → is_empty (map Text ts) ≡ false → next_item (plain_put n ts ∷ ps) ≡ first (map Text ts)
plain_next n [] ps is = cc
plain_next n (t ∷ ts) ps is = refl

call_next : (p : Put) (xs : List Item) (ps : List Put) → without_gaps p.items ≡ xs → is_empty xs ≡ false → next_item (p ∷ ps) ≡ first xs
call_next p [] ps at is = cc
call_next p (x ∷ xs) ps at is = next_top p ps x xs at

level_passed : (table : List (Option Entry)) (l : WholeLevel) (ls : List WholeLevel) → is_level_passed table l ≡ true → Passes (pending_in table (l ∷ ls)) (pending_in table ls) × (0 < length (pending_in table (l ∷ ls)).puts)
level_passed table (level.List r) ls is =
    let p = put_of table r in
    let e = plain_passed (rest table r) is in
    (record { next = sym (next_passed p (pending_in table ls).puts e); pulled = sym (pulled_passed p (pending_in table ls).puts e); sources = refl }, omega arith)
level_passed table (level.Call c) ls is =
    let p = put_of_call table c in
    (record { next = sym (next_passed p (pending_in table ls).puts is); pulled = sym (pulled_passed p (pending_in table ls).puts is); sources = refl }, omega arith)
level_passed table (level.Source s) ls is = cc

level_next : (table : List (Option Entry)) (l : WholeLevel) (ls : List WholeLevel) → is_level_passed table l ≡ false → next_item (pending_in table (l ∷ ls)).puts ≡ level_item table l
level_next table (level.List r) ls is = plain_next (number r) (rest table r) (pending_in table ls).puts is
level_next table (level.Call c) ls is = call_next (put_of_call table c) (without_gaps (items_of table c)) (pending_in table ls).puts refl is
level_next table (level.Source s) ls is = refl

pub top_gaps : (table : List (Option Entry)) (xs ls : List WholeLevel) (l : WholeLevel) → xs ≡ l ∷ ls → is_level_passed table l ≡ true → Passes (pending_in table xs) (pending_in table ls) × (0 < length (pending_in table xs).puts)
top_gaps table xs ls l is passed = subst (λ (ys : List WholeLevel). Passes (pending_in table ys) (pending_in table ls) × (0 < length (pending_in table ys).puts)) (sym is) (level_passed table l ls passed)

pub top_next : (table : List (Option Entry)) (xs ls : List WholeLevel) (l : WholeLevel) → xs ≡ l ∷ ls → is_level_passed table l ≡ false → next_item (pending_in table xs).puts ≡ level_item table l
top_next table xs ls l is passed = ap (λ (ys : List WholeLevel). next_item (pending_in table ys).puts) is ∙ level_next table l ls passed

-- a list or a call on top of which nothing is left but gaps
pub passed_some : (table : List (Option Entry)) (xs : List WholeLevel) → is_top_passed table xs ≡ true → (0 < length (pending_in table xs).puts) × Passes (pending_in table xs) (without_top (pending_in table xs))
passed_some table [] is = cc
passed_some table (level.List r ∷ ls) is = ((level_passed table (level.List r) ls is).1, (level_passed table (level.List r) ls is).0)
passed_some table (level.Call c ∷ ls) is = ((level_passed table (level.Call c) ls is).1, (level_passed table (level.Call c) ls is).0)
passed_some table (level.Source s ∷ ls) is = cc

pub passes_on : (p q r z : Pending) → Passes p q → Passes q r → z ≡ r → Passes p z
passes_on p q r z a b is = subst (λ (y : Pending). Passes p y) (sym is) (record { next = b.next ∙ a.next; pulled = b.pulled ∙ a.pulled; sources = b.sources ∙ a.sources })
