-- Lists in front as plain lists: what is finished, what comes next, and what counts.
use Rattle.std.proofs.Common.{◌≡◌, ℕ, ◌+◌, List, [], ◌∷◌, ◌++◌, map, Option, None, Some, refl, ap, ◌∙◌, sym, arith}
use Rattle.std.specs.Prelude.{is_some}
use Rattle.std.proofs.lemmas.Option.{none-some, same_Some}
use Rattle.std.proofs.lemmas.List.Sums.{sum_by-cons}
use Rattle.tex_defs.specs.declared.Token.{Token}
use Rattle.plain_tokens.specs.Puts as plain
use Rattle.plain_tokens.specs.Pending.{read_on}
use Rattle.token_lists.specs.Table.{Entry, tokens_at}
use Rattle.input_stack.specs.Puts.{Put, Item, Text, First, Later, Gap, later_of, count_of, used, used_of, without_ended, unless_ended, put_top, put_in_front, first, flat, without_gaps, has_item, next_item, pulled, pulled_top}
use Rattle.input_stack.specs.Pending.{plain_put}
use Rattle.input_stack.specs.Pulls.{token_in}
use Rattle.input_state.specs.HeldLists as held
use Rattle.input_state.specs.HeldViews.{plain_item, whole_of, argument_text, front, fronts}

-- ITEMS

pub token_is : (x : Item) → plain.item_token (plain_item x) ≡ token_in x
token_is (Text t) = refl
token_is (First n t) = refl
token_is (Later n t) = refl
token_is Gap = refl

pub texts_are : (ts : List Token) → map plain_item (map Text ts) ≡ map plain.Text ts
texts_are [] = refl
texts_are (t ∷ ts) = ap (λ (xs : List plain.Item). plain.Text t ∷ xs) (texts_are ts)

-- a list of tokens
pub token_front : (table : List (Option Entry)) (n : ℕ) (ts : List Token) → tokens_at table n ≡ ts → front table (plain_put n ts) ≡ plain.token_put ts
token_front table n ts is = rw (is, texts_are ts) refl

items_left : (xs : List Item) → is_some (first (without_gaps xs)) ≡ is_some (plain.first_item (plain.without_gaps (map plain_item xs)))
items_left [] = refl
items_left (Text t ∷ xs) = refl
items_left (First n t ∷ xs) = refl
items_left (Later n t ∷ xs) = refl
items_left (Gap ∷ xs) = items_left xs

-- whether the list in front has one
pub front_item : (table : List (Option Entry)) (ps : List Put) → has_item ps ≡ held.has_item (fronts table ps)
front_item table [] = refl
front_item table (p ∷ ps) = items_left p.items

-- LEVELS

item_level : (x : Item) → count_of (later_of x) ≡ plain.argument_level (plain_item x)
item_level (Text t) = refl
item_level (First n t) = refl
item_level (Later n t) = refl
item_level Gap = refl

pub used_items : (xs : List Item) → used_of xs ≡ plain.levels_of (map plain_item xs)
used_items [] = refl
used_items (x ∷ xs) = ap (λ (n : ℕ). 1 + n) (item_level x)

pub front_levels : (table : List (Option Entry)) (ps : List Put) → used ps ≡ plain.put_levels (fronts table ps)
front_levels table [] = refl
front_levels table (p ∷ ps) =
    omega (arith, front_levels table ps, used_items p.items, sum_by-cons (λ (x : Put). used_of x.items) p ps, sum_by-cons (λ (x : plain.Put). plain.levels_of x.items) (front table p) (fronts table ps))

-- FINISHED LISTS

top_settled : (table : List (Option Entry)) (p : Put) (xs : List Item) (below rest : List Put) → p.items ≡ xs → fronts table (unless_ended p xs below rest) ≡ plain.unless_ended (front table p) (map plain_item xs) (fronts table below) (fronts table rest)
top_settled table p [] below rest is = refl
top_settled table p (x ∷ xs) below rest is = ap (λ (ys : List Item). record { list = whole_of p.body p.list (tokens_at table p.list); arguments = map (argument_text table) p.arguments; items = map plain_item ys } ∷ fronts table rest) (sym is)

pub fronts_settled : (table : List (Option Entry)) (ps : List Put) → fronts table (without_ended ps) ≡ plain.without_ended (fronts table ps)
fronts_settled table [] = refl
fronts_settled table (p ∷ ps) = top_settled table p p.items (without_ended ps) ps refl ∙ ap (λ (qs : List plain.Put). plain.unless_ended (front table p) (map plain_item p.items) qs (fronts table ps)) (fronts_settled table ps)

-- A LIST MORE

module _ (table : List (Option Entry)) (p : Put) (ps : List Put) (already : plain.without_ended (fronts table ps) ≡ fronts table ps) where
  top_put : (xs : List Item) → fronts table (put_top p xs ps) ≡ plain.put_top (front table p) (map plain_item xs) (fronts table ps)
  top_put [] = refl
  top_put (x ∷ xs) = ap (λ (qs : List plain.Put). front table p ∷ qs) (fronts_settled table ps ∙ already)

  pub fronts_put : fronts table (put_in_front p ps) ≡ plain.with_put (front table p) (fronts table ps)
  fronts_put = top_put p.items

-- WHAT COMES NEXT

-- the first list begins with this item, and those of `after` are left behind it
pub record IsNext (ps after : List plain.Put) (x : plain.Item) : Type 0 where
  pub put : plain.Put
  pub left : List plain.Item
  pub below : List plain.Put
  pub first : ps ≡ put ∷ below
  pub has : put.items ≡ x ∷ left
  pub behind : after ≡ read_on put left ∷ below

pub next_is : (ps after : List plain.Put) (x : plain.Item) → IsNext ps after x → plain.top_item ps ≡ Some x
next_is ps after x k = ap plain.top_item k.first ∙ ap plain.first_item k.has

module _ (table : List (Option Entry)) where
  -- a list on top of which these items are left
  passed_now : Put → List Item → List Put → List plain.Put
  passed_now p xs ps = plain.passed_top (front table p) (plain.without_gaps (map plain_item xs)) (plain.passed (fronts table ps)) (fronts table ps)

  pulled_now : Put → List Item → List Put → List plain.Put
  pulled_now p xs ps = fronts table (pulled_top p (without_gaps xs) (pulled ps) ps)

  here : (p : Put) (y x : Item) (ys : List Item) (ps : List Put) → Some y ≡ Some x → IsNext (read_on (front table p) (map plain_item (y ∷ ys)) ∷ fronts table ps) (read_on (front table p) (map plain_item ys) ∷ fronts table ps) (plain_item x)
  here p y x ys ps is = record {
    put = read_on (front table p) (map plain_item (y ∷ ys));
    left = map plain_item ys;
    below = fronts table ps;
    first = refl;
    has = ap (λ (z : Item). plain_item z ∷ map plain_item ys) (same_Some y x is);
    behind = refl;
  }

  top_some : (p : Put) (xs : List Item) (ps : List Put) (x : Item) → (next_item ps ≡ Some x → IsNext (plain.passed (fronts table ps)) (fronts table (pulled ps)) (plain_item x)) → first (without_gaps (xs ++ flat ps)) ≡ Some x → IsNext (passed_now p xs ps) (pulled_now p xs ps) (plain_item x)
  unfolding passed_now pulled_now
  top_some p [] ps x more is = more is
  top_some p (Text t ∷ xs) ps x more is = here p (Text t) x xs ps is
  top_some p (First n t ∷ xs) ps x more is = here p (First n t) x xs ps is
  top_some p (Later n t ∷ xs) ps x more is = here p (Later n t) x xs ps is
  top_some p (Gap ∷ xs) ps x more is = top_some p xs ps x more is

  pub next_some : (ps : List Put) (x : Item) → next_item ps ≡ Some x → IsNext (plain.passed (fronts table ps)) (fronts table (pulled ps)) (plain_item x)
  unfolding passed_now pulled_now
  next_some [] x is = absurd (none-some x is)
  next_some (p ∷ ps) x is = top_some p p.items ps x (next_some ps x) is

  top_none : (p : Put) (xs : List Item) (ps : List Put) → (next_item ps ≡ None → plain.passed (fronts table ps) ≡ []) → first (without_gaps (xs ++ flat ps)) ≡ None → passed_now p xs ps ≡ []
  unfolding passed_now
  top_none p [] ps more is = more is
  top_none p (Text t ∷ xs) ps more is = absurd (none-some (Text t) (sym is))
  top_none p (First n t ∷ xs) ps more is = absurd (none-some (First n t) (sym is))
  top_none p (Later n t ∷ xs) ps more is = absurd (none-some (Later n t) (sym is))
  top_none p (Gap ∷ xs) ps more is = top_none p xs ps more is

  pub next_none : (ps : List Put) → next_item ps ≡ None → plain.passed (fronts table ps) ≡ []
  unfolding passed_now
  next_none [] is = refl
  next_none (p ∷ ps) is = top_none p p.items ps (next_none ps) is
