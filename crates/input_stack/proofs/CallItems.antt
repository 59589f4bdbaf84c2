-- What stands in front of a call.
use Rattle.std.proofs.Common.{zero, suc, ◌≡◌, ℕ, ◌+◌, ◌-◌, ◌<◌, ◌≤◌, List, [], ◌∷◌, ◌++◌, map, length, drop, get_or, Option, None, Some, Bool, true, false, not, refl, sym, ap, ◌∙◌, arith, add-one}
use Rattle.std.specs.Prelude.{slice_get, is_some}
use Rattle.std.proofs.lemmas.List.Sums.{sum_by-cons}
use Rattle.std.proofs.lemmas.Option.{same_Some, none-some}
use Rattle.tex_defs.specs.declared.Token.{Token}
use Rattle.tex_defs.specs.declared.Token.TheVariants.{Char, Named, Marked, Place, Number, EndPlaces}
use Rattle.token_lists.specs.declared.ListRef.{ListRef}
use Rattle.token_lists.specs.Ids.{id_of}
use Rattle.token_lists.specs.Table.{Entry}
use Rattle.token_lists.specs.Accounts.{cell_holds, cells_hold}
use Rattle.input_stack.specs.declared.reader.Reader.{Reader}
use Rattle.input_stack.specs.declared.met.Met.{Met}
use Rattle.input_stack.specs.declared.met.Met.TheVariants as met_as
use Rattle.input_stack.specs.Puts.{Item, Text, First, Later, Gap, first, without_gaps, is_empty}
use Rattle.input_stack.specs.Calls.{Argument, spread, argument_items, placed_argument, token_items, substituted}
use Rattle.input_stack.specs.Rest.{rest, number}
use Rattle.input_stack.specs.CallViews.{argument_in, cells_in, open_tokens, open_items, met}
use Rattle.input_stack.proofs.CallKept.{holds_itself}

-- ARGUMENTS BY THEIR NUMBERS

get_some : (table : List (Option Entry)) (cells : List (Option ListRef)) (k : ℕ) → k < length cells → slice_get (cells_in table cells) k ≡ Some (argument_in table (get_or cells k None))
get_some table [] k l = absurd (omega (arith, l))
get_some table (c ∷ cells) zero l = refl
get_some table (c ∷ cells) (suc k) l = get_some table cells k (omega (arith, l))

get_none : (table : List (Option Entry)) (cells : List (Option ListRef)) (k : ℕ) → length cells ≤ k → slice_get (cells_in table cells) k ≡ None
get_none table [] zero l = refl
get_none table [] (suc k) l = refl
get_none table (c ∷ cells) zero l = absurd (omega (arith, l))
get_none table (c ∷ cells) (suc k) l = get_none table cells k (omega (arith, l))

-- an argument's list is one of those that are held
pub cell_counts : (cells : List (Option ListRef)) (k : ℕ) (r : ListRef) → k < length cells → get_or cells k None ≡ Some r → 0 < cells_hold cells (id_of r)
cell_counts [] k r l is = absurd (omega (arith, l))
cell_counts (c ∷ cells) zero r l is = omega (arith, sum_by-cons (λ (x : Option ListRef). cell_holds x (id_of r)) c cells, ap (λ (x : Option ListRef). cell_holds x (id_of r)) is, holds_itself (id_of r))
cell_counts (c ∷ cells) (suc k) r l is = omega (arith, sum_by-cons (λ (x : Option ListRef). cell_holds x (id_of r)) c cells, cell_counts cells k r (omega (arith, l)) is)

pub item_is : (table : List (Option Entry)) (cells : List (Option ListRef)) (t : Token) (n k : ℕ) (cell : Option ListRef) → k < length cells → k ≡ n - 1 → t ≡ Number n → get_or cells k None ≡ cell → token_items (cells_in table cells) t ≡ argument_items (argument_in table cell)
item_is table cells t n k cell l same is at =
    ap (token_items (cells_in table cells)) is
    ∙ ap (λ (i : ℕ). placed_argument n (slice_get (cells_in table cells) i)) (sym same)
    ∙ ap (placed_argument n) (get_some table cells k l)
    ∙ ap (λ (x : Option ListRef). argument_items (argument_in table x)) at

pub item_past : (table : List (Option Entry)) (cells : List (Option ListRef)) (t : Token) (n k : ℕ) → length cells ≤ k → k ≡ n - 1 → t ≡ Number n → token_items (cells_in table cells) t ≡ Text (Number n) ∷ []
item_past table cells t n k l same is =
    ap (token_items (cells_in table cells)) is
    ∙ ap (λ (i : ℕ). placed_argument n (slice_get (cells_in table cells) i)) (sym same)
    ∙ ap (placed_argument n) (get_none table cells k l)

pub first_met : (l : ℕ) (ts : List Token) (t : Token) → Some t ≡ slice_get ts 0 → spread l ts ≡ First l t ∷ map (Later l) (drop 1 ts)
first_met l [] t some = absurd (none-some t (sym some))
first_met l (u ∷ ts) t some = ap (λ (x : Token). First l x ∷ map (Later l) ts) (sym (same_Some _ _ some))

pub empty_met : (l : ℕ) (ts : List Token) → None ≡ slice_get ts 0 → spread l ts ≡ Gap ∷ []
empty_met l [] none = refl
empty_met l (t ∷ ts) none = absurd (none-some t none)

-- GAPS

front_stays : (xs ys : List Item) (m : Met) → Some m ≡ met (first xs) → (m ≡ met_as.Gap → ⊥) → without_gaps (xs ++ ys) ≡ xs ++ ys
front_stays [] ys m is not_gap = absurd (none-some m (sym is))
front_stays (Text t ∷ xs) ys m is not_gap = refl
front_stays (First n t ∷ xs) ys m is not_gap = refl
front_stays (Later n t ∷ xs) ys m is not_gap = refl
front_stays (Gap ∷ xs) ys m is not_gap = absurd (not_gap (same_Some _ _ is))

pub no_gap : (args : List (Option Argument)) (ts : List Token) (t : Token) (m : Met) → Some t ≡ slice_get ts 0 → Some m ≡ met (first (token_items args t)) → (m ≡ met_as.Gap → ⊥) → without_gaps (substituted args ts) ≡ substituted args ts
no_gap args [] t m some is not_gap = absurd (none-some t (sym some))
no_gap args (u ∷ ts) t m some is not_gap = front_stays (token_items args u) (substituted args ts) m (is ∙ ap (λ (x : Token). met (first (token_items args x))) (same_Some _ _ some)) not_gap

spread_gap : (l : ℕ) (ts : List Token) → Some met_as.Gap ≡ met (first (spread l ts)) → spread l ts ≡ Gap ∷ []
spread_gap l [] is = refl
spread_gap l (t ∷ ts) is = cc

placed_gap : (n : ℕ) (o : Option (Option Argument)) → Some met_as.Gap ≡ met (first (placed_argument n o)) → placed_argument n o ≡ Gap ∷ []
placed_gap n None is = cc
placed_gap n (Some None) is = refl
placed_gap n (Some (Some a)) is = spread_gap a.list a.tokens is

gap_item : (args : List (Option Argument)) (t : Token) → Some met_as.Gap ≡ met (first (token_items args t)) → token_items args t ≡ Gap ∷ []
gap_item args (Char cat code) is = cc
gap_item args (Named name) is = cc
gap_item args (Marked name) is = cc
gap_item args (Place c) is = cc
gap_item args (Number n) is = placed_gap n (slice_get args (n - 1)) is
gap_item args EndPlaces is = cc

drop_suc : (k : ℕ) (ts : List Token) (t : Token) → Some t ≡ slice_get (drop k ts) 0 → drop k ts ≡ t ∷ drop (suc k) ts
drop_suc zero [] t some = absurd (none-some t (sym some))
drop_suc zero (u ∷ ts) t some = ap (λ (x : Token). x ∷ ts) (sym (same_Some _ _ some))
drop_suc (suc k) [] t some = absurd (none-some t (sym some))
drop_suc (suc k) (u ∷ ts) t some = drop_suc k ts t some

pub drop_front : (k : ℕ) (ts : List Token) (t : Token) → Some t ≡ slice_get (drop k ts) 0 → drop k ts ≡ t ∷ drop (k + 1) ts
drop_front k ts t some = drop_suc k ts t some ∙ ap (λ (i : ℕ). t ∷ drop i ts) (sym (add-one k))

pub gap_passed : (args : List (Option Argument)) (ts us : List Token) (t : Token) (m : Met) → ts ≡ t ∷ us → Some m ≡ met (first (token_items args t)) → m ≡ met_as.Gap → without_gaps (substituted args us) ≡ without_gaps (substituted args ts)
gap_passed args ts us t m is some gap =
    let e : token_items args t ≡ Gap ∷ [] = gap_item args t (ap (λ (x : Met). Some x) (sym gap) ∙ some) in
    sym (ap (λ (vs : List Token). without_gaps (substituted args vs)) is ∙ ap (λ (xs : List Item). without_gaps (xs ++ substituted args us)) e)

pub none_left : (args : List (Option Argument)) (ts : List Token) → None ≡ slice_get ts 0 → without_gaps (substituted args ts) ≡ substituted args ts
none_left args [] none = refl
none_left args (t ∷ ts) none = absurd (none-some t none)

-- WITHOUT ARGUMENTS each token stands for itself

pub without_arguments : (ts : List Token) → substituted [] ts ≡ map Text ts
without_arguments [] = refl
without_arguments (Char category code ∷ ts) = ap (λ (xs : List Item). Text (Char category code) ∷ xs) (without_arguments ts)
without_arguments (Named name ∷ ts) = ap (λ (xs : List Item). Text (Named name) ∷ xs) (without_arguments ts)
without_arguments (Marked name ∷ ts) = ap (λ (xs : List Item). Text (Marked name) ∷ xs) (without_arguments ts)
without_arguments (Place c ∷ ts) = ap (λ (xs : List Item). Text (Place c) ∷ xs) (without_arguments ts)
without_arguments (Number n ∷ ts) = ap (λ (xs : List Item). Text (Number n) ∷ xs) (without_arguments ts)
without_arguments (EndPlaces ∷ ts) = ap (λ (xs : List Item). Text EndPlaces ∷ xs) (without_arguments ts)

-- THE NEXT ITEM

later_list : (n : ℕ) (ts : List Token) (ys : List Item) (t : Token) → Some t ≡ slice_get ts 0 → Some (met_as.Later t) ≡ met (first (without_gaps (map (Later n) ts ++ ys)))
later_list n [] ys t some = absurd (none-some t (sym some))
later_list n (u ∷ ts) ys t some = ap (λ (x : Token). Some (met_as.Later x)) (same_Some _ _ some)

pub later_next : (table : List (Option Entry)) (o : Option Reader) (ys : List Item) (t : Token) → Some t ≡ slice_get (open_tokens table o) 0 → Some (met_as.Later t) ≡ met (first (without_gaps (open_items table o ++ ys)))
later_next table None ys t some = absurd (none-some t (sym some))
later_next table (Some r) ys t some = later_list (number r) (rest table r) ys t some

no_list : (n : ℕ) (ts : List Token) → None ≡ slice_get ts 0 → map (Later n) ts ≡ []
no_list n [] none = refl
no_list n (t ∷ ts) none = absurd (none-some t none)

pub no_later : (table : List (Option Entry)) (o : Option Reader) → None ≡ slice_get (open_tokens table o) 0 → open_items table o ≡ []
no_later table None none = refl
no_later table (Some r) none = no_list (number r) (rest table r) none

met_append : (xs ys : List Item) (m : Met) → Some m ≡ met (first xs) → Some m ≡ met (first (xs ++ ys))
met_append [] ys m is = absurd (none-some m (sym is))
met_append (x ∷ xs) ys m is = is

-- what the body's next token stands for, once the gaps are passed over
pub body_next : (table : List (Option Entry)) (o : Option Reader) (args : List (Option Argument)) (ts us : List Token) (t : Token) (m : Met) → None ≡ slice_get (open_tokens table o) 0 → substituted args us ≡ without_gaps (substituted args ts) → Some t ≡ slice_get us 0 → Some m ≡ met (first (token_items args t)) → Some m ≡ met (first (without_gaps (open_items table o ++ substituted args ts)))
body_next table o args ts [] t m none behind some is = absurd (none-some t (sym some))
body_next table o args ts (u ∷ us) t m none behind some is =
    met_append (token_items args u) (substituted args us) m (is ∙ ap (λ (x : Token). met (first (token_items args x))) (same_Some _ _ some))
    ∙ ap (λ (xs : List Item). met (first xs)) behind
    ∙ ap (λ (xs : List Item). met (first (without_gaps (xs ++ substituted args ts)))) (sym (no_later table o none))

pub nothing_next : (table : List (Option Entry)) (o : Option Reader) (args : List (Option Argument)) (ts us : List Token) → None ≡ slice_get (open_tokens table o) 0 → substituted args us ≡ without_gaps (substituted args ts) → None ≡ slice_get us 0 → None ≡ met (first (without_gaps (open_items table o ++ substituted args ts)))
nothing_next table o args ts [] none behind some = ap (λ (xs : List Item). met (first xs)) behind ∙ ap (λ (xs : List Item). met (first (without_gaps (xs ++ substituted args ts)))) (sym (no_later table o none))
nothing_next table o args ts (u ∷ us) none behind some = absurd (none-some u some)

-- WHETHER ONE IS LEFT

spread_left : (l : ℕ) (ts : List Token) (ys : List Item) → is_empty (spread l ts ++ ys) ≡ false
spread_left l [] ys = refl
spread_left l (t ∷ ts) ys = refl

placed_left : (n : ℕ) (o : Option (Option Argument)) (ys : List Item) → is_empty (placed_argument n o ++ ys) ≡ false
placed_left n None ys = refl
placed_left n (Some None) ys = refl
placed_left n (Some (Some a)) ys = spread_left a.list a.tokens ys

token_left : (args : List (Option Argument)) (t : Token) (ys : List Item) → is_empty (token_items args t ++ ys) ≡ false
token_left args (Char cat code) ys = refl
token_left args (Named name) ys = refl
token_left args (Marked name) ys = refl
token_left args (Place c) ys = refl
token_left args (Number n) ys = placed_left n (slice_get args (n - 1)) ys
token_left args EndPlaces ys = refl

pub body_left : (args : List (Option Argument)) (ts : List Token) (o : Option Token) (b : Bool) → o ≡ slice_get ts 0 → is_some o ≡ not b → b ≡ is_empty (substituted args ts)
body_left args [] None true at is = refl
body_left args [] None false at is = cc
body_left args [] (Some t) b at is = absurd (none-some t (sym at))
body_left args (t ∷ ts) None b at is = absurd (none-some t at)
body_left args (t ∷ ts) (Some u) true at is = cc
body_left args (t ∷ ts) (Some u) false at is = sym (token_left args t (substituted args ts))

none_of : (o : Option Token) (b : Bool) → is_some o ≡ not b → b ≡ true → None ≡ o
none_of None b is t = refl
none_of (Some t) true is e = cc
none_of (Some t) false is e = cc

pub without_later : (table : List (Option Entry)) (o : Option Reader) (p : Option Token) (b : Bool) → p ≡ slice_get (open_tokens table o) 0 → is_some p ≡ not b → b ≡ true → open_items table o ≡ []
without_later table o p b at is t = no_later table o (none_of p b is t ∙ at)

later_left : (n : ℕ) (ts : List Token) (ys : List Item) (p : Option Token) (b : Bool) → p ≡ slice_get ts 0 → is_some p ≡ not b → b ≡ false → b ≡ is_empty (map (Later n) ts ++ ys)
later_left n [] ys None true at is f = cc
later_left n [] ys None false at is f = cc
later_left n [] ys (Some t) b at is f = absurd (none-some t (sym at))
later_left n (t ∷ ts) ys p b at is f = f

pub with_later : (table : List (Option Entry)) (o : Option Reader) (ys : List Item) (p : Option Token) (b : Bool) → p ≡ slice_get (open_tokens table o) 0 → is_some p ≡ not b → b ≡ false → b ≡ is_empty (open_items table o ++ ys)
with_later table None ys None true at is f = cc
with_later table None ys None false at is f = cc
with_later table None ys (Some t) b at is f = absurd (none-some t (sym at))
with_later table (Some r) ys p b at is f = later_left (number r) (rest table r) ys p b at is f
