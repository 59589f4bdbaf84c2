-- A call stays where its lists are held.
use Rattle.std.proofs.Common.{zero, suc, ◌≡◌, ℕ, ◌+◌, ◌<◌, ◌≤◌, List, [], ◌∷◌, ◌++◌, map, length, drop, take, Option, None, Some, true, refl, sym, ap, ap₂, ◌∙◌, subst, arith}
use Rattle.std.specs.Prelude.{slice_get, slice_index_or, IsSome, IfSome, ◌↔◌, ◌==◌}
use Rattle.std.proofs.lemmas.Bool.{eq-eqb}
use Rattle.std.proofs.lemmas.List.Sums.{sum_by-cons}
use Rattle.tex_defs.specs.declared.Token.{Token}
use Rattle.token_lists.specs.declared.ListRef.{ListRef}
use Rattle.token_lists.specs.Ids.{id_of}
use Rattle.token_lists.specs.Table.{Entry, tokens_at, places_at, holders_at, IsHeld}
use Rattle.token_lists.specs.Accounts.{holds, cell_holds, cells_hold}
use Rattle.macro_args.specs.declared.args.Args.{Args}
use Rattle.macro_args.specs.Args.{IsFilled, args_hold}
use Rattle.input_stack.specs.declared.reader.Reader.{Reader}
use Rattle.input_stack.specs.Whole.{WholeCall}
use Rattle.input_stack.specs.Puts.{Item, Put, Later, numbers, lists_of}
use Rattle.input_stack.specs.Pending.{times}
use Rattle.input_stack.specs.Calls.{Argument, argument_list, substituted}
use Rattle.input_stack.specs.Rest.{number, rest, IsAt}
use Rattle.input_stack.specs.CallViews.{argument_in, cells_in, arguments_hold, open_items, open_number, open_holds, put_of_call, call_holds, IsCall}

pub holds_itself : (n : ℕ) → holds n n ≡ 1
holds_itself n =
    let e : (n == n) ≡ true = eq-eqb n n refl in
    rw e refl

abbrev Same : (old new : List (Option Entry)) → (ℕ → ℕ) → Type 0
Same old new f = (h : ℕ) → 0 < f h → tokens_at new h ≡ tokens_at old h

pub cells_same : (old new : List (Option Entry)) (cells : List (Option ListRef)) → Same old new (cells_hold cells) → cells_in new cells ≡ cells_in old cells
cells_same old new [] same = refl
cells_same old new (None ∷ cells) same =
    ap (λ (xs : List (Option Argument)). None ∷ xs) (cells_same old new cells (λ h some. same h (omega (arith, some, sum_by-cons (λ (c : Option ListRef). cell_holds c h) None cells))))
cells_same old new (Some r ∷ cells) same =
    let n = id_of r in
    ap₂ (λ (ts : List Token) (xs : List (Option Argument)). Some (record { list = n; tokens = ts }) ∷ xs)
    (same n (omega (arith, sum_by-cons (λ (c : Option ListRef). cell_holds c n) (Some r) cells, holds_itself n)))
    (cells_same old new cells (λ h some. same h (omega (arith, some, sum_by-cons (λ (c : Option ListRef). cell_holds c h) (Some r) cells))))

pub rest_same : (old new : List (Option Entry)) (r : Reader) → Same old new (holds (number r)) → rest new r ≡ rest old r
rest_same old new r same = ap (λ (ts : List Token). drop r.read ts) (same (number r) (omega (arith, holds_itself (number r))))

open_same : (old new : List (Option Entry)) (o : Option Reader) → Same old new (open_holds o) → open_items new o ≡ open_items old o
open_same old new None same = refl
open_same old new (Some r) same = ap (map (Later (number r))) (rest_same old new r same)

abbrev put_from : WholeCall → List (Option Argument) → List Item → List Token → Put
put_from c args front ts = record { list = number c.body; body = true; arguments = map argument_list args; reading = open_number c.argument; items = front ++ substituted args ts }

pub call_same : (old new : List (Option Entry)) (c : WholeCall) → Same old new (call_holds c) → put_of_call new c ≡ put_of_call old c
call_same old new c same =
    let e = cells_same old new c.args (λ h some. same h (omega (arith, some))) in
    let f = open_same old new c.argument (λ h some. same h (omega (arith, some))) in
    let g = rest_same old new c.body (λ h some. same h (omega (arith, some))) in
    ap₂ (λ (xs : List (Option Argument)) (ys : List Item). put_from c xs ys (rest new c.body)) e f
    ∙ ap (λ (ts : List Token). put_from c (cells_in old c.args) (open_items old c.argument) ts) g

pub at_same : (old new : List (Option Entry)) (r : Reader) → tokens_at new (number r) ≡ tokens_at old (number r) → places_at new (number r) ≡ places_at old (number r) → IsHeld new (number r) → IsAt old r → IsAt new r
at_same old new r tokens places held a = record {
  held = held;
  place = subst (λ (ps : List ℕ). r.at ≡ slice_get ps r.read) (sym places) a.place;
  ends = subst (λ (ts : List Token). IsSome r.at ↔ (r.read < length ts)) (sym tokens) a.ends;
}

module _ (old new : List (Option Entry)) (f : ℕ → ℕ) (tokens : (h : ℕ) → 0 < f h → tokens_at new h ≡ tokens_at old h) (places : (h : ℕ) → 0 < f h → places_at new h ≡ places_at old h) (held : (h : ℕ) → 0 < f h → IsHeld new h) where
  open_stands : (o : Option Reader) → ((h : ℕ) → open_holds o h ≤ f h) → IfSome o (λ r. IsAt old r) → IfSome o (λ r. IsAt new r)
  open_stands None less a = tt
  open_stands (Some r) less a =
      let one : 0 < f (number r) = omega (arith, less (number r), holds_itself (number r)) in
      at_same old new r (tokens (number r) one) (places (number r) one) (held (number r) one) a

  pub call_stands : (c : WholeCall) → ((h : ℕ) → call_holds c h ≤ f h) → IsCall old c → IsCall new c
  call_stands c less a =
      let one : 0 < f (number c.body) = omega (arith, less (number c.body), holds_itself (number c.body)) in
      record {
        body = at_same old new c.body (tokens (number c.body) one) (places (number c.body) one) (held (number c.body) one) a.body;
        argument = open_stands c.argument (λ h. omega (arith, less h)) a.argument;
        held = λ h some. held h (omega (arith, some, less h));
      }

-- HELD

none_hold : (cells : List (Option ListRef)) (h : ℕ) → ((i : ℕ) → 0 ≤ i → slice_index_or cells i None ≡ None) → cells_hold cells h ≡ 0
none_hold [] h free = refl
none_hold (c ∷ cells) h free =
    let e : c ≡ None = free zero (omega arith) in
    omega (arith, sum_by-cons (λ (x : Option ListRef). cell_holds x h) c cells, ap (λ (x : Option ListRef). cell_holds x h) e, none_hold cells h (λ i l. free (suc i) (omega arith)))

filled_cells : (cells : List (Option ListRef)) (n : ℕ) (h : ℕ) → ((i : ℕ) → n ≤ i → slice_index_or cells i None ≡ None) → cells_hold cells h ≡ cells_hold (take n cells) h
filled_cells cells zero h free = none_hold cells h free
filled_cells [] (suc n) h free = refl
filled_cells (c ∷ cells) (suc n) h free =
    omega (arith, sum_by-cons (λ (x : Option ListRef). cell_holds x h) c cells, sum_by-cons (λ (x : Option ListRef). cell_holds x h) c (take n cells), filled_cells cells n h (λ i l. free (suc i) (omega arith)))

-- all that the cells hold is what the arguments hold
pub filled_holds : (args : Args) (h : ℕ) → IsFilled args → args_hold args h ≡ arguments_hold args h
filled_holds args h filled = filled_cells args.lists args.count h filled.free

pub open_held : (table : List (Option Entry)) (o : Option Reader) → ((h : ℕ) → open_holds o h ≤ holders_at table h) → IfSome o (λ r. IsHeld table (number r))
open_held table None covers = tt
open_held table (Some r) covers = omega (arith, covers (number r), holds_itself (number r))

cells_numbers : (table : List (Option Entry)) (cells : List (Option ListRef)) (h : ℕ) → cells_hold cells h ≡ times h (numbers (map argument_list (map (argument_in table) cells)))
cells_numbers table [] h = refl
cells_numbers table (None ∷ cells) h = omega (arith, sum_by-cons (λ (c : Option ListRef). cell_holds c h) None cells, cells_numbers table cells h)
cells_numbers table (Some r ∷ cells) h =
    let ns = numbers (map argument_list (map (argument_in table) cells)) in
    omega (arith, sum_by-cons (λ (c : Option ListRef). cell_holds c h) (Some r) cells, cells_numbers table cells h, sum_by-cons (λ (n : ℕ). holds n h) (id_of r) ns)

open_numbers : (o : Option Reader) (cells : List (Option ℕ)) (h : ℕ) → times h (numbers (open_number o ∷ cells)) ≡ open_holds o h + times h (numbers cells)
open_numbers None cells h = omega arith
open_numbers (Some r) cells h = sum_by-cons (λ (n : ℕ). holds n h) (number r) (numbers cells)

-- a call holds the lists of its Put
pub call_lists : (table : List (Option Entry)) (c : WholeCall) (h : ℕ) → call_holds c h ≡ times h (lists_of (put_of_call table c))
call_lists table c h =
    let cells = map argument_list (cells_in table c.args) in
    omega (arith, sum_by-cons (λ (n : ℕ). holds n h) (number c.body) (numbers (open_number c.argument ∷ cells)), open_numbers c.argument cells h, cells_numbers table c.args h)
