-- What is finished goes.
use Rattle.std.proofs.Common.{◌≡◌, ℕ, ◌+◌, ◌<◌, List, [], ◌∷◌, length, map, Option, None, Bool, true, false, refl, sym, ap, ap₂, ◌∙◌, arith}
use Rattle.std.proofs.lemmas.List.Elements.{All-head, All-tail}
use Rattle.std.proofs.lemmas.List.Sums.{sum_by-cons}
use Rattle.tex_defs.specs.declared.Token.{Token}
use Rattle.token_lists.specs.Table.{Entry}
use Rattle.input_stack.specs.Puts.{Put, Item, Text, is_empty, without_ended, unless_ended, later_of, count_of, open_levels, open_levels_of, open_arguments, used, used_of, used_arguments, when_some}
use Rattle.input_stack.specs.WholeLevel.{WholeLevel}
use Rattle.input_stack.specs.WholeLevel as level
use Rattle.input_stack.specs.Rest.{number, rest}
use Rattle.input_stack.specs.Pending.{Pending, Below, with_puts, end_token_lists, levels, used_levels, arguments, used_parameters}
use Rattle.token_lists.specs.declared.ListRef.{ListRef}
use Rattle.input_stack.specs.Calls.{argument_list}
use Rattle.input_stack.specs.CallViews.{cells_in, put_of_call, IsSettled}
use Rattle.input_stack.specs.View.{pending_in, put_of, in_front, level_open, open_in, level_arguments, arguments_of}
use Rattle.input_stack.specs.Stacks.{IsUnfinished, AreUnfinished}

pub finished_goes : (p : Put) (xs : List Item) (below rest : List Put) → is_empty xs ≡ true → unless_ended p xs below rest ≡ below
finished_goes p [] below rest is = refl
finished_goes p (x ∷ xs) below rest is = cc

text_stays : (n : ℕ) (ts : List Token) (below rest : List Put) → 0 < length ts → unless_ended (record { list = n; body = false; arguments = []; reading = None; items = map Text ts }) (map Text ts) below rest ≡ record { list = n; body = false; arguments = []; reading = None; items = map Text ts } ∷ rest
text_stays n [] below rest some = absurd (omega arith)
text_stays n (t ∷ ts) below rest some = refl

settled_same : (p : Put) (xs : List Item) (below rest : List Put) → p.items ≡ xs → IsSettled p.reading xs → unless_ended p xs below rest ≡ p ∷ rest
settled_same p [] below rest at is = absurd is
settled_same p (x ∷ xs) below rest at is = ap₂ (λ (o : Option ℕ) (ys : List Item). record { list = p.list; body = p.body; arguments = p.arguments; reading = o; items = ys } ∷ rest) (sym is) (sym at)

settled_put : (p : Put) (q : Pending) → IsSettled p.reading p.items → end_token_lists (in_front p q) ≡ in_front p q
settled_put p q is = ap (λ (ps : List Put). with_puts ps q) (settled_same p p.items (without_ended q.puts) q.puts refl is)

-- an unfinished level on top stays
pub head_settle : (table : List (Option Entry)) (l : WholeLevel) (ls : List WholeLevel) → IsUnfinished table l → end_token_lists (pending_in table (l ∷ ls)) ≡ pending_in table (l ∷ ls)
head_settle table (level.List r) ls some =
    let q = pending_in table ls in
    ap (λ (ps : List Put). with_puts ps q) (text_stays (number r) (rest table r) (without_ended q.puts) q.puts some)
head_settle table (level.Call c) ls is = settled_put (put_of_call table c) (pending_in table ls) is
head_settle table (level.Source s) ls is = refl

settled_to : (p p' : Put) (xs : List Item) (below rest : List Put) → p'.list ≡ p.list → p'.body ≡ p.body → p'.arguments ≡ p.arguments → p'.items ≡ xs → IsSettled p'.reading xs → unless_ended p xs below rest ≡ p' ∷ rest
settled_to p p' [] below rest a k b at is = absurd is
settled_to p p' (x ∷ xs) below rest a k b at is =
    ap₂ (λ (n : ℕ) (ns : List (Option ℕ)). record { list = n; body = p.body; arguments = ns; reading = later_of x; items = x ∷ xs } ∷ rest) (sym a) (sym b)
    ∙ ap (λ (body : Bool). record { list = p'.list; body = body; arguments = p'.arguments; reading = later_of x; items = x ∷ xs } ∷ rest) (sym k)
    ∙ ap₂ (λ (o : Option ℕ) (ys : List Item). record { list = p'.list; body = p'.body; arguments = p'.arguments; reading = o; items = ys } ∷ rest) (sym is) (sym at)

-- a list on top whose argument's level goes
pub closed_settle : (p p' : Put) (q : Pending) → p'.list ≡ p.list → p'.body ≡ p.body → p'.arguments ≡ p.arguments → p'.items ≡ p.items → IsSettled p'.reading p.items → end_token_lists (in_front p q) ≡ in_front p' q
closed_settle p p' q a k b at is = ap (λ (ps : List Put). with_puts ps q) (settled_to p p' p.items (without_ended q.puts) q.puts a k b at is)

-- where nothing is finished on top, settling changes nothing
pub unfinished_settle : (table : List (Option Entry)) (ls : List WholeLevel) → AreUnfinished table ls → end_token_lists (pending_in table ls) ≡ pending_in table ls
unfinished_settle table [] a = refl
unfinished_settle table (l ∷ ls) a = head_settle table l ls (All-head (IsUnfinished table) l ls a)

pub open_cons : (l : WholeLevel) (ls : List WholeLevel) → open_in (l ∷ ls) ≡ level_open l + open_in ls
open_cons l ls = sum_by-cons level_open l ls

pub arguments_cons : (l : WholeLevel) (ls : List WholeLevel) → arguments_of (l ∷ ls) ≡ level_arguments l + arguments_of ls
arguments_cons l ls = sum_by-cons level_arguments l ls

-- each level is one, and so is each argument's level on a call
pub levels_are : (table : List (Option Entry)) (ls : List WholeLevel) → length ls + open_in ls ≡ levels (pending_in table ls)
levels_are table [] = refl
levels_are table (level.List r ∷ ls) =
    let q = pending_in table ls in
    omega (arith, levels_are table ls, open_cons (level.List r) ls, sum_by-cons open_levels_of (put_of table r) q.puts)
levels_are table (level.Call c ∷ ls) =
    let q = pending_in table ls in
    omega (arith, levels_are table ls, open_cons (level.Call c) ls, sum_by-cons open_levels_of (put_of_call table c) q.puts)
levels_are table (level.Source s ∷ ls) =
    let q = pending_in table ls in
    omega (arith, levels_are table ls, open_cons (level.Source s) ls, sum_by-cons (λ (b : Below). 1 + open_levels b.puts) (record { source = s; puts = q.puts }) q.sources)

text_used : (ts : List Token) → 0 < length ts → used_of (map Text ts) ≡ 1
text_used [] some = absurd (omega arith)
text_used (t ∷ ts) some = refl

settled_used : (reading : Option ℕ) (xs : List Item) → IsSettled reading xs → used_of xs ≡ 1 + count_of reading
settled_used reading [] is = absurd is
settled_used reading (x ∷ xs) is = omega (arith, ap count_of is)

-- and is used where it isn't finished
pub levels_used : (table : List (Option Entry)) (ls : List WholeLevel) → AreUnfinished table ls → length ls + open_in ls ≡ used_levels (pending_in table ls)
levels_used table [] a = refl
levels_used table (level.List r ∷ ls) a =
    let q = pending_in table ls in
    let some : 0 < length (rest table r) = All-head (IsUnfinished table) (level.List r) ls a in
    omega (arith, levels_used table ls (All-tail (IsUnfinished table) (level.List r) ls a), open_cons (level.List r) ls, text_used (rest table r) some, sum_by-cons (λ (p : Put). used_of p.items) (put_of table r) q.puts)
levels_used table (level.Call c ∷ ls) a =
    let q = pending_in table ls in
    let p = put_of_call table c in
    omega (arith, levels_used table ls (All-tail (IsUnfinished table) (level.Call c) ls a), open_cons (level.Call c) ls, settled_used p.reading p.items (All-head (IsUnfinished table) (level.Call c) ls a), sum_by-cons (λ (x : Put). used_of x.items) p q.puts)
levels_used table (level.Source s ∷ ls) a =
    let q = pending_in table ls in
    omega (arith, levels_used table ls (All-tail (IsUnfinished table) (level.Source s) ls a), open_cons (level.Source s) ls, sum_by-cons (λ (b : Below). 1 + used b.puts) (record { source = s; puts = q.puts }) q.sources)

top_used : (p : Put) (xs : List Item) (below rest : List Put) → used below ≡ used rest → used (unless_ended p xs below rest) ≡ used_of xs + used rest
top_used p [] below rest is = omega (arith, is)
top_used p (x ∷ xs) below rest is = sum_by-cons (λ (q : Put). used_of q.items) (record { list = p.list; body = p.body; arguments = p.arguments; reading = later_of x; items = x ∷ xs }) rest

used_settled : (ps : List Put) → used (without_ended ps) ≡ used ps
used_settled [] = refl
used_settled (p ∷ ps) = top_used p p.items (without_ended ps) ps (used_settled ps) ∙ sym (sum_by-cons (λ (q : Put). used_of q.items) p ps)

-- what settling takes away isn't used
pub used_settle : (p : Pending) → used_levels (end_token_lists p) ≡ used_levels p
used_settle p = omega (arith, used_settled p.puts)

-- ARGUMENTS

pub put_count : (table : List (Option Entry)) (cells : List (Option ListRef)) → length (map argument_list (cells_in table cells)) ≡ length cells
put_count table [] = refl
put_count table (c ∷ cells) = omega (arith, put_count table cells)

-- the arguments of all calls that stand
pub arguments_are : (table : List (Option Entry)) (ls : List WholeLevel) → arguments_of ls ≡ arguments (pending_in table ls)
arguments_are table [] = refl
arguments_are table (level.List r ∷ ls) =
    let q = pending_in table ls in
    omega (arith, arguments_are table ls, arguments_cons (level.List r) ls, sum_by-cons (λ (p : Put). length p.arguments) (put_of table r) q.puts)
arguments_are table (level.Call c ∷ ls) =
    let q = pending_in table ls in
    omega (arith, arguments_are table ls, arguments_cons (level.Call c) ls, put_count table c.args, sum_by-cons (λ (p : Put). length p.arguments) (put_of_call table c) q.puts)
arguments_are table (level.Source s ∷ ls) =
    let q = pending_in table ls in
    omega (arith, arguments_are table ls, arguments_cons (level.Source s) ls, sum_by-cons (λ (b : Below). open_arguments b.puts) (record { source = s; puts = q.puts }) q.sources)

settled_some : (reading : Option ℕ) (xs : List Item) (n : ℕ) → IsSettled reading xs → when_some xs n ≡ n
settled_some reading [] n is = absurd is
settled_some reading (x ∷ xs) n is = refl

none_when : (xs : List Item) → when_some xs 0 ≡ 0
none_when [] = refl
none_when (x ∷ xs) = refl

-- they are used where nothing is finished
pub arguments_used : (table : List (Option Entry)) (ls : List WholeLevel) → AreUnfinished table ls → arguments_of ls ≡ used_parameters (pending_in table ls)
arguments_used table [] u = refl
arguments_used table (level.List r ∷ ls) u =
    let q = pending_in table ls in
    omega (arith, arguments_used table ls (All-tail (IsUnfinished table) (level.List r) ls u), arguments_cons (level.List r) ls, none_when (map Text (rest table r)), sum_by-cons (λ (p : Put). when_some p.items (length p.arguments)) (put_of table r) q.puts)
arguments_used table (level.Call c ∷ ls) u =
    let q = pending_in table ls in
    let p = put_of_call table c in
    omega (arith, arguments_used table ls (All-tail (IsUnfinished table) (level.Call c) ls u), arguments_cons (level.Call c) ls, put_count table c.args, settled_some p.reading p.items (length p.arguments) (All-head (IsUnfinished table) (level.Call c) ls u), sum_by-cons (λ (x : Put). when_some x.items (length x.arguments)) p q.puts)
arguments_used table (level.Source s ∷ ls) u =
    let q = pending_in table ls in
    omega (arith, arguments_used table ls (All-tail (IsUnfinished table) (level.Source s) ls u), arguments_cons (level.Source s) ls, sum_by-cons (λ (b : Below). used_arguments b.puts) (record { source = s; puts = q.puts }) q.sources)

top_arguments : (p : Put) (xs : List Item) (below rest : List Put) → used_arguments below ≡ used_arguments rest → used_arguments (unless_ended p xs below rest) ≡ when_some xs (length p.arguments) + used_arguments rest
top_arguments p [] below rest is = omega (arith, is)
top_arguments p (x ∷ xs) below rest is = sum_by-cons (λ (q : Put). when_some q.items (length q.arguments)) (record { list = p.list; body = p.body; arguments = p.arguments; reading = later_of x; items = x ∷ xs }) rest

arguments_settled : (ps : List Put) → used_arguments (without_ended ps) ≡ used_arguments ps
arguments_settled [] = refl
arguments_settled (p ∷ ps) = top_arguments p p.items (without_ended ps) ps (arguments_settled ps) ∙ sym (sum_by-cons (λ (q : Put). when_some q.items (length q.arguments)) p ps)

pub parameters_settle : (p : Pending) → used_parameters (end_token_lists p) ≡ used_parameters p
parameters_settle p = omega (arith, arguments_settled p.puts)
