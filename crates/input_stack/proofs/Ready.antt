-- What comes next, level by level.
use Rattle.std.proofs.Common.{zero, suc, ◌≡◌, ℕ, ◌+◌, ◌-◌, ◌<◌, ◌≤◌, List, [], ◌∷◌, ◌++◌, length, reverse, take, drop, get_or, Option, None, Some, false, refl, sym, ap, ap₂, ◌∙◌, subst, arith, add-one}
use Rattle.std.specs.Prelude.{All}
use Rattle.std.proofs.lemmas.List.{reverse-append, length-take-le, drop-take, take_all}
use Rattle.std.proofs.lemmas.List.Elements.{All-head, All-tail}
use Rattle.std.proofs.lemmas.Option.{none-some, same_Some}
use Rattle.std.proofs.Math.Seq.{take-suc}
use Rattle.tex_defs.specs.declared.Token.{Token}
use Rattle.token_lists.specs.Table.{Entry}
use Rattle.token_lists.specs.declared.ListRef.{ListRef}
use Rattle.input_stack.specs.declared.level.Level.{Level}
use Rattle.input_stack.specs.declared.stack.InputStack.{InputStack}
use Rattle.input_stack.specs.Wholes.{level_count, count_in, whole, own, beneath, wholes}
use Rattle.input_stack.specs.WholeLevel.{WholeLevel}
use Rattle.input_stack.specs.WholeLevel as level
use Rattle.input_stack.specs.Rest.{rest, number}
use Rattle.input_stack.specs.Pending.{Pending, Below, plain_put}
use Rattle.line_lexer.specs.declared.Ahead.{Ahead}
use Rattle.line_lexer.specs.declared.Ahead.TheVariants as ahead
use Rattle.input_stack.specs.Puts.{Item, Put, next_item, first, without_gaps, flat}
use Rattle.input_stack.specs.CallViews.{put_of_call, met, is_opening}
use Rattle.input_stack.proofs.Gaps.{first_item, gaps_first, gaps_none}
use Rattle.input_stack.specs.Pulls.{looks, item_looks, IsInBuffer}
use Rattle.input_stack.specs.Levels.{level_looks, when_left, when_met, IsLevelInBuffer}
use Rattle.input_stack.specs.View.{innermost, pending, pending_in, in_front}
use Rattle.input_stack.specs.Stacks.{IsLevel, Fits}
use Rattle.input_stack.proofs.Wholes.{count_cons}

take_top : (ls : List Level) (n : ℕ) (l : Level) → n ≤ length ls → 0 < n → l ≡ get_or ls (n - 1) l → reverse (take n ls) ≡ l ∷ reverse (take (n - 1) ls)
take_top ls n l within some at =
    let i = n - 1 in
    let e : n ≡ i + 1 = omega (arith, some) in
    let more : take n ls ≡ take i ls ++ get_or ls i l ∷ [] = ap (λ (k : ℕ). take k ls) (e ∙ add-one i) ∙ take-suc ls i l (omega (arith, within, some)) in
    ap reverse more ∙ reverse-append (take i ls) (get_or ls i l ∷ []) ∙ ap (λ (x : Level). x ∷ reverse (take i ls)) (sym at)

-- THE LEVELS BENEATH

-- the last levels have gone by, and of the arguments so many are left
abbrev pub left : InputStack → ℕ → ℕ → List WholeLevel
left s n count = wholes (take count s.arguments.items) (reverse (take n s.levels.items))

abbrev pub AreLeft : InputStack → ℕ → ℕ → Type 0
AreLeft s n count = (n ≤ length s.levels.items) × (count ≤ length s.arguments.items) × (count ≡ count_in (reverse (take n s.levels.items)))

take_take : (k n : ℕ) (cells : List (Option ListRef)) → k ≤ n → take k (take n cells) ≡ take k cells
take_take zero n cells l = refl
take_take (suc k) zero cells l = absurd (omega (arith, l))
take_take (suc k) (suc n) [] l = refl
take_take (suc k) (suc n) (c ∷ cells) l = ap (λ (xs : List (Option ListRef)). c ∷ xs) (take_take k n cells (omega (arith, l)))

pub every_left : (s : InputStack) (n count : ℕ) → n ≡ length s.levels.items → count ≡ length s.arguments.items → Fits s → AreLeft s n count
every_left s n count a b f = (omega (arith, a), omega (arith, b), b ∙ f.counts ∙ ap (λ (ls : List Level). count_in (reverse ls)) (sym (take_all n s.levels.items (omega (arith, a)))))

pub left_every : (s : InputStack) (n count : ℕ) → n ≡ length s.levels.items → count ≡ length s.arguments.items → left s n count ≡ innermost s
left_every s n count a b = ap₂ wholes (take_all count s.arguments.items (omega (arith, b))) (ap reverse (take_all n s.levels.items (omega (arith, a))))

module _ (s : InputStack) (n count : ℕ) (l : Level) (k : AreLeft s n count) (some : 0 < n) (at : l ≡ get_or s.levels.items (n - 1) l) where
  raw : reverse (take n s.levels.items) ≡ l ∷ reverse (take (n - 1) s.levels.items)
  raw = take_top s.levels.items n l k.0 some at

  counts : count ≡ level_count l + count_in (reverse (take (n - 1) s.levels.items))
  counts = k.2 ∙ ap count_in raw ∙ count_cons l (reverse (take (n - 1) s.levels.items))

  pub within_left : level_count l ≤ count
  within_left = omega (arith, counts)

  pub next_left : (first : ℕ) → first ≡ count - level_count l → AreLeft s (n - 1) first
  next_left first is = (omega (arith, k.0), omega (arith, is, k.1), omega (arith, is, counts))

  module _ (first : ℕ) (is : first ≡ count - level_count l) (args : List (Option ListRef)) (own_is : args ≡ take (count - first) (drop first s.arguments.items)) where
    cells : List (Option ListRef)
    cells = take count s.arguments.items

    len : length (take count s.arguments.items) ≡ count
    len = length-take-le count s.arguments.items k.1

    mine : own (take count s.arguments.items) l ≡ args
    mine =
        let e : length (take count s.arguments.items) - level_count l ≡ first = omega (arith, len, is) in
        let f : count ≡ first + (count - first) = omega (arith, is) in
        ap (λ (i : ℕ). drop i (take count s.arguments.items)) e
        ∙ ap (λ (i : ℕ). drop first (take i s.arguments.items)) f
        ∙ drop-take first (count - first) s.arguments.items
        ∙ sym own_is

    below : beneath (take count s.arguments.items) l ≡ take first s.arguments.items
    below =
        let e : length (take count s.arguments.items) - level_count l ≡ first = omega (arith, len, is) in
        ap (λ (i : ℕ). take i (take count s.arguments.items)) e ∙ take_take first count s.arguments.items (omega (arith, is))

    pub top_left : left s n count ≡ whole args l ∷ left s (n - 1) first
    top_left = ap (wholes (take count s.arguments.items)) raw ∙ ap₂ (λ (xs ys : List (Option ListRef)). whole xs l ∷ wholes ys (reverse (take (n - 1) s.levels.items))) mine below

items_some : (c b : List ℕ) (bs : List Below) (xs ys : List Item) (r : Ahead) → when_met (first xs) ≡ Some r → r ≡ item_looks c b bs (first_item xs ys)
items_some c b bs [] ys r is = absurd (none-some r is)
items_some c b bs (x ∷ xs) ys r is = sym (same_Some _ _ is)

items_none : (xs : List Item) → when_met (first xs) ≡ None → xs ≡ []
items_none [] is = refl
items_none (x ∷ xs) is = absurd (none-some _ (sym is))

list_some : (c b : List ℕ) (n : ℕ) (ts : List Token) (q : Pending) (r : Ahead) → when_left ts ≡ Some r → r ≡ looks c b (in_front (plain_put n ts) q)
list_some c b n [] q r is = absurd (none-some r is)
list_some c b n (t ∷ ts) q r is = sym (same_Some _ _ is)

list_none : (c b : List ℕ) (n : ℕ) (ts : List Token) (q : Pending) → when_left ts ≡ None → looks c b q ≡ looks c b (in_front (plain_put n ts) q)
list_none c b n [] q is = refl
list_none c b n (t ∷ ts) q is = absurd (none-some _ (sym is))

call_some : (c b : List ℕ) (p : Put) (q : Pending) (r : Ahead) → when_met (first (without_gaps p.items)) ≡ Some r → r ≡ looks c b (in_front p q)
call_some c b p q r is = items_some c b q.sources (without_gaps p.items) (flat q.puts) r is ∙ ap (item_looks c b q.sources) (sym (gaps_first p.items (flat q.puts)))

call_none : (c b : List ℕ) (p : Put) (q : Pending) → when_met (first (without_gaps p.items)) ≡ None → looks c b q ≡ looks c b (in_front p q)
call_none c b p q is = ap (λ (xs : List Item). item_looks c b q.sources (first xs)) (sym (gaps_none p.items (flat q.puts) (items_none (without_gaps p.items) is)))

level_some : (table : List (Option Entry)) (c b : List ℕ) (l : WholeLevel) (ls : List WholeLevel) (r : Ahead) → level_looks table c b l ≡ Some r → r ≡ looks c b (pending_in table (l ∷ ls))
level_some table c b (level.List x) ls r is = list_some c b (number x) (rest table x) (pending_in table ls) r is
level_some table c b (level.Call x) ls r is = call_some c b (put_of_call table x) (pending_in table ls) r is
level_some table c b (level.Source s) ls r is = sym (same_Some _ _ is)

level_none : (table : List (Option Entry)) (c b : List ℕ) (l : WholeLevel) (ls : List WholeLevel) → level_looks table c b l ≡ None → looks c b (pending_in table ls) ≡ looks c b (pending_in table (l ∷ ls))
level_none table c b (level.List x) ls is = list_none c b (number x) (rest table x) (pending_in table ls) is
level_none table c b (level.Call x) ls is = call_none c b (put_of_call table x) (pending_in table ls) is
level_none table c b (level.Source s) ls is = absurd (none-some _ (sym is))

under_in_buffer : (table : List (Option Entry)) (c b : List ℕ) (l : WholeLevel) (ls : List WholeLevel) (n : ℕ) → level_looks table c b l ≡ None → IsInBuffer (pending_in table (l ∷ ls)).sources n → IsInBuffer (pending_in table ls).sources n
under_in_buffer table c b (level.List x) ls n is h = h
under_in_buffer table c b (level.Call x) ls n is h = h
under_in_buffer table c b (level.Source s) ls n is h = absurd (none-some _ (sym is))

at_in_buffer : (table : List (Option Entry)) (l : WholeLevel) (ls : List WholeLevel) (n : ℕ) → IsInBuffer (pending_in table (l ∷ ls)).sources n → IsLevelInBuffer l n
at_in_buffer table (level.List x) ls n h = tt
at_in_buffer table (level.Call x) ls n h = tt
at_in_buffer table (level.Source s) ls n h = h

pub ready_some : (table : List (Option Entry)) (c b : List ℕ) (l : WholeLevel) (xs ls : List WholeLevel) (o : Option Ahead) (r : Ahead) → xs ≡ l ∷ ls → o ≡ level_looks table c b l → o ≡ Some r → r ≡ looks c b (pending_in table xs)
ready_some table c b l xs ls o r is at some = level_some table c b l ls r (sym at ∙ some) ∙ ap (λ (ys : List WholeLevel). looks c b (pending_in table ys)) (sym is)

pub ready_none : (table : List (Option Entry)) (c b : List ℕ) (l : WholeLevel) (xs ls : List WholeLevel) (o : Option Ahead) → xs ≡ l ∷ ls → o ≡ level_looks table c b l → o ≡ None → looks c b (pending_in table ls) ≡ looks c b (pending_in table xs)
ready_none table c b l xs ls o is at none = level_none table c b l ls (sym at ∙ none) ∙ ap (λ (ys : List WholeLevel). looks c b (pending_in table ys)) (sym is)

pub ready_level : (table : List (Option Entry)) (l : WholeLevel) (xs ls : List WholeLevel) → xs ≡ l ∷ ls → All (IsLevel table) xs → IsLevel table l
ready_level table l xs ls is a = All-head (IsLevel table) l ls (subst (λ (ys : List WholeLevel). All (IsLevel table) ys) is a)

pub ready_under : (table : List (Option Entry)) (l : WholeLevel) (xs ls : List WholeLevel) → xs ≡ l ∷ ls → All (IsLevel table) xs → All (IsLevel table) ls
ready_under table l xs ls is a = All-tail (IsLevel table) l ls (subst (λ (ys : List WholeLevel). All (IsLevel table) ys) is a)

pub ready_in_buffer : (table : List (Option Entry)) (l : WholeLevel) (xs ls : List WholeLevel) (n : ℕ) → xs ≡ l ∷ ls → IsInBuffer (pending_in table xs).sources n → IsLevelInBuffer l n
ready_in_buffer table l xs ls n is h = at_in_buffer table l ls n (subst (λ (ys : List WholeLevel). IsInBuffer (pending_in table ys).sources n) is h)

pub ready_under_buffer : (table : List (Option Entry)) (c b : List ℕ) (l : WholeLevel) (xs ls : List WholeLevel) (o : Option Ahead) (n : ℕ) → xs ≡ l ∷ ls → o ≡ level_looks table c b l → o ≡ None → IsInBuffer (pending_in table xs).sources n → IsInBuffer (pending_in table ls).sources n
ready_under_buffer table c b l xs ls o n is at none h = under_in_buffer table c b l ls n (sym at ∙ none) (subst (λ (ys : List WholeLevel). IsInBuffer (pending_in table ys).sources n) is h)

-- where no level is left, nothing is
none_left : (s : InputStack) (n count : ℕ) → n ≡ 0 → left s n count ≡ []
none_left s n count is = ap (λ (i : ℕ). wholes (take count s.arguments.items) (reverse (take i s.levels.items))) is

pub none_opens : (s : InputStack) (table : List (Option Entry)) (n count : ℕ) → n ≡ 0 → next_item (pending_in table (left s n count)).puts ≡ next_item (pending table s).puts → false ≡ is_opening (met (next_item (pending table s).puts))
none_opens s table n count is at = ap (λ (ls : List WholeLevel). is_opening (met (next_item (pending_in table ls).puts))) (sym (none_left s n count is)) ∙ ap (λ (o : Option Item). is_opening (met o)) at

pub none_looks : (s : InputStack) (table : List (Option Entry)) (c b : List ℕ) (n count : ℕ) → n ≡ 0 → looks c b (pending_in table (left s n count)) ≡ looks c b (pending table s) → ahead.End ≡ looks c b (pending table s)
none_looks s table c b n count is at = ap (λ (ls : List WholeLevel). looks c b (pending_in table ls)) (sym (none_left s n count is)) ∙ at
