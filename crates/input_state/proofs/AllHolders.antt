-- The holders of all lists, by their numbers.
use Rattle.std.proofs.Common.{◌≡◌, ℕ, ◌+◌, ◌<◌, ◌≤◌, List, [], ◌∷◌, ◌++◌, length, map, reverse, drop, Option, None, Some, refl, sym, ap, ap₂, ◌∙◌, subst, arith}
use Rattle.std.specs.Prelude.{Bool, true, false, option_to_list, IfSome}
use Rattle.std.specs.List.{AllZip, filter_map, flat_map, cons_option}
use Rattle.std.proofs.lemmas.List.{map-append}
use Rattle.std.proofs.lemmas.List.Elements.{All-head, All-tail}
use Rattle.tex_defs.specs.declared.Token.{Token}
use Rattle.plain_tokens.specs.Puts as plain
use Rattle.plain_tokens.specs.Puts.{list_of_tokens}
use Rattle.token_lists.specs.declared.Build.{Build}
use Rattle.token_lists.specs.Ids.{build_id}
use Rattle.token_lists.specs.Table.{Entry, tokens_at}
use Rattle.equivalents.specs.Holding.{lists_held}
use Rattle.input_stack.specs.Puts.{Put, Item, Text, First, Later, Gap, numbers, count_of, used_of}
use Rattle.input_stack.specs.Pending.{times}
use Rattle.input_stack.specs.Calls.{Argument, substituted}
use Rattle.input_stack.specs.CallViews.{IsSettled, cells_in, open_items, open_number, put_of_call}
use Rattle.input_stack.specs.Rest.{rest}
use Rattle.input_stack.specs.View.{pending, pending_in, innermost, put_of}
use Rattle.input_stack.specs.Stacks.{AreUnfinished, AreUnfinishedBelow, IsUnfinished}
use Rattle.input_stack.specs.WholeLevel.{WholeLevel}
use Rattle.input_stack.specs.WholeLevel as level
use Rattle.input_stack.specs.declared.reader.Reader.{Reader}
use Rattle.input_stack.specs.declared.stack.InputStack.{InputStack}
use Rattle.input_stack.proofs.CallPulled.{body_closed}
use Rattle.input_stack.proofs.Kept.{holds_itself}
use Rattle.input_state.specs.Callings.{call_lists}
use Rattle.input_state.specs.Counted.{own_list, macro_of, Numbers, AreListsOf, HasNoMoreLevels, shared_numbers, own_numbers, reading_numbers, HaveHolders}
use Rattle.input_state.specs.HeldViews.{Named, call_holds, calling_of, whole_of, argument_text, front, fronts, text, made_text, IsOf, IsFront, AreFronts, cells_of, own_of, owns, body_of, bodies, opens, puts_in, all_builds, built, IsShared, IsCall}
use Rattle.input_state.proofs.Counting.{times_cons, times_append}
use Rattle.input_state.proofs.Fronts.{used_items}
use Rattle.input_state.proofs.Shares.{held_parts}
use Rattle.input_state.proofs.Sharing.{built_append}
use Rattle.input_state.proofs.CallNumbers.{one_list, call_numbers, call_times, call_shown}
use Rattle.input_state.proofs.Words.{build_times}
use Rattle.input_state.proofs.Sources.{all_fronts, fronts_in}

-- A LIST IN FRONT

abbrev numbers_of : Put → Numbers
numbers_of p = record { own = own_of p.body p.list []; arguments = numbers p.arguments; reading = p.reading }

own_shown : (table : List (Option Entry)) (b : Bool) (n : ℕ) → map (tokens_at table) (own_of b n []) ≡ own_list (whole_of b n (tokens_at table n))
own_shown table true n = refl
own_shown table false n = refl

arguments_shown : (table : List (Option Entry)) (cells : List (Option ℕ)) → ((h : ℕ) → 0 < times h (numbers cells) → 0 < length (tokens_at table h)) → map (tokens_at table) (numbers cells) ≡ flat_map list_of_tokens (map (argument_text table) cells)
arguments_shown table [] listed = refl
arguments_shown table (None ∷ cells) listed = arguments_shown table cells listed
arguments_shown table (Some n ∷ cells) listed =
    let here = one_list (tokens_at table n) (listed n (omega (arith, times_cons n n (numbers cells), holds_itself n))) in
    let more = arguments_shown table cells (λ h some. listed h (omega (arith, some, times_cons h n (numbers cells)))) in
    ap₂ (λ (us vs : List (List Token)). us ++ vs) (sym here) more

reading_is : (cells : List (Option ℕ)) (o : Option ℕ) → IsOf cells o → IfSome o (λ h. 0 < times h (numbers cells))
reading_is cells None is = tt
reading_is cells (Some n) is = is

put_shown : (table : List (Option Entry)) (p : Put) → IsFront p → ((h : ℕ) → 0 < times h (numbers p.arguments) → 0 < length (tokens_at table h)) → used_of p.items ≤ 1 + count_of p.reading → AreListsOf table (front table p) (numbers_of p)
put_shown table p is listed levels = record {
  own = own_shown table p.body p.list;
  arguments = arguments_shown table p.arguments listed;
  reading = reading_is p.arguments p.reading is.reading;
  levels = omega (arith, levels, used_items p.items);
}

-- LEVELS

text_used : (ts : List Token) → used_of (map Text ts) ≤ 1
text_used [] = omega arith
text_used (t ∷ ts) = omega arith

closed_used : (xs : List Item) → ((n : ℕ) → IsSettled (Some n) xs → ⊥) → used_of xs ≤ 1
closed_used [] closed = omega arith
closed_used (Text t ∷ xs) closed = omega arith
closed_used (First n t ∷ xs) closed = omega arith
closed_used (Later n t ∷ xs) closed = absurd (closed n refl)
closed_used (Gap ∷ xs) closed = omega arith

few_used : (xs : List Item) → used_of xs ≤ 2
few_used [] = omega arith
few_used (Text t ∷ xs) = omega arith
few_used (First n t ∷ xs) = omega arith
few_used (Later n t ∷ xs) = omega arith
few_used (Gap ∷ xs) = omega arith

call_used : (table : List (Option Entry)) (args : List (Option Argument)) (ts : List Token) (o : Option Reader) → used_of (open_items table o ++ substituted args ts) ≤ 1 + count_of (open_number o)
call_used table args ts None = closed_used (substituted args ts) (body_closed args ts)
call_used table args ts (Some r) = few_used (open_items table (Some r) ++ substituted args ts)

some_text : (ts : List Token) → 0 < length ts → used_of (map Text ts) ≡ 1
some_text [] some = absurd (omega (arith, some))
some_text (t ∷ ts) some = refl

settled_used : (reading : Option ℕ) (xs : List Item) → IsSettled reading xs → used_of xs ≡ 1 + count_of reading
settled_used reading [] is = absurd is
settled_used reading (x ∷ xs) is = omega (arith, ap count_of is)

module _ (table : List (Option Entry)) where
  -- all lists in front, where these levels stand
  abbrev puts_of : List WholeLevel → List Put
  puts_of ls = puts_in (pending_in table ls)

  shown : (ls : List WholeLevel) → AreFronts (puts_of ls) → ((h : ℕ) → 0 < times h (cells_of (puts_of ls)) → 0 < length (tokens_at table h)) → AllZip (AreListsOf table) (fronts table (puts_of ls)) (map numbers_of (puts_of ls))
  shown [] is listed = tt
  shown (level.List r ∷ ls) is listed = (put_shown table (put_of table r) is.0 (λ h some. listed h (omega (arith, some))) (text_used (rest table r)), shown ls is.1 listed)
  shown (level.Call c ∷ ls) is listed =
      let p = put_of_call table c in
      let parts = λ (h : ℕ). times_append h (numbers p.arguments) (cells_of (puts_of ls)) in (
        put_shown table p is.0 (λ h some. listed h (omega (arith, some, parts h))) (call_used table (cells_in table c.args) (rest table c.body) c.argument),
        shown ls is.1 (λ h some. listed h (omega (arith, some, parts h))),
      )
  shown (level.Source s ∷ ls) is listed = shown ls is listed

  unfinished : (ls : List WholeLevel) → AreUnfinished table ls → AllZip HasNoMoreLevels (fronts table (puts_of ls)) (map numbers_of (puts_of ls))
  unfinished [] all = tt
  unfinished (level.List r ∷ ls) all =
      let some : 0 < length (rest table r) = All-head (IsUnfinished table) (level.List r) ls all in
      (omega (arith, used_items (map Text (rest table r)), some_text (rest table r) some), unfinished ls (All-tail (IsUnfinished table) (level.List r) ls all))
  unfinished (level.Call c ∷ ls) all =
      let p = put_of_call table c in
      (omega (arith, used_items p.items, settled_used p.reading p.items (All-head (IsUnfinished table) (level.Call c) ls all)), unfinished ls (All-tail (IsUnfinished table) (level.Call c) ls all))
  unfinished (level.Source s ∷ ls) all = unfinished ls (All-tail (IsUnfinished table) (level.Source s) ls all)

  behind_first : (ps : List plain.Put) (ns : List Numbers) → AllZip HasNoMoreLevels ps ns → AllZip HasNoMoreLevels (drop 1 ps) (drop 1 ns)
  behind_first [] [] all = tt
  behind_first (p ∷ ps) (n ∷ ns) all = all.1
  behind_first [] (n ∷ ns) all = absurd all
  behind_first (p ∷ ps) [] all = absurd all

  beneath : (ls : List WholeLevel) → AreUnfinishedBelow table ls → AllZip HasNoMoreLevels (drop 1 (fronts table (puts_of ls))) (drop 1 (map numbers_of (puts_of ls)))
  beneath [] below = tt
  beneath (level.List r ∷ ls) below = unfinished ls below
  beneath (level.Call c ∷ ls) below = unfinished ls below
  beneath (level.Source s ∷ ls) below = behind_first (fronts table (puts_of ls)) (map numbers_of (puts_of ls)) (unfinished ls below)

-- NUMBERS

own_parts : (b : Bool) (n : ℕ) (ns : List ℕ) → own_of b n [] ++ ns ≡ own_of b n ns
own_parts true n ns = refl
own_parts false n ns = refl

owns_are : (ps : List Put) → flat_map (λ (n : Numbers). n.own ++ n.arguments) (map numbers_of ps) ≡ owns ps
owns_are [] = refl
owns_are (p ∷ ps) = ap₂ (λ (ms ns : List ℕ). ms ++ ns) (own_parts p.body p.list (numbers p.arguments)) (owns_are ps)

reading_first : (o : Option ℕ) (ns : List ℕ) → cons_option o ns ≡ numbers (o ∷ []) ++ ns
reading_first None ns = refl
reading_first (Some n) ns = refl

opens_are : (ps : List Put) → reading_numbers (map numbers_of ps) ≡ opens ps
opens_are [] = refl
opens_are (p ∷ ps) = reading_first p.reading (reading_numbers (map numbers_of ps)) ∙ ap (λ (ns : List ℕ). numbers (p.reading ∷ []) ++ ns) (opens_are ps)

body_first : (b : Bool) (n : ℕ) (ts : List Token) (ns : List ℕ) → cons_option (macro_of (whole_of b n ts)) ns ≡ body_of b n ++ ns
body_first true n ts ns = refl
body_first false n ts ns = refl

bodies_are : (table : List (Option Entry)) (ps : List Put) → filter_map (λ (p : plain.Put). macro_of p.list) (fronts table ps) ≡ bodies ps
bodies_are table [] = refl
bodies_are table (p ∷ ps) =
    body_first p.body p.list (tokens_at table p.list) (filter_map (λ (q : plain.Put). macro_of q.list) (fronts table ps))
    ∙ ap (λ (ns : List ℕ). body_of p.body p.list ++ ns) (bodies_are table ps)

shared_are : (table : List (Option Entry)) (held : List ℕ) (ps : List Put) (h : ℕ) → times h (shared_numbers held (fronts table ps)) ≡ times h held + times h (bodies ps)
shared_are table held ps h = omega (arith, times_append h held (filter_map (λ (p : plain.Put). macro_of p.list) (fronts table ps)), ap (times h) (bodies_are table ps))

-- THE REST

builds_shown : (table : List (Option Entry)) (bs : List Build) → map (tokens_at table) (map build_id bs) ≡ map (text table) bs
builds_shown table [] = refl
builds_shown table (b ∷ bs) = ap (λ (ts : List (List Token)). text table b ∷ ts) (builds_shown table bs)

made_shown : (table : List (Option Entry)) (making : Option Build) → map (tokens_at table) (map build_id (option_to_list making)) ≡ option_to_list (made_text table making)
made_shown table None = refl
made_shown table (Some b) = refl

pub holders_are : (table : List (Option Entry)) (stack : InputStack) (making : Option Build) (gathered : List Build) (m : Named) → IsShared table stack (all_builds making gathered) m → IsCall table m.table m.call →
    HaveHolders table (lists_held m.table.groups) (all_fronts table (pending table stack)) (option_to_list (made_text table making) ++ (call_lists (calling_of table m.call) ++ map (text table) (reverse gathered)))
holders_are table stack making gathered m shared is =
    let ps = puts_in (pending table stack) in
    let ls = innermost stack in
    let made = map build_id (option_to_list making) in
    let built_up = map build_id (reverse gathered) in
    let others = made ++ (call_numbers m.call ++ built_up) in
    let ns = map numbers_of ps in
    let rest_are : (h : ℕ) → times h others ≡ built (all_builds making gathered) h + call_holds m.call h =
    λ h.
    omega (arith, times_append h made (call_numbers m.call ++ built_up), times_append h (call_numbers m.call) built_up, call_times table m.table m.call h is, build_times (option_to_list making) h, build_times (reverse gathered) h, built_append (option_to_list making) (reverse gathered) h) in
    let own_are : (h : ℕ) → times h (own_numbers ns others) ≡ times h (owns ps) + (built (all_builds making gathered) h + call_holds m.call h) =
    λ h. omega (arith, times_append h (flat_map (λ (n : Numbers). n.own ++ n.arguments) ns) others, ap (times h) (owns_are ps), rest_are h) in
    let all_lists = shared_numbers (lists_held m.table.groups) (fronts table ps) in
    let others_are = option_to_list (made_text table making) ++ (call_lists (calling_of table m.call) ++ map (text table) (reverse gathered)) in
    subst (λ (qs : List plain.Put). HaveHolders table (lists_held m.table.groups) qs others_are) (fronts_in table (pending table stack))
    (record {
      fronts = ns;
      rest = others;
      in_front = shown table ls shared.fronts shared.listed;
      beneath = beneath table ls shared.stands.read.below;
      elsewhere =
          map-append (tokens_at table) made (call_numbers m.call ++ built_up)
          ∙ ap₂ (λ (us vs : List (List Token)). us ++ vs) (made_shown table making)
          (map-append (tokens_at table) (call_numbers m.call) built_up ∙ ap₂ (λ (us vs : List (List Token)). us ++ vs) (call_shown table m.table m.call is) (builds_shown table (reverse gathered)));
      counts = λ h.
          omega (arith, shared.counted h, held_parts table stack h, times_append h all_lists (own_numbers ns others ++ reading_numbers ns), times_append h (own_numbers ns others) (reading_numbers ns), shared_are table (lists_held m.table.groups) ps h, own_are h, ap (times h) (opens_are ps));
      sole = λ h some.
          let all = own_are h in
          let none = shared.apart.apart h (omega (arith, some, all)) in
          omega (arith, times_append h all_lists (own_numbers ns others), shared_are table (lists_held m.table.groups) ps h, all, some, none, shared.apart.sole h);
    })
