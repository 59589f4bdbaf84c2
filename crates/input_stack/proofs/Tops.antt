-- The level on top.
use Rattle.std.proofs.Common.{◌≡◌, ℕ, ◌+◌, ◌^◌, ◌<◌, ◌≤◌, List, [], ◌∷◌, length, map, reverse, drop, Option, Bool, true, false, refl, sym, ap, ◌∙◌, subst, arith, vec_capacity}
use Rattle.std.specs.Prelude.{All, IsTrue}
use Rattle.std.proofs.lemmas.List.Sums.{sum_by-cons}
use Rattle.std.proofs.lemmas.List.Elements.{All-head, All-nil}
use Rattle.tex_defs.specs.declared.Token.{Token}
use Rattle.token_lists.specs.Table.{Entry, holders_at}
use Rattle.token_lists.specs.Accounts.{none, Moves, Keeps}
use Rattle.input_stack.specs.Puts.{Put, Item, Text, is_empty, is_finished, without_ended, when_some, used_arguments}
use Rattle.input_stack.specs.WholeLevel.{WholeLevel}
use Rattle.input_stack.specs.WholeLevel as level
use Rattle.input_stack.specs.declared.stack.InputStack.{InputStack}
use Rattle.input_stack.specs.Pending.{Pending, Below, end_token_lists, with_puts, without_top, used_parameters}
use Rattle.input_stack.specs.Rest.{rest}
use Rattle.input_stack.specs.CallViews.{put_of_call}
use Rattle.input_stack.specs.Levels.{is_level_finished, is_level_passed, is_top_passed}
use Rattle.input_stack.specs.View.{pending_in, put_of, innermost, held_in, level_holds, level_open, open_in, arguments_of}
use Rattle.input_stack.specs.Stacks.{IsLevel, AreUnfinished, AreRead, Fits, IsSized, IsStack}
use Rattle.input_stack.specs.declared.level.Level.{Level}
use Rattle.input_stack.specs.Wholes.{count_in, wholes}
use Rattle.input_stack.proofs.Wholes.{levels_count}
use Rattle.input_stack.proofs.Kept.{beneath_read, held_cons}
use Rattle.input_stack.proofs.ListsEnded.{finished_goes, open_cons, arguments_cons, arguments_used, put_count}

pub top_level : (table : List (Option Entry)) (xs ls : List WholeLevel) (l : WholeLevel) → xs ≡ l ∷ ls → AreRead table xs → IsLevel table l
top_level table xs ls l is a = All-head (IsLevel table) l ls (subst (λ (ys : List WholeLevel). All (IsLevel table) ys) is a.levels)

level_finished : (table : List (Option Entry)) (l : WholeLevel) (ls : List WholeLevel) → is_level_finished table l ≡ is_finished (pending_in table (l ∷ ls)).puts
level_finished table (level.List r) ls = refl
level_finished table (level.Call c) ls = refl
level_finished table (level.Source s) ls = refl

pub top_finished : (table : List (Option Entry)) (xs ls : List WholeLevel) (l : WholeLevel) (b : Bool) → xs ≡ l ∷ ls → b ≡ is_level_finished table l → b ≡ is_finished (pending_in table xs).puts
top_finished table xs ls l b is at = at ∙ level_finished table l ls ∙ ap (λ (ys : List WholeLevel). is_finished (pending_in table ys).puts) (sym is)

pub top_passed : (table : List (Option Entry)) (xs ls : List WholeLevel) (l : WholeLevel) (b : Bool) → xs ≡ l ∷ ls → b ≡ is_level_passed table l → b ≡ is_top_passed table xs
top_passed table xs ls l b is at = at ∙ ap (is_top_passed table) (sym is)

pub no_levels : (xs : List WholeLevel) → length xs ≡ 0 → xs ≡ []
no_levels [] is = refl
no_levels (x ∷ xs) is = absurd (omega (arith, is))

pub none_finished : (table : List (Option Entry)) (xs : List WholeLevel) → length xs ≡ 0 → false ≡ is_finished (pending_in table xs).puts
none_finished table xs none = ap (λ (ys : List WholeLevel). is_finished (pending_in table ys).puts) (sym (no_levels xs none))

pub none_passed : (table : List (Option Entry)) (xs : List WholeLevel) → length xs ≡ 0 → false ≡ is_top_passed table xs
none_passed table xs none = ap (is_top_passed table) (sym (no_levels xs none))

some_left : (ts : List Token) → is_empty (map Text ts) ≡ false → 0 < length ts
some_left [] is = cc
some_left (t ∷ ts) is = omega arith

pub true_is : (b : Bool) → IsTrue b → b ≡ true
true_is true h = refl
true_is false h = cc

-- a list or a call on top
in_front_beneath : (table : List (Option Entry)) (l : WholeLevel) (ls : List WholeLevel) → 0 < length (pending_in table (l ∷ ls)).puts → without_top (pending_in table (l ∷ ls)) ≡ pending_in table ls
in_front_beneath table (level.List r) ls some = refl
in_front_beneath table (level.Call c) ls some = refl
in_front_beneath table (level.Source s) ls some = absurd (omega (arith, some))

-- it goes, with what it holds
pub dropped : (old new : List (Option Entry)) (l : WholeLevel) (xs ls : List WholeLevel) → xs ≡ l ∷ ls → AreRead old xs → 0 < length (pending_in old xs).puts → Moves old new (level_holds l) none → Keeps old new (level_holds l) → AreRead new ls × AreUnfinished new ls × (pending_in new ls ≡ without_top (pending_in old xs))
dropped old new l xs ls is a some moves keeps =
    let b = beneath_read old new l ls (subst (λ (ys : List WholeLevel). AreRead old ys) is a) moves keeps in
    let f = in_front_beneath old l ls (subst (λ (ys : List WholeLevel). 0 < length (pending_in old ys).puts) is some) in
    (b.0, b.1, b.2 ∙ sym f ∙ ap (λ (ys : List WholeLevel). without_top (pending_in old ys)) (sym is))

pub dropped_held : (old new : List (Option Entry)) (l : WholeLevel) (xs ls : List WholeLevel) → xs ≡ l ∷ ls → Moves old new (level_holds l) none → Moves old new (held_in xs) (held_in ls)
dropped_held old new l xs ls is moves h = omega (arith, moves h, ap (λ (ys : List WholeLevel). held_in ys h) is, held_cons l ls h)

pub dropped_keeps : (old new : List (Option Entry)) (l : WholeLevel) (xs ls : List WholeLevel) → xs ≡ l ∷ ls → Keeps old new (level_holds l) → Keeps old new (held_in xs)
dropped_keeps old new l xs ls is keeps = record {
  tokens = λ h less. keeps.tokens h (omega (arith, less, ap (λ (ys : List WholeLevel). held_in ys h) is, held_cons l ls h));
  places = λ h less. keeps.places h (omega (arith, less, ap (λ (ys : List WholeLevel). held_in ys h) is, held_cons l ls h));
}

pub top_covers : (table : List (Option Entry)) (xs ls : List WholeLevel) (l : WholeLevel) → xs ≡ l ∷ ls → AreRead table xs → (h : ℕ) → level_holds l h ≤ holders_at table h
top_covers table xs ls l is a h = omega (arith, a.covers h, ap (λ (ys : List WholeLevel). held_in ys h) is, held_cons l ls h)

-- settling takes a finished list on top away
finished_top : (ps : List Put) → is_finished ps ≡ true → without_ended (drop 1 ps) ≡ without_ended ps
finished_top [] is = cc
finished_top (p ∷ ps) is = sym (finished_goes p p.items (without_ended ps) ps is)

pub without_finished : (p : Pending) → is_finished p.puts ≡ true → end_token_lists (without_top p) ≡ end_token_lists p
without_finished p is = ap (λ (ps : List Put). with_puts ps p) (finished_top p.puts is)

pub finished_some : (ps : List Put) → is_finished ps ≡ true → 0 < length ps
finished_some [] is = cc
finished_some (p ∷ ps) is = omega arith

-- FITS

pub fewer : (s t : InputStack) (l : WholeLevel) → innermost s ≡ l ∷ innermost t → length s.levels.items ≡ length t.levels.items + 1
fewer s t l is = omega (arith, levels_count s, levels_count t, ap length is)

-- what the level on top counts
pub open_top : (s t : InputStack) (l : WholeLevel) → innermost s ≡ l ∷ innermost t → open_in (innermost s) ≡ level_open l + open_in (innermost t)
open_top s t l is = ap open_in is ∙ open_cons l (innermost t)

pub fits_fewer : (s t : InputStack) (l : WholeLevel) → Fits s → innermost s ≡ l ∷ innermost t → s.argument_levels ≡ level_open l + t.argument_levels → length t.arguments.items ≡ count_in (reverse t.levels.items) → length t.arguments.items ≤ length s.arguments.items → IsSized s t → Fits t
fits_fewer s t l f is lv counts less sized = record {
  within = omega (arith, f.within, sized.size, fewer s t l is, lv);
  opens = omega (arith, f.opens, lv, open_top s t l is);
  counts = counts;
  few = omega (arith, f.few, less, sized.parameter_size);
  few_small = omega (arith, f.few_small, sized.parameter_size);
  room = omega (arith, f.room, sized.size, sized.capacity);
  parameter_room = omega (arith, f.parameter_room, sized.parameter_size, sized.parameter_capacity);
  small = omega (arith, f.small, sized.size);
}

pub fits_more : (s t : InputStack) (l : WholeLevel) → Fits s → innermost t ≡ l ∷ innermost s → length s.levels.items + s.argument_levels < s.size → length t.arguments.items ≤ s.parameter_size → level_open l ≡ 0 → t.argument_levels ≡ s.argument_levels → length t.arguments.items ≡ count_in (reverse t.levels.items) → IsSized s t → Fits t
fits_more s t l f is some few closed lv counts sized = record {
  within = omega (arith, some, sized.size, fewer t s l is, lv);
  opens = omega (arith, f.opens, lv, open_top t s l is, closed);
  counts = counts;
  few = omega (arith, few, sized.parameter_size);
  few_small = omega (arith, f.few_small, sized.parameter_size);
  room = omega (arith, f.room, sized.size, sized.capacity);
  parameter_room = omega (arith, f.parameter_room, sized.parameter_size, sized.parameter_capacity);
  small = omega (arith, f.small, sized.size);
}

-- another level on top, on which so many levels of arguments more stand
pub fits_changed : (s t : InputStack) (l l' : WholeLevel) (ls : List WholeLevel) → Fits s → innermost s ≡ l ∷ ls → innermost t ≡ l' ∷ ls → length t.levels.items + t.argument_levels ≤ s.size → t.argument_levels + level_open l ≡ s.argument_levels + level_open l' → length t.arguments.items ≡ count_in (reverse t.levels.items) → length t.arguments.items ≡ length s.arguments.items → IsSized s t → Fits t
fits_changed s t l l' ls f is at within lv counts same sized = record {
  within = omega (arith, within, sized.size);
  opens = omega (arith, f.opens, lv, ap open_in is, ap open_in at, open_cons l ls, open_cons l' ls);
  counts = counts;
  few = omega (arith, f.few, same, sized.parameter_size);
  few_small = omega (arith, f.few_small, sized.parameter_size);
  room = omega (arith, f.room, sized.size, sized.capacity);
  parameter_room = omega (arith, f.parameter_room, sized.parameter_size, sized.parameter_capacity);
  small = omega (arith, f.small, sized.size);
}

some_counts : (xs : List Item) (n : ℕ) → is_empty xs ≡ false → when_some xs n ≡ n
some_counts [] n is = cc
some_counts (x ∷ xs) n is = refl

none_counts : (xs : List Item) → when_some xs 0 ≡ 0
none_counts [] = refl
none_counts (x ∷ xs) = refl

-- where nothing is finished on top, the arguments that stand are used
pub arguments_in_use : (table : List (Option Entry)) (ls : List WholeLevel) → AreRead table ls → is_finished (pending_in table ls).puts ≡ false → arguments_of ls ≡ used_parameters (pending_in table ls)
arguments_in_use table [] a is = refl
arguments_in_use table (level.List r ∷ ls) a is =
    let q = pending_in table ls in
    omega (arith, arguments_used table ls a.below, arguments_cons (level.List r) ls, none_counts (map Text (rest table r)), sum_by-cons (λ (p : Put). when_some p.items (length p.arguments)) (put_of table r) q.puts)
arguments_in_use table (level.Call c ∷ ls) a is =
    let q = pending_in table ls in
    let p = put_of_call table c in
    omega (arith, arguments_used table ls a.below, arguments_cons (level.Call c) ls, put_count table c.args, some_counts p.items (length p.arguments) is, sum_by-cons (λ (x : Put). when_some x.items (length x.arguments)) p q.puts)
arguments_in_use table (level.Source s ∷ ls) a is =
    let q = pending_in table ls in
    omega (arith, arguments_used table ls a.below, arguments_cons (level.Source s) ls, sum_by-cons (λ (b : Below). used_arguments b.puts) (record { source = s; puts = q.puts }) q.sources)

-- NO LEVELS

none_read : (table : List (Option Entry)) → AreRead table []
none_read table = record { levels = All-nil (IsLevel table); below = tt; covers = λ h. omega arith }

pub new_stands : (table : List (Option Entry)) (s : InputStack) → s.levels.items ≡ [] → s.arguments.items ≡ [] → s.argument_levels ≡ 0 → s.size ≤ vec_capacity s.levels → s.parameter_size ≤ vec_capacity s.arguments → s.size < 2 ^ 32 → s.parameter_size < 2 ^ 32 → IsStack table s
new_stands table s none free lv room parameter_room small few =
    let empty : innermost s ≡ [] = ap (λ (ls : List Level). wholes s.arguments.items (reverse ls)) none in
    record {
      read = subst (AreRead table) (sym empty) (none_read table);
      fits = record {
        within = omega (arith, ap length none, lv);
        opens = omega (arith, lv, ap open_in empty);
        counts = ap length free ∙ ap (λ (ls : List Level). count_in (reverse ls)) (sym none);
        few = omega (arith, ap length free);
        few_small = few;
        room = room;
        parameter_room = parameter_room;
        small = small;
      };
    }
