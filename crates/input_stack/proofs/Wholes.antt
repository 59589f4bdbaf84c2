-- The levels with their arguments.
use Rattle.std.proofs.Common.{zero, suc, ◌≡◌, ℕ, ◌+◌, ◌-◌, ◌≤◌, List, [], ◌∷◌, ◌++◌, length, reverse, take, drop, set, get_or, Option, None, refl, sym, ap, ap₂, ◌∙◌, arith, add-one}
use Rattle.std.proofs.lemmas.List.{reverse-append, length-reverse, length-take, length-drop, length-append, take_all, drop_all}
use Rattle.std.proofs.lemmas.List.Sums.{sum_by-cons}
use Rattle.std.proofs.Math.Seq.{drop-append_seam, take-append_seam, take-suc}
use Rattle.token_lists.specs.declared.ListRef.{ListRef}
use Rattle.token_lists.specs.Table.{Entry}
use Rattle.input_stack.specs.declared.reader.Reader.{Reader}
use Rattle.input_stack.specs.declared.call.Call.{Call}
use Rattle.input_stack.specs.declared.level.Level.{Level}
use Rattle.input_stack.specs.declared.level.Level.TheVariants as level
use Rattle.input_stack.specs.declared.stack.InputStack.{InputStack}
use Rattle.input_stack.specs.WholeLevel.{WholeLevel}
use Rattle.input_stack.specs.WholeLevel as whole_as
use Rattle.input_stack.specs.Wholes.{level_count, count_in, whole, own, beneath, wholes}
use Rattle.input_stack.specs.Reads.{AreReadersAt, level_readers_hold}
use Rattle.token_lists.specs.Accounts.{cells_hold}
use Rattle.input_stack.specs.View.{innermost, level_holds, level_arguments, arguments_of}
use Rattle.input_stack.specs.Stacks.{IsLevel, Fits}
use Rattle.input_stack.proofs.ListsEnded.{arguments_cons}

pub count_cons : (l : Level) (ls : List Level) → count_in (l ∷ ls) ≡ level_count l + count_in ls
count_cons l ls = sum_by-cons level_count l ls

-- as many as the levels
pub wholes_length : (cells : List (Option ListRef)) (ls : List Level) → length (wholes cells ls) ≡ length ls
wholes_length cells [] = refl
wholes_length cells (l ∷ ls) = omega (arith, wholes_length (beneath cells l) ls)

pub levels_count : (s : InputStack) → length (innermost s) ≡ length s.levels.items
levels_count s = wholes_length s.arguments.items (reverse s.levels.items) ∙ length-reverse s.levels.items

beneath_length : (cells : List (Option ListRef)) (l : Level) → length (beneath cells l) ≡ length cells - level_count l
beneath_length cells l = omega (arith, length-take (length cells - level_count l) cells)

pub own_length : (cells : List (Option ListRef)) (l : Level) → level_count l ≤ length cells → length (own cells l) ≡ level_count l
own_length cells l within = omega (arith, length-drop (length cells - level_count l) cells, within)

-- what is left of the arguments is beneath
pub counts_beneath : (cells : List (Option ListRef)) (l : Level) (ls : List Level) → length cells ≡ count_in (l ∷ ls) → length (beneath cells l) ≡ count_in ls
counts_beneath cells l ls is = omega (arith, beneath_length cells l, count_cons l ls, is)

pub count_within : (cells : List (Option ListRef)) (l : Level) (ls : List Level) → length cells ≡ count_in (l ∷ ls) → level_count l ≤ length cells
count_within cells l ls is = omega (arith, count_cons l ls, is)

whole_arguments : (cells : List (Option ListRef)) (l : Level) → level_count l ≤ length cells → level_arguments (whole (own cells l) l) ≡ level_count l
whole_arguments cells (level.List r) within = refl
whole_arguments cells (level.Call c) within = own_length cells (level.Call c) within
whole_arguments cells (level.Source s) within = refl

-- each argument is a level's
pub arguments_are_counted : (cells : List (Option ListRef)) (ls : List Level) → length cells ≡ count_in ls → arguments_of (wholes cells ls) ≡ length cells
arguments_are_counted cells [] is = omega (arith, is)
arguments_are_counted cells (l ∷ ls) is =
    omega (arith, is, arguments_cons (whole (own cells l) l) (wholes (beneath cells l) ls), whole_arguments cells l (count_within cells l ls is), arguments_are_counted (beneath cells l) ls (counts_beneath cells l ls is), counts_beneath cells l ls is, count_cons l ls)

pub arguments_count : (s : InputStack) → Fits s → length s.arguments.items ≡ arguments_of (innermost s)
arguments_count s f = sym (arguments_are_counted s.arguments.items (reverse s.levels.items) f.counts)

-- the level on top changes, and has as many arguments
pub same_own : (cells : List (Option ListRef)) (l l' : Level) (ls : List Level) → level_count l' ≡ level_count l → wholes cells (l' ∷ ls) ≡ whole (own cells l) l' ∷ wholes (beneath cells l) ls
same_own cells l l' ls same = ap (λ (n : ℕ). whole (drop (length cells - n) cells) l' ∷ wholes (take (length cells - n) cells) ls) same

-- a level without arguments
pub none_own : (cells : List (Option ListRef)) (l : Level) (ls : List Level) → level_count l ≡ 0 → wholes cells (l ∷ ls) ≡ whole [] l ∷ wholes cells ls
none_own cells l ls none =
    let e : length cells - level_count l ≡ length cells = omega (arith, none) in
    ap (λ (n : ℕ). whole (drop n cells) l ∷ wholes (take n cells) ls) e
    ∙ ap₂ (λ (xs ys : List (Option ListRef)). whole xs l ∷ wholes ys ls) (drop_all (length cells) cells (omega arith)) (take_all (length cells) cells (omega arith))

-- a call whose arguments come on top
pub more_own : (cells args : List (Option ListRef)) (l : Level) (ls : List Level) → level_count l ≡ length args → wholes (cells ++ args) (l ∷ ls) ≡ whole args l ∷ wholes cells ls
more_own cells args l ls is =
    let e : length (cells ++ args) - level_count l ≡ length cells = omega (arith, length-append cells args, is) in
    ap (λ (n : ℕ). whole (drop n (cells ++ args)) l ∷ wholes (take n (cells ++ args)) ls) e
    ∙ ap₂ (λ (xs ys : List (Option ListRef)). whole xs l ∷ wholes ys ls) (drop-append_seam cells args) (take-append_seam cells args)

-- WHAT A LEVEL READS

pub read_of : (table : List (Option Entry)) (args : List (Option ListRef)) (l : Level) → IsLevel table (whole args l) → AreReadersAt table l
read_of table args (level.List r) a = a
read_of table args (level.Call c) a = record { body = a.body; argument = a.argument }
read_of table args (level.Source s) a = tt

-- it holds its readers' lists, and its arguments
pub read_held : (args : List (Option ListRef)) (l : Level) (h : ℕ) → level_readers_hold l h ≤ level_holds (whole args l) h
read_held args (level.List r) h = omega arith
read_held args (level.Call c) h = omega arith
read_held args (level.Source s) h = omega arith

pub holds_all : (args : List (Option ListRef)) (l : Level) (h : ℕ) → length args ≡ level_count l → level_holds (whole args l) h ≡ level_readers_hold l h + cells_hold args h
holds_all [] (level.List r) h is = omega arith
holds_all (x ∷ xs) (level.List r) h is = absurd (omega (arith, is))
holds_all args (level.Call c) h is = omega arith
holds_all [] (level.Source s) h is = omega arith
holds_all (x ∷ xs) (level.Source s) h is = absurd (omega (arith, is))

-- THE LEVEL ON TOP

-- the last level is innermost
top_is : (ls : List Level) (i : ℕ) (l : Level) → i + 1 ≡ length ls → l ≡ get_or ls i l → reverse ls ≡ l ∷ reverse (take i ls)
top_is ls i l len at =
    let every : take (i + 1) ls ≡ ls = take_all (i + 1) ls (omega (arith, len)) in
    let more : take (i + 1) ls ≡ take i ls ++ get_or ls i l ∷ [] = ap (λ (n : ℕ). take n ls) (add-one i) ∙ take-suc ls i l (omega (arith, len)) in
    ap reverse (sym every ∙ more) ∙ reverse-append (take i ls) (get_or ls i l ∷ []) ∙ ap (λ (x : Level). x ∷ reverse (take i ls)) (sym at)

pub popped : (xs ys : List Level) (l : Level) → xs ≡ ys ++ l ∷ [] → reverse xs ≡ l ∷ reverse ys
popped xs ys l is = ap reverse is ∙ reverse-append ys (l ∷ [])

-- the last level changes
set_last : (ls : List Level) (i : ℕ) (l : Level) → i + 1 ≡ length ls → set ls i l ≡ take i ls ++ l ∷ []
set_last [] i l len = absurd (omega (arith, len))
set_last (x ∷ []) zero l len = refl
set_last (x ∷ y ∷ ls) zero l len = absurd (omega (arith, len))
set_last (x ∷ ls) (suc i) l len = ap (λ (ys : List Level). x ∷ ys) (set_last ls i l (omega (arith, len)))

top_set : (ls : List Level) (n : ℕ) (l : Level) → n ≡ length ls → (n ≡ 0 → ⊥) → reverse (set ls (n - 1) l) ≡ l ∷ reverse (take (n - 1) ls)
top_set ls n l len some = ap reverse (set_last ls (n - 1) l (omega (arith, len, some))) ∙ reverse-append (take (n - 1) ls) (l ∷ [])

module _ (s : InputStack) (n : ℕ) (l : Level) (len : n ≡ length s.levels.items) (some : n ≡ 0 → ⊥) (at : l ≡ get_or s.levels.items (n - 1) l) where
  abbrev pub under : List WholeLevel
  under = wholes (beneath s.arguments.items l) (reverse (take (n - 1) s.levels.items))

  raw : reverse s.levels.items ≡ l ∷ reverse (take (n - 1) s.levels.items)
  raw = top_is s.levels.items (n - 1) l (omega (arith, len, some)) at

  pub top_whole : innermost s ≡ whole (own s.arguments.items l) l ∷ under
  top_whole = ap (wholes s.arguments.items) raw

  pub top_within : Fits s → level_count l ≤ length s.arguments.items
  top_within f = count_within s.arguments.items l (reverse (take (n - 1) s.levels.items)) (f.counts ∙ ap count_in raw)

  pub top_changed : (m : Level) → level_count m ≡ level_count l → wholes s.arguments.items (reverse (set s.levels.items (n - 1) m)) ≡ whole (own s.arguments.items l) m ∷ under
  top_changed m same = ap (wholes s.arguments.items) (top_set s.levels.items n m len some) ∙ same_own s.arguments.items l m (reverse (take (n - 1) s.levels.items)) same

  pub changed_counts : (m : Level) → level_count m ≡ level_count l → Fits s → length s.arguments.items ≡ count_in (reverse (set s.levels.items (n - 1) m))
  changed_counts m same f =
      let ls = reverse (take (n - 1) s.levels.items) in
      omega (arith, f.counts, ap count_in raw, ap count_in (top_set s.levels.items n m len some), count_cons l ls, count_cons m ls, same)

-- the level on top goes, and its arguments with it
module _ (s : InputStack) (cells : List (Option ListRef)) (items : List Level) (l : Level) (is : s.levels.items ≡ items ++ l ∷ []) (rest : cells ≡ beneath s.arguments.items l) where
  pub popped_top : innermost s ≡ whole (own s.arguments.items l) l ∷ wholes cells (reverse items)
  popped_top = ap (wholes s.arguments.items) (popped s.levels.items items l is) ∙ ap (λ (xs : List (Option ListRef)). whole (own s.arguments.items l) l ∷ wholes xs (reverse items)) (sym rest)

  pub popped_counts : length s.arguments.items ≡ count_in (reverse s.levels.items) → length cells ≡ count_in (reverse items)
  popped_counts counts = ap length rest ∙ counts_beneath s.arguments.items l (reverse items) (counts ∙ ap count_in (popped s.levels.items items l is))

  pub popped_fewer : length cells ≤ length s.arguments.items
  popped_fewer = omega (arith, ap length rest, beneath_length s.arguments.items l)

pub popped_within : (s : InputStack) (items : List Level) (l : Level) → s.levels.items ≡ items ++ l ∷ [] → length s.arguments.items ≡ count_in (reverse s.levels.items) → level_count l ≤ length s.arguments.items
popped_within s items l is counts = count_within s.arguments.items l (reverse items) (counts ∙ ap count_in (popped s.levels.items items l is))

-- what a level holds: its readers' lists, and its arguments
module _ (cells : List (Option ListRef)) (l : Level) (first : ℕ) (is : first ≡ length cells - level_count l) (within : level_count l ≤ length cells) where
  pub first_own : drop first cells ≡ own cells l
  first_own = ap (λ (n : ℕ). drop n cells) is

  pub holds_split : (h : ℕ) → level_holds (whole (own cells l) l) h ≡ level_readers_hold l h + cells_hold (drop first cells) h
  holds_split h = omega (arith, holds_all (own cells l) l h (own_length cells l within), ap (λ (xs : List (Option ListRef)). cells_hold xs h) first_own)

-- A LEVEL COMES

pub pushed : (xs ys : List Level) (l : Level) → ys ≡ xs ++ l ∷ [] → reverse ys ≡ l ∷ reverse xs
pushed xs ys l is = popped ys xs l is

module _ (s : InputStack) (mine cells : List (Option ListRef)) (items : List Level) (body : Reader) (n : ℕ) (call : Call) (is : call ≡ record { body = body; argument = None; count = n }) (more : cells ≡ s.arguments.items ++ mine) (at : items ≡ s.levels.items ++ level.Call call ∷ []) (count : n ≡ length mine) where
  abbrev new_call : Call
  new_call = record { body = body; argument = None; count = n }

  on_top : reverse items ≡ level.Call new_call ∷ reverse s.levels.items
  on_top = pushed s.levels.items items (level.Call call) at ∙ ap (λ (c : Call). level.Call c ∷ reverse s.levels.items) is

  pub call_on_top : wholes cells (reverse items) ≡ whole_as.Call (record { body = body; argument = None; args = mine }) ∷ innermost s
  call_on_top = ap₂ wholes more on_top ∙ more_own s.arguments.items mine (level.Call new_call) (reverse s.levels.items) count

  pub call_counts : length s.arguments.items ≡ count_in (reverse s.levels.items) → length cells ≡ count_in (reverse items)
  call_counts counts = omega (arith, counts, ap length more, length-append s.arguments.items mine, count, ap count_in on_top, count_cons (level.Call new_call) (reverse s.levels.items))

-- the slice of its own arguments
pub slice_own : (s : InputStack) (l : Level) (cells : List (Option ListRef)) (first count : ℕ) → cells ≡ s.arguments.items → count ≡ length s.arguments.items → first ≡ count - level_count l → take (length cells - first) (drop first cells) ≡ own s.arguments.items l
slice_own s l cells first count same is at =
    ap (λ (xs : List (Option ListRef)). take (length xs - first) (drop first xs)) same
    ∙ take_all (length s.arguments.items - first) (drop first s.arguments.items) (omega (arith, length-drop first s.arguments.items))
    ∙ ap (λ (n : ℕ). drop n s.arguments.items) (at ∙ ap (λ (n : ℕ). n - level_count l) is)
