-- Files and lines on top.
use Rattle.std.proofs.Common.{◌≡◌, ℕ, List, [], ◌∷◌, ◌++◌, length, reverse, Option, refl, sym, ap, ◌∙◌, subst, arith}
use Rattle.std.proofs.lemmas.List.Elements.{All-head, All-tail, All-cons}
use Rattle.line_lexer.specs.declared.Line.{Line}
use Rattle.token_lists.specs.Table.{Entry}
use Rattle.input_stack.specs.WholeLevel.{WholeLevel}
use Rattle.input_stack.specs.declared.level.Source.{Source}
use Rattle.input_stack.specs.WholeLevel as level
use Rattle.input_stack.specs.declared.stack.InputStack.{InputStack}
use Rattle.input_stack.specs.Pending.{at_line}
use Rattle.input_stack.specs.View.{pending_in, innermost, held_in, level_at, level_open, IsSourceOnTop}
use Rattle.input_stack.specs.Stacks.{IsLevel, AreRead, Fits, IsSized}
use Rattle.input_stack.proofs.Kept.{held_cons, all_below}
use Rattle.input_stack.specs.declared.level.Level.TheVariants as raw
use Rattle.input_stack.specs.Wholes.{count_in, wholes}
use Rattle.token_lists.specs.declared.ListRef.{ListRef}
use Rattle.input_stack.proofs.Wholes.{levels_count, count_cons, none_own, popped}
use Rattle.input_stack.proofs.Tops.{fits_changed, fits_fewer}

at_top : (table : List (Option Entry)) (line : Line) (l : WholeLevel) (ls : List WholeLevel) → IsSourceOnTop (l ∷ ls) → pending_in table (level_at line l ∷ ls) ≡ at_line line (pending_in table (l ∷ ls))
at_top table line (level.List r) ls top = absurd top
at_top table line (level.Call c) ls top = absurd top
at_top table line (level.Source s) ls top = refl

pub line_begun : (table : List (Option Entry)) (line : Line) (l : WholeLevel) (xs ys ls : List WholeLevel) → xs ≡ l ∷ ls → ys ≡ level_at line l ∷ ls → IsSourceOnTop xs → pending_in table ys ≡ at_line line (pending_in table xs)
line_begun table line l xs ys ls is at top = ap (pending_in table) at ∙ at_top table line l ls (subst IsSourceOnTop is top) ∙ ap (λ (zs : List WholeLevel). at_line line (pending_in table zs)) (sym is)

held_at : (line : Line) (l : WholeLevel) (ls : List WholeLevel) (h : ℕ) → held_in (level_at line l ∷ ls) h ≡ held_in (l ∷ ls) h
held_at line (level.List r) ls h = refl
held_at line (level.Call c) ls h = refl
held_at line (level.Source s) ls h = omega (arith, held_cons (level.Source s) ls h, held_cons (level_at line (level.Source s)) ls h)

pub line_held : (line : Line) (l : WholeLevel) (xs ys ls : List WholeLevel) (h : ℕ) → xs ≡ l ∷ ls → ys ≡ level_at line l ∷ ls → held_in ys h ≡ held_in xs h
line_held line l xs ys ls h is at = ap (λ (zs : List WholeLevel). held_in zs h) at ∙ held_at line l ls h ∙ ap (λ (zs : List WholeLevel). held_in zs h) (sym is)

level_is : (table : List (Option Entry)) (line : Line) (l : WholeLevel) → IsLevel table l → IsLevel table (level_at line l)
level_is table line (level.List r) a = a
level_is table line (level.Call c) a = a
level_is table line (level.Source s) a = tt

read_at : (table : List (Option Entry)) (line : Line) (l : WholeLevel) (ls : List WholeLevel) → AreRead table (l ∷ ls) → AreRead table (level_at line l ∷ ls)
read_at table line l ls a = record {
  levels = All-cons (IsLevel table) (level_at line l) ls (level_is table line l (All-head (IsLevel table) l ls a.levels)) (All-tail (IsLevel table) l ls a.levels);
  below = a.below;
  covers = λ h. omega (arith, a.covers h, held_at line l ls h);
}

pub line_read : (table : List (Option Entry)) (line : Line) (l : WholeLevel) (xs ys ls : List WholeLevel) → xs ≡ l ∷ ls → ys ≡ level_at line l ∷ ls → AreRead table xs → AreRead table ys
line_read table line l xs ys ls is at a = subst (AreRead table) (sym at) (read_at table line l ls (subst (AreRead table) is a))

same_open : (line : Line) (l : WholeLevel) → level_open (level_at line l) ≡ level_open l
same_open line (level.List r) = refl
same_open line (level.Call c) = refl
same_open line (level.Source s) = refl

pub fits_at : (s t : InputStack) (line : Line) (l : WholeLevel) (ls : List WholeLevel) → innermost s ≡ l ∷ ls → innermost t ≡ level_at line l ∷ ls → t.argument_levels ≡ s.argument_levels → length t.arguments.items ≡ count_in (reverse t.levels.items) → length t.arguments.items ≡ length s.arguments.items → IsSized s t → Fits s → Fits t
fits_at s t line l ls is at lv counts same sized f =
    fits_changed s t l (level_at line l) ls f is at (omega (arith, f.within, lv, ap length is, ap length at, levels_count s, levels_count t)) (omega (arith, lv, same_open line l)) counts same sized

-- the file goes
pub source_under : (table : List (Option Entry)) (s : Source) (xs ls : List WholeLevel) → xs ≡ level.Source s ∷ ls → AreRead table xs → AreRead table ls
source_under table s xs ls is a =
    let b : AreRead table (level.Source s ∷ ls) = subst (AreRead table) is a in
    record {
      levels = All-tail (IsLevel table) (level.Source s) ls b.levels;
      below = all_below table ls b.below;
      covers = λ h. omega (arith, b.covers h, held_cons (level.Source s) ls h);
    }

-- a file has no arguments
pub file_popped : (s t : InputStack) (x : Source) → s.levels.items ≡ t.levels.items ++ raw.Source x ∷ [] → t.arguments.items ≡ s.arguments.items → innermost s ≡ level.Source x ∷ innermost t
file_popped s t x is same =
    ap (wholes s.arguments.items) (popped s.levels.items t.levels.items (raw.Source x) is)
    ∙ none_own s.arguments.items (raw.Source x) (reverse t.levels.items) refl
    ∙ ap (λ (xs : List (Option ListRef)). level.Source x ∷ wholes xs (reverse t.levels.items)) (sym same)

pub fits_popped : (s t : InputStack) (x : Source) → s.levels.items ≡ t.levels.items ++ raw.Source x ∷ [] → t.argument_levels ≡ s.argument_levels → t.arguments.items ≡ s.arguments.items → IsSized s t → Fits s → Fits t
fits_popped s t x is lv same sized f =
    let kept = ap length same in
    let counts : length t.arguments.items ≡ count_in (reverse t.levels.items) = omega (arith, f.counts, kept, ap count_in (popped s.levels.items t.levels.items (raw.Source x) is), count_cons (raw.Source x) (reverse t.levels.items)) in
    fits_fewer s t (level.Source x) f (file_popped s t x is same) (omega (arith, lv)) counts (omega (arith, kept)) sized
