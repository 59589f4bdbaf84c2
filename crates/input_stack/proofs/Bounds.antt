-- How often a list may be held.
use Rattle.std.proofs.Common.{ℕ, ◌+◌, ◌≤◌, List, [], ◌∷◌, length, Option, None, Some, Bool, true, false, cond, arith}
use Rattle.std.specs.Prelude.{◌==◌}
use Rattle.std.proofs.lemmas.List.Sums.{sum_by-cons}
use Rattle.token_lists.specs.declared.ListRef.{ListRef}
use Rattle.token_lists.specs.Ids.{id_of}
use Rattle.token_lists.specs.Table.{Entry}
use Rattle.token_lists.specs.Accounts.{holds, cell_holds, cells_hold}
use Rattle.input_stack.specs.declared.reader.Reader.{Reader}
use Rattle.input_stack.specs.WholeLevel.{WholeLevel}
use Rattle.input_stack.specs.WholeLevel as level
use Rattle.input_stack.specs.declared.stack.InputStack.{InputStack}
use Rattle.input_stack.specs.Puts.{count_of}
use Rattle.input_stack.specs.Rest.{number}
use Rattle.input_stack.specs.CallViews.{open_number, open_holds}
use Rattle.input_stack.specs.Pending.{levels, arguments}
use Rattle.input_stack.specs.View.{pending, innermost, held, held_in, level_holds, level_open, open_in, level_arguments, arguments_of}
use Rattle.input_stack.specs.Stacks.{Fits, IsStack}
use Rattle.input_stack.proofs.Kept.{held_cons}
use Rattle.input_stack.proofs.Wholes.{levels_count, arguments_count}
use Rattle.input_stack.proofs.ListsEnded.{open_cons, arguments_cons, levels_are, arguments_are}

once : (b : Bool) → cond b 1 0 ≤ 1
once true = omega arith
once false = omega arith

pub holds_once : (n h : ℕ) → holds n h ≤ 1
holds_once n h = once (n == h)

open_once : (o : Option Reader) (h : ℕ) → open_holds o h ≤ count_of (open_number o)
open_once None h = omega arith
open_once (Some r) h = holds_once (number r) h

cell_once : (c : Option ListRef) (h : ℕ) → cell_holds c h ≤ 1
cell_once None h = omega arith
cell_once (Some r) h = holds_once (id_of r) h

cells_once : (cells : List (Option ListRef)) (h : ℕ) → cells_hold cells h ≤ length cells
cells_once [] h = omega arith
cells_once (c ∷ cells) h = omega (arith, cells_once cells h, cell_once c h, sum_by-cons (λ (x : Option ListRef). cell_holds x h) c cells)

-- a level once, an argument's level on it once more, and each of its arguments once
level_once : (l : WholeLevel) (h : ℕ) → level_holds l h ≤ 1 + (level_open l + level_arguments l)
level_once (level.List r) h = omega (arith, holds_once (number r) h)
level_once (level.Call c) h = omega (arith, holds_once (number c.body) h, open_once c.argument h, cells_once c.args h)
level_once (level.Source s) h = omega arith

held_once : (ls : List WholeLevel) (h : ℕ) → held_in ls h ≤ length ls + (open_in ls + arguments_of ls)
held_once [] h = omega arith
held_once (l ∷ ls) h = omega (arith, held_once ls h, level_once l h, held_cons l ls h, open_cons l ls, arguments_cons l ls)

pub held_standing : (table : List (Option Entry)) (s : InputStack) (h : ℕ) → IsStack table s → held s h ≤ levels (pending table s) + arguments (pending table s)
held_standing table s h stands =
    omega (arith, held_once (innermost s) h, levels_are table (innermost s), arguments_are table (innermost s))

pub held_few : (s : InputStack) (h : ℕ) → Fits s → held s h ≤ s.size + s.parameter_size
held_few s h f =
    omega (arith, held_once (innermost s) h, f.within, f.opens, arguments_count s f, f.few, levels_count s)
