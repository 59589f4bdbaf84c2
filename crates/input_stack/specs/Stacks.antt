-- What each stack of levels keeps.
use Rattle.std.specs.Prelude.{◌≡◌, ◌+◌, ◌≤◌, ◌<◌, ◌^◌, List, [], ◌∷◌, All, length, reverse, Option, vec_capacity}
use Rattle.token_lists.specs.Table.{Entry}
use Rattle.token_lists.specs.Accounts.{Covers}
use Rattle.input_stack.specs.WholeLevel.{WholeLevel}
use Rattle.input_stack.specs.WholeLevel as level
use Rattle.input_stack.specs.declared.stack.InputStack.{InputStack}
use Rattle.input_stack.specs.Rest.{rest, IsAt}
use Rattle.input_stack.specs.CallViews.{IsCall, IsSettled, items_of, open_number}
use Rattle.input_stack.specs.Wholes.{count_in}
use Rattle.input_stack.specs.View.{innermost, held_in, open_in}

-- a list's level is at the place of its next token, and so are a call's body and its open argument
abbrev pub IsLevel : List (Option Entry) → WholeLevel → Type 0
IsLevel table (level.List r) = IsAt table r
IsLevel table (level.Call c) = IsCall table c
IsLevel table (level.Source s) = Unit {0}

-- a token is left, or an item of a call
abbrev pub IsUnfinished : List (Option Entry) → WholeLevel → Type 0
IsUnfinished table (level.List r) = 0 < length (rest table r)
IsUnfinished table (level.Call c) = IsSettled (open_number c.argument) (items_of table c)
IsUnfinished table (level.Source s) = Unit {0}

-- nothing is finished
abbrev pub AreUnfinished : List (Option Entry) → List WholeLevel → Type 0
AreUnfinished table ls = All (IsUnfinished table) ls

-- only the innermost level may be finished
abbrev pub AreUnfinishedBelow : List (Option Entry) → List WholeLevel → Type 0
AreUnfinishedBelow table [] = Unit {0}
AreUnfinishedBelow table (l ∷ ls) = AreUnfinished table ls

-- the levels of arguments are counted, each argument is a level's, and there is room for all that may stand
pub record Fits (s : InputStack) : Type 0 where
  pub within : length s.levels.items + s.argument_levels ≤ s.size
  pub opens : s.argument_levels ≡ open_in (innermost s)
  pub counts : length s.arguments.items ≡ count_in (reverse s.levels.items)
  pub few : length s.arguments.items ≤ s.parameter_size
  pub few_small : s.parameter_size < 2 ^ 32
  pub room : s.size ≤ vec_capacity s.levels
  pub parameter_room : s.parameter_size ≤ vec_capacity s.arguments
  pub small : s.size < 2 ^ 32

-- levels, innermost first, that read lists which they hold
pub record AreRead (table : List (Option Entry)) (ls : List WholeLevel) : Type 0 where
  pub levels : All (IsLevel table) ls
  pub below : AreUnfinishedBelow table ls
  pub covers : Covers table (held_in ls)

-- The levels read lists that they hold, and there is room for them.
pub record IsStack (table : List (Option Entry)) (s : InputStack) : Type 0 where
  pub read : AreRead table (innermost s)
  pub fits : Fits s

-- the sizes and the room are as they were
pub record IsSized (s t : InputStack) : Type 0 where
  pub size : t.size ≡ s.size
  pub parameter_size : t.parameter_size ≡ s.parameter_size
  pub capacity : vec_capacity t.levels ≡ vec_capacity s.levels
  pub parameter_capacity : vec_capacity t.arguments ≡ vec_capacity s.arguments
