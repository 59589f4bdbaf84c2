-- The levels of a stack as what is pending.
use Rattle.std.specs.Prelude.{ℕ, List, [], ◌∷◌, length, reverse, Option, sum_by}
use Rattle.input_stack.specs.Puts.{Put}
use Rattle.token_lists.specs.Table.{Entry}
use Rattle.token_lists.specs.Accounts.{holds}
use Rattle.line_lexer.specs.declared.Line.{Line}
use Rattle.input_stack.specs.declared.reader.Reader.{Reader}
use Rattle.input_stack.specs.WholeLevel.{WholeLevel}
use Rattle.input_stack.specs.WholeLevel as level
use Rattle.input_stack.specs.declared.level.Source.{Source}
use Rattle.input_stack.specs.declared.stack.InputStack.{InputStack}
use Rattle.input_stack.specs.Rest.{rest, number}
use Rattle.input_stack.specs.Pending.{Pending, plain_put}
use Rattle.input_stack.specs.CallViews.{put_of_call, call_holds, call_open}
use Rattle.input_stack.specs.Wholes.{wholes}

-- a list that is being read, without arguments
abbrev pub put_of : List (Option Entry) → Reader → Put
put_of table r = plain_put (number r) (rest table r)

-- a level above others: a list in front of all, or a line over all
abbrev pub in_front : Put → Pending → Pending
in_front x p = record { puts = x ∷ p.puts; sources = p.sources }

abbrev pub over : Source → Pending → Pending
over s p = record { puts = []; sources = record { source = s; puts = p.puts } ∷ p.sources }

-- levels, innermost first
abbrev pub pending_in : List (Option Entry) → List WholeLevel → Pending
pending_in table [] = record { puts = []; sources = [] }
pending_in table (level.List r ∷ ls) = in_front (put_of table r) (pending_in table ls)
pending_in table (level.Call c ∷ ls) = in_front (put_of_call table c) (pending_in table ls)
pending_in table (level.Source s ∷ ls) = over s (pending_in table ls)

-- the levels from the top down, with their arguments
abbrev pub innermost : InputStack → List WholeLevel
innermost s = wholes s.arguments.items (reverse s.levels.items)

-- what is pending, where the lists of the memory are these
abbrev pub pending : List (Option Entry) → InputStack → Pending
pending table s = pending_in table (innermost s)

-- how often a level holds the list of a number
abbrev pub level_holds : WholeLevel → ℕ → ℕ
level_holds (level.List r) h = holds (number r) h
level_holds (level.Call c) h = call_holds c h
level_holds (level.Source s) h = 0

abbrev pub held_in : List WholeLevel → ℕ → ℕ
held_in ls h = sum_by (λ l. level_holds l h) ls

-- how often the stack holds the list of a number
abbrev pub held : InputStack → ℕ → ℕ
held s h = held_in (innermost s) h

-- a file or a line of `\read` is on top
abbrev pub IsSourceOnTop : List WholeLevel → Type 0
IsSourceOnTop [] = ⊥
IsSourceOnTop (level.List r ∷ ls) = ⊥
IsSourceOnTop (level.Call c ∷ ls) = ⊥
IsSourceOnTop (level.Source s ∷ ls) = Unit {0}

-- the same level at another line
abbrev pub level_at : Line → WholeLevel → WholeLevel
level_at line (level.List r) = level.List r
level_at line (level.Call c) = level.Call c
level_at line (level.Source s) = level.Source (record { id = s.id; line = line })

-- how many levels of arguments stand on this one: one at most, on a call
abbrev pub level_open : WholeLevel → ℕ
level_open (level.List r) = 0
level_open (level.Call c) = call_open c.argument
level_open (level.Source s) = 0

abbrev pub open_in : List WholeLevel → ℕ
open_in ls = sum_by level_open ls

-- how many arguments a call has
abbrev pub level_arguments : WholeLevel → ℕ
level_arguments (level.List r) = 0
level_arguments (level.Call c) = length c.args
level_arguments (level.Source s) = 0

abbrev pub arguments_of : List WholeLevel → ℕ
arguments_of ls = sum_by level_arguments ls
