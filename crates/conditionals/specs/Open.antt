-- The open conditionals, the innermost first (`cond_ptr`, `if_limit`, `cur_if`, `if_line`), and the tests that read nothing. The TeXbook, chapter 20;
-- TeX: The Program, part 28.
use Rattle.std.specs.Prelude.{ℕ, suc, ◌≤◌, ◌<◌, ◌^◌, ◌==◌, nat_le, Bool, true, false, if◌then◌else◌, List, [], ◌∷◌, length, Option, Some, None}
use Rattle.tex_defs.specs.declared.Full.{Full}
use Rattle.tex_defs.specs.declared.Table.TheVariants.{ConditionStackSize}
use Rattle.conditionals.specs.declared.limits.Limit.{Limit}
use Rattle.conditionals.specs.declared.limits.Limit.TheVariants.{Test}
use Rattle.conditionals.specs.declared.choice.Aim.{Aim}
use Rattle.conditionals.specs.declared.choice.Aim.TheVariants as aim
use Rattle.conditionals.specs.declared.open.Conditional.{Conditional}

pub record Stack : Type 0 where
  pub items : List Conditional
  -- how many there may be
  pub size : ℕ

-- its test is under way
abbrev pub is_test : Limit → Bool
is_test Test = true
is_test l = false

-- one begins, on this line
abbrev pub opened : (number line : ℕ) → List Conditional → List Conditional
opened number line cs = record { number = number; line = line; limit = Test } ∷ cs

-- how far the innermost has come
abbrev pub limit_of : List Conditional → Option Limit
limit_of [] = None
limit_of (c ∷ cs) = Some c.limit

-- the number of the innermost, or 0
abbrev pub innermost_test : List Conditional → ℕ
innermost_test [] = 0
innermost_test (c ∷ cs) = c.number

-- how many stand above the innermost whose test is under way: its test left them open
abbrev pub above : List Conditional → ℕ
above [] = 0
above (c ∷ cs) = if is_test c.limit then 0 else suc (above cs)

-- how many stand above the one for which this is sought: where it is a `\fi` alone, that is the innermost
abbrev pub above_sought : Aim → List Conditional → ℕ
above_sought aim.Fi cs = 0
above_sought a cs = above cs

-- the innermost whose test is under way has come to this
abbrev pub with_limit : Limit → List Conditional → List Conditional
with_limit l [] = []
with_limit l (c ∷ cs) = if is_test c.limit then record c { limit = l } ∷ cs else c ∷ with_limit l cs

-- no conditional more may be open
abbrev pub stack_full : Stack → Full
stack_full s = record { table = ConditionStackSize; used = length s.items; size = s.size }

-- there is room for all that there may be
pub record IsRoomy (items : List Conditional) (size capacity : ℕ) : Type 0 where
  pub within : length items ≤ size
  pub room : size ≤ capacity
  pub small : size < 2 ^ 32

-- THE TESTS THAT READ NOTHING, by their numbers: `\ifvmode` (the mode is always vertical), `\ifhmode`, `\ifmmode` and `\ifinner`, `\iftrue` and `\iffalse`
abbrev pub constant_test : ℕ → Option Bool
constant_test n =
    if n == 70 then Some true
    else if nat_le 71 n then (
    if nat_le n 73 then Some false
    else if n == 79 then Some true
    else if n == 80 then Some false
    else None
    ) else None
