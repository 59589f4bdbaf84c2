-- Runs of the machine, and what they write.
use Rattle.std.specs.Prelude.{◌≡◌, ◌⊎◌, ℕ, ◌+◌, ◌≤◌, ◌<◌, ◌^◌, Bool, List, [], ◌∷◌, ◌++◌, All, if◌then◌else◌, Option}
use Rattle.plain_tokens.specs.Pending.{Pending}
use Rattle.tex_defs.specs.Places.{Place, File, World, Later, is_at, grown}
use Rattle.equivalents.specs.Groups.{Groups}
use Rattle.plain_machine.specs.States.{State, Files, Move, Handed, Taken, FirstTaken, Written, made, column_after}
use Rattle.plain_machine.specs.Plan.{Ends, Goes, next, first_state}

-- a token handed on and a line taken are the steps
abbrev pub step_of : Move → ℕ
step_of (Handed t) = 1
step_of (Taken line) = 1
step_of (FirstTaken line) = 1
step_of m = 0

abbrev pub steps : List Move → ℕ
steps [] = 0
steps (m ∷ ms) = step_of m + steps ms

-- what a move makes of what stands at a place
abbrev pub changed : Move → Place → File → File
changed (Written q bs) p f = if is_at p q then grown f bs else f
changed m p f = f

abbrev pub after : List Move → Place → File → File
after [] p f = f
after (m ∷ ms) p f = after ms p (changed m p f)

-- and of the transcript's column
abbrev pub column_changed : Move → Bool → Bool
column_changed (Written q bs) b = column_after q b bs
column_changed m b = b

abbrev pub columns_after : List Move → Bool → Bool
columns_after [] b = b
columns_after (m ∷ ms) b = columns_after ms (column_changed m b)

-- what stands everywhere is what these moves have written
pub record Wrote (w w' : World) (ms : List Move) : Type 0 where
  pub told : (p : Place) → w'.at p ≡ after ms p (w.at p)
  pub column : w'.in_line ≡ columns_after ms w.in_line
  pub later : Later w w'

-- the machine makes these moves from s and is then at t
abbrev pub Moves : State → List Move → State → Type 0
Moves s [] t = s ≡ t
Moves s (m ∷ ms) t = (u : State) × ((next s ≡ Goes m u) × Moves u ms t)

-- its next move is a step
abbrev pub NeedsStep : State → Type 0
NeedsStep t = (m : Move) × ((u : State) × ((next t ≡ Goes m u) × (step_of m ≡ 1)))

-- the machine's run of at most k steps: to its end, or to where it needs one step more
pub record Trace (s : State) (k : ℕ) (ms : List Move) (t : State) : Type 0 where
  pub moves : Moves s ms t
  pub within : steps ms ≤ k
  pub whole : (next t ≡ Ends) ⊎ ((steps ms ≡ k) × NeedsStep t)

pub record Same (ms ms' : List Move) (t t' : State) : Type 0 where
  pub moves : ms ≡ ms'
  pub state : t ≡ t'

-- the state after these moves, which are made one after another
abbrev pub all_made : List Move → State → State
all_made [] s = s
all_made (m ∷ ms) s = all_made ms (made m (record s { due = ms }))

-- the state after these moves, but for what is due
abbrev pub made_all : List Move → State → State
made_all [] s = s
made_all (m ∷ ms) s = made_all ms (made m s)

-- a run of s within k steps
pub record HasRun (s : State) (k : ℕ) : Type 0 where
  pub ms : List Move
  pub t : State
  pub trace : Trace s k ms t

-- a run of s within j steps, and one of k steps from where it led, which are these moves
pub record TwoRuns (s : State) (j k : ℕ) (ms : List Move) (t : State) : Type 0 where
  pub first : List Move
  pub between : State
  pub second : List Move
  pub moves : ms ≡ first ++ second
  pub before : Trace s j first between
  pub behind : Trace between k second t

-- two runs of one state with one bound are equal
abbrev pub RunsAreOne : Type 0
RunsAreOne = (s : State) (k : ℕ) (ms ms' : List Move) (t t' : State) → Trace s k ms t → Trace s k ms' t' → Same ms ms' t t'

abbrev pub EachHasRun : Type 0
EachHasRun = (s : State) (k : ℕ) → HasRun s k

abbrev pub SumsOfSteps : Type 0
SumsOfSteps =
    (s : State) (j k : ℕ) (ms : List Move) (t : State) →
    (Trace s (j + k) ms t → TwoRuns s j k ms t) × (TwoRuns s j k ms t → Trace s (j + k) ms t)

-- where a rule begins, or a job
pub data Begins (s : State) : Type 0 where
  AtRule : s.due ≡ [] → Begins s
  AtJob : (groups : Groups) → (quiet : Bool) → (file : List ℕ) → (job : Option (List ℕ)) → (files : Files) → s ≡ first_state groups quiet file job files → Begins s

-- no open file has come to a line with a greater number
pub record AreAtMost (n : ℕ) (p : Pending) : Type 0 where
  pub top : p.number ≤ n
  pub outer : All (λ s. s.number ≤ n) p.outer

-- The numbers of the lines rise by no more than the steps, and by one where a line is taken: within fewer than 2^64 steps of a job, at
-- whose beginning no file has a line, no line's number stands still.
pub record LinesAreCounted : Type 0 where
  pub rises : (n : ℕ) (s t : State) (ms : List Move) → Begins s → AreAtMost n s.pending → Moves s ms t → AreAtMost (n + steps ms) t.pending
  pub counts : (n : ℕ) (s t u : State) (ms : List Move) (line : List ℕ) → Begins s → AreAtMost n s.pending → Moves s ms t → next t ≡ Goes (Taken line) u → n + (steps ms + 1) < 2 ^ 64 → u.pending.number ≡ t.pending.number + 1
