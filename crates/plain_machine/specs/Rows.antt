-- The machine run on small files: what it writes to the transcript within so many moves, the names that it enters, its
-- status, and where a table is full.
use Rattle.std.specs.Prelude.{ℕ, zero, suc, ◌+◌, ◌≤◌, ◌⊎◌, Bool, false, List, [], ◌∷◌, ◌++◌, length, Option, Some, None, ◌≡◌, codes, bytes_eq, if◌then◌else◌}
use Rattle.tex_syntax.specs.declared.words.Outcome.{Outcome}
use Rattle.tex_syntax.specs.declared.words.Outcome.TheVariants.{Finished}
use Rattle.tex_defs.specs.declared.Full.{Full}
use Rattle.tex_defs.specs.declared.Sizes.{Sizes}
use Rattle.prim_table.specs.Primitives.{primitive_names}
use Rattle.equivalents.specs.Groups.{first_groups}
use Rattle.plain_machine.specs.States.{State, Files, Move, Written}
use Rattle.plain_machine.specs.Demands.{refusal}
use Rattle.plain_machine.specs.Plan.{Next, Ends, Goes, next, next_of, first_state, is_known}
use Rattle.plain_machine.specs.Runs.{step_of, steps, Moves, Trace}
use Rattle.plain_machine.specs.Bounded.{FitMoves}

abbrev pub text_of : Move → List ℕ
text_of (Written p bs) = bs
text_of m = []

pub record Result : Type 0 where
  pub text : List ℕ
  pub steps : ℕ
  pub names : List (List ℕ)
  pub reports : ℕ
  pub flawed : Bool
  pub stopped : Option Outcome

abbrev pub with_move : Move → Result → Result
with_move m r = record r { text = text_of m ++ r.text; steps = step_of m + r.steps }

abbrev pub at_end : State → Result
at_end s = record { text = []; steps = 0; names = s.names; reports = s.reports; flawed = s.flawed; stopped = s.stopped }

-- more moves may come, so no end is told
abbrev pub cut_short : State → Result
cut_short s = record { text = []; steps = 0; names = s.names; reports = s.reports; flawed = s.flawed; stopped = None }

abbrev pub went : State → (State → Result) → Next → Result
went s onward Ends = at_end s
went s onward (Goes m u) = with_move m (onward u)

-- the text, the steps and the names of a run of at most n moves, and its end where it has ended
unfoldable pub run_of : ℕ → State → Result
run_of zero s = cut_short s
run_of (suc n) s = went s (λ u. run_of n u) (next_of s s.due)

-- files by their names, the same at each opening
abbrev pub found_in : List (List ℕ × List ℕ) → List ℕ → Option (List ℕ)
found_in [] name = None
found_in ((other, bytes) ∷ files) name = if bytes_eq name other then Some bytes else found_in files name

abbrev pub files_of : List (List ℕ × List ℕ) → Files
files_of files k name = found_in files name

-- where the job of a file begins, which has this name and these bytes; beside other files; of one without a name
abbrev pub job_beside : List (List ℕ × List ℕ) → (file : List ℕ) → List ℕ → State
job_beside files file bytes = first_state (first_groups is_known) false file (Some bytes) (files_of files)

abbrev pub named_job : (file : List ℕ) → List ℕ → State
named_job file bytes = job_beside [] file bytes

abbrev pub job_state : List ℕ → State
job_state bytes = named_job [] bytes

unfoldable pub job_of : List ℕ → Result
job_of bytes = run_of 600 (job_state bytes)

unfoldable pub named_job_of : (file : List ℕ) → List ℕ → Result
named_job_of file bytes = run_of 600 (named_job file bytes)

-- `{`, `}`, `#` and `^` get their usual categories
abbrev pub first_line_usual : List ℕ
first_line_usual = codes "\\catcode`\\{=1 \\catcode`\\}=2 \\catcode`\\#=6 \\catcode`\\^=7\n"

-- the run of a job beside other files, which has ended: what it writes, the steps, and its outcome
unfoldable pub result_beside : List (List ℕ × List ℕ) → List ℕ → Result
result_beside files bytes = run_of 600 (job_beside files [] bytes)

abbrev pub RunsBeside : List (List ℕ × List ℕ) → List ℕ → List ℕ → ℕ → Outcome → Type 0
RunsBeside files bytes text steps outcome =
    ((result_beside files bytes).text ≡ text) × (((result_beside files bytes).steps ≡ steps) × ((result_beside files bytes).stopped ≡ Some outcome))

abbrev pub Writes : List ℕ → List ℕ → Outcome → Type 0
Writes file text outcome = ((job_of file).text ≡ text) × ((job_of file).stopped ≡ Some outcome)

-- the same of a file with this name
abbrev pub WritesAs : (file : List ℕ) → List ℕ → List ℕ → Outcome → Type 0
WritesAs file bytes text outcome = ((named_job_of file bytes).text ≡ text) × ((named_job_of file bytes).stopped ≡ Some outcome)

abbrev pub Runs : List ℕ → List ℕ → ℕ → Outcome → Type 0
Runs file text steps outcome = Writes file text outcome × ((job_of file).steps ≡ steps)

-- beside the primitives' names these are entered, in a whole run
abbrev pub Enters : List ℕ → List (List ℕ) → Type 0
Enters file names = ((job_of file).names ≡ primitive_names ++ names) × ((job_of file).stopped ≡ Some Finished)

-- a whole run has so many reports, and the status is to be 1 without one
abbrev pub Counts : List ℕ → (reports : ℕ) → (flawed : Bool) → Type 0
Counts file reports flawed =
    ((job_of file).reports ≡ reports) × (((job_of file).flawed ≡ flawed) × ((job_of file).stopped ≡ Some Finished))

-- the first moves of the run of a file, which may then go on: what they write, and the steps among them
abbrev pub Begins : ℕ → List ℕ → List ℕ → ℕ → Type 0
Begins moves file text steps = ((run_of moves (job_state file)).text ≡ text) × ((run_of moves (job_state file)).steps ≡ steps)

-- a run that has ended within so many moves
abbrev pub RunsWithin : ℕ → List ℕ → List ℕ → ℕ → Outcome → Type 0
RunsWithin moves file text steps outcome = Begins moves file text steps × ((run_of moves (job_state file)).stopped ≡ Some outcome)

-- WITHIN SIZES

abbrev pub fitted : (State → Option Full) → State → Option Full → Option Full
fitted onward u (Some full) = Some full
fitted onward u None = onward u

abbrev pub went_within : Sizes → State → (State → Option Full) → Next → Option Full
went_within sizes s onward Ends = None
went_within sizes s onward (Goes m u) = fitted onward u (refusal sizes m s)

-- the table, if there is one, that is full in a run of at most n moves
unfoldable pub full_in : Sizes → ℕ → State → Option Full
full_in sizes zero s = None
full_in sizes (suc n) s = went_within sizes s (λ u. full_in sizes n u) (next_of s s.due)

unfoldable pub job_fills : Sizes → List ℕ → List ℕ → Option Full
job_fills sizes name bytes = full_in sizes 600 (named_job name bytes)

-- the same of a job beside other files
abbrev pub FillsBeside : Sizes → List (List ℕ × List ℕ) → List ℕ → Full → Type 0
FillsBeside sizes files bytes full = full_in sizes 600 (job_beside files [] bytes) ≡ Some full

abbrev pub Fills : Sizes → List ℕ → Full → Type 0
Fills sizes file full = job_fills sizes [] file ≡ Some full

-- the table that is full within so many moves
abbrev pub FillsWithin : ℕ → Sizes → List ℕ → Full → Type 0
FillsWithin moves sizes file full = full_in sizes moves (job_state file) ≡ Some full

-- a whole run beside other files has room
abbrev pub FitsBeside : Sizes → List (List ℕ × List ℕ) → List ℕ → Type 0
FitsBeside sizes files bytes = (full_in sizes 600 (job_beside files [] bytes) ≡ None) × ((result_beside files bytes).stopped ≡ Some Finished)

-- the whole run has room
abbrev pub Fits : Sizes → List ℕ → Type 0
Fits sizes file = (job_fills sizes [] file ≡ None) × ((job_of file).stopped ≡ Some Finished)

-- ROWS ARE RUNS

-- what these moves write, one after another
abbrev pub texts : List Move → List ℕ
texts [] = []
texts (m ∷ ms) = text_of m ++ texts ms

-- what was told of the end of a run of these moves, which lead to t: how it stopped, where it has ended; nothing, where they are
-- as many as may be
abbrev pub EndsSo : ℕ → List Move → State → Option Outcome → Type 0
EndsSo n ms t stopped = ((next t ≡ Ends) × (stopped ≡ t.stopped)) ⊎ ((length ms ≡ n) × (stopped ≡ None))

-- The machine makes these moves from s, at most n of them, and this is what they come to.
pub record IsRun (n : ℕ) (s : State) (r : Result) : Type 0 where
  pub ms : List Move
  pub t : State
  pub moves : Moves s ms t
  pub within : length ms ≤ n
  pub told : EndsSo n ms t r.stopped
  pub text : r.text ≡ texts ms
  pub count : r.steps ≡ steps ms
  pub names : r.names ≡ t.names
  pub reports : r.reports ≡ t.reports
  pub flawed : r.flawed ≡ t.flawed

abbrev pub RowsAreRuns : Type 0
RowsAreRuns = (n : ℕ) (s : State) → IsRun n s (run_of n s)

-- The machine's whole run from s, within any bound that holds its steps, ends so, and this is what it comes to.
pub record IsWhole (s : State) (r : Result) (o : Outcome) : Type 0 where
  pub ms : List Move
  pub t : State
  pub trace : (k : ℕ) → r.steps ≤ k → Trace s k ms t
  pub stopped : t.stopped ≡ Some o
  pub text : r.text ≡ texts ms
  pub count : r.steps ≡ steps ms
  pub names : r.names ≡ t.names
  pub reports : r.reports ≡ t.reports
  pub flawed : r.flawed ≡ t.flawed

abbrev pub EndedRowsAreWhole : Type 0
EndedRowsAreWhole = (n : ℕ) (s : State) (o : Outcome) → (run_of n s).stopped ≡ Some o → IsWhole s (run_of n s) o

-- where these moves within the sizes lead to t: the run has ended, or they are as many as may be; or this table has no room for
-- the next move
abbrev pub EndsWith : Sizes → ℕ → List Move → State → Option Full → Type 0
EndsWith sizes n ms t None = (next t ≡ Ends) ⊎ (length ms ≡ n)
EndsWith sizes n ms t (Some full) = (m : Move) × ((u : State) × ((next t ≡ Goes m u) × (refusal sizes m t ≡ Some full)))

-- The machine makes these moves, at most n of them, each of which fits, and this is the table that is full behind them, if one is.
pub record FitsTo (sizes : Sizes) (n : ℕ) (s : State) (full : Option Full) : Type 0 where
  pub ms : List Move
  pub t : State
  pub moves : FitMoves sizes s ms t
  pub within : length ms ≤ n
  pub ends : EndsWith sizes n ms t full

abbrev pub RefusalsAreRuns : Type 0
RefusalsAreRuns = (sizes : Sizes) (n : ℕ) (s : State) → FitsTo sizes n s (full_in sizes n s)
