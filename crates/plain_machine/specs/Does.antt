-- Some moves done, all of them or those before one that was cut off.
use Rattle.std.specs.Prelude.{◌≡◌, ℕ, ◌+◌, ◌≤◌, List, [], ◌∷◌, ◌++◌, take, None, Some, ◌⊎◌}
use Rattle.tex_defs.specs.Places.{World, Rose}
use Rattle.tex_defs.specs.declared.Sizes.{Sizes}
use Rattle.plain_machine.specs.declared.broken.Broken.{Broken}
use Rattle.plain_machine.specs.declared.broken.Broken.TheVariants as broken
use Rattle.plain_machine.specs.States.{State, Move, Written, ListsEnded, Taken, FirstTaken, FileClosed, FileOpened}
use Rattle.plain_machine.specs.Demands.{refusal}
use Rattle.plain_machine.specs.Plan.{Goes, next, plan}
use Rattle.plain_machine.specs.Runs.{Wrote, made_all, steps, step_of}
use Rattle.plain_machine.specs.Bounded.{AllFit, FitMoves}

-- the moves are done, each of them fits, and all that they write is written
pub record Did (sizes : Sizes) (s s' : State) (w w' : World) (ms : List Move) : Type 0 where
  pub state : made_all ms s ≡ s'
  pub fits : AllFit sizes ms s
  pub written : Wrote w w' ms

-- a move that calls the outside
abbrev pub IsOutside : Move → Type 0
IsOutside (Written p bs) = Unit {0}
IsOutside m = ⊥

-- this is why the move isn't made: a table is full, or a call on the outside failed, or wanted memory
abbrev pub Refuses : Sizes → Broken → Move → State → Type 0
Refuses sizes (broken.Full full) m s = refusal sizes m s ≡ Some full
Refuses sizes broken.WriteFault m s = IsOutside m
Refuses sizes broken.Want m s = IsOutside m

-- a fault or a want comes only where its count rose
abbrev pub IsCause : Broken → World → World → Type 0
IsCause (broken.Full full) w w' = Unit {0}
IsCause broken.WriteFault w w' = Rose w.file_faults w'.file_faults ⊎ Rose w.sink_faults w'.sink_faults
IsCause broken.Want w w' = Rose w.file_wants w'.file_wants ⊎ Rose w.sink_wants w'.sink_wants

-- the first of what a move writes
abbrev pub front_of : ℕ → Move → List Move
front_of n (Written p bs) = Written p (take n bs) ∷ []
front_of n m = []

-- The moves are cut off: the first of them are done and lead to s', and the next one isn't made, of which a front may be written.
pub record Cut (sizes : Sizes) (s s' : State) (w w' : World) (ms : List Move) (why : Broken) : Type 0 where
  pub done : List Move
  pub m : Move
  pub rest : List Move
  pub count : ℕ
  pub all : ms ≡ done ++ m ∷ rest
  pub state : made_all done s ≡ s'
  pub fits : AllFit sizes done s
  pub refuses : Refuses sizes why m s'
  pub cause : IsCause why w w'
  pub written : Wrote w w' (done ++ front_of count m)

-- but for what is due
abbrev pub but_due : State → State
but_due s = record s { due = [] }

-- A moment t of the run from s within k steps, at which it was cut off before the move m. All before it is written, and of m at
-- most a front of its text.
pub record CutAt (sizes : Sizes) (s : State) (k : ℕ) (t : State) (w w' : World) (why : Broken) : Type 0 where
  pub ms : List Move
  pub m : Move
  pub u : State
  pub count : ℕ
  pub moves : FitMoves sizes s ms t
  pub goes : next t ≡ Goes m u
  pub room : steps ms + step_of m ≤ k
  pub refuses : Refuses sizes why m t
  pub cause : IsCause why w w'
  pub written : Wrote w w' (ms ++ front_of count m)

-- by this move the machine reads on in a file: a line is taken, or the file goes behind its last line
abbrev pub IsOfFile : Move → Type 0
IsOfFile (Taken line) = Unit {0}
IsOfFile (FirstTaken line) = Unit {0}
IsOfFile FileClosed = Unit {0}
IsOfFile m = ⊥

-- the moves of a rule that begins with the file's next reading, or with the first line of a file that was opened
abbrev pub ReadsFile : List Move → Type 0
ReadsFile (ListsEnded ∷ m ∷ ms) = IsOfFile m
ReadsFile ms = ⊥

-- Something of the files is needed at a moment t. It is a file's next bytes: nothing is due, and the next rule begins with the file's next
-- reading. So the run hasn't stopped, and a file was opened, or a token is wanted, nothing is left in front of the file, and it is open. Such
-- a moment may be behind the last of the steps of a run, as the bytes mostly tell whether that reading is a step (of a file that isn't begun it
-- always is: there this says less than could be said). Or a file is to be opened next, for which there is room.
pub data NeedsFiles (sizes : Sizes) (t : State) : Type 0 where
  ForBytes : t.due ≡ [] → ReadsFile (plan t t.stopped) → NeedsFiles sizes t
  ToOpen : (name : List ℕ) → (u : State) → next t ≡ Goes (FileOpened name) u → refusal sizes (FileOpened name) t ≡ None → NeedsFiles sizes t

-- A moment t of the run from s within k steps at which something of the files is needed. All before it is written.
pub record ReadAt (sizes : Sizes) (s : State) (k : ℕ) (t : State) (w w' : World) : Type 0 where
  pub ms : List Move
  pub moves : FitMoves sizes s ms t
  pub within : steps ms ≤ k
  pub needs : NeedsFiles sizes t
  pub written : Wrote w w' ms
