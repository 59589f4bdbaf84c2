-- What the engine did in a whole run. What the files have left, beyond what the engine holds of them, and what the openings to come find, is `left`.
use Rattle.std.specs.Prelude.{◌≡◌, ℕ, ◌≤◌, Bool, true, false, List, [], Option, Some, None, Result, Ok, Err}
use Rattle.tex_syntax.specs.declared.words.Outcome.{Outcome}
use Rattle.tex_defs.specs.Places.{World}
use Rattle.tex_defs.specs.declared.Sizes.{Sizes}
use Rattle.world_io.specs.Contents.{FilesTold, SinkTold}
use Rattle.plain_machine.specs.declared.broken.Broken.{Broken}
use Rattle.plain_machine.specs.States.{State, Move, FileOpened}
use Rattle.plain_machine.specs.Plan.{Ends, Goes, next}
use Rattle.plain_machine.specs.Runs.{Wrote, steps}
use Rattle.plain_machine.specs.Bounded.{FitMoves, Bounded, End, AtEnd, AtSteps}
use Rattle.plain_machine.specs.Does.{CutAt, ReadAt, but_due}
use Rattle.plain_machine.specs.Extended.{Rests, extended}
use Rattle.engine_state.specs.declared.engine.Engine.{Engine}
use Rattle.stomach.specs.declared.runs.Ended.{Ended}
use Rattle.stomach.specs.declared.runs.Ended.TheVariants.{Halted, Steps}
use Rattle.stomach.specs.declared.early.Early.{Early}
use Rattle.stomach.specs.declared.early.Early.TheVariants as early
use Rattle.line_reader.specs.Readers.{OpenReaders}
use Rattle.engine_state.specs.declared.outcome.Ruled.{Ruled}
use Rattle.engine_state.specs.declared.outcome.Ruled.TheVariants as ruled
use Rattle.stomach.specs.Ahead.{Lacks, needs_step}
use Rattle.stomach.specs.Read.{AreTied}
use Rattle.engine_state.specs.Book.{Book}
use Rattle.engine_state.specs.Calls.{AllStand, FramesOf}
use Rattle.engine_state.specs.CutReadings.{FramesAtCut}
use Rattle.engine_state.specs.Stands.{state_of}
use Rattle.engine_state.specs.Rules.{world_of, CountsReports, IsMoment}

-- the machine's state that an engine stands for, whose files go on with these bytes
abbrev pub whole_state : Rests → Engine → Book → State
whole_state left e book = extended left (state_of e book)

-- The machine has come from s to where the engine is.
pub record Came (sizes : Sizes) (s : State) (e' : Engine) (left : Rests) (w w' : World) (k : ℕ) : Type 0 where
  pub ms : List Move
  pub book' : Book
  pub stands : AllStand sizes e' book'
  pub moves : FitMoves sizes s ms (whole_state left e' book')
  pub count : steps ms ≡ k
  pub written : Wrote w w' ms

-- A run has ended in this state: the engine stands for it, with its open readings, but for how it stopped.
pub record IsEnd (e' : Engine) (left : Rests) (t : State) : Type 0 where
  pub book' : Book
  pub frames : FramesOf e' book'.work
  pub same : record t { stopped = None } ≡ whole_state left e' book'

-- The machine has come from s to its end, behind at most k steps.
pub record Stops (sizes : Sizes) (s : State) (e' : Engine) (left : Rests) (w w' : World) (k : ℕ) (o : Outcome) : Type 0 where
  pub ms : List Move
  pub t : State
  pub moves : FitMoves sizes s ms t
  pub within : steps ms ≤ k
  pub ends : next t ≡ Ends
  pub stopped : t.stopped ≡ Some o
  pub reports : CountsReports o t e'
  pub stands : IsEnd e' left t
  pub written : Wrote w w' ms

-- The engine stands for this state, but for what is due.
pub record IsAt (sizes : Sizes) (e' : Engine) (left : Rests) (t : State) : Type 0 where
  pub book' : Book
  pub stands : AllStand sizes e' book'
  pub same : but_due t ≡ whole_state left e' book'

abbrev pub end_of : Ended → End
end_of (Halted o) = AtEnd
end_of Steps = AtSteps

abbrev pub EndsAs : Sizes → Ended → Engine → Rests → State → Type 0
EndsAs sizes (Halted o) e' left t = (t.stopped ≡ Some o) × (CountsReports o t e' × IsEnd e' left t)
EndsAs sizes Steps e' left t = IsAt sizes e' left t

-- The whole run of at most n steps within the sizes, and how it ended.
pub record Ran (sizes : Sizes) (s : State) (n : ℕ) (e' : Engine) (left : Rests) (w w' : World) (ended : Ended) : Type 0 where
  pub ms : List Move
  pub t : State
  pub run : Bounded sizes s n ms t (end_of ended)
  pub ends : EndsAs sizes ended e' left t
  pub written : Wrote w w' ms

-- The run was cut off at a moment t: at a move that a table has no room for, or that calls the outside. The engine stands for it, with
-- its open readings, but for what is due; where a table is full a list may have one token more. At a failed write its column is
-- that of the bytes really written.
pub record CutBy (sizes : Sizes) (s : State) (n : ℕ) (e' : Engine) (left : Rests) (w w' : World) (b : Broken) : Type 0 where
  pub t : State
  pub cut : CutAt sizes s n t w w' b
  pub book' : Book
  pub frames : FramesAtCut b e' book'.work
  pub same : IsMoment b (but_due t) (whole_state left e' book')

-- Why something of the files was needed at this moment: what the engine holds doesn't tell the next reading, or a file is to be opened next.
pub data IsUnread (e' : Engine) (t : State) : Type 0 where
  ForLine : t.due ≡ [] → Lacks e' → IsUnread e' t
  ForFile : (name : List ℕ) → (u : State) → next t ≡ Goes (FileOpened name) u → IsUnread e' t

-- The run was cut off at a moment t at which something of the files was needed and didn't come. The engine stands for it, but for what is due.
pub record UnreadBy (sizes : Sizes) (s : State) (n : ℕ) (e' : Engine) (left : Rests) (w w' : World) : Type 0 where
  pub t : State
  pub read : ReadAt sizes s n t w w'
  pub at : IsAt sizes e' left t
  pub unread : IsUnread e' t

-- The run stopped early.
abbrev pub StoppedBy : Sizes → State → ℕ → Engine → Rests → World → World → Early → Type 0
StoppedBy sizes s n e' left w w' (early.Broken b) = CutBy sizes s n e' left w w' b
StoppedBy sizes s n e' left w w' (early.Unread fault) = UnreadBy sizes s n e' left w w'

-- The whole run of at most n steps, over any files and whatever the engine stands for, where each of its open files has its reader.
abbrev pub RanTo : OpenReaders → Engine → SinkTold → Engine → SinkTold → ℕ → Ended → (all left : Rests) → Type 0
RanTo rs e s e' s' n ended all left =
    (sizes : Sizes) (f : FilesTold) (book : Book) → AllStand sizes e book → AreTied rs e → Ran sizes (whole_state all e book) n e' left (world_of f s e) (world_of f s' e') ended

-- It stopped early, within n steps.
abbrev pub StoppedTo : OpenReaders → Engine → SinkTold → Engine → SinkTold → ℕ → Early → (all left : Rests) → Type 0
StoppedTo rs e s e' s' n x all left =
    (sizes : Sizes) (f : FilesTold) (book : Book) → AllStand sizes e book → AreTied rs e → StoppedBy sizes (whole_state all e book) n e' left (world_of f s e) (world_of f s' e') x

-- ONE RULE

-- It goes on behind so many steps, and each open file has its reader.
pub record CameOn (sizes : Sizes) (s : State) (rs' : OpenReaders) (e' : Engine) (left : Rests) (w w' : World) (k : ℕ) : Type 0 where
  pub came : Came sizes s e' left w w' k
  pub tied : AreTied rs' e'

abbrev pub step_count : Bool → ℕ
step_count true = 1
step_count false = 0

abbrev pub RuledSo : Sizes → State → (steps : Bool) → OpenReaders → Engine → Rests → World → World → Result Ruled Early → Type 0
RuledSo sizes s steps rs' e' left w w' (Ok ruled.Step) = CameOn sizes s rs' e' left w w' 1
RuledSo sizes s steps rs' e' left w w' (Ok ruled.Free) = CameOn sizes s rs' e' left w w' 0
RuledSo sizes s steps rs' e' left w w' (Ok (ruled.Halted o)) = Stops sizes s e' left w w' (step_count steps) o
RuledSo sizes s steps rs' e' left w w' (Err x) = StoppedBy sizes s (step_count steps) e' left w w' x

-- over any files and whatever the engine stands for
abbrev pub RuledTo : OpenReaders → Engine → SinkTold → OpenReaders → Engine → SinkTold → (all left : Rests) → Result Ruled Early → Type 0
RuledTo rs e s rs' e' s' all left result =
    (sizes : Sizes) (f : FilesTold) (book : Book) → AllStand sizes e book → AreTied rs e →
    RuledSo sizes (whole_state all e book) (needs_step e) rs' e' left (world_of f s e) (world_of f s' e') result

-- the rules that need no step: to where one comes next, or to the end of the run
abbrev pub FreeTo : OpenReaders → Engine → SinkTold → OpenReaders → Engine → SinkTold → (all left : Rests) → Result (Option Outcome) Early → Type 0
FreeTo rs e s rs' e' s' all left (Ok None) =
    (sizes : Sizes) (f : FilesTold) (book : Book) → AllStand sizes e book → AreTied rs e → CameOn sizes (whole_state all e book) rs' e' left (world_of f s e) (world_of f s' e') 0
FreeTo rs e s rs' e' s' all left (Ok (Some o)) =
    (sizes : Sizes) (f : FilesTold) (book : Book) → AllStand sizes e book → AreTied rs e → Stops sizes (whole_state all e book) e' left (world_of f s e) (world_of f s' e') 0 o
FreeTo rs e s rs' e' s' all left (Err x) =
    (sizes : Sizes) (f : FilesTold) (book : Book) → AllStand sizes e book → AreTied rs e → StoppedBy sizes (whole_state all e book) 0 e' left (world_of f s e) (world_of f s' e') x
