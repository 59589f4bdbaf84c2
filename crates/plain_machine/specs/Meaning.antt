-- What the program writes and answers, by the plain machine.
use Rattle.std.specs.Prelude.{◌≡◌, ℕ, ◌≤◌, Bool, true, false, ◌||◌, nat_lt, List, [], ◌∷◌, ◌++◌, Option, Some, None, take, length, codes, decimal, ◌⊎◌}
use Rattle.tex_syntax.specs.declared.words.Outcome.{Outcome}
use Rattle.tex_syntax.specs.declared.words.Outcome.TheVariants.{Finished, AtFatal}
use Rattle.tex_defs.specs.declared.Fatal.{Fatal}
use Rattle.tex_defs.specs.declared.Full.{Full}
use Rattle.tex_defs.specs.declared.Sizes.{Sizes}
use Rattle.world_io.specs.declared.traits.Fault.{Fault}
use Rattle.world_io.specs.declared.traits.Fault.TheVariants.{Failed, NoMemory}
use Rattle.tex_defs.specs.Sizes.{table_name, default_sizes}
use Rattle.tex_defs.specs.Places.{World, Rose, Transcript, File, Untold, NotHeld, Holds}
use Rattle.equivalents.specs.Groups.{first_groups}
use Rattle.plain_machine.specs.declared.broken.Broken.{Broken}
use Rattle.plain_machine.specs.declared.broken.Broken.TheVariants as broken
use Rattle.plain_machine.specs.States.{State, Files, Move, Kept, Written}
use Rattle.plain_state.specs.Reports.{fresh_line}
use Rattle.plain_machine.specs.Plan.{first_state, is_known}
use Rattle.plain_machine.specs.Runs.{Wrote}
use Rattle.plain_machine.specs.Bounded.{FitMoves, Bounded, End, AtEnd, AtSteps, AtFull}
use Rattle.plain_machine.specs.Does.{CutAt, ReadAt}
use Rattle.command_words.specs.Words.{Command, Options, Init, NoCommand}

-- THE STOP LINES

abbrev pub usage_line : List ℕ
usage_line = codes "usage: texmac init FILE, run --fmt NAME FILE, drill SEED SIZE\n"

abbrev pub steps_line : ℕ → List ℕ
steps_line n = codes "! Step limit reached [steps=" ++ (decimal n ++ codes "].\n")

abbrev pub read_fault_line : List ℕ
read_fault_line = codes "! Read fault.\n"

abbrev pub write_fault_line : List ℕ
write_fault_line = codes "! Write fault.\n"

abbrev pub no_memory_line : List ℕ
no_memory_line = codes "! Out of memory.\n"

-- A stop line on a fresh line: the first of its bytes, and all of them unless a write of them failed or wanted memory.
pub record Line (w w' : World) (line : List ℕ) : Type 0 where
  pub count : ℕ
  pub written : Wrote w w' (Written Transcript (take count (fresh_line w.in_line ++ line)) ∷ [])
  pub whole : (length (fresh_line w.in_line ++ line) ≤ count) ⊎ (Rose w.sink_faults w'.sink_faults ⊎ Rose w.sink_wants w'.sink_wants)

abbrev pub full_line : Full → List ℕ
full_line full = codes "! TeX capacity exceeded, sorry [" ++ (table_name full.table ++ (61 ∷ decimal full.size ++ codes "].\n"))

-- THE RUN

-- INITEX's first state, with the job's file opened where it is held; token lines may be left out
abbrev pub First : (quiet : Bool) → (file : List ℕ) → (job : Option (List ℕ)) → Files → State
First quiet file job files = first_state (first_groups is_known) quiet file job files

-- The machine's whole run ended so within the sizes, and all that it writes is written.
pub record Whole (sizes : Sizes) (s : State) (n : ℕ) (w w' : World) (o : Outcome) : Type 0 where
  pub ms : List Move
  pub t : State
  pub run : Bounded sizes s n ms t AtEnd
  pub stopped : t.stopped ≡ Some o
  pub written : Wrote w w' ms

-- a report came, or `\show`
abbrev pub is_flawed : State → Bool
is_flawed t = t.flawed || nat_lt 0 t.reports

-- It ended at `\end`, without or with a report or `\show` before it.
pub record Ending (sizes : Sizes) (s : State) (n : ℕ) (w w' : World) (flawed : Bool) : Type 0 where
  pub whole : Whole sizes s n w w' Finished
  pub flaws : is_flawed whole.t ≡ flawed

-- It ended at something fatal.
pub record Fails (sizes : Sizes) (s : State) (n : ℕ) (w w' : World) : Type 0 where
  pub fatal : Fatal
  pub whole : Whole sizes s n w w' (AtFatal fatal)

-- The machine's run within n steps and the sizes came to this end. All that it writes is written, and then a stop line.
pub record Stops (sizes : Sizes) (s : State) (n : ℕ) (w w' : World) (end : End) (line : List ℕ) : Type 0 where
  pub ms : List Move
  pub t : State
  pub between : World
  pub run : Bounded sizes s n ms t end
  pub written : Wrote w between ms
  pub last : Line between w' line

-- A table is full.
pub record OutOfRoom (sizes : Sizes) (s : State) (n : ℕ) (w w' : World) : Type 0 where
  pub full : Full
  pub stops : Stops sizes s n w w' (AtFull full) (full_line full)

-- A moment of the run is written, of its next move at most a front in that one place, and then a stop line.
pub record CutShort (sizes : Sizes) (s : State) (n : ℕ) (w w' : World) (why : Broken) (line : List ℕ) : Type 0 where
  pub t : State
  pub between : World
  pub cut : CutAt sizes s n t w between why
  pub last : Line between w' line

-- Bytes of a file don't come, and it can't be opened, only where the count of failed reads, or of wants, rose.
abbrev pub IsReadCause : Fault → World → World → Type 0
IsReadCause Failed w w' = Rose w.read_faults w'.read_faults
IsReadCause NoMemory w w' = Rose w.file_wants w'.file_wants

-- A moment of the run is written at which a file's next bytes are needed and don't come, or a file can't be opened, for a cause, and then a
-- stop line. How much of a file came isn't told, so neither is which of these moments it is.
pub record Unread (sizes : Sizes) (s : State) (n : ℕ) (w w' : World) (fault : Fault) (line : List ℕ) : Type 0 where
  pub t : State
  pub between : World
  pub read : ReadAt sizes s n t w between
  pub cause : IsReadCause fault w between
  pub last : Line between w' line

-- The file could not be opened, once the job's name was kept: a read failed, nothing of the run is written, and the stop line follows.
pub record Unopened (sizes : Sizes) (s : State) (w w' : World) : Type 0 where
  pub name : List ℕ
  pub t : State
  pub between : World
  pub kept : FitMoves sizes s (Kept name ∷ []) t
  pub failed : Rose w.read_faults between.read_faults
  pub written : Wrote w between (Kept name ∷ [])
  pub last : Line between w' read_fault_line

-- Memory was wanted before the run: for the tables, of which nothing is counted, or where the file was to be opened. Which of these it was
-- isn't told, so no cause is named. Nothing of the run is written, and the stop line follows.
pub record NotBegun (w w' : World) : Type 0 where
  pub between : World
  pub written : Wrote w between []
  pub last : Line between w' no_memory_line

-- The exit statuses.
pub data Status : ℕ → Type 0 where
  IsFinished : Status 0
  IsFlawed : Status 1
  IsFatal : Status 2
  IsFullTable : Status 3
  IsSteps : Status 4
  IsReadFault : Status 5
  IsWriteFault : Status 6
  IsNoMemory : Status 7

-- What a status says of a run from s of at most n steps within the sizes.
abbrev pub Says : Sizes → State → ℕ → World → World → (status : ℕ) → Status status → Type 0
Says sizes s n w w' _ IsFinished = Ending sizes s n w w' false
Says sizes s n w w' _ IsFlawed = Ending sizes s n w w' true
Says sizes s n w w' _ IsFatal = Fails sizes s n w w'
Says sizes s n w w' _ IsFullTable = OutOfRoom sizes s n w w'
Says sizes s n w w' _ IsSteps = Stops sizes s n w w' AtSteps (steps_line n)
Says sizes s n w w' _ IsReadFault = Unread sizes s n w w' Failed read_fault_line ⊎ Unopened sizes s w w'
Says sizes s n w w' _ IsWriteFault = CutShort sizes s n w w' broken.WriteFault write_fault_line
Says sizes s n w w' _ IsNoMemory = CutShort sizes s n w w' broken.Want no_memory_line ⊎ (Unread sizes s n w w' NoMemory no_memory_line ⊎ NotBegun w w')

-- what is told of a file may be this
abbrev pub IsHeldAs : File → Option (List ℕ) → Type 0
IsHeldAs Untold found = Unit {0}
IsHeldAs NotHeld found = found ≡ None
IsHeldAs (Holds bytes) found = found ≡ Some bytes

-- so may what is told of all files, at each opening
abbrev pub AreHeldAs : (List ℕ → File) → Files → Type 0
AreHeldAs held files = (k : ℕ) → (name : List ℕ) → IsHeldAs (held name) (files k name)

-- the tables' sizes: those of a run whose words give none, but for the main memory
abbrev pub sizes_of : Options → Sizes
sizes_of options = record default_sizes { main_memory_size = options.main_memory_size }

-- The run of a job's file: over files that are told the machine's run, over others the machine's run where each file that is opened has some
-- content, or isn't held.
pub record MeansRun (sizes : Sizes) (quiet : Bool) (name : List ℕ) (held : List ℕ → File) (n : ℕ) (w w' : World) (status : ℕ) : Type 0 where
  pub job : Option (List ℕ)
  pub files : Files
  pub is_job : IsHeldAs (held name) job
  pub are_files : AreHeldAs held files
  pub is : Status status
  pub says : Says sizes (First quiet name job files) n w w' status is

-- Words that are no command: the usage line alone.
pub record MeansUsage (w w' : World) (status : ℕ) : Type 0 where
  pub is : status ≡ 9
  pub line : Line w w' usage_line

-- Want of memory before there is a machine: its line alone.
pub record MeansNoMemory (w w' : World) (status : ℕ) : Type 0 where
  pub is : status ≡ 7
  pub line : Line w w' no_memory_line

-- What the program writes and answers for its words.
abbrev pub Means : Command → (List ℕ → File) → World → World → ℕ → Type 0
Means (Init name options) held w w' status = MeansRun (sizes_of options) options.quiet name held options.steps w w' status
Means NoCommand held w w' status = MeansUsage w w' status ⊎ MeansNoMemory w w' status
