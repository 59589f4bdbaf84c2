-- What contracts say of a run and of what is told of it, over any sizes, any world and any run.
use Rattle.std.specs.Prelude.{◌≡◌, ℕ, Bool, false, List, Some, None}
use Rattle.tex_defs.specs.Places.{World, Rose}
use Rattle.tex_defs.specs.declared.Sizes.{Sizes}
use Rattle.plain_machine.specs.declared.broken.Broken.{Broken}
use Rattle.plain_machine.specs.States.{State, Files}
use Rattle.plain_machine.specs.Does.{CutAt}
use Rattle.plain_machine.specs.Meaning.{First, MeansRun}
use Rattle.plain_machine.specs.Extended.{Rests, first_left}
use Rattle.world_io.specs.Contents.{FilesTold, SinkTold, world}
use Rattle.line_reader.specs.Readers.{OpenReaders}
use Rattle.stomach.specs.Read.{AreTied}
use Rattle.stomach.specs.declared.early.Early.{Early}
use Rattle.engine_state.specs.declared.engine.Engine.{Engine}
use Rattle.tex_program.specs.Says.{SaysSo, ReadAlike, HasReadCause}
use Rattle.tex_program.specs.Named.{Named, Opened}
use Rattle.tex_program.specs.declared.run.RunEnd.{RunEnd}

-- Of whatever run was cut off so, the status and what is written then say so.
abbrev pub TellsCut : (before after : SinkTold) → (in_line : Bool) → Broken → RunEnd → Type 0
TellsCut before after in_line b told = (sizes : Sizes) (f : FilesTold) (s t : State) (n : ℕ) (w : World) → CutAt sizes s n t w (world f before in_line) b →
    SaysSo sizes s n w (world f after told.in_line) told.status

-- Of whatever run stopped so, for such a cause, they say so.
abbrev pub TellsStop : (Stops : Sizes → State → ℕ → Engine → Rests → World → World → Type 0) → Early → (before after : SinkTold) → (in_line : Bool) → RunEnd → Type 0
TellsStop Stops early before after in_line told = (sizes : Sizes) (f : FilesTold) (s : State) (n : ℕ) (w : World) (e : Engine) (left : Rests) →
    Stops sizes s n e left w (world f before in_line) → HasReadCause early w (world f before in_line) → SaysSo sizes s n w (world f after told.in_line) told.status

-- Of whatever job's file was opened, of which this is left, they say what the machine's run of it comes to.
abbrev pub TellsRun : OpenReaders → Engine → (files_before files_after : FilesTold) → (before after : SinkTold) → (steps : ℕ) → RunEnd → Rests → Type 0
TellsRun rs e files_before files_after before after steps told all = (sizes : Sizes) (f f' : FilesTold) (quiet : Bool) (file : List ℕ) →
    ReadAlike files_before files_after f f' → Opened sizes e quiet file → AreTied rs e →
    SaysSo sizes (First quiet file (Some (first_left all.left)) all.files) steps (world f before false) (world f' after told.in_line) told.status

-- Of a job whose file isn't held they say what the machine's run of it comes to.
abbrev pub TellsUnheld : Engine → (file : List ℕ) → (before after : SinkTold) → RunEnd → Type 0
TellsUnheld e file before after told = (sizes : Sizes) (f : FilesTold) (quiet : Bool) (all : Files) (n : ℕ) → Named sizes e quiet file →
    SaysSo sizes (First quiet file None all) n (world f before false) (world f after told.in_line) told.status

-- From an engine that stands so, what is written and the status are those of the machine's run of this file.
abbrev pub MeansFile : (Holds : Sizes → Bool → Type 0) → (file : List ℕ) → (files_before files_after : FilesTold) → (before after : SinkTold) → (steps : ℕ) → RunEnd → Type 0
MeansFile Holds file files_before files_after before after steps told = (sizes : Sizes) (quiet : Bool) → Holds sizes quiet →
    MeansRun sizes quiet file files_before.file steps (world files_before before false) (world files_after after told.in_line) told.status

-- From an engine that stands so, status 6 comes only where the count of failed writes rose.
abbrev pub TellsWriteFault : (Holds : Sizes → Bool → Type 0) → (before after : SinkTold) → RunEnd → Type 0
TellsWriteFault Holds before after told = (sizes : Sizes) (quiet : Bool) → Holds sizes quiet → told.status ≡ 6 → Rose before.faults after.faults
