-- What a frame will answer on what is still to come.
use Rattle.std.specs.Prelude.{◌≡◌, Bool, true, false, List, [], ◌∷◌}
use Rattle.tex_defs.specs.declared.Token.{Token}
use Rattle.rows.specs.declared.words.Datum.{Datum}
use Rattle.rows.specs.declared.stage.Stage.{Stage}
use Rattle.rows.specs.declared.command.Call.{Call}
use Rattle.rows.specs.declared.command.Effect.TheVariants as effect
use Rattle.rows.specs.Table.{stages_left}
use Rattle.rows.specs.Readings.{Fed}
use Rattle.rows.specs.Commands.{CommandAsk}
use Rattle.rows.specs.Commands as command
use Rattle.rows.specs.Stages.{start}
use Rattle.rows.specs.Effects.{command_effect}
use Rattle.rows.specs.Run.{StageOutcome, Asks, started, looks, inner, numbers, noted, again, behind, run, no_turn, turned}
use Rattle.rows.specs.Run as outcome
use Rattle.row_frames.specs.declared.turn.Ask.{Ask}
use Rattle.row_frames.specs.declared.turn.Kept.{Kept}
use Rattle.row_frames.specs.declared.turn.Kept.TheVariants.{Start, Looking, Within, Numbered, Noting, Retrying}
use Rattle.row_frames.specs.declared.turn.Turn.{Turn}
use Rattle.row_frames.specs.declared.turn.Turn.TheVariants.{Stays, Takes, Passes, Leaves, Gathers, Defines, Becomes, Unassigned, Ends}
use Rattle.row_frames.specs.declared.frame.RowFrame.{RowFrame}
use Rattle.row_frames.specs.Data.{values}
use Rattle.row_frames.specs.Views.{ask_of}

-- what comes of a stage in which a command stands here
abbrev pub within : Stage → Call → List Datum → Kept → List Fed → StageOutcome
within s c ds Start fed = started s c (start s c ds) fed
within s c ds (Looking d want) fed = looks s d want fed
within s c ds (Within k) fed = inner s k fed
within s c ds (Numbered b) fed = numbers b fed
within s c ds (Noting n m) fed = noted n m fed
within s c ds (Retrying d want n) fed = again s d want n fed

-- A stage that goes on asks for this now, and behind more it comes to what it comes to here.
pub record GoesOn (s : Stage) (c : Call) (ds : List Datum) (ts : List Token) (onward : List Fed → StageOutcome) (kept : Kept) (a : Ask) : Type 0 where
  pub asks : onward [] ≡ Asks (ask_of ts a)
  pub on : (fed : List Fed) → onward fed ≡ within s c ds kept fed

-- what came last leads onward to this
abbrev pub IsTurn : Stage → Call → List Datum → List Token → Fed → (onward : List Fed → StageOutcome) → Turn → Type 0
IsTurn s c ds ts y onward (Stays kept a) = GoesOn s c ds ts onward kept a
IsTurn s c ds ts y onward (Takes d) = (fed : List Fed) → onward fed ≡ outcome.Takes d fed
IsTurn s c ds ts y onward Passes = (fed : List Fed) → onward fed ≡ outcome.Passes fed
IsTurn s c ds ts y onward Leaves = (fed : List Fed) → onward fed ≡ outcome.Passes (y ∷ fed)
IsTurn s c ds ts y onward Gathers = (fed : List Fed) → onward fed ≡ outcome.Gathers ts
IsTurn s c ds ts y onward Defines = (fed : List Fed) → onward fed ≡ outcome.Makes ts
IsTurn s c ds ts y onward (Becomes d) = (fed : List Fed) → onward fed ≡ outcome.Becomes d fed
IsTurn s c ds ts y onward (Unassigned d) = (fed : List Fed) → onward fed ≡ Asks (command.Acts d effect.Unassigned)
IsTurn s c ds ts y onward Ends = (fed : List Fed) → onward fed ≡ Asks command.Ends

-- what a command asks for that stands here in the first of these stages, and has read this
abbrev pub resume_row : (turn : Call → List Fed → CommandAsk) → Call → List Stage → List Datum → Kept → List Fed → CommandAsk
resume_row turn c [] ds kept fed = command.Acts c (command_effect c ds)
resume_row turn c (s ∷ ss) ds kept fed = behind turn c ds (λ es more. run turn c ss es more) (within s c ds kept fed)

-- a command that goes on as another does so once
abbrev pub turn_of : (is_turned : Bool) → Call → List Fed → CommandAsk
turn_of true c fed = no_turn c fed
turn_of false c fed = turned c fed

-- what a frame answers once it is fed with this
abbrev pub resume : RowFrame → List Fed → CommandAsk
resume f fed = resume_row (λ c more. turn_of f.is_turned c more) f.call (stages_left f.left) (values f.read) f.kept fed
