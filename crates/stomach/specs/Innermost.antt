-- What the innermost reading asks for.
use Rattle.std.specs.Prelude.{◌≡◌, List, Option, Some, None, IfSome, Bool, true, false}
use Rattle.plain_readings.specs.Readings.{Reading}
use Rattle.rows.specs.declared.command.Effect.TheVariants as effect
use Rattle.reading_frames.specs.Views.{IsFetchedAt, Lists}
use Rattle.reading_frames.specs.Stack.{asked_in, asked_of, asks_in}
use Rattle.reading_frames.specs.Frames as frames
use Rattle.reading_frames.specs.declared.ask.Ask.{Ask}
use Rattle.reading_frames.specs.declared.ask.Ask.TheVariants as asks
use Rattle.engine_state.specs.declared.engine.Engine.{Engine}
use Rattle.engine_state.specs.Calls.{asks_of}
use Rattle.engine_state.specs.Steps.{asks_more}
use Rattle.stomach.specs.declared.innermost.Innermost.{Innermost}
use Rattle.stomach.specs.declared.innermost.Innermost.TheVariants as innermost
use Rattle.input_state.specs.Callings.{NotCalling, call_in}

-- the innermost frame asks for this, or none is open, whatever lists it holds
abbrev pub AsksFor : Engine → Option Ask → Type 0
AsksFor e a = (held : Lists) → asked_of held a ≡ asks_in e.readings.frames held

-- and so it is with the reading for which it stands
abbrev pub ReadingsAsk : Engine → Option Ask → Type 0
ReadingsAsk e a = (held : Lists) (work : List Reading) → frames.AreFramesOf None e.readings.frames held work → asked_of held a ≡ asked_in work

-- none is open, or the innermost asks for this
pub record IsAsked (e : Engine) (a : Option Ask) : Type 0 where
  pub asks : AsksFor e a
  pub stands : ReadingsAsk e a
  pub found : IfSome a (λ x. IsFetchedAt x)

-- the innermost reading: a call, where one gathers its arguments, and else the innermost frame
abbrev pub IsInnermost : Engine → Innermost → Type 0
IsInnermost e (innermost.Call c) = call_in e.input.call ≡ Some c
IsInnermost e (innermost.Frame a) = (e.input.call ≡ NotCalling) × IsAsked e a

-- it asks for a token, as the stomach does where no reading is open
abbrev pub ask_wants : Ask → Bool
ask_wants (asks.More want) = true
ask_wants a = false

abbrev pub frame_wants : Option Ask → Bool
frame_wants None = true
frame_wants (Some a) = ask_wants a

abbrev pub innermost_wants : Innermost → Bool
innermost_wants (innermost.Call c) = asks_more (asks_of c NotCalling)
innermost_wants (innermost.Frame a) = frame_wants a

-- it asks that a file be opened
abbrev pub ask_opens : Ask → Bool
ask_opens (asks.ActsOn c (effect.StartInput back) listed) = true
ask_opens a = false

abbrev pub frame_opens : Option Ask → Bool
frame_opens None = false
frame_opens (Some a) = ask_opens a

abbrev pub innermost_opens : Innermost → Bool
innermost_opens (innermost.Call c) = false
innermost_opens (innermost.Frame a) = frame_opens a
