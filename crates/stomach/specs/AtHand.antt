-- A token at hand: a list or a call in front has it left, and the innermost reading wants it.
use Rattle.std.specs.Prelude.{◌≡◌, List, Option, Some, None, true}
use Rattle.tex_syntax.specs.declared.words.Want.{Want}
use Rattle.tex_syntax.specs.declared.words.Want.TheVariants.{Raw}
use Rattle.line_reader.specs.Readers.{OpenReader}
use Rattle.macro_call.specs.declared.ask.CallAsk.TheVariants as call
use Rattle.reading_frames.specs.declared.ask.Ask.{Ask}
use Rattle.reading_frames.specs.declared.ask.Ask.TheVariants.{More}
use Rattle.input_state.specs.declared.answer.Call.{Call}
use Rattle.input_state.specs.Callings.{NotCalling, call_in}
use Rattle.engine_state.specs.declared.engine.Engine.{Engine}
use Rattle.stomach.specs.Innermost.{IsAsked}
use Rattle.stomach.specs.Ahead.{Knows, needs_step}

-- a frame asks for a token that it wants so, and the stomach's is wanted where none is open
abbrev pub asks_token : Option Want → Option Ask
asks_token None = None
asks_token (Some want) = Some (More want)

-- The innermost reading wants the next token so: a call, as it stands, or a frame, or the stomach where none is open.
pub data IsWanted (e : Engine) (want : Option Want) : Type 0 where
  ByCall : (c : Call) → call_in e.input.call ≡ Some c → c.ask ≡ call.More → want ≡ Some Raw → IsWanted e want
  ByFrame : e.input.call ≡ NotCalling → IsAsked e (asks_token want) → IsWanted e want

-- it is a step, and needs no byte of a file
pub record IsAtHand (e : Engine) (want : Option Want) : Type 0 where
  pub wanted : IsWanted e want
  pub unopened : e.input.pending.next ≡ None
  pub knows : (rs : List OpenReader) → Knows e rs
  pub waits : needs_step e ≡ true
