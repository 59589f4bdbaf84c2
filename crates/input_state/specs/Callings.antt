-- A call whose arguments are gathered, and the lists that it holds.
use Rattle.std.specs.Prelude.{Bool, true, false, Option, None, Some, List, [], ◌∷◌, ◌++◌, option_to_list}
use Rattle.tex_defs.specs.declared.Token.{Token}
use Rattle.tex_defs.specs.declared.Name.{Name}
use Rattle.plain_tokens.specs.Puts.{list_of_tokens}
use Rattle.macro_call.specs.declared.ask.CallAsk.{CallAsk}
use Rattle.macro_call.specs.declared.ask.CallAsk.TheVariants.{More, ExtraBrace, Gathered as AllGathered, Mismatch, ParEnded}
use Rattle.macro_call.specs.PlainScans.{Scan, scan_work}
use Rattle.input_state.specs.declared.answer.Call.{Call}
use Rattle.input_state.specs.declared.answer.CallEnd.{CallEnd}
use Rattle.input_state.specs.declared.answer.CallEnd.TheVariants as end

-- No call is gathered; the scanner of its arguments stands so and takes more tokens; it takes none, for this cause; or all arguments are there.
-- The name is the macro's.
pub data Calling : Type 0 where
  NotCalling : Calling
  Gathering : Name → Scan → Calling
  Stopped : Name → CallEnd → Scan → Calling
  Gathered : Name → (args : List (List Token)) → Calling

-- all arguments are there
abbrev pub IsComplete : Calling → Type 0
IsComplete NotCalling = ⊥
IsComplete (Gathering name scan) = ⊥
IsComplete (Stopped name why scan) = ⊥
IsComplete (Gathered name args) = Unit {0}

-- the lists of arguments, the last first, in front of others: an argument without tokens has none
abbrev pub last_first : (args others : List (List Token)) → List (List Token)
last_first [] others = others
last_first (a ∷ args) others = last_first args (list_of_tokens a ++ others)

-- the list in work, if a place is reached, and then the arguments so far
abbrev pub scan_lists : Scan → List (List Token)
scan_lists scan = option_to_list (scan_work scan) ++ last_first scan.args []

abbrev pub call_lists : Calling → List (List Token)
call_lists NotCalling = []
call_lists (Gathering name scan) = scan_lists scan
call_lists (Stopped name why scan) = scan_lists scan
call_lists (Gathered name args) = last_first args []

-- WHAT A CALL ASKS FOR

-- that an extra brace be reported, which was answered last, or a token
abbrev pub asks_where : (braced : Bool) → CallAsk
asks_where true = ExtraBrace
asks_where false = More

-- of one that takes tokens
abbrev pub scan_asks : Scan → CallAsk
scan_asks scan = asks_where scan.braced

-- the call of this name, which asks for this
abbrev pub asks_as : Name → CallAsk → Option Call
asks_as name ask = Some (record { name = name; ask = ask })

-- of one that takes no more tokens what ended it, or a token as before
abbrev pub ended_asks : CallEnd → CallAsk
ended_asks end.Mismatch = Mismatch
ended_asks (end.ParEnded silent) = ParEnded silent
ended_asks end.Full = More

-- the call, by what it asks for
abbrev pub call_in : Calling → Option Call
call_in NotCalling = None
call_in (Gathering name scan) = asks_as name (scan_asks scan)
call_in (Stopped name why scan) = asks_as name (ended_asks why)
call_in (Gathered name args) = asks_as name AllGathered
