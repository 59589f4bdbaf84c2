-- A call that gathers its arguments: the innermost reading of all.
use Rattle.std.specs.Prelude.{◌≡◌, ℕ, Bool, true, false, List, [], ◌∷◌, ◌++◌, Option, Some, None}
use Rattle.tex_syntax.specs.declared.words.Report.{Report}
use Rattle.tex_syntax.specs.declared.words.Scanned.TheVariants as scanned
use Rattle.tex_defs.specs.Places.{Transcript}
use Rattle.tex_defs.specs.declared.Sizes.{Sizes}
use Rattle.tex_defs.specs.declared.Token.{Token}
use Rattle.tex_defs.specs.declared.Name.{Name}
use Rattle.tex_defs.specs.declared.Meaning.TheVariants.{Macro}
use Rattle.plain_tokens.specs.Arguments.{Answer, Called, arguments_in, work_in, has_parameters}
use Rattle.plain_tokens.specs.Meanings.{name_meaning}
use Rattle.rows.specs.Readings as reading
use Rattle.plain_readings.specs.Calls.{call_ask}
use Rattle.plain_readings.specs.Readings.{Kind, Reading, Arguments}
use Rattle.plain_state.specs.Reports as texts
use Rattle.plain_machine.specs.States.{Move, Written}
use Rattle.plain_machine.specs.Plan.{Page, put_one, failed, page_behind}
use Rattle.macro_call.specs.PlainScans.{Scan, resume_scan, scan_work}
use Rattle.macro_call.specs.Scans.{answer_of}
use Rattle.reading_frames.specs.Frames.{OpenCall}
use Rattle.input_state.specs.CallFeeds.{call_work}
use Rattle.input_state.specs.Callings.{Calling, NotCalling, Gathering, Stopped, Gathered, call_in, ended_asks, scan_asks}
use Rattle.input_state.specs.Macros.{list_at}
use Rattle.input_state.specs.declared.answer.Call.{Call}
use Rattle.input_state.specs.declared.answer.CallEnd.{CallEnd}
use Rattle.input_state.specs.declared.answer.CallEnd.TheVariants as end
use Rattle.macro_call.specs.declared.ask.CallAsk.{CallAsk}
use Rattle.engine_state.specs.declared.engine.Engine.{Engine}
use Rattle.engine_state.specs.Book.{Book}
use Rattle.engine_state.specs.Stands.{OpenFrames, IsSound, own_style}

-- THE CALL. How far it is stands in the input.

-- one that takes no more tokens wasn't cut off
abbrev pub IsEnded : CallEnd → Type 0
IsEnded end.Mismatch = Unit {0}
IsEnded (end.ParEnded silent) = Unit {0}
IsEnded end.Full = ⊥

-- what ended it, as an answer; of one that was cut off it says nothing
abbrev pub ended_answer : CallEnd → Scan → Answer
ended_answer why scan = answer_of (ended_asks why) scan.args (scan_work scan)

-- the call as the relation of frames takes it, over the list of its macro: what it answers on what is still to come
abbrev pub open_call_of : (text : List Token) → Calling → Option OpenCall
open_call_of text NotCalling = None
open_call_of text (Gathering name scan) = Some (record { name = name; text = text; answers = resume_scan text scan })
open_call_of text (Stopped name why scan) = Some (record { name = name; text = text; answers = λ fed. ended_answer why scan })
open_call_of text (Gathered name args) = Some (record { name = name; text = text; answers = λ fed. Called args })

-- it has no argument where it has no list in work
abbrev pub HasWork : Scan → Type 0
HasWork scan = scan_work scan ≡ None → scan.args ≡ []

-- The scanner has the arguments and the list in work of this answer, and asks so.
pub record HasRead (asked : CallAsk) (scan : Scan) (a : Answer) : Type 0 where
  pub says : a ≡ answer_of asked scan.args (scan_work scan)
  pub args : arguments_in a ≡ scan.args
  pub work : work_in a ≡ scan_work scan
  pub bare : HasWork scan

-- the scanner in the input has the lists of what the call answers now
abbrev pub IsAsFar : (text : List Token) → Calling → Type 0
IsAsFar text NotCalling = Unit {0}
IsAsFar text (Gathering name scan) = HasRead (scan_asks scan) scan (resume_scan text scan [])
IsAsFar text (Stopped name why scan) = IsEnded why × HasRead (ended_asks why) scan (ended_answer why scan)
IsAsFar text (Gathered name args) = Unit {0}

-- The call is that of a macro with a list that has a parameter text: this one.
pub record IsMacroOf (e : Engine) (number : ℕ → ℕ) (text : List Token) (name : Name) (k : Kind) : Type 0 where
  pub long : Bool
  pub outer : Bool
  pub id : ℕ
  pub meaning : name_meaning e.input.groups.now.meanings name ≡ Macro long outer (Some id)
  pub list : text ≡ list_at e.input.lists id
  pub kind : k ≡ Arguments name long (number id) text
  pub places : has_parameters text ≡ true

-- so it is, where the innermost reading is a call's
abbrev pub MacroStands : Option Call → Engine → (number : ℕ → ℕ) → (text : List Token) → List Reading → Type 0
MacroStands None e number text work = Unit {0}
MacroStands (Some c) e number text [] = ⊥
MacroStands (Some c) e number text (r ∷ rs) = IsMacroOf e number text c.name r.kind

-- THE OPEN READINGS

-- The open frames stand for these readings, one for one, each with its lists; the call, if there is one, is that of a macro with some list.
pub record FramesOf (e : Engine) (work : List Reading) : Type 0 where
  pub text : List Token
  pub frames : OpenFrames (open_call_of text e.input.call) e work
  pub far : IsAsFar text e.input.call

-- So they do, and a call's list is that of its macro.
pub record ReadingsStand (e : Engine) (number : ℕ → ℕ) (work : List Reading) : Type 0 where
  pub readings : FramesOf e work
  pub macro : MacroStands (call_in e.input.call) e number readings.text work

-- The engine's open readings and its shared lists are those of the book, and no list is being made.
pub record AllStand (sizes : Sizes) (e : Engine) (book : Book) : Type 0 where
  pub sound : IsSound sizes e book.number book.all_lists
  pub idle : e.input.making ≡ None
  pub all : ReadingsStand e book.number book.work

-- WHAT A CALL ASKS FOR

-- the arguments, where all of them are there
abbrev pub args_of : Calling → List (List Token)
args_of NotCalling = []
args_of (Gathering name scan) = []
args_of (Stopped name why scan) = []
args_of (Gathered name args) = args

-- as its reading does; it asks so whatever list is in work
abbrev pub asks_by : Name → CallAsk → Calling → reading.Ask
asks_by name a k = call_ask name (answer_of a (args_of k) None)

abbrev pub asks_of : Call → Calling → reading.Ask
asks_of c k = asks_by c.name c.ask k

-- AN ARGUMENT THAT RUNS AWAY

abbrev pub work_or_none : Option (List Token) → List Token
work_or_none None = []
work_or_none (Some ts) = ts

-- what is shown of it: the list in work, if a place is reached
abbrev pub argument_bytes : Engine → List ℕ
argument_bytes e = texts.runaway_bytes scanned.Use (own_style e) e.in_line (work_or_none (call_work e.input.call))

-- it is shown, the token put back, and the call reports and ends
abbrev pub call_away_moves : Page → (text : List ℕ) → Token → Report → List Move
call_away_moves page text t report = Written Transcript text ∷ (put_one t ++ failed (page_behind page text) report)

-- the call takes tokens, and asks for one
abbrev pub AsksToken : Calling → Type 0
AsksToken NotCalling = ⊥
AsksToken (Gathering name scan) = scan.braced ≡ false
AsksToken (Stopped name why scan) = ⊥
AsksToken (Gathered name args) = ⊥
