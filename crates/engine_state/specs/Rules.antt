-- What the engine does for one rule of the machine.
use Rattle.std.specs.Prelude.{◌≡◌, ℕ, ◌≤◌, Bool, false, ◌<◌, List, [], ◌∷◌, ◌++◌, length, drop, Option, Some, None}
use Rattle.tex_syntax.specs.declared.words.Outcome.TheVariants.{Finished, AtFatal}
use Rattle.tex_syntax.specs.declared.words.Outcome.{Outcome}
use Rattle.tex_syntax.specs.declared.words.Scanned.{Scanned}
use Rattle.tex_syntax.specs.declared.words.Want.{Want}
use Rattle.tex_syntax.specs.declared.words.Report.{Report}
use Rattle.tex_syntax.specs.declared.words.Scanned.TheVariants as scanned
use Rattle.tex_defs.specs.Places.{World, Transcript}
use Rattle.tex_defs.specs.declared.Seen.{Seen}
use Rattle.tex_defs.specs.declared.Token.{Token as PlainToken}
use Rattle.tex_defs.specs.declared.Sizes.{Sizes}
use Rattle.plain_state.specs.Reports.{report_bytes, error_message_bytes, runaway_bytes}
use Rattle.plain_tokens.specs.Lex.{Lexeme}
use Rattle.plain_tokens.specs.Lookup.{new_name, token_of}
use Rattle.plain_tokens.specs.Meanings.{met as met_token}
use Rattle.plain_tokens.specs.Tokens.{space_token}
use Rattle.rows.specs.Readings.{Ask, More}
use Rattle.plain_readings.specs.Readings.{Reading}
use Rattle.plain_readings.specs.Scanning.{Scanning, scanning}
use Rattle.plain_readings.specs.Scanning as machine
use Rattle.reading_frames.specs.declared.ask.Found.{Found}
use Rattle.reading_frames.specs.declared.ask.Found.TheVariants as found
use Rattle.plain_machine.specs.declared.broken.Broken.{Broken}
use Rattle.plain_machine.specs.declared.broken.Broken.TheVariants as broken
use Rattle.plain_machine.specs.States.{State, Move, Written, Reported}
use Rattle.plain_tokens.specs.Pending.{pulled}
use Rattle.plain_machine.specs.Numbers.{pending_of}
use Rattle.plain_machine.specs.Plan.{Page, style_of, planned, stomach, wanted, feeding, first_list, handed, met, reported, reported_as, behind_report, entered, enters_names, incomplete, reports_room}
use Rattle.plain_machine.specs.Runs.{steps}
use Rattle.plain_machine.specs.Does.{Did, Cut}
use Rattle.world_io.specs.Contents.{FilesTold, SinkTold, world}
use Rattle.engine_state.specs.declared.check.Check.{Check}
use Rattle.engine_state.specs.declared.engine.Engine.{Engine}
use Rattle.engine_state.specs.declared.outcome.Ruled.{Ruled}
use Rattle.engine_state.specs.declared.outcome.Ruled.TheVariants.{Step, Free, Halted}
use Rattle.engine_state.specs.declared.outcome.Next.{Next}
use Rattle.engine_state.specs.declared.outcome.Next.TheVariants.{Token, Line, Skipped, Over}
use Rattle.tex_defs.specs.declared.Fatal.TheVariants.{HundredErrors}
use Rattle.input_state.specs.Stored.{gathered}
use Rattle.engine_state.specs.Begins.{away_moves, check_report}
use Rattle.engine_state.specs.Book.{Book}
use Rattle.engine_state.specs.Calls.{AllStand, AsksToken, work_or_none}
use Rattle.engine_state.specs.Steps.{asks_now}
use Rattle.input_state.specs.Callings.{NotCalling}
use Rattle.input_state.specs.CallFeeds.{call_work}
use Rattle.engine_state.specs.Stands.{state_of, page_of, own_style}

-- the world of these files and this sink, whose column the engine keeps
abbrev pub world_of : FilesTold → SinkTold → Engine → World
world_of f s e = world f s e.in_line

-- the moves of the rule that comes next
abbrev pub plan_of : Engine → Book → List Move
plan_of e book = planned (state_of e book) book.work

-- The engine goes on, at the machine's state after the moves.
pub record Went (sizes : Sizes) (s : State) (e' : Engine) (w w' : World) (moves : List Move) (k : ℕ) : Type 0 where
  pub book' : Book
  pub stands : AllStand sizes e' book'
  pub did : Did sizes s (state_of e' book') w w' moves
  pub count : steps moves ≡ k

-- where a run has ended at `\end`, the engine has counted its reports, and knows whether the status is to be 1 without one
abbrev pub CountsReports : Outcome → State → Engine → Type 0
CountsReports Finished t e = (t.reports ≡ e.reports) × (t.flawed ≡ e.flawed)
CountsReports (AtFatal f) t e = Unit {0}

-- The machine has stopped, behind at most k steps. The engine stands for its last state, but for how it stopped, with the same
-- readings, where its reports were no more than a run may have before its last.
pub record Halts (sizes : Sizes) (s : State) (e' : Engine) (book : Book) (w w' : World) (moves : List Move) (o : Outcome) (k : ℕ) : Type 0 where
  pub t : State
  pub did : Did sizes s t w w' moves
  pub stopped : t.stopped ≡ Some o
  pub due : t.due ≡ []
  pub reports : CountsReports o t e'
  pub same : s.reports ≤ reports_room → record t { stopped = None } ≡ state_of e' book
  pub count : steps moves ≤ k

-- A report is written and counted, behind which the rule goes on.
pub record Reports (sizes : Sizes) (s s' : State) (w w' : World) (page : Page) (report : Report) (rest : List Move) : Type 0 where
  pub moves : reported page report rest ≡ Written Transcript (report_bytes (style_of page) page.in_line page.line report) ∷ Reported ∷ rest
  pub did : Did sizes s s' w w' (Written Transcript (report_bytes (style_of page) page.in_line page.line report) ∷ Reported ∷ [])

-- So is one whose text is this list.
pub record ReportsAs (sizes : Sizes) (s s' : State) (w w' : World) (page : Page) (ts : List PlainToken) (rest : List Move) : Type 0 where
  pub moves : reported_as page ts rest ≡ Written Transcript (error_message_bytes (style_of page) page.in_line page.line ts) ∷ Reported ∷ rest
  pub did : Did sizes s s' w w' (Written Transcript (error_message_bytes (style_of page) page.in_line page.line ts) ∷ Reported ∷ [])

-- what comes behind the text of a report: it is counted
abbrev pub counted : Page → List Move → List Move
counted page rest = Reported ∷ behind_report (style_of page) page.reports rest

pub record CountsOn (sizes : Sizes) (s s' : State) (w w' : World) (page : Page) (rest : List Move) : Type 0 where
  pub moves : counted page rest ≡ Reported ∷ rest
  pub did : Did sizes s s' w w' (Reported ∷ [])

-- how the innermost reading, if there is one, is fed with a token
abbrev pub feeds_of : List Reading → Seen → List Move
feeds_of [] x = []
feeds_of (r ∷ rs) x = feeding r x

-- where a token goes that a reading wants, and where it goes that none does
abbrev pub onward_of : Page → Option Want → List Reading → Seen → List Move
onward_of page None work = stomach page
onward_of page (Some want) work = λ x. wanted page want (feeds_of work x) x

abbrev pub enters_of : Option Want → Bool
enters_of None = false
enters_of (Some want) = enters_names want

-- the text that is read, if one is
abbrev pub scanning_of : Engine → List Reading → Option Scanning
scanning_of e work = scanning work (gathered e.input)

-- what becomes of a token of a list
abbrev pub token_moves : Page → Option Scanning → (onward : Seen → List Move) → PlainToken → List Move
token_moves page scanned onward t = met page scanned onward (met_token page.now.meanings t)

-- what becomes of a character or a name of the line
abbrev pub name_moves : Page → Option Scanning → (enters : Bool) → (onward : Seen → List Move) → Lexeme → List Move
name_moves page scanned enters onward x = entered (new_name enters page.names x) ++ token_moves page scanned onward (token_of enters page.names x)

-- the list with this number among those that are gathered but for a call's, the innermost first
abbrev pub nth_list : ℕ → List (List PlainToken) → List PlainToken
nth_list k lists = first_list (drop k lists)

-- the list of what is scanned: of a call the present argument, if a place is reached, and else the list with this number
abbrev pub scanned_list : Scanned → ℕ → Engine → List PlainToken
scanned_list scanned.Use k e = work_or_none (call_work e.input.call)
scanned_list what k e = nth_list k e.input.builds

-- what is shown of it where it runs away
abbrev pub away_text : Scanned → ℕ → Engine → List ℕ
away_text what k e = runaway_bytes what (own_style e) e.in_line (scanned_list what k e)

-- a call asks for a token, or there is such a list
abbrev pub IsScanned : Scanned → ℕ → Engine → Type 0
IsScanned scanned.Use k e = AsksToken e.input.call
IsScanned what k e = k < length e.input.builds

-- what is found is such a thing, or text that is skipped
abbrev pub IsFound : Found → Engine → Type 0
IsFound (found.Builds what name k) e = IsScanned what k e
IsFound (found.SkippedText line) e = Unit {0}

-- a list that it builds is held
abbrev pub IsListed : Found → Engine → Type 0
IsListed (found.Builds what name k) e = k < length e.input.builds
IsListed (found.SkippedText line) e = Unit {0}

-- what is found is what the machine scans
abbrev pub scanned_as : Found → Engine → Scanning
scanned_as (found.Builds what name k) e = machine.Builds what name (scanned_list what k e)
scanned_as (found.SkippedText line) e = machine.SkippedText line

abbrev pub Finds : Found → Engine → Book → Type 0
Finds x e book = scanning_of e book.work ≡ Some (scanned_as x e)

-- what comes of it at a check: it runs away, or text that is skipped ends with a `\fi` that is inserted
abbrev pub check_moves : Engine → Page → Check → Found → (rest : List Move) → List Move
check_moves e page check (found.Builds what name k) rest = away_moves page what (away_text what k e) (check_report check what name) rest
check_moves e page check (found.SkippedText line) rest = incomplete page line rest

-- such a token is wanted, where this is asked: by the innermost reading, or where none is open
abbrev pub WantsHere : Option Ask → Option Want → Type 0
WantsHere asked None = asked ≡ None
WantsHere asked (Some want) = asked ≡ Some (More want)

-- the engine is where such a token is wanted
abbrev pub Takes : Sizes → Option Want → Engine → Book → Type 0
Takes sizes want e book = WantsHere (asks_now e) want × AllStand sizes e book

-- the engine is where some token is wanted
abbrev pub Wants : Sizes → Engine → Book → Type 0
Wants sizes e book = (want : Option Want) × Takes sizes want e book

-- a space is handed on to where it is wanted, if it is
abbrev pub space_moves : Page → Option Want → List Reading → List Move
space_moves page None work = []
space_moves page (Some want) work = onward_of page (Some want) work (met_token page.now.meanings space_token)

-- the machine's state at the moment, and that of the engine: the engine's column is that of the bytes really written
abbrev pub IsMoment : Broken → State → State → Type 0
IsMoment (broken.Full full) s t = s ≡ t
IsMoment broken.WriteFault s t = record s { in_line = t.in_line } ≡ t
IsMoment broken.Want s t = record s { in_line = t.in_line } ≡ t

-- The moves are cut off. The engine stands for the moment before the move that wasn't made, with the same readings.
pub record Cuts (sizes : Sizes) (s : State) (e' : Engine) (book : Book) (w w' : World) (moves : List Move) (b : Broken) : Type 0 where
  pub at : State
  pub cut : Cut sizes s at w w' moves b
  pub same : IsMoment b at (state_of e' book)

-- of a rule
abbrev pub DoesRule : Sizes → State → Engine → Book → World → World → List Move → Ruled → Type 0
DoesRule sizes s e' book w w' moves Step = Went sizes s e' w w' moves 1
DoesRule sizes s e' book w w' moves Free = Went sizes s e' w w' moves 0
DoesRule sizes s e' book w w' moves (Halted o) = Halts sizes s e' book w w' moves o 1

-- of moves without a step
abbrev pub DoesOnward : Sizes → State → Engine → Book → World → World → List Move → Ruled → Type 0
DoesOnward sizes s e' book w w' moves Step = Went sizes s e' w w' moves 0
DoesOnward sizes s e' book w w' moves Free = ⊥
DoesOnward sizes s e' book w w' moves (Halted o) = Halts sizes s e' book w w' moves o 0

-- THE NEXT READING

-- its moves, for what wants it
abbrev pub next_moves : Option Want → Engine → Book → List Move
next_moves want e book = handed (page_of e book) (enters_of want) (scanning_of e book.work) (onward_of (page_of e book) want book.work) (pulled e.input.groups.now.categories (pending_of book.number e.input.pending))

-- The machine has come, behind k steps, to where this token is handed on to what wants it: the moves go on with what becomes of it.
-- The open readings are as they were, but that a call may have noted a check.
pub record Comes (sizes : Sizes) (want : Option Want) (s : State) (e' : Engine) (book : Book) (w w' : World) (moves : List Move) (x : Seen) (k : ℕ) : Type 0 where
  pub book' : Book
  pub still : e'.input.call ≡ NotCalling → book' ≡ book
  pub takes : Takes sizes want e' book'
  pub front : List Move
  pub did : Did sizes s (state_of e' book') w w' front
  pub whole : moves ≡ front ++ onward_of (page_of e' book') want book'.work x
  pub count : steps front ≡ k

-- of a token that was met: it is handed on, or another in its place; or the run has ended at the hundredth report
abbrev pub Meets : Sizes → Option Want → State → Engine → Book → World → World → List Move → Option Seen → Type 0
Meets sizes want s e' book w w' moves (Some x) = Comes sizes want s e' book w w' moves x 0
Meets sizes want s e' book w w' moves None = Halts sizes s e' book w w' moves (AtFatal HundredErrors) 0

abbrev pub Nexts : Sizes → Option Want → State → Engine → Book → World → World → List Move → Next → Type 0
Nexts sizes want s e' book w w' moves (Token x) = Comes sizes want s e' book w w' moves x 1
Nexts sizes want s e' book w w' moves Line = Went sizes s e' w w' moves 1
Nexts sizes want s e' book w w' moves Skipped = Went sizes s e' w w' moves 0
Nexts sizes want s e' book w w' moves (Over o) = Halts sizes s e' book w w' moves o 1

-- Behind these moves the engine stands for its state with this book, and a space follows, if one does.
pub record Behind (sizes : Sizes) (want space : Option Want) (s : State) (e' : Engine) (book : Book) (page : Page) (w w' : World) (moves : List Move) : Type 0 where
  pub book2 : Book
  pub still : e'.input.call ≡ NotCalling → book2 ≡ book
  pub takes : Takes sizes want e' book2
  pub front : List Move
  pub did : Did sizes s (state_of e' book2) w w' front
  pub whole : moves ≡ front ++ space_moves page space book2.work
  pub free : steps front ≡ 0
