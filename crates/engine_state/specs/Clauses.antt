-- What contracts say of an engine and what has become of it, over any sizes, any world, and whatever it stands for.
use Rattle.std.specs.Prelude.{◌≡◌, ◌≤◌, Bool, List, ◌∷◌, ◌++◌, Option, Some, None, IsSome}
use Rattle.tex_syntax.specs.declared.words.Want.{Want}
use Rattle.tex_syntax.specs.declared.words.Outcome.{Outcome}
use Rattle.tex_syntax.specs.declared.words.Outcome.TheVariants.{AtFatal}
use Rattle.tex_defs.specs.Places.{World}
use Rattle.tex_defs.specs.declared.Fatal.TheVariants.{HundredErrors}
use Rattle.tex_defs.specs.declared.Full.{Full}
use Rattle.tex_defs.specs.declared.Sizes.{Sizes}
use Rattle.plain_tokens.specs.Lex.{Lexeme}
use Rattle.plain_tokens.specs.Lookup.{new_name}
use Rattle.line_lexer.specs.declared.Lexed.{Lexed}
use Rattle.input_state.specs.Reads.{IsLexeme}
use Rattle.rows.specs.Readings.{Fed, Done}
use Rattle.rows.specs.declared.words.Value.{Value}
use Rattle.plain_readings.specs.Readings.{Reading, fed_with}
use Rattle.plain_machine.specs.declared.broken.Broken.{Broken}
use Rattle.plain_machine.specs.States.{State, Move, made}
use Rattle.plain_machine.specs.Demands.{refusal}
use Rattle.plain_machine.specs.Plan.{Page, reports_room}
use Rattle.plain_machine.specs.Does.{Did}
use Rattle.world_io.specs.Contents.{FilesTold, SinkTold}
use Rattle.engine_state.specs.declared.engine.Engine.{Engine}
use Rattle.engine_state.specs.declared.outcome.Ruled.{Ruled}
use Rattle.engine_state.specs.Book.{Book, with_work}
use Rattle.engine_state.specs.CutReadings.{CutsIn}
use Rattle.engine_state.specs.Entering.{with_names}
use Rattle.engine_state.specs.Calls.{AllStand}
use Rattle.engine_state.specs.Rules.{world_of, enters_of, name_moves, onward_of, scanning_of, space_moves, Behind, Cuts, DoesOnward, Finds, Halts, Takes, Went}
use Rattle.engine_state.specs.Steps.{asked}
use Rattle.reading_frames.specs.declared.ask.Found.{Found}
use Rattle.engine_state.specs.Stands.{Counts, IsSized, IsSound, Stands, page_of, state_of}

-- The lists that locations and what is in front share are those of the book.
abbrev pub HoldsLists : Sizes → Engine → Book → Type 0
HoldsLists sizes e book = IsSound sizes e book.number book.all_lists

-- What held of the engine and a book, as that it stands for the book, still holds.
abbrev pub Still : (Sizes → Engine → Book → Type 0) → (e e' : Engine) → Type 0
Still Holds e e' = (sizes : Sizes) (book : Book) → Holds sizes e book → Holds sizes e' book

-- By whatever sizes the engine was sized, it still is.
abbrev pub StaysSized : (e e' : Engine) → Type 0
StaysSized e e' = (sizes : Sizes) → IsSized sizes e → IsSized sizes e'

-- THE SAME READINGS

-- Where this holds of the engine and the book, the machine makes these moves, with nothing written, and the engine stands for what comes of them, with this book in its place.
abbrev pub MakesMovesTo : (Sizes → Engine → Book → Type 0) → (e e' : Engine) → (Book → Book) → (Book → List Move) → Type 0
MakesMovesTo Holds e e' to moves = (sizes : Sizes) (w : World) (book : Book) → Holds sizes e book →
    Did sizes (state_of e book) (state_of e' (to book)) w w (moves book)

-- The same, where the book stays.
abbrev pub MakesMoves : (Sizes → Engine → Book → Type 0) → (e e' : Engine) → (Page → List Move) → Type 0
MakesMoves Holds e e' moves = MakesMovesTo Holds e e' (λ book. book) (λ book. moves (page_of e book))

-- They are cut off, whatever more was to come behind them.
abbrev pub CutsMoves : (Sizes → Engine → Book → Type 0) → (e e' : Engine) → (Page → List Move) → Broken → Type 0
CutsMoves Holds e e' moves b = (sizes : Sizes) (w : World) (book : Book) (more : List Move) → Holds sizes e book →
    Cuts sizes (state_of e book) e' book w w (moves (page_of e book) ++ more) b

-- Whatever the engine stands for, the machine makes these moves, with nothing written, and the engine stands for what comes of them.
abbrev pub MakesAlways : (e e' : Engine) → List Move → Type 0
MakesAlways e e' moves = (sizes : Sizes) (w : World) (book : Book) → Did sizes (state_of e book) (state_of e' book) w w moves

-- Where no list is being made, the machine puts something in front by these moves, with nothing written, and the engine stands for what comes of them.
abbrev pub PutsInFront : (e e' : Engine) → (Page → List Move) → Type 0
PutsInFront e e' moves = (sizes : Sizes) (w : World) (book : Book) → Counts sizes e book → e.input.making ≡ None →
    Did sizes (state_of e book) (state_of e' book) w w (moves (page_of e book))

-- They are cut off, whatever more was to come behind them.
abbrev pub CutsPutting : (e e' : Engine) → (Page → List Move) → Broken → Type 0
CutsPutting e e' moves b = (sizes : Sizes) (w : World) (book : Book) (more : List Move) → Counts sizes e book → e.input.making ≡ None →
    Cuts sizes (state_of e book) e' book w w (moves (page_of e book) ++ more) b

-- The machine makes these moves, for which this is written, and the engine stands for what comes of them.
abbrev pub WritesOut : (e e' : Engine) → (before after : SinkTold) → (Page → List Move) → Type 0
WritesOut e e' before after moves = (sizes : Sizes) (f : FilesTold) (book : Book) →
    Did sizes (state_of e book) (state_of e' book) (world_of f before e) (world_of f after e') (moves (page_of e book))

-- They are cut off, whatever more was to come behind them.
abbrev pub CutsWriting : (e e' : Engine) → (before after : SinkTold) → (Page → List Move) → Broken → Type 0
CutsWriting e e' before after moves b = (sizes : Sizes) (f : FilesTold) (book : Book) (more : List Move) →
    Cuts sizes (state_of e book) e' book (world_of f before e) (world_of f after e') (moves (page_of e book) ++ more) b

-- The report among these moves was the hundredth, and the run has ended, whatever was to come behind it.
abbrev pub EndsAtHundredth : (e e' : Engine) → (before after : SinkTold) → (Page → List Move → List Move) → Type 0
EndsAtHundredth e e' before after moves = (sizes : Sizes) (f : FilesTold) (book : Book) (rest : List Move) →
    Halts sizes (state_of e book) e' book (world_of f before e) (world_of f after e') (moves (page_of e book) rest) (AtFatal HundredErrors) 0

-- The moves are cut off, whatever was to come behind the report.
abbrev pub CutsReport : (e e' : Engine) → (before after : SinkTold) → (Page → List Move → List Move) → Broken → Type 0
CutsReport e e' before after moves b = (sizes : Sizes) (f : FilesTold) (book : Book) (rest : List Move) → e.reports ≤ reports_room →
    Cuts sizes (state_of e book) e' book (world_of f before e) (world_of f after e') (moves (page_of e book) rest) b

-- READINGS THAT BEGIN AND END

-- The machine makes these moves, without a step and with nothing written, and the engine stands for what comes of them.
abbrev pub GoesFree : (e e' : Engine) → (Page → List Move) → Type 0
GoesFree e e' moves = (sizes : Sizes) (w : World) (book : Book) → Stands sizes e book →
    Went sizes (state_of e book) e' w w (moves (page_of e book)) 0

-- They are cut off.
abbrev pub CutsFree : (e e' : Engine) → (Page → List Move) → Broken → Type 0
CutsFree e e' moves b = (sizes : Sizes) (w : World) (book : Book) → Stands sizes e book →
    CutsIn sizes (state_of e book) e' w w (moves (page_of e book)) b

-- So does it by moves that depend on the innermost reading r.
abbrev pub GoesAtReading : (e e' : Engine) → (Page → Reading → List Move) → Type 0
GoesAtReading e e' moves = (sizes : Sizes) (w : World) (book : Book) (r : Reading) (rs : List Reading) → Stands sizes e (with_work (r ∷ rs) book) →
    Went sizes (state_of e (with_work (r ∷ rs) book)) e' w w (moves (page_of e book) r) 0

-- They are cut off.
abbrev pub CutsAtReading : (e e' : Engine) → (Page → Reading → List Move) → Broken → Type 0
CutsAtReading e e' moves b = (sizes : Sizes) (w : World) (book : Book) (r : Reading) (rs : List Reading) → Stands sizes e (with_work (r ∷ rs) book) →
    CutsIn sizes (state_of e (with_work (r ∷ rs) book)) e' w w (moves (page_of e book) r) b

-- Where this is so, what the moves do that depend on the innermost reading r, a call's or another, with nothing written, is as said.
abbrev pub DoesInnermost : {A : Type 0} → (If : Type 0) → (Does : Sizes → State → Engine → World → World → List Move → A → Type 0) → (e e' : Engine) → (Reading → List Move) → A → Type 0
DoesInnermost If Does e e' moves a = (sizes : Sizes) (w : World) (book : Book) (r : Reading) (rs : List Reading) → If → AllStand sizes e (with_work (r ∷ rs) book) →
    Does sizes (state_of e (with_work (r ∷ rs) book)) e' w w (moves r) a

-- The innermost reading r is fed with this by these moves, with nothing written, and the engine stands for what comes of them.
abbrev pub FeedsReading : (e e' : Engine) → Fed → (Reading → List Move) → Type 0
FeedsReading e e' x moves = (sizes : Sizes) (w : World) (book : Book) (r : Reading) (rs : List Reading) → Stands sizes e (with_work (r ∷ rs) book) →
    Did sizes (state_of e (with_work (r ∷ rs) book)) (state_of e' (with_work (fed_with x (r ∷ rs)) book)) w w (moves r)

-- The machine makes these moves, without a step and with this written, and the rule ends so.
abbrev pub GoesOnward : (e e' : Engine) → (before after : SinkTold) → (Page → List Move) → Ruled → Type 0
GoesOnward e e' before after moves ruled = (sizes : Sizes) (f : FilesTold) (book : Book) → Stands sizes e book →
    DoesOnward sizes (state_of e book) e' book (world_of f before e) (world_of f after e') (moves (page_of e book)) ruled

-- They are cut off.
abbrev pub CutsOnward : (e e' : Engine) → (before after : SinkTold) → (Page → List Move) → Broken → Type 0
CutsOnward e e' before after moves b = (sizes : Sizes) (f : FilesTold) (book : Book) → Stands sizes e book →
    CutsIn sizes (state_of e book) e' (world_of f before e) (world_of f after e') (moves (page_of e book)) b

-- WHERE SOMETHING HOLDS of the engine and whatever it stands for

-- a token is wanted there, as this says
abbrev pub Taking : Option Want → Sizes → Engine → Book → Type 0
Taking want sizes e book = Takes sizes want e book

-- Where this holds, what is done by these moves, with this written, is as said.
abbrev pub DoesWhere : {A : Type 0} → (Holds : Sizes → Engine → Book → Type 0) → (Does : Sizes → State → Engine → Book → World → World → List Move → A → Type 0) →
    (e e' : Engine) → (before after : SinkTold) → (Book → List Move) → A → Type 0
DoesWhere Holds Does e e' before after moves a = (sizes : Sizes) (f : FilesTold) (book : Book) → Holds sizes e book →
    Does sizes (state_of e book) e' book (world_of f before e) (world_of f after e') (moves book) a

-- Where this holds, these moves, with this written, are cut off.
abbrev pub CutsWhere : (Holds : Sizes → Engine → Book → Type 0) → (e e' : Engine) → (before after : SinkTold) → (Book → List Move) → Broken → Type 0
CutsWhere Holds e e' before after moves b = (sizes : Sizes) (f : FilesTold) (book : Book) → Holds sizes e book →
    CutsIn sizes (state_of e book) e' (world_of f before e) (world_of f after e') (moves book) b

-- Where this holds, what is done by these moves, with nothing written, is as said.
abbrev pub DoesSilently : {A : Type 0} → (Holds : Sizes → Engine → Book → Type 0) → (Does : Sizes → State → Engine → Book → World → World → List Move → A → Type 0) →
    (e e' : Engine) → (Book → List Move) → A → Type 0
DoesSilently Holds Does e e' moves a = (sizes : Sizes) (w : World) (book : Book) → Holds sizes e book →
    Does sizes (state_of e book) e' book w w (moves book) a

-- The machine makes these moves, for which this is written, and the engine stands for what comes of them.
abbrev pub WritesWhere : (Holds : Sizes → Engine → Book → Type 0) → (e e' : Engine) → (before after : SinkTold) → (Page → List Move) → Type 0
WritesWhere Holds e e' before after moves = (sizes : Sizes) (f : FilesTold) (book : Book) → Holds sizes e book →
    Did sizes (state_of e book) (state_of e' book) (world_of f before e) (world_of f after e') (moves (page_of e book))

-- They are cut off, whatever more was to come behind them.
abbrev pub CutsWritingWhere : (Holds : Sizes → Engine → Book → Type 0) → (e e' : Engine) → (before after : SinkTold) → (Page → List Move) → Broken → Type 0
CutsWritingWhere Holds e e' before after moves b = (sizes : Sizes) (f : FilesTold) (book : Book) (more : List Move) → Holds sizes e book →
    Cuts sizes (state_of e book) e' book (world_of f before e) (world_of f after e') (moves (page_of e book) ++ more) b

-- Where a report may still come, it or what follows it is cut off.
abbrev pub CutsWithRoom : (e e' : Engine) → (before after : SinkTold) → (Page → List Move) → Broken → Type 0
CutsWithRoom e e' before after moves b = (sizes : Sizes) (f : FilesTold) (book : Book) → e.reports ≤ reports_room →
    Cuts sizes (state_of e book) e' book (world_of f before e) (world_of f after e') (moves (page_of e book)) b

-- The run ends by these moves.
abbrev pub EndsRun : (e e' : Engine) → (before after : SinkTold) → (Page → List Move) → Outcome → Type 0
EndsRun e e' before after moves o = (sizes : Sizes) (f : FilesTold) (book : Book) →
    Halts sizes (state_of e book) e' book (world_of f before e) (world_of f after e') (moves (page_of e book)) o 0

-- What is done by these moves, with this written, is as said, whatever the engine stands for.
abbrev pub DoesAlways : {A : Type 0} → (Does : Sizes → State → Engine → Book → World → World → List Move → A → Type 0) → (e e' : Engine) → (before after : SinkTold) → (Book → List Move) → A → Type 0
DoesAlways Does e e' before after moves a = (sizes : Sizes) (f : FilesTold) (book : Book) → Does sizes (state_of e book) e' book (world_of f before e) (world_of f after e') (moves book) a

-- Where this holds of the engine and the book, with a reading open, what is done by these moves, with this written, is as said.
abbrev pub DoesAtReading : {A : Type 0} → (Holds : Sizes → Engine → Book → Type 0) → (Does : Sizes → State → Engine → Book → World → World → List Move → A → Type 0) →
    (e e' : Engine) → (before after : SinkTold) → (Book → List Move) → A → Type 0
DoesAtReading Holds Does e e' before after moves a = (sizes : Sizes) (f : FilesTold) (book : Book) (r : Reading) (rs : List Reading) → Holds sizes e (with_work (r ∷ rs) book) →
    Does sizes (state_of e (with_work (r ∷ rs) book)) e' (with_work (r ∷ rs) book) (world_of f before e) (world_of f after e') (moves book) a

-- A report, or part of one, is written so, whatever comes behind it.
abbrev pub ReportsSo : (Rep : Sizes → State → State → World → World → Page → List Move → Type 0) → (e e' : Engine) → (before after : SinkTold) → Type 0
ReportsSo Rep e e' before after = (sizes : Sizes) (f : FilesTold) (book : Book) (rest : List Move) →
    Rep sizes (state_of e book) (state_of e' book) (world_of f before e) (world_of f after e') (page_of e book) rest

-- This is so of each book of which the engine's shared lists are.
abbrev pub WhereSound : Engine → (Book → Type 0) → Type 0
WhereSound e Says = (sizes : Sizes) (book : Book) → IsSound sizes e book.number book.all_lists → Says book

-- WHAT A LINE GAVE

-- This is so of whatever character or name it gave.
abbrev pub OfLexeme : Engine → Lexed → (Lexeme → Type 0) → Type 0
OfLexeme e lexed Says = (x : Lexeme) → IsLexeme e.input.buffer lexed x → Says x

-- Where names are entered, whatever name it gave joins them if it is new; else nothing changes.
abbrev pub EntersName : (e e' : Engine) → (enters : Bool) → Lexed → Type 0
EntersName e e' enters lexed = (sizes : Sizes) (x : Lexeme) → IsSized sizes e → IsLexeme e.input.buffer lexed x → e' ≡ with_names (new_name enters e.names.names x) e

-- A TOKEN THAT IS MET

-- Where a token is wanted, as `want` says for x, what is done by moves that depend on x, with this written, is as said, whatever x is.
abbrev pub DoesWanted : {A : Type 0} → {X : Type 0} → (want : X → Option Want) → (Does : Sizes → Option Want → State → Engine → Book → World → World → List Move → A → Type 0) →
    (e e' : Engine) → (before after : SinkTold) → (X → Book → List Move) → A → Type 0
DoesWanted {A} {X} want Does e e' before after moves a = (sizes : Sizes) (f : FilesTold) (book : Book) (x : X) → Takes sizes (want x) e book →
    Does sizes (want x) (state_of e book) e' book (world_of f before e) (world_of f after e') (moves x book) a

-- For whatever wants a token and enters names so, what is done with the character or the name that a line gave, with this written, is as said.
abbrev pub DoesLexeme : {A : Type 0} → (enters : Bool) → Lexed → (Does : Sizes → Option Want → State → Engine → Book → World → World → List Move → A → Type 0) →
    (e e' : Engine) → (before after : SinkTold) → A → Type 0
DoesLexeme enters lexed Does e e' before after a = (sizes : Sizes) (f : FilesTold) (book : Book) (want : Option Want) (x : Lexeme) →
    enters ≡ enters_of want → IsLexeme e.input.buffer lexed x → Takes sizes want e book →
    Does sizes want (state_of e book) e' book (world_of f before e) (world_of f after e')
    (name_moves (page_of e book) (scanning_of e book.work) (enters_of want) (onward_of (page_of e book) want book.work) x) a

-- CHECKS

-- This is scanned where a token is wanted, by a reading.
abbrev pub ScansThis : Found → Engine → Type 0
ScansThis found e = (sizes : Sizes) (book : Book) (want : Option Want) → Takes sizes want e book → Finds found e book × IsSome want

-- Nothing is.
abbrev pub ScansNothing : Engine → Type 0
ScansNothing e = (sizes : Sizes) (book : Book) (want : Option Want) → Takes sizes want e book → scanning_of e book.work ≡ None

-- Behind these moves, the last of which may hand on a space, the engine stands where a token was wanted, as one still is.
abbrev pub GoesBehind : (e e' : Engine) → (before after : SinkTold) → (Page → (space : List Move) → List Move) → Type 0
GoesBehind e e' before after moves = (sizes : Sizes) (f : FilesTold) (book : Book) (want space : Option Want) (page : Page) → Takes sizes want e book →
    Behind sizes want space (state_of e book) e' book page (world_of f before e) (world_of f after e') (moves (page_of e book) (space_moves page space book.work))

-- The report among these moves was the hundredth, and the run has ended, whatever was to come behind it.
abbrev pub EndsReading : (e e' : Engine) → (before after : SinkTold) → (Page → (rest : List Move) → List Move) → Type 0
EndsReading e e' before after moves = (sizes : Sizes) (f : FilesTold) (book : Book) (rest : List Move) → AllStand sizes e book →
    Halts sizes (state_of e book) e' book (world_of f before e) (world_of f after e') (moves (page_of e book) rest) (AtFatal HundredErrors) 0

-- They are cut off, whatever was to come behind them.
abbrev pub CutsReading : (e e' : Engine) → (before after : SinkTold) → (Page → (rest : List Move) → List Move) → Broken → Type 0
CutsReading e e' before after moves b = (sizes : Sizes) (f : FilesTold) (book : Book) (rest : List Move) → AllStand sizes e book →
    CutsIn sizes (state_of e book) e' (world_of f before e) (world_of f after e') (moves (page_of e book) rest) b

-- THE STACK

-- The engine stands for what becomes of the open readings.
abbrev pub StandsFor : (e e' : Engine) → (Page → List Reading → List Reading) → Type 0
StandsFor e e' work = (sizes : Sizes) (book : Book) → Stands sizes e book → Stands sizes e' (with_work (work (page_of e book) book.work) book)

-- It is what this move makes of them.
abbrev pub IsMadeBy : (e e' : Engine) → (Page → Move) → (Page → List Reading → List Reading) → Type 0
IsMadeBy e e' m work = (sizes : Sizes) (book : Book) → Stands sizes e book →
    made (m (page_of e book)) (state_of e book) ≡ state_of e' (with_work (work (page_of e book) book.work) book)

-- This is so wherever the engine stands for a reading r that is open above rs.
abbrev pub WhereOpen : Engine → (Sizes → Book → Reading → List Reading → Type 0) → Type 0
WhereOpen e Says = (sizes : Sizes) (book : Book) (r : Reading) (rs : List Reading) → Stands sizes e (with_work (r ∷ rs) book) → Says sizes book r rs

-- This is so where, besides, r is to end with this value.
abbrev pub WhereDone : Engine → Value → (Sizes → Book → Reading → List Reading → Type 0) → Type 0
WhereDone e value Says = (sizes : Sizes) (book : Book) (r : Reading) (rs : List Reading) (back : Bool) → Stands sizes e (with_work (r ∷ rs) book) →
    asked e ≡ Some (Done value back) → Says sizes book r rs

-- Why there is no room for this move, or that there is.
abbrev pub RefusedAs : Engine → Move → Option Full → Type 0
RefusedAs e m o = (sizes : Sizes) (book : Book) → Counts sizes e book → refusal sizes m (state_of e book) ≡ o
