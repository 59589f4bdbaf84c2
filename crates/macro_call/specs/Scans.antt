-- A scanner, what it has of the call, and what a token does to it.
use Rattle.std.specs.Prelude.{Bool, true, false, ◌≡◌, ◌≢◌, ℕ, ◌+◌, ◌<◌, ◌≤◌, List, [], ◌∷◌, ◌++◌, ◌⊎◌, Option, None, Some, option_map, unwrap_or, length}
use Rattle.tex_defs.specs.declared.Token.{Token}
use Rattle.token_lists.specs.Table.{Entry, holders_at, tokens_at}
use Rattle.token_lists.specs.Accounts.{Covers, Moves, Keeps}
use Rattle.token_lists.specs.Ids.{build_id, IsBuilding}
use Rattle.macro_call.specs.declared.ask.CallAsk.{CallAsk}
use Rattle.macro_call.specs.declared.ask.CallAsk.TheVariants as ask
use Rattle.plain_tokens.specs.declared.par_mode.ParMode.{ParMode}
use Rattle.plain_tokens.specs.Arguments.{Fed, Tok, Answer, More, ExtraBraceFound, Called, Mismatch, Ended, case_at, arguments, arguments_in, work_in}
use Rattle.macro_call.specs.declared.cursor.Cursor.{Cursor}
use Rattle.macro_call.specs.declared.present.Present.{Present}
use Rattle.macro_call.specs.declared.present.Step.{Step}
use Rattle.macro_call.specs.declared.scan.ArgScan.{ArgScan}
use Rattle.macro_args.specs.Args.{args_in, args_hold, IsFilled}
use Rattle.macro_call.specs.Cursors.{IsOn, IsAhead, rest_at, delimiter_at}
use Rattle.macro_call.specs.Holds.{present_holds}
use Rattle.macro_call.specs.Listed.{AreListed}
use Rattle.macro_call.specs.Tables.{IsGrownByPart, IsOnly}
use Rattle.macro_call.specs.Growths.{target_of, growth_of}
use Rattle.macro_call.specs.Stages.{Stage, stage_of, IsSamePoint, IsStage, Took, gained, kept_in, read_in}
use Rattle.macro_call.specs.PlainScans.{Scan, with_work, resume_scan, scan_work, places_left, places_behind}

-- the scanner as plain data
abbrev pub scan_of : List (Option Entry) → ArgScan → Scan
scan_of table scan = record { at = scan.cursor.index; mode = scan.mode; braced = scan.braced; present = option_map (λ p. stage_of table p) scan.present; args = args_in table scan.args }

abbrev pub resume : List (Option Entry) → (macro : ℕ) → ArgScan → List Fed → Answer
resume table macro scan fed = resume_scan (tokens_at table macro) (scan_of table scan) fed

-- the places from its cursor on, and those behind the present one
abbrev pub left_at : List (Option Entry) → (macro : ℕ) → ArgScan → List (List Token)
left_at table macro scan = places_left (args_in table scan.args) (rest_at table macro scan.cursor)

abbrev pub behind_at : List (Option Entry) → (macro : ℕ) → ArgScan → List (List Token)
behind_at table macro scan = places_behind (args_in table scan.args) (rest_at table macro scan.cursor)

-- the list in work, if an argument is being gathered
abbrev pub work_by : List (Option Entry) → Option Present → Option (List Token)
work_by table present = option_map (λ s. s.list) (option_map (λ p. stage_of table p) present)

abbrev pub work_of : List (Option Entry) → ArgScan → Option (List Token)
work_of table scan = scan_work (scan_of table scan)

-- its tokens
abbrev pub work_tokens : List (Option Entry) → ArgScan → List Token
work_tokens table scan = unwrap_or (work_of table scan) []

-- what a scanner holds: the list in work and its arguments' lists
abbrev pub scan_holds : ArgScan → ℕ → ℕ
scan_holds scan h = present_holds scan.present h + args_hold scan.args h

-- In front of the first place a token is left to be matched. In a place the list in work stands for what was read, and the
-- argument's cursor is in the delimiter, behind what was matched.
abbrev pub IsInPlace : List (Option Entry) → (macro : ℕ) → ArgScan → Option Present → Type 0
IsInPlace table macro scan None = (scan.args.count ≡ 0) × (scan.braced ≡ false) × (0 < length (delimiter_at table macro scan.cursor))
IsInPlace table macro scan (Some p) = IsBuilding table p.build × IsStage (delimiter_at table macro scan.cursor) (stage_of table p) × (scan.args.count < 9) × IsAhead table macro scan.cursor p.matched p.next

-- what the scanner holds is counted, its lists may be released, and an argument without tokens has none
pub record Owns (table : List (Option Entry)) (scan : ArgScan) : Type 0 where
  pub covered : Covers table (scan_holds scan)
  pub building : (p : Present) → scan.present ≡ Some p → IsBuilding table p.build
  pub filled : IsFilled scan.args
  pub listed : AreListed table scan.args

-- a scanner that goes on, over the list of this macro, which somebody else holds too
pub record IsSound (table : List (Option Entry)) (macro : ℕ) (scan : ArgScan) : Type 0 where
  pub owns : Covers table (scan_holds scan)
  pub on : IsOn table macro scan.cursor
  pub outside : scan_holds scan macro < holders_at table macro
  pub filled : IsFilled scan.args
  pub listed : AreListed table scan.args
  pub in_place : IsInPlace table macro scan scan.present

-- what a scanner has of the call is what is answered so far
pub record HasLists (table : List (Option Entry)) (macro : ℕ) (scan : ArgScan) : Type 0 where
  pub args : args_in table scan.args ≡ arguments_in (resume table macro scan [])
  pub work : work_of table scan ≡ work_in (resume table macro scan [])

abbrev pub ScannersHaveLists : Type 0
ScannersHaveLists = (table : List (Option Entry)) (macro : ℕ) (scan : ArgScan) → IsSound table macro scan → HasLists table macro scan

-- what an answer says, where the scanner has these arguments and this list in work
abbrev pub answer_of : CallAsk → (args : List (List Token)) → (work : Option (List Token)) → Answer
answer_of ask.More args work = More args work
answer_of ask.ExtraBrace args work = ExtraBraceFound args (unwrap_or work [])
answer_of ask.Gathered args work = Called args
answer_of ask.Mismatch args work = Mismatch
answer_of (ask.ParEnded silent) args work = Ended silent args (unwrap_or work [])

abbrev pub IsOpen : CallAsk → Type 0
IsOpen ask.More = Unit {0}
IsOpen ask.ExtraBrace = Unit {0}
IsOpen ask.Gathered = ⊥
IsOpen ask.Mismatch = ⊥
IsOpen (ask.ParEnded silent) = ⊥

-- an extra brace is answered
abbrev pub asks_brace : CallAsk → Bool
asks_brace ask.ExtraBrace = true
asks_brace a = false

-- the scanner stands behind x: what comes after any further tokens is what the one before would have answered
pub record Next (old_table new_table : List (Option Entry)) (macro : ℕ) (old new : ArgScan) (x : Token) : Type 0 where
  pub sound : IsSound new_table macro new
  pub same : (fed : List Fed) → resume old_table macro old (Tok x ∷ fed) ≡ resume new_table macro new fed

-- No list that has a holder gets another one, and a new list has one.
pub record Gains (old_table : List (Option Entry)) (before after : ℕ → ℕ) : Type 0 where
  pub others : (h : ℕ) → 0 < holders_at old_table h → after h ≤ before h
  pub fresh : (h : ℕ) → holders_at old_table h ≡ 0 → after h ≤ 1

-- Behind the tokens in front of the first place, or behind a delimiter: the next place is entered, or the call is made.
pub record Enters (old_table new_table : List (Option Entry)) (macro : ℕ) (old new : ArgScan) (answer : CallAsk) : Type 0 where
  pub answers : answer_of answer (args_in new_table new.args) (work_of new_table new) ≡ arguments old.mode (args_in old_table old.args) (left_at old_table macro old) []
  pub args : args_in new_table new.args ≡ arguments_in (arguments old.mode (args_in old_table old.args) (left_at old_table macro old) [])
  pub work : work_of new_table new ≡ work_in (arguments old.mode (args_in old_table old.args) (left_at old_table macro old) [])
  pub braced : new.braced ≡ asks_brace answer
  pub sound : IsOpen answer → IsSound new_table macro new
  pub same : IsOpen answer → (fed : List Fed) → arguments old.mode (args_in old_table old.args) (left_at old_table macro old) fed ≡ resume new_table macro new fed
  pub owns : Owns new_table new
  pub moves : Moves old_table new_table (scan_holds old) (scan_holds new)
  pub gains : Gains old_table (scan_holds old) (scan_holds new)
  pub kept : Keeps old_table new_table (scan_holds old)

-- a scanner that may enter the next place
pub record IsBetween (table : List (Option Entry)) (macro : ℕ) (scan : ArgScan) : Type 0 where
  pub none : scan.present ≡ None
  pub unbraced : scan.braced ≡ false
  pub ends : delimiter_at table macro scan.cursor ≡ []
  pub on : IsOn table macro scan.cursor
  pub owns : Covers table (scan_holds scan)
  pub outside : scan_holds scan macro < holders_at table macro
  pub filled : IsFilled scan.args
  pub listed : AreListed table scan.args

-- the next place of a scanner between two places, and the cursor behind it
abbrev pub NextPlace : List (Option Entry) → (macro : ℕ) → ArgScan → Option Cursor → Type 0
NextPlace table macro scan None = left_at table macro scan ≡ []
NextPlace table macro scan (Some next) =
    (scan.args.count < 9) × (left_at table macro scan ≡ delimiter_at table macro next ∷ places_behind (args_in table scan.args) (rest_at table macro next)) × IsOn table macro next

-- What a token comes to: the answer is what the definition asks for after it, the arguments and the list in work are the
-- definition's, it is kept whether an extra brace is answered, and the scanner goes on behind the token.
pub record Answers (old_table new_table : List (Option Entry)) (macro : ℕ) (old new : ArgScan) (x : Token) (answer : CallAsk) : Type 0 where
  pub answers : answer_of answer (args_in new_table new.args) (work_of new_table new) ≡ resume old_table macro old (Tok x ∷ [])
  pub args : args_in new_table new.args ≡ arguments_in (resume old_table macro old (Tok x ∷ []))
  pub work : work_of new_table new ≡ work_in (resume old_table macro old (Tok x ∷ []))
  pub braced : new.braced ≡ asks_brace answer
  pub goes_on : IsOpen answer → Next old_table new_table macro old new x
  pub owns : Owns new_table new
  pub moves : Moves old_table new_table (scan_holds old) (scan_holds new)
  pub gains : Gains old_table (scan_holds old) (scan_holds new)
  pub kept : Keeps old_table new_table (scan_holds old)

-- The memory is full within a growth: the list in work has some of the tokens that go into it, from the first on, and not all,
-- and nothing else of the scanner has changed.
pub record IsCutInGrowth (old_table new_table : List (Option Entry)) (macro : ℕ) (old new : ArgScan) (x : Token) : Type 0 where
  pub was : List Token
  pub now : List Token
  pub before : work_of old_table old ≡ Some was
  pub after : work_of new_table new ≡ Some now
  pub part : IsGrownByPart was now (growth_of (resume old_table macro old []) (resume old_table macro old (Tok x ∷ [])))
  pub args : args_in new_table new.args ≡ args_in old_table old.args
  pub scan : scan_of new_table new ≡ with_work (scan_of old_table old) now

-- the arguments where this became one, if it was gathered
abbrev pub args_with : (present : Option Stage) → (args : List (List Token)) → (a : List Token) → List (List Token)
args_with None args a = args
args_with (Some s) args a = args ++ a ∷ []

-- The memory is full in front of a place: what stands before it has come, so the argument that was gathered is whole, and the
-- next one's list, which would be answered, isn't begun.
pub record IsCutBetween (old_table new_table : List (Option Entry)) (macro : ℕ) (old new : ArgScan) (x : Token) : Type 0 where
  pub none : new.present ≡ None
  pub mode : new.mode ≡ old.mode
  pub unbraced : new.braced ≡ false
  pub args : args_in new_table new.args ≡ args_with (scan_of old_table old).present (args_in old_table old.args) (target_of (resume old_table macro old []) (resume old_table macro old (Tok x ∷ [])))
  pub due : resume old_table macro old (Tok x ∷ []) ≡ More (args_in new_table new.args) (Some [])
  pub same : (fed : List Fed) → resume old_table macro old (Tok x ∷ fed) ≡ arguments new.mode (args_in new_table new.args) (left_at new_table macro new) fed

-- The memory is full: within a growth, or in front of a place.
pub record IsCutShort (old_table new_table : List (Option Entry)) (macro : ℕ) (old new : ArgScan) (x : Token) : Type 0 where
  pub owns : Owns new_table new
  pub moves : Moves old_table new_table (scan_holds old) (scan_holds new)
  pub gains : Gains old_table (scan_holds old) (scan_holds new)
  pub kept : Keeps old_table new_table (scan_holds old)
  pub stage : IsCutInGrowth old_table new_table macro old new x ⊎ IsCutBetween old_table new_table macro old new x

-- an argument is being gathered, its list isn't the macro's, and its cursor is behind what was matched
abbrev pub IsReady : List (Option Entry) → (macro : ℕ) → Cursor → Option Present → Type 0
IsReady table macro cursor None = ⊥
IsReady table macro cursor (Some p) = IsBuilding table p.build × (macro ≢ build_id p.build) × IsStage (delimiter_at table macro cursor) (stage_of table p) × IsAhead table macro cursor p.matched p.next

-- what a token comes to in a place
abbrev pub TookIn : (old_table new_table : List (Option Entry)) → (macro : ℕ) → Cursor → ParMode → Token → Step → (old new : Option Present) → Type 0
TookIn old_table new_table macro cursor mode x taken None new = ⊥
TookIn old_table new_table macro cursor mode x taken (Some p) None = ⊥
TookIn old_table new_table macro cursor mode x taken (Some p) (Some q) =
    (build_id q.build ≡ build_id p.build) × IsBuilding new_table q.build × IsOnly old_table new_table (build_id p.build)
    × Took (delimiter_at old_table macro cursor) (stage_of old_table p) x taken (stage_of new_table q) (case_at (delimiter_at old_table macro cursor) mode (kept_in (stage_of old_table p)) (read_in (delimiter_at old_table macro cursor) (stage_of old_table p)) x)
    × IsAhead new_table macro cursor q.matched q.next

-- the same where the memory is full
abbrev pub CutIn : (old_table new_table : List (Option Entry)) → (macro : ℕ) → Cursor → ParMode → Token → (old new : Option Present) → Type 0
CutIn old_table new_table macro cursor mode x None new = ⊥
CutIn old_table new_table macro cursor mode x (Some p) None = ⊥
CutIn old_table new_table macro cursor mode x (Some p) (Some q) =
    (build_id q.build ≡ build_id p.build) × IsBuilding new_table q.build × IsOnly old_table new_table (build_id p.build)
    × IsSamePoint p q × IsGrownByPart (tokens_at old_table (build_id p.build)) (tokens_at new_table (build_id p.build))
    (gained (delimiter_at old_table macro cursor) (stage_of old_table p) x (case_at (delimiter_at old_table macro cursor) mode (kept_in (stage_of old_table p)) (read_in (delimiter_at old_table macro cursor) (stage_of old_table p)) x))

abbrev pub IsBuildingIn : List (Option Entry) → Option Present → Type 0
IsBuildingIn table None = ⊥
IsBuildingIn table (Some p) = IsBuilding table p.build

-- a scanner whose list in work is a whole argument
pub record IsWhole (table : List (Option Entry)) (macro : ℕ) (scan : ArgScan) : Type 0 where
  pub building : IsBuildingIn table scan.present
  pub unbraced : scan.braced ≡ false
  pub on : IsOn table macro scan.cursor
  pub owns : Covers table (scan_holds scan)
  pub outside : scan_holds scan macro < holders_at table macro
  pub filled : IsFilled scan.args
  pub listed : AreListed table scan.args
  pub room : scan.args.count < 9

-- the list in work becomes an argument, and the delimiter is passed
pub record Completes (old_table new_table : List (Option Entry)) (macro : ℕ) (old new : ArgScan) : Type 0 where
  pub between : IsBetween new_table macro new
  pub args : args_in new_table new.args ≡ args_in old_table old.args ++ work_tokens old_table old ∷ []
  pub places : left_at new_table macro new ≡ behind_at old_table macro old
  pub mode : new.mode ≡ old.mode
  pub moves : Moves old_table new_table (scan_holds old) (scan_holds new)
  pub fewer : (h : ℕ) → scan_holds new h ≤ scan_holds old h
  pub kept : Keeps old_table new_table (scan_holds old)
