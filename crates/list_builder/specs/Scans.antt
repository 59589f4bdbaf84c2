-- What a scanner will answer on what is still to come.
use Rattle.std.specs.Prelude.{◌≡◌, ◌≢◌, ℕ, ◌+◌, ◌<◌, ◌≤◌, List, [], ◌∷◌, ◌++◌, Option, None, Some, IfSome, length}
use Rattle.tex_defs.specs.declared.Token.{Token}
use Rattle.token_lists.specs.declared.Build.{Build}
use Rattle.token_lists.specs.declared.ListRef.{ListRef}
use Rattle.token_lists.specs.Table.{Entry, entry_at, tokens_at}
use Rattle.token_lists.specs.Accounts.{Moves, Keeps, holds, cell_holds}
use Rattle.token_lists.specs.Ids.{id_of, build_id, IsBuilding}
use Rattle.list_builder.specs.declared.ask.Ask.{Ask}
use Rattle.list_builder.specs.declared.ask.Ask.TheVariants as ask
use Rattle.list_builder.specs.declared.scan.ListScan.{ListScan}
use Rattle.list_builder.specs.declared.stage.Step.{Step}
use Rattle.plain_state.specs.Definitions.{Fed, Answer, More, Tells, Done}
use Rattle.list_builder.specs.Stages as stages
use Rattle.list_builder.specs.Stages.{depth_of, goes}

-- the tokens of a list that may be none
abbrev pub cell_tokens : List (Option Entry) → Option ListRef → List Token
cell_tokens table None = []
cell_tokens table (Some r) = tokens_at table (id_of r)

-- what the answer says, where this list is in work
abbrev pub answer_of : List (Option Entry) → Ask → List Token → Answer
answer_of table (ask.More want) work = More want work
answer_of table (ask.Tells report give_back) work = Tells report give_back work
answer_of table (ask.Done cell) work = Done (cell_tokens table cell)

-- the scanner goes on
abbrev pub IsOpen : Ask → Type 0
IsOpen (ask.More want) = Unit {0}
IsOpen (ask.Tells report give_back) = Unit {0}
IsOpen (ask.Done cell) = ⊥

-- a list that is handed out has tokens
abbrev pub IsListed : List (Option Entry) → Ask → Type 0
IsListed table (ask.More want) = Unit {0}
IsListed table (ask.Tells report give_back) = Unit {0}
IsListed table (ask.Done cell) = IfSome cell (λ r. 0 < length (tokens_at table (id_of r)))

-- the list is handed out: the scanner has none
abbrev pub IsSpent : Ask → ListScan → Type 0
IsSpent (ask.More want) scan = Unit {0}
IsSpent (ask.Tells report give_back) scan = Unit {0}
IsSpent (ask.Done cell) scan = scan.build ≡ None

-- what the answer hands out
abbrev pub handed : Ask → ℕ → ℕ
handed (ask.More want) h = 0
handed (ask.Tells report give_back) h = 0
handed (ask.Done cell) h = cell_holds cell h

-- THE LIST IN WORK

abbrev pub work_by : List (Option Entry) → Option Build → List Token
work_by table None = []
work_by table (Some b) = tokens_at table (build_id b)

abbrev pub work_in : List (Option Entry) → ListScan → List Token
work_in table scan = work_by table scan.build

abbrev pub build_holds : Option Build → ℕ → ℕ
build_holds None h = 0
build_holds (Some b) h = holds (build_id b) h

-- what a scanner holds
abbrev pub scan_holds : ListScan → ℕ → ℕ
scan_holds scan h = build_holds scan.build h

abbrev pub IsBuildingIn : List (Option Entry) → Option Build → Type 0
IsBuildingIn table None = ⊥
IsBuildingIn table (Some b) = IsBuilding table b

-- the list in work, if there is one, may be freed
abbrev pub OwnsBuild : List (Option Entry) → Option Build → Type 0
OwnsBuild table None = Unit {0}
OwnsBuild table (Some b) = IsBuilding table b

abbrev pub Owns : List (Option Entry) → ListScan → Type 0
Owns table scan = OwnsBuild table scan.build

-- A scanner that goes on: it has a list in work, and each group that is open has its brace there.
pub record IsSound (table : List (Option Entry)) (scan : ListScan) : Type 0 where
  pub building : IsBuildingIn table scan.build
  pub shallow : depth_of scan.stage ≤ length (work_in table scan)

-- what is answered on what is still to come
abbrev pub resume : List (Option Entry) → ListScan → List Fed → Answer
resume table scan fed = stages.resume scan.manner scan.stage (work_in table scan) fed

-- all lists but one are as they were
pub record IsOnly (old new : List (Option Entry)) (id : ℕ) : Type 0 where
  pub apart : (h : ℕ) → h ≢ id → entry_at new h ≡ entry_at old h

-- the list in work as an answer shows it
abbrev pub list_of : Answer → List Token
list_of (More want list) = list
list_of (Tells report give_back list) = list
list_of (Done list) = list

-- Some of the tokens that go into the list are in it, from the first on.
pub record IsFront (old new whole : List Token) : Type 0 where
  pub front : List Token
  pub behind : List Token
  pub grown : new ≡ old ++ front
  pub left : whole ≡ new ++ behind

-- The same, and not all of them.
pub record IsGrownByPart (old new whole : List Token) : Type 0 where
  pub front : List Token
  pub behind : List Token
  pub grown : new ≡ old ++ front
  pub left : whole ≡ new ++ behind
  pub some : 0 < length behind

-- What comes of a step: the answer is what is asked for then, and the scanner stands behind it.
pub record Goes (old_table new_table : List (Option Entry)) (old new : ListScan) (step : Step) (answer : Ask) : Type 0 where
  pub answers : answer_of new_table answer (work_in new_table new) ≡ goes step old.manner (work_in old_table old) []
  pub sound : IsOpen answer → IsSound new_table new
  pub same : IsOpen answer → (fed : List Fed) → goes step old.manner (work_in old_table old) fed ≡ resume new_table new fed
  pub listed : IsListed new_table answer
  pub spent : IsSpent answer new
  pub owns : Owns new_table new
  pub moves : Moves old_table new_table (scan_holds old) (λ h. scan_holds new h + handed answer h)
  pub kept : Keeps old_table new_table (scan_holds old)

-- What comes of what is fed: the answer is what the definition asks for after it, and the scanner goes on behind it.
pub record Answers (old_table new_table : List (Option Entry)) (old new : ListScan) (x : Fed) (answer : Ask) : Type 0 where
  pub answers : answer_of new_table answer (work_in new_table new) ≡ resume old_table old (x ∷ [])
  pub sound : IsOpen answer → IsSound new_table new
  pub same : IsOpen answer → (fed : List Fed) → resume old_table old (x ∷ fed) ≡ resume new_table new fed
  pub listed : IsListed new_table answer
  pub spent : IsSpent answer new
  pub owns : Owns new_table new
  pub moves : Moves old_table new_table (scan_holds old) (λ h. scan_holds new h + handed answer h)
  pub kept : Keeps old_table new_table (scan_holds old)

-- The memory is full: the scanner stands where it stood, but for a front of the tokens that go into its list.
pub record IsCutShort (old_table new_table : List (Option Entry)) (old new : ListScan) (whole : List Token) : Type 0 where
  pub part : IsGrownByPart (work_in old_table old) (work_in new_table new) whole
  pub stands : new.stage ≡ old.stage
  pub owns : Owns new_table new
  pub moves : Moves old_table new_table (scan_holds old) (scan_holds new)
  pub kept : Keeps old_table new_table (scan_holds old)

-- The same where a list is copied.
pub record IsCutInCopy (old_table new_table : List (Option Entry)) (old new : ListScan) (whole : List Token) : Type 0 where
  pub part : IsFront (work_in old_table old) (work_in new_table new) whole
  pub stands : new.stage ≡ old.stage
  pub owns : Owns new_table new
  pub moves : Moves old_table new_table (scan_holds old) (scan_holds new)
  pub kept : Keeps old_table new_table (scan_holds old)
