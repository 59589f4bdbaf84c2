-- The same state, whose files go on: what stands there behind their next lines is seen by no rule.
use Rattle.std.specs.Prelude.{◌≡◌, ℕ, zero, suc, ◌<◌, Bool, true, false, List, [], ◌∷◌, ◌++◌, length, drop, bytes_eq, if◌then◌else◌, Option, Some, None}
use Rattle.tex_defs.specs.Places.{World}
use Rattle.tex_defs.specs.declared.Sizes.{Sizes}
use Rattle.plain_tokens.specs.Lines.{has_feed}
use Rattle.plain_tokens.specs.Pending.{Pending, Source, Progress, Begun, Closed, with_next, pulled, takes_file}
use Rattle.rows.specs.declared.command.Effect.TheVariants as effect
use Rattle.rows.specs.Readings.{Ask, ActsOn}
use Rattle.plain_readings.specs.Readings.{Reading, ask}
use Rattle.plain_machine.specs.declared.broken.Broken.{Broken}
use Rattle.plain_machine.specs.States.{State, Files, Move, Handed, Taken, FirstTaken, ListsEnded, Skipped, FileClosed, FileOpened, made}
use Rattle.plain_machine.specs.Demands.{refusal}
use Rattle.plain_machine.specs.Plan.{planned, ruled}
use Rattle.plain_machine.specs.Runs.{steps}
use Rattle.plain_machine.specs.Does.{Did, Cut}

-- What each open file has left behind the bytes that came, the innermost first, and what the openings to come find.
pub record Rests : Type 0 where
  pub left : List (List ℕ)
  pub files : Files

abbrev pub first_left : List (List ℕ) → List ℕ
first_left [] = []
first_left (bytes ∷ left) = bytes

-- A source that is a file has the first of these, and the others go on behind it.
abbrev pub own_left : Progress → List (List ℕ) → List ℕ
own_left Begun left = first_left left
own_left Closed left = []

abbrev pub left_beneath : Progress → List (List ℕ) → List (List ℕ)
left_beneath Begun left = drop 1 left
left_beneath Closed left = left

abbrev pub outer_extended : List (List ℕ) → List Source → List Source
outer_extended left [] = []
outer_extended left (s ∷ outer) = record s { rest = s.rest ++ own_left s.file left } ∷ outer_extended (left_beneath s.file left) outer

-- a file that was opened has the first
abbrev pub next_extended : List (List ℕ) → Option (List ℕ) → Option (List ℕ)
next_extended left None = None
next_extended left (Some bytes) = Some (bytes ++ first_left left)

abbrev pub left_behind : Option (List ℕ) → List (List ℕ) → List (List ℕ)
left_behind None left = left
left_behind (Some bytes) left = drop 1 left

-- of the innermost source and those beneath it
abbrev pub sources_extended : List (List ℕ) → Pending → Pending
sources_extended left p = record p { rest = p.rest ++ own_left p.file left; outer = outer_extended (left_beneath p.file left) p.outer }

abbrev pub extended_pending : List (List ℕ) → Pending → Pending
extended_pending left p = record (sources_extended (left_behind p.next left) p) { next = next_extended left p.next }

-- the state with them
abbrev pub extended : Rests → State → State
extended r s = record s { pending = extended_pending r.left s.pending; files = r.files }

-- WHAT A RULE MAKES OF THEM

-- the innermost file goes by this rule
abbrev pub closes : List Move → Bool
closes (ListsEnded ∷ FileClosed ∷ ms) = true
closes ms = false

-- What was left before the moves of a rule, where this is left behind them: a file that went had some bytes left.
abbrev pub left_before : (gone : List ℕ) → List Move → List (List ℕ) → List (List ℕ)
left_before gone ms left = if closes ms then gone ∷ left else left

abbrev pub rests_before : (gone : List ℕ) → List Move → Rests → Rests
rests_before gone ms r = record { left = left_before gone ms r.left; files = r.files }

-- before a file of this name was looked for, and this found
abbrev pub found_first : (name : List ℕ) → (found : Option (List ℕ)) → Files → Files
found_first name found files zero other = if bytes_eq other name then found else files 0 other
found_first name found files (suc k) other = files k other

-- A file that is found has all its bytes left.
abbrev pub rests_before_opening : (name : List ℕ) → (found : Bool) → Rests → Rests
rests_before_opening name false r = record { left = r.left; files = found_first name None r.files }
rests_before_opening name true r = record { left = drop 1 r.left; files = found_first name (Some (first_left r.left)) r.files }

-- The next reading is known, whichever of these bytes follow in the innermost file: it isn't the file's, no file is open, the file is to end, its
-- line is whole, nothing follows, or the line has too many bytes for a buffer of this size.
pub data IsReady (size : ℕ) (categories : List ℕ) (p : Pending) (left : List ℕ) : Type 0 where
  InFront : takes_file (pulled categories p) ≡ false → IsReady size categories p left
  NoFile : p.file ≡ Closed → IsReady size categories p left
  ToEnd : p.ends ≡ true → IsReady size categories p left
  HasLine : has_feed p.rest ≡ true → IsReady size categories p left
  NoMore : left ≡ [] → IsReady size categories p left
  TooLong : size < length p.rest → IsReady size categories p left

-- So is the first line of a file that was opened, of which these bytes came and those may follow.
pub data IsFirstReady (size : ℕ) (bytes left : List ℕ) : Type 0 where
  HasFirst : has_feed bytes ≡ true → IsFirstReady size bytes left
  NoMoreBytes : left ≡ [] → IsFirstReady size bytes left
  FirstTooLong : size < length bytes → IsFirstReady size bytes left

-- the innermost reading begins a file by its name
abbrev pub starts : Ask → Bool
starts (ActsOn c (effect.StartInput back) ts) = true
starts a = false

abbrev pub starts_input : List Reading → Bool
starts_input [] = false
starts_input (r ∷ rs) = starts (ask r.kind r.fed)

-- a move that neither reads nor opens a file
abbrev pub IsStill : Move → Type 0
IsStill (Handed t) = ⊥
IsStill (Taken line) = ⊥
IsStill (FirstTaken line) = ⊥
IsStill Skipped = ⊥
IsStill FileClosed = ⊥
IsStill (FileOpened name) = ⊥
IsStill m = Unit {0}

abbrev pub AreStill : List Move → Type 0
AreStill [] = Unit {0}
AreStill (m ∷ ms) = IsStill m × AreStill ms

-- the rule that comes next, where no file was opened and none is begun by its name, and what is left before it
pub record Reads (sizes : Sizes) (s : State) (gone : List ℕ) (r : Rests) : Type 0 where
  pub none_opened : s.pending.next ≡ None
  pub no_start : starts_input s.work ≡ false
  pub ready : IsReady sizes.buffer_size s.groups.now.categories s.pending (first_left (left_before gone (planned s s.work) r.left))

-- Whichever bytes follow in the files, the next rule does the same: where all its moves are made, where it is cut off,
-- and in its steps. So do moves that read no file, and the rule by which a file that was opened is begun. An opening takes what it finds, all
-- of whose bytes are left then.
pub record ExtensionIsFree : Type 0 where
  pub does : (sizes : Sizes) (s : State) (gone : List ℕ) (r : Rests) → Reads sizes s gone r →
      (s' : State) (w w' : World) → Did sizes s s' w w' (planned s s.work) →
      Did sizes (extended (rests_before gone (planned s s.work) r) s) (extended r s') w w' (planned (extended (rests_before gone (planned s s.work) r) s) s.work)
  pub cuts : (sizes : Sizes) (s : State) (gone : List ℕ) (r : Rests) → Reads sizes s gone r →
      (at : State) (w w' : World) (why : Broken) → Cut sizes s at w w' (planned s s.work) why →
      Cut sizes (extended (rests_before gone (planned s s.work) r) s) (extended r at) w w' (planned (extended (rests_before gone (planned s s.work) r) s) s.work) why
  pub steps : (sizes : Sizes) (s : State) (gone : List ℕ) (r : Rests) → Reads sizes s gone r →
      steps (planned (extended (rests_before gone (planned s s.work) r) s) s.work) ≡ steps (planned s s.work)
  pub moves : (sizes : Sizes) (s s' : State) (r : Rests) (ms : List Move) → AreStill ms → (w w' : World) → Did sizes s s' w w' ms → Did sizes (extended r s) (extended r s') w w' ms
  pub cut_moves : (sizes : Sizes) (s at : State) (r : Rests) (ms : List Move) (why : Broken) → AreStill ms → (w w' : World) → Cut sizes s at w w' ms why → Cut sizes (extended r s) (extended r at) w w' ms why
  pub opens : (s : State) (name : List ℕ) (r : Rests) → s.pending.next ≡ None →
      made (FileOpened name) (extended (rests_before_opening name true r) s) ≡ extended r (record s { pending = with_next (Some []) s.pending })
  pub opens_none : (s : State) (name : List ℕ) (r : Rests) → s.pending.next ≡ None → made (FileOpened name) (extended (rests_before_opening name false r) s) ≡ extended r s
  pub opening : (sizes : Sizes) (s : State) (name : List ℕ) (r : Rests) → refusal sizes (FileOpened name) (extended r s) ≡ refusal sizes (FileOpened name) s
  pub begins : (sizes : Sizes) (s : State) (bytes : List ℕ) (r : Rests) → s.pending.next ≡ Some bytes → IsFirstReady sizes.buffer_size bytes (first_left r.left) →
      (s' : State) (w w' : World) → Did sizes s s' w w' (ruled s (Some bytes)) → Did sizes (extended r s) (extended r s') w w' (ruled (extended r s) (Some (bytes ++ first_left r.left)))
  pub begins_cut : (sizes : Sizes) (s : State) (bytes : List ℕ) (r : Rests) → s.pending.next ≡ Some bytes → IsFirstReady sizes.buffer_size bytes (first_left r.left) →
      (at : State) (w w' : World) (why : Broken) → Cut sizes s at w w' (ruled s (Some bytes)) why → Cut sizes (extended r s) (extended r at) w w' (ruled (extended r s) (Some (bytes ++ first_left r.left))) why
