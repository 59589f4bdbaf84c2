-- What is being read at a check, where a file ends or the name of an \outer macro comes (The TeXbook, chapter 20).
use Rattle.std.specs.Prelude.{ℕ, zero, suc, Bool, true, false, List, [], ◌∷◌, Option, Some, None, drop, length}
use Rattle.tex_defs.specs.declared.Name.{Name}
use Rattle.tex_defs.specs.declared.Token.{Token}
use Rattle.tex_syntax.specs.declared.words.Scanned.{Scanned}
use Rattle.tex_syntax.specs.declared.words.Scanned.TheVariants as scanned
use Rattle.rows.specs.declared.words.Phrase.TheVariants.{Command, Text, Definition}
use Rattle.rows.specs.Table.{reads_under_normal}
use Rattle.plain_readings.specs.Readings.{Kind, Reads, Arguments, Skips, Reading, lists}

-- What a reading is at a check: it is read itself, under this name; it skips text, from this line on; it reads its token under normal status; or
-- it counts as what is read around it.
pub data Status : Type 0 where
  Scans : Scanned → Name → Status
  SkipsText : (line : ℕ) → Status
  Unguarded : Status
  Inherits : Status

abbrev pub command_status : (unguarded : Bool) → Status
command_status true = Unguarded
command_status false = Inherits

abbrev pub status : Kind → Status
status (Reads (Command c)) = command_status (reads_under_normal c.head)
status (Reads (Text name expanded)) = Scans scanned.Text name
status (Reads (Definition name expanded)) = Scans scanned.Definition name
status (Arguments name long number ts) = Scans scanned.Use name
status (Skips c aim line) = SkipsText line
status k = Inherits

-- what is read, under its name, with its list as far as it is built; or what is skipped, from this line on
pub data Scanning : Type 0 where
  Builds : Scanned → Name → (list : List Token) → Scanning
  SkippedText : (line : ℕ) → Scanning

-- the first of so many lists; where there is none, that of no token
abbrev pub list_on_top : (count : ℕ) → List (List Token) → List Token
list_on_top zero held = []
list_on_top (suc n) [] = []
list_on_top (suc n) (ts ∷ held) = ts

abbrev pub scanned_at : Status → (list : List Token) → (around : Option Scanning) → Option Scanning
scanned_at (Scans what name) list around = Some (Builds what name list)
scanned_at (SkipsText line) list around = Some (SkippedText line)
scanned_at s list around = around

-- The innermost text, definition or call, or text that is skipped; of the lists of all readings, the innermost's first, each reading has as many as it
-- holds.
abbrev pub innermost_scanned : List Reading → (held : List (List Token)) → Option Scanning
innermost_scanned [] held = None
innermost_scanned (r ∷ rs) held =
    scanned_at (status r.kind) (list_on_top (length (lists r.kind r.fed)) held) (innermost_scanned rs (drop (length (lists r.kind r.fed)) held))

abbrev pub unless_unguarded : Status → Option Scanning → Option Scanning
unless_unguarded Unguarded s = None
unless_unguarded t s = s

-- Where the innermost reading reads its token under normal status, nothing is being read.
abbrev pub scanning : List Reading → (held : List (List Token)) → Option Scanning
scanning [] held = None
scanning (r ∷ rs) held = unless_unguarded (status r.kind) (innermost_scanned (r ∷ rs) held)
