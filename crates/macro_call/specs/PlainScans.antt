-- A scanner as plain data, and what it will answer on what is still to come.
use Rattle.std.specs.Prelude.{◌≡◌, ℕ, ◌-◌, Bool, true, false, List, [], ◌∷◌, length, take, drop, Option, None, Some, option_map}
use Rattle.tex_defs.specs.declared.Token.{Token}
use Rattle.plain_tokens.specs.declared.par_mode.ParMode.{ParMode}
use Rattle.plain_tokens.specs.declared.par_mode.ParMode.TheVariants.{Checked}
use Rattle.plain_tokens.specs.Arguments.{start_of, delimiters_of, begins_with_place, is_par, Fed, Tok, Cut, Noted, Answer, search, behind, gathering, arguments_in, work_in}
use Rattle.macro_call.specs.Stages.{Stage, kept_in, read_in}

-- In front of the first place, the index of the token that must come next; in a place, that of its delimiter. Then how a
-- `\par` is taken; whether an extra brace was answered, and nothing came since; the present argument; and those before it.
pub record Scan : Type 0 where
  pub at : ℕ
  pub mode : ParMode
  pub braced : Bool
  pub present : Option Stage
  pub args : List (List Token)

-- an argument of which nothing was read
abbrev pub fresh_stage : Stage
fresh_stage = record { list = []; from = 0; matched = 0; depth = 0 }

-- A call begins: where the parameter text begins with a place, the first argument is begun.
abbrev pub first_by : (begins : Bool) → ParMode → Scan
first_by true mode = record { at = 1; mode = mode; braced = false; present = Some fresh_stage; args = [] }
first_by false mode = record { at = 0; mode = mode; braced = false; present = None; args = [] }

abbrev pub first_scan : (text : List Token) → ParMode → Scan
first_scan text mode = first_by (begins_with_place text) mode

-- a check came
abbrev pub cut_scan : Scan → Scan
cut_scan scan = record { at = scan.at; mode = Checked; braced = false; present = scan.present; args = scan.args }

-- the extra brace that was answered was put back and reported
abbrev pub noted_scan : Scan → Scan
noted_scan scan = record { at = scan.at; mode = scan.mode; braced = false; present = scan.present; args = scan.args }

-- the list in work is this one, and all else stays
abbrev pub with_work : Scan → List Token → Scan
with_work scan list = record { at = scan.at; mode = scan.mode; braced = scan.braced; present = option_map (λ s. record { list = list; from = s.from; matched = s.matched; depth = s.depth }) scan.present; args = scan.args }

-- the places from here on, where these arguments are there: nine arguments are the most
abbrev pub places_left : (args : List (List Token)) → (rest : List Token) → List (List Token)
places_left args rest = take (9 - length args) (delimiters_of rest)

-- the same behind the present place
abbrev pub places_behind : (args : List (List Token)) → (rest : List Token) → List (List Token)
places_behind args rest = take (8 - length args) (delimiters_of rest)

-- in front of the first place the rest of the parameter text is matched; in a place its delimiter is sought
abbrev pub resume_at : (rest : List Token) → Scan → Option Stage → List Fed → Answer
resume_at rest scan None fed = gathering rest scan.mode fed
resume_at rest scan (Some s) fed =
    behind scan.args (places_behind scan.args rest)
    (search (start_of rest) scan.braced scan.mode (kept_in s) (read_in (start_of rest) s) fed)

-- what the scanner of a macro with this list answers
abbrev pub resume_scan : (text : List Token) → Scan → List Fed → Answer
resume_scan text scan fed = resume_at (drop scan.at text) scan scan.present fed

-- the list in work, if an argument is being gathered
abbrev pub scan_work : Scan → Option (List Token)
scan_work scan = option_map (λ s. s.list) scan.present

-- What plain scanners answer, by the definition of arguments.
pub record ScansGather : Type 0 where
  pub first : (text : List Token) (mode : ParMode) (fed : List Fed) → resume_scan text (first_scan text mode) fed ≡ gathering text mode fed
  pub cut : (text : List Token) (scan : Scan) (fed : List Fed) → resume_scan text scan (Cut ∷ fed) ≡ resume_scan text (cut_scan scan) fed
  pub noted : (text : List Token) (scan : Scan) (fed : List Fed) → resume_scan text scan (Noted ∷ fed) ≡ resume_scan text (noted_scan scan) fed

-- A check shows only at a `\par`: the arguments and the list in work are what they were, and any other token comes to the same.
pub record ChecksShowAtPars : Type 0 where
  pub args : (text : List Token) (scan : Scan) → arguments_in (resume_scan text (cut_scan scan) []) ≡ arguments_in (resume_scan text scan [])
  pub work : (text : List Token) (scan : Scan) → work_in (resume_scan text (cut_scan scan) []) ≡ work_in (resume_scan text scan [])
  pub answer : (text : List Token) (scan : Scan) (x : Token) → is_par x ≡ false → resume_scan text (cut_scan scan) (Tok x ∷ []) ≡ resume_scan text scan (Tok x ∷ [])
