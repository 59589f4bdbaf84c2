-- The places that are left.
use Rattle.std.proofs.Common.{suc, ◌≡◌, ℕ, ◌-◌, ◌<◌, List, [], ◌∷◌, ◌++◌, length, take, Option, None, Some, true, false, refl, sym, ap, ap₂, ◌∙◌, arith, length-append}
use Rattle.std.specs.Prelude.{◌&&◌}
use Rattle.std.proofs.lemmas.Bool.{true≢false}
use Rattle.std.proofs.lemmas.List.{length-map, length-take-le}
use Rattle.std.proofs.Math.Seq.{take-nil}
use Rattle.tex_defs.specs.declared.Token.{Token}
use Rattle.tex_defs.specs.declared.Token.TheVariants.{Place}
use Rattle.token_lists.specs.Table.{Entry}
use Rattle.plain_tokens.specs.Arguments.{start_of, delimiters_of, is_nil, is_some_place}
use Rattle.macro_args.specs.declared.args.Args.{Args}
use Rattle.macro_args.specs.Args.{cell_tokens, args_in, IsFilled}
use Rattle.macro_call.specs.declared.cursor.Cursor.{Cursor}
use Rattle.macro_call.specs.declared.scan.ArgScan.{ArgScan}
use Rattle.macro_call.specs.Cursors.{StepsPlace, rest_at, delimiter_at}
use Rattle.macro_call.specs.PlainScans.{places_left, places_behind}
use Rattle.macro_call.specs.Scans.{NextPlace, left_at}

-- as many arguments as are counted
pub args_length : (table : List (Option Entry)) (args : Args) → IsFilled args → length (args_in table args) ≡ args.count
args_length table args filled = length-map (take args.count args.lists) (λ cell. cell_tokens table cell) ∙ length-take-le args.count args.lists (omega (arith, args.nine, filled.few))

-- at a place
pub left_begins : (args : List (List Token)) (text rest : List Token) (c : ℕ) → length args < 9 → text ≡ Place c ∷ rest → places_left args text ≡ start_of rest ∷ places_behind args rest
left_begins args text rest c few is =
    let e : 9 - length args ≡ suc (8 - length args) = omega (arith, few) in
    ap₂ (λ (n : ℕ) (ts : List Token). take n (delimiters_of ts)) e is

-- where no place stands
no_places : (xs : List Token) (ds : List (List Token)) → is_nil xs && is_some_place ds ≡ false → xs ≡ [] → ds ≡ []
no_places xs [] b e = refl
no_places xs (d ∷ ds) b e = absurd (true≢false (sym (ap (λ (ts : List Token). is_nil ts && true) e) ∙ b))

-- the next place of a scanner
pub next_by : (table : List (Option Entry)) (macro : ℕ) (scan : ArgScan) (o : Option Cursor) → IsFilled scan.args → scan.args.count < 9 → delimiter_at table macro scan.cursor ≡ [] → StepsPlace table macro scan.cursor o → NextPlace table macro scan o
next_by table macro scan None filled few ends none =
    ap (take (9 - length (args_in table scan.args))) (no_places (delimiter_at table macro scan.cursor) (delimiters_of (rest_at table macro scan.cursor)) none ends) ∙ take-nil (9 - length (args_in table scan.args))
next_by table macro scan (Some next) filled few ends steps = (
  few,
  left_begins (args_in table scan.args) (rest_at table macro scan.cursor) (rest_at table macro next) steps.0.0 (omega (arith, few, args_length table scan.args filled)) steps.0.1,
  steps.1,
)

pub none_left : (table : List (Option Entry)) (macro : ℕ) (scan : ArgScan) → IsFilled scan.args → scan.args.count ≡ 9 → left_at table macro scan ≡ []
none_left table macro scan filled nine = ap (λ (n : ℕ). take (9 - n) (delimiters_of (rest_at table macro scan.cursor))) (args_length table scan.args filled ∙ nine)

-- behind one argument more
pub left_behind : (args : List (List Token)) (a : List Token) (text rest : List Token) → delimiters_of rest ≡ delimiters_of text → places_left (args ++ a ∷ []) rest ≡ places_behind args text
left_behind args a text rest same =
    let e : 9 - length (args ++ a ∷ []) ≡ 8 - length args = omega (arith, length-append args (a ∷ [])) in
    ap₂ (λ (n : ℕ) (ds : List (List Token)). take n ds) e same
