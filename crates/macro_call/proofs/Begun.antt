-- A call begins.
use Rattle.std.proofs.Common.{◌≡◌, ℕ, ◌+◌, ◌<◌, List, [], ◌∷◌, length, take, drop, Bool, false, Option, None, Some, sym, ap, ap₂, ◌∙◌, arith}
use Rattle.std.specs.Prelude.{slice_set, map}
use Rattle.std.proofs.lemmas.List.{get_or-set_same}
use Rattle.tex_defs.specs.declared.Token.{Token}
use Rattle.tex_defs.specs.declared.Token.TheVariants.{Place}
use Rattle.token_lists.specs.declared.Build.{Build}
use Rattle.token_lists.specs.Ids.{build_id}
use Rattle.token_lists.specs.Table.{Entry, entry_at, tokens_of, tokens_at, holders_at, holders_of, empty}
use Rattle.plain_tokens.specs.declared.par_mode.ParMode.{ParMode}
use Rattle.plain_tokens.specs.Arguments.{begins_with_place, Fed, gathering}
use Rattle.macro_args.specs.declared.args.Args.{Args}
use Rattle.macro_call.specs.declared.cursor.Cursor.{Cursor}
use Rattle.macro_call.specs.declared.present.Present.{Present}
use Rattle.macro_call.specs.declared.scan.ArgScan.{ArgScan}
use Rattle.macro_args.specs.Args.{cell_tokens, args_in}
use Rattle.macro_call.specs.Cursors.{rest_at}
use Rattle.macro_call.specs.Stages.{Stage, stage_of}
use Rattle.macro_call.specs.PlainScans.{Scan, fresh_stage, first_scan, first_by, resume_scan}
use Rattle.macro_call.specs.Scans.{scan_of, resume}
use Rattle.macro_call.proofs.PlainScans.{first_gathers}
use Rattle.macro_call.proofs.Tables.{only_set, tokens_kept}

abbrev stage : List Token → ℕ → ℕ → ℕ → Stage
stage list from matched depth = record { list = list; from = from; matched = matched; depth = depth }

abbrev begun : ParMode → ℕ → Option Stage → List (List Token) → Scan
begun mode i o us = record { at = i; mode = mode; braced = false; present = o; args = us }

module _ (table : List (Option Entry)) (macro : ℕ) (first : Cursor) (mode : ParMode) (args : Args) (count : args.count ≡ 0) (at : first.index ≡ 0) where
  whole : rest_at table macro first ≡ tokens_at table macro
  whole = ap (λ (i : ℕ). drop i (tokens_at table macro)) at

  no_args : (t : List (Option Entry)) → args_in t args ≡ []
  no_args t = ap (λ (n : ℕ). map (λ cell. cell_tokens t cell) (take n args.lists)) count

  -- in front of the first place
  pub begun_start : begins_with_place (rest_at table macro first) ≡ false → scan_of table (record { cursor = first; mode = mode; braced = false; present = None; args = args }) ≡ first_scan (tokens_at table macro) mode
  begun_start none =
      ap₂ (λ (i : ℕ) (us : List (List Token)). begun mode i None us) at (no_args table)
      ∙ sym (ap (λ (b : Bool). first_by b mode) (sym (ap begins_with_place whole) ∙ none))

  -- in the first place
  module _ (new_table : List (Option Entry)) (next : Cursor) (c : ℕ) (b : Build) (p : Present) (step : rest_at table macro first ≡ Place c ∷ rest_at table macro next) (one : next.index ≡ first.index + 1)
      (set : new_table ≡ slice_set table (build_id b) (Some empty)) (within : build_id b < length table) (is : p.build ≡ b) (zeros : (p.from ≡ 0) × (p.matched ≡ 0) × (p.depth ≡ 0)) where
    nothing : tokens_at new_table (build_id p.build) ≡ []
    nothing = ap (λ (k : Build). tokens_at new_table (build_id k)) is
        ∙ ap tokens_of (ap (λ (t : List (Option Entry)). entry_at t (build_id b)) set ∙ get_or-set_same table (build_id b) (Some empty) None within)

    fresh : stage_of new_table p ≡ fresh_stage
    fresh =
        ap (λ (ts : List Token). stage ts p.from p.matched p.depth) nothing
        ∙ ap (λ (n : ℕ). stage [] n p.matched p.depth) zeros.0
        ∙ ap₂ (λ (m d : ℕ). stage [] 0 m d) zeros.1 zeros.2

    pub begun_place : scan_of new_table (record { cursor = next; mode = mode; braced = false; present = Some p; args = args }) ≡ first_scan (tokens_at table macro) mode
    begun_place =
        ap₂ (λ (i : ℕ) (us : List (List Token)). begun mode i (Some (stage_of new_table p)) us) (omega (arith, at, one)) (no_args new_table)
        ∙ ap (λ (s : Stage). begun mode 1 (Some s) []) fresh
        ∙ sym (ap (λ (b : Bool). first_by b mode) (sym (ap begins_with_place whole) ∙ ap begins_with_place step))

-- the same data
pub told_at : (t u : List (Option Entry)) (cursor k : Cursor) (o q : Option Present) (mode : ParMode) (args : Args) → t ≡ u → cursor ≡ k → o ≡ q →
    scan_of t (record { cursor = cursor; mode = mode; braced = false; present = o; args = args }) ≡ scan_of u (record { cursor = k; mode = mode; braced = false; present = q; args = args })
told_at t u cursor k o q mode args e f g =
    ap (λ (v : List (Option Entry)). scan_of v (record { cursor = cursor; mode = mode; braced = false; present = o; args = args })) e
    ∙ ap₂ (λ (n : Cursor) (r : Option Present). scan_of u (record { cursor = n; mode = mode; braced = false; present = r; args = args })) f g

-- a new list isn't the macro's
pub new_text : (table new_table : List (Option Entry)) (macro : ℕ) (b : Build) → 0 < holders_at table macro → entry_at table (build_id b) ≡ None → new_table ≡ slice_set table (build_id b) (Some empty) → tokens_at new_table macro ≡ tokens_at table macro
new_text table new_table macro b held fresh set =
    tokens_kept table new_table (build_id b) macro (only_set table new_table (build_id b) (Some empty) set) (λ e. omega (arith, held, ap (holders_at table) e, ap holders_of fresh))

-- as the definition begins
pub new_gathers : (table new_table : List (Option Entry)) (macro : ℕ) (scan : ArgScan) (mode : ParMode) → tokens_at new_table macro ≡ tokens_at table macro → scan_of new_table scan ≡ first_scan (tokens_at table macro) mode → (fed : List Fed) →
    resume new_table macro scan fed ≡ gathering (tokens_at table macro) mode fed
new_gathers table new_table macro scan mode text is fed =
    ap₂ (λ (ts : List Token) (s : Scan). resume_scan ts s fed) text is ∙ first_gathers (tokens_at table macro) mode fed
