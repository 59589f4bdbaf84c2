-- The next place is entered.
use Rattle.std.proofs.Common.{◌≡◌, ◌≢◌, ℕ, ◌+◌, ◌<◌, ◌≤◌, List, [], ◌∷◌, ◌++◌, length, take, drop, map, cond, Bool, true, false, Option, None, Some, refl, sym, ap, ap₂, subst, ◌∙◌, arith}
use Rattle.std.specs.Prelude.{slice_set, ◌==◌}
use Rattle.std.proofs.lemmas.List.{get_or-set_same}
use Rattle.std.proofs.lemmas.List.Sums.{sum_by-cons, sum_by-take-le}
use Rattle.std.proofs.lemmas.Option.{same_Some}
use Rattle.tex_defs.specs.declared.Token.{Token}
use Rattle.token_lists.specs.declared.Build.{Build}
use Rattle.token_lists.specs.declared.ListRef.{ListRef}
use Rattle.token_lists.specs.Ids.{id_of, build_id, IsBuilding}
use Rattle.token_lists.specs.Table.{Entry, entry_at, tokens_of, tokens_at, places_of, holders_of, holders_at, empty}
use Rattle.token_lists.specs.Accounts.{Moves, Covers, none, holds, cell_holds, cells_hold}
use Rattle.plain_tokens.specs.Arguments.{start_of, Fed, More, search, behind, arguments, arguments_in, work_in}
use Rattle.macro_call.proofs.ArgumentRuns.{arguments_behind}
use Rattle.macro_args.specs.declared.args.Args.{Args}
use Rattle.macro_call.specs.declared.cursor.Cursor.{Cursor}
use Rattle.macro_call.specs.declared.present.Present.{Present}
use Rattle.macro_call.specs.declared.scan.ArgScan.{ArgScan}
use Rattle.macro_call.specs.declared.ask.CallAsk.TheVariants as ask
use Rattle.macro_args.specs.Args.{cell_tokens, args_in, args_hold}
use Rattle.macro_call.specs.Cursors.{IsOn, IsAhead, rest_at, delimiter_at}
use Rattle.macro_call.specs.Holds.{present_holds}
use Rattle.macro_call.specs.Stages.{IsStage, stage_of, kept_in, read_in}
use Rattle.macro_call.specs.Tables.{IsOnly}
use Rattle.macro_call.specs.PlainScans.{places_behind}
use Rattle.macro_call.specs.Scans.{resume, left_at, scan_holds, IsSound, IsBetween, NextPlace, Enters}
use Rattle.macro_call.proofs.Delimited.{at_begin}
use Rattle.macro_args.proofs.Releases.{holds_own}
use Rattle.macro_call.proofs.Listed.{listed_kept}
use Rattle.macro_call.proofs.Tables.{only_set, on_kept, tokens_kept}

pub holds_few : (n h : ℕ) → holds n h ≤ 1
holds_few n h = by (n == h)
  where
    by : (b : Bool) → cond b 1 0 ≤ 1
    by true = omega arith
    by false = omega arith

-- lists whose entries stay
pub cells_kept : (old new : List (Option Entry)) (cells : List (Option ListRef)) → ((h : ℕ) → 0 < cells_hold cells h → entry_at new h ≡ entry_at old h) →
    map (λ cell. cell_tokens new cell) cells ≡ map (λ cell. cell_tokens old cell) cells
cells_kept old new [] same = refl
cells_kept old new (None ∷ cells) same = ap (λ (l : List (List Token)). [] ∷ l) (cells_kept old new cells (λ h l. same h (omega (arith, sum_by-cons (λ (c : Option ListRef). cell_holds c h) None cells))))
cells_kept old new (Some r ∷ cells) same =
    let own : 0 < cells_hold (Some r ∷ cells) (id_of r) = omega (arith, sum_by-cons (λ (c : Option ListRef). cell_holds c (id_of r)) (Some r) cells, holds_own (id_of r)) in
    ap₂ (λ (ts : List Token) (l : List (List Token)). ts ∷ l) (ap tokens_of (same (id_of r) own)) (cells_kept old new cells (λ h l. same h (omega (arith, sum_by-cons (λ (c : Option ListRef). cell_holds c h) (Some r) cells))))

pub args_kept : (old new : List (Option Entry)) (args : Args) → ((h : ℕ) → 0 < args_hold args h → entry_at new h ≡ entry_at old h) → args_in new args ≡ args_in old args
args_kept old new args same = cells_kept old new (take args.count args.lists) (λ h l. same h (omega (arith, sum_by-take-le (λ (c : Option ListRef). cell_holds c h) args.lists args.count)))

pub fresh_stands : (ds list : List Token) (from matched depth : ℕ) → list ≡ [] → from ≡ 0 → matched ≡ 0 → depth ≡ 0 → IsStage ds (record { list = list; from = from; matched = matched; depth = depth })
fresh_stands ds list from matched depth l f m d =
    subst (λ (ts : List Token). IsStage ds (record { list = ts; from = from; matched = matched; depth = depth })) (sym l)
    (subst (λ (n : ℕ). IsStage ds (record { list = []; from = n; matched = matched; depth = depth })) (sym f)
    (subst (λ (n : ℕ). IsStage ds (record { list = []; from = 0; matched = n; depth = depth })) (sym m)
    (subst (λ (n : ℕ). IsStage ds (record { list = []; from = 0; matched = 0; depth = n })) (sym d) (by ds))))
  where
    by : (ds : List Token) → IsStage ds (record { list = []; from = 0; matched = 0; depth = 0 })
    by [] = (refl, refl, refl)
    by (x ∷ xs) = (omega arith, at_begin (x ∷ xs) (omega arith))

take_nothing : (n : ℕ) (ds : List Token) → n ≡ 0 → take n ds ≡ []
take_nothing n ds e = ap (λ (k : ℕ). take k ds) e

module _ (old_table table : List (Option Entry)) (macro : ℕ) (old : ArgScan) (next : Cursor) (b : Build) (p : Present) (between : IsBetween old_table macro old)
    (left : NextPlace old_table macro old (Some next))
    (fresh : entry_at old_table (build_id b) ≡ None) (building : IsBuilding table b) (set : table ≡ slice_set old_table (build_id b) (Some empty)) (within : build_id b < length old_table)
    (account : Moves old_table table none (holds (build_id b))) (is : p.build ≡ b) (zeros : (p.from ≡ 0) × (p.matched ≡ 0) × (p.depth ≡ 0)) (begins : p.next ≡ next) where
  only : IsOnly old_table table (build_id b)
  only = only_set old_table table (build_id b) (Some empty) set

  free : holders_at old_table (build_id b) ≡ 0
  free = ap holders_of fresh

  -- a list that is held isn't the new one
  held_apart : (h : ℕ) → 0 < holders_at old_table h → h ≢ build_id b
  held_apart h l e = omega (arith, free, ap (holders_at old_table) e)

  old_holds : (h : ℕ) → scan_holds old h ≡ args_hold old.args h
  old_holds h = omega (arith, ap (λ (o : Option Present). present_holds o h) between.none)

  build_is : build_id p.build ≡ build_id b
  build_is = ap build_id is

  new_holds : (h : ℕ) → present_holds (Some p) h ≡ holds (build_id b) h
  new_holds h = ap (λ (k : ℕ). holds k h) build_is

  same_args : args_in table old.args ≡ args_in old_table old.args
  same_args = args_kept old_table table old.args (λ h l. only.apart h (held_apart h (omega (arith, old_holds h, between.owns h))))

  macro_apart : macro ≢ build_id b
  macro_apart = held_apart macro (omega (arith, between.outside))

  same_tokens : tokens_at table macro ≡ tokens_at old_table macro
  same_tokens = tokens_kept old_table table (build_id b) macro only macro_apart

  same_rest : rest_at table macro next ≡ rest_at old_table macro next
  same_rest = ap (drop next.index) same_tokens

  places : left_at old_table macro old ≡ delimiter_at table macro next ∷ places_behind (args_in table old.args) (rest_at table macro next)
  places = left.1 ∙ ap₂ (λ (xs : List Token) (args : List (List Token)). start_of xs ∷ places_behind args xs) (sym same_rest) (sym same_args)

  nothing : tokens_at table (build_id p.build) ≡ []
  nothing = ap (tokens_at table) build_is ∙ ap tokens_of (ap (λ (t : List (Option Entry)). entry_at t (build_id b)) set ∙ get_or-set_same old_table (build_id b) (Some empty) None within)

  covers : Covers table (λ h. present_holds (Some p) h + args_hold old.args h)
  covers h = omega (arith, account h, between.owns h, old_holds h, new_holds h)

  stands : IsStage (delimiter_at table macro next) (stage_of table p)
  stands = fresh_stands (delimiter_at table macro next) (tokens_at table (build_id p.build)) p.from p.matched p.depth nothing zeros.0 zeros.1 zeros.2

  is_building : IsBuilding table p.build
  is_building = subst (IsBuilding table) (sym is) building

  new_on : IsOn table macro next
  new_on = on_kept old_table table (build_id b) macro only macro_apart next left.2

  ahead : IsAhead table macro next p.matched p.next
  ahead = (subst (IsOn table macro) (sym begins) new_on, omega (arith, ap (λ (c : Cursor). c.index) begins, zeros.1))

  is_sound : IsSound table macro (record { cursor = next; mode = old.mode; braced = old.braced; present = Some p; args = old.args })
  is_sound = record {
    owns = covers;
    on = new_on;
    outside = omega (arith, account macro, between.outside, old_holds macro, new_holds macro);
    filled = between.filled;
    listed = listed_kept old_table table old.args (λ h l. only.apart h (held_apart h (omega (arith, old_holds h, between.owns h)))) between.listed;
    in_place = (is_building, stands, left.0, ahead);
  }

  kept_none : kept_in (stage_of table p) ≡ []
  kept_none = take_nothing p.from (tokens_at table (build_id p.build)) zeros.0

  read_none : read_in (delimiter_at table macro next) (stage_of table p) ≡ []
  read_none = ap₂ (λ (k : ℕ) (ts : List Token). drop k ts ++ take p.matched (delimiter_at table macro next)) zeros.0 nothing ∙ take_nothing p.matched (delimiter_at table macro next) zeros.1

  goes_on : (fed : List Fed) → arguments old.mode (args_in old_table old.args) (left_at old_table macro old) fed
      ≡ resume table macro (record { cursor = next; mode = old.mode; braced = old.braced; present = Some p; args = old.args }) fed
  goes_on fed =
      ap (λ (ps : List (List Token)). arguments old.mode (args_in old_table old.args) ps fed) places
      ∙ arguments_behind old.mode (args_in old_table old.args) (places_behind (args_in table old.args) (rest_at table macro next)) (delimiter_at table macro next) fed
      ∙ ap (λ (args : List (List Token)). behind args (places_behind (args_in table old.args) (rest_at table macro next)) (search (delimiter_at table macro next) false old.mode [] [] fed)) (sym same_args)
      ∙ ap (λ (k : List Token). behind (args_in table old.args) (places_behind (args_in table old.args) (rest_at table macro next)) (search (delimiter_at table macro next) false old.mode k [] fed)) (sym kept_none)
      ∙ ap (λ (t : List Token). behind (args_in table old.args) (places_behind (args_in table old.args) (rest_at table macro next)) (search (delimiter_at table macro next) false old.mode (kept_in (stage_of table p)) t fed)) (sym read_none)
      ∙ ap (λ (s : Bool). behind (args_in table old.args) (places_behind (args_in table old.args) (rest_at table macro next)) (search (delimiter_at table macro next) s old.mode (kept_in (stage_of table p)) (read_in (delimiter_at table macro next) (stage_of table p)) fed)) (sym between.unbraced)

  pub entered : Enters old_table table macro old (record { cursor = next; mode = old.mode; braced = old.braced; present = Some p; args = old.args }) ask.More
  entered = record {
    answers = ap₂ (λ (us : List (List Token)) (ts : List Token). More us (Some ts)) same_args nothing ∙ sym (ap (λ (ps : List (List Token)). arguments old.mode (args_in old_table old.args) ps []) places);
    args = same_args ∙ sym (ap (λ (ps : List (List Token)). arguments_in (arguments old.mode (args_in old_table old.args) ps [])) places);
    work = ap Some nothing ∙ sym (ap (λ (ps : List (List Token)). work_in (arguments old.mode (args_in old_table old.args) ps [])) places);
    braced = between.unbraced;
    sound = λ o. is_sound;
    same = λ o. goes_on;
    owns = record { covered = covers; building = λ q e. subst (λ (r : Present). IsBuilding table r.build) (same_Some p q e) is_building; filled = is_sound.filled; listed = is_sound.listed };
    moves = λ h. omega (arith, account h, old_holds h, new_holds h);
    gains = record {
      others = λ h l.
          let same : holders_at table h ≡ holders_at old_table h = ap holders_of (only.apart h (held_apart h l)) in
          omega (arith, account h, same, old_holds h, new_holds h);
      fresh = λ h l. omega (arith, old_holds h, new_holds h, between.owns h, l, holds_few (build_id b) h);
    };
    kept = record {
      tokens = λ h l. ap tokens_of (only.apart h (held_apart h (omega (arith, l))));
      places = λ h l. ap places_of (only.apart h (held_apart h (omega (arith, l))));
    };
  }
