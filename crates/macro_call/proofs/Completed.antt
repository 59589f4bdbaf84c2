-- The list in work becomes an argument.
use Rattle.std.specs.Prelude.{unwrap_or}
use Rattle.std.proofs.Common.{◌≡◌, ◌≢◌, ℕ, ◌+◌, ◌<◌, ◌≤◌, List, [], ◌∷◌, ◌++◌, length, drop, set, Option, None, Some, inl, inr, refl, sym, ap, subst, ◌∙◌, arith}
use Rattle.std.proofs.lemmas.Bool.{cases_eq}
use Rattle.tex_defs.specs.declared.Token.{Token}
use Rattle.token_lists.specs.declared.ListRef.{ListRef}
use Rattle.token_lists.specs.Ids.{id_of, build_id, IsBuilding}
use Rattle.token_lists.specs.Table.{Entry, tokens_of, tokens_at, places_of, holders_at, holders_of}
use Rattle.token_lists.specs.Accounts.{Moves, Covers, Keeps, holds, cell_holds}
use Rattle.plain_tokens.specs.Arguments.{delimiters_of}
use Rattle.macro_args.specs.declared.args.Args.{Args}
use Rattle.macro_call.specs.declared.cursor.Cursor.{Cursor}
use Rattle.macro_call.specs.declared.present.Present.{Present}
use Rattle.macro_call.specs.declared.scan.ArgScan.{ArgScan}
use Rattle.macro_args.specs.Args.{cell_tokens, args_in, args_hold, IsFilled}
use Rattle.macro_call.specs.Cursors.{IsOn, rest_at, delimiter_at}
use Rattle.macro_call.specs.Holds.{present_holds}
use Rattle.macro_call.specs.Listed.{AreListed}
use Rattle.macro_call.specs.Tables.{IsOnly}
use Rattle.macro_call.specs.PlainScans.{places_left}
use Rattle.macro_call.specs.Scans.{behind_at, scan_holds, IsWhole, IsBuildingIn, work_by, Completes}
use Rattle.macro_call.proofs.Entered.{args_kept, holds_few}
use Rattle.macro_call.proofs.Places.{left_behind}
use Rattle.macro_args.proofs.Releases.{holds_own}
use Rattle.macro_call.proofs.Listed.{listed_kept, kept_listed}

-- only one list, which nobody else holds, has changed
module _ (old_table table : List (Option Entry)) (macro : ℕ) (old : ArgScan) (p : Present) (present : old.present ≡ Some p) (building : IsBuilding old_table p.build)
    (owns : Covers old_table (scan_holds old)) (outside : scan_holds old macro < holders_at old_table macro) (others : IsOnly old_table table (build_id p.build)) where
  pub holds_both : (h : ℕ) → scan_holds old h ≡ holds (build_id p.build) h + args_hold old.args h
  holds_both h = ap (λ (o : Option Present). present_holds o h + args_hold old.args h) present

  own : scan_holds old (build_id p.build) ≡ 1 + args_hold old.args (build_id p.build)
  own = holds_both (build_id p.build) ∙ ap (λ (n : ℕ). n + args_hold old.args (build_id p.build)) (holds_own (build_id p.build))

  pub shared_apart : (h : ℕ) → scan_holds old h < holders_at old_table h → h ≢ build_id p.build
  shared_apart h l e =
      let a : scan_holds old h ≡ scan_holds old (build_id p.build) = ap (scan_holds old) e in
      let b : holders_at old_table h ≡ holders_at old_table (build_id p.build) = ap (holders_at old_table) e in
      omega (arith, a, b, own, building.sole)

  arg_apart : (h : ℕ) → 0 < args_hold old.args h → h ≢ build_id p.build
  arg_apart h l e =
      let a : args_hold old.args h ≡ args_hold old.args (build_id p.build) = ap (args_hold old.args) e in
      omega (arith, a, own, building.sole, owns (build_id p.build))

  pub args_stay : args_in table old.args ≡ args_in old_table old.args
  args_stay = args_kept old_table table old.args (λ h l. others.apart h (arg_apart h l))

  pub args_listed : AreListed old_table old.args → AreListed table old.args
  args_listed = listed_kept old_table table old.args (λ h l. others.apart h (arg_apart h l))

  pub macro_apart : macro ≢ build_id p.build
  macro_apart = shared_apart macro outside

  pub macro_tokens : tokens_at table macro ≡ tokens_at old_table macro
  macro_tokens = ap tokens_of (others.apart macro macro_apart)

  pub shared_kept : Keeps old_table table (scan_holds old)
  shared_kept = record {
    tokens = λ h l. ap tokens_of (others.apart h (shared_apart h l));
    places = λ h l. ap places_of (others.apart h (shared_apart h l));
  }

cell_few : (cell : Option ListRef) (h : ℕ) → cell_holds cell h ≤ 1
cell_few None h = omega arith
cell_few (Some r) h = holds_few (id_of r) h

pub building_in : (table : List (Option Entry)) (o : Option Present) (p : Present) → o ≡ Some p → IsBuildingIn table o → IsBuilding table p.build
building_in table o p e h = subst (IsBuildingIn table) e h

module _ (old_table table : List (Option Entry)) (macro : ℕ) (old : ArgScan) (p : Present) (present : old.present ≡ Some p) (whole : IsWhole old_table macro old)
    (others : IsOnly old_table table (build_id p.build)) (cell : Option ListRef) (args : Args) (cursor : Cursor)
    (tokens : cell_tokens table cell ≡ tokens_at old_table (build_id p.build)) (account : Moves old_table table (holds (build_id p.build)) (cell_holds cell))
    (filled : IsFilled args) (held : (h : ℕ) → args_hold args h ≡ args_hold old.args h + cell_holds cell h)
    (args_lists : args.lists ≡ set old.args.lists old.args.count cell) (some : (r : ListRef) → cell ≡ Some r → 0 < length (tokens_at table (id_of r)))
    (args_are : args_in table args ≡ args_in table old.args ++ cell_tokens table cell ∷ [])
    (on : IsOn table macro cursor) (ends : delimiter_at table macro cursor ≡ []) (same : delimiters_of (rest_at table macro cursor) ≡ delimiters_of (rest_at table macro old.cursor)) where
  building : IsBuilding old_table p.build
  building = building_in old_table old.present p present whole.building

  holds_now : (h : ℕ) → scan_holds old h ≡ holds (build_id p.build) h + args_hold old.args h
  holds_now = holds_both old_table table macro old p present building whole.owns whole.outside others

  args_now : args_in table args ≡ args_in old_table old.args ++ cell_tokens table cell ∷ []
  args_now = args_are ∙ ap (λ (us : List (List Token)). us ++ cell_tokens table cell ∷ []) (args_stay old_table table macro old p present building whole.owns whole.outside others)

  places : places_left (args_in table args) (rest_at table macro cursor) ≡ behind_at old_table macro old
  places =
      ap (λ (us : List (List Token)). places_left us (rest_at table macro cursor)) args_now
      ∙ left_behind (args_in old_table old.args) (cell_tokens table cell) (rest_at old_table macro old.cursor) (rest_at table macro cursor)
      (same ∙ ap (λ (ts : List Token). delimiters_of (drop old.cursor.index ts)) (macro_tokens old_table table macro old p present building whole.owns whole.outside others))

  pub completed : Completes old_table table macro old (record { cursor = cursor; mode = old.mode; braced = old.braced; present = None; args = args })
  completed = record {
    between = record {
      none = refl;
      unbraced = whole.unbraced;
      ends = ends;
      on = on;
      owns = λ h. omega (arith, whole.owns h, holds_now h, account h, held h);
      outside = omega (arith, whole.outside, holds_now macro, account macro, held macro);
      filled = filled;
      listed = kept_listed table old.args args cell whole.room args_lists (args_listed old_table table macro old p present building whole.owns whole.outside others whole.listed) some;
    };
    args = args_now ∙ ap (λ (ts : List Token). args_in old_table old.args ++ ts ∷ []) (tokens ∙ sym (ap (λ (o : Option Present). unwrap_or (work_by old_table o) []) present));
    places = places;
    mode = refl;
    moves = λ h. omega (arith, holds_now h, account h, held h);
    fewer = λ h. elim (cases_eq h (build_id p.build)) [
      | inl is ↦ omega (arith, holds_now h, held h, cell_few cell h, ap (holds (build_id p.build)) is, holds_own (build_id p.build))
      | inr other ↦
          let same : holders_at table h ≡ holders_at old_table h = ap holders_of (others.apart h other) in
          omega (arith, holds_now h, held h, account h, same)
    ];
    kept = shared_kept old_table table macro old p present building whole.owns whole.outside others;
  }
