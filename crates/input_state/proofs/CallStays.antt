-- The call stays as its lists and its macro's list do.
use Rattle.std.proofs.Common.{◌≡◌, ℕ, ◌<◌, ◌≤◌, List, [], ◌∷◌, map, take, drop, length, Option, None, Some, inl, inr, refl, sym, ap, ap₂, ◌∙◌, subst, arith}
use Rattle.std.specs.Prelude.{option_map, slice_index_or, slice_get, IsSome, ◌↔◌}
use Rattle.std.proofs.lemmas.Bool.{cases_lt}
use Rattle.std.proofs.lemmas.List.{get_or_past}
use Rattle.std.proofs.lemmas.List.Sums.{sum_by-cons, sum_by-take-le, get_or-le-sum_by}
use Rattle.std.proofs.lemmas.Option.{none-some}
use Rattle.tex_defs.specs.declared.Token.{Token}
use Rattle.token_lists.specs.declared.ListRef.{ListRef}
use Rattle.token_lists.specs.Ids.{id_of, build_id, IsBuilding}
use Rattle.token_lists.specs.Table.{Entry, tokens_at, places_at, holders_at, last_or}
use Rattle.token_lists.specs.Accounts.{cell_holds, cells_hold}
use Rattle.plain_tokens.specs.Arguments.{start_of}
use Rattle.macro_args.specs.declared.args.Args.{Args}
use Rattle.macro_args.specs.Args.{args_in, args_hold, cell_tokens}
use Rattle.macro_args.proofs.Releases.{holds_own}
use Rattle.macro_call.specs.declared.cursor.Cursor.{Cursor}
use Rattle.macro_call.specs.declared.present.Present.{Present}
use Rattle.macro_call.specs.declared.scan.ArgScan.{ArgScan}
use Rattle.macro_call.specs.Cursors.{IsOn, delimiter_at}
use Rattle.macro_call.specs.Holds.{present_holds}
use Rattle.macro_call.specs.Listed.{AreListed}
use Rattle.macro_call.specs.PlainScans.{Scan}
use Rattle.macro_call.specs.Scans as scans
use Rattle.macro_call.specs.Stages.{Stage, IsStage, stage_of}
use Rattle.tex_defs.specs.declared.Meaning.{Meaning}
use Rattle.plain_tokens.specs.Meanings.{name_meaning}
use Rattle.equivalents.specs.Holding.{list_of}
use Rattle.eqtb_save.specs.Table.{Table}
use Rattle.eqtb_save.specs.Holding as eqtb
use Rattle.input_state.specs.declared.gathering.Gathering as code
use Rattle.input_state.specs.declared.gathering.Gathering.TheVariants as call
use Rattle.input_state.specs.Callings.{Gathering, Stopped, Gathered}
use Rattle.input_state.specs.HeldViews.{call_holds, calling_of, IsCall}
use Rattle.input_state.proofs.NamesHeld.{list_held}
use Rattle.input_state.proofs.Sharing.{Stay, stay_less}

-- ARGUMENTS

cells_stay : (old new : List (Option Entry)) (cells : List (Option ListRef)) → Stay old new (cells_hold cells) → map (λ cell. cell_tokens new cell) cells ≡ map (λ cell. cell_tokens old cell) cells
cells_stay old new [] s = refl
cells_stay old new (None ∷ cells) s =
    ap (λ (l : List (List Token)). [] ∷ l) (cells_stay old new cells (stay_less old new (cells_hold (None ∷ cells)) (cells_hold cells) (λ h. omega (arith, sum_by-cons (λ (c : Option ListRef). cell_holds c h) None cells)) s))
cells_stay old new (Some r ∷ cells) s =
    let own : 0 < cells_hold (Some r ∷ cells) (id_of r) = omega (arith, sum_by-cons (λ (c : Option ListRef). cell_holds c (id_of r)) (Some r) cells, holds_own (id_of r)) in
    ap₂ (λ (ts : List Token) (l : List (List Token)). ts ∷ l) (s.tokens (id_of r) own)
    (cells_stay old new cells (stay_less old new (cells_hold (Some r ∷ cells)) (cells_hold cells) (λ h. omega (arith, sum_by-cons (λ (c : Option ListRef). cell_holds c h) (Some r) cells)) s))

pub args_stay : (old new : List (Option Entry)) (args : Args) → Stay old new (args_hold args) → args_in new args ≡ args_in old args
args_stay old new args s = cells_stay old new (take args.count args.lists) (stay_less old new (args_hold args) (cells_hold (take args.count args.lists)) (λ h. sum_by-take-le (λ (c : Option ListRef). cell_holds c h) args.lists args.count) s)

-- a list that stands among the cells is held
pub cell_held : (cells : List (Option ListRef)) (i : ℕ) (r : ListRef) → slice_index_or cells i None ≡ Some r → 0 < cells_hold cells (id_of r)
cell_held cells i r is = elim (cases_lt i (length cells)) [
  | inl below ↦
      let part = get_or-le-sum_by (λ (c : Option ListRef). cell_holds c (id_of r)) cells i None below in
      omega (arith, part, ap (λ (c : Option ListRef). cell_holds c (id_of r)) is, holds_own (id_of r))
  | inr past ↦ absurd (none-some r (sym (get_or_past cells i None past) ∙ is))
]

pub listed_stay : (old new : List (Option Entry)) (args : Args) → Stay old new (args_hold args) → AreListed old args → AreListed new args
listed_stay old new args s listed = record {
  tokens = λ i r is. subst (λ (ts : List Token). 0 < length ts) (sym (s.tokens (id_of r) (cell_held args.lists i r is))) (listed.tokens i r is);
}

-- THE SCANNER

module _ (old new : List (Option Entry)) (scan : ArgScan) (s : Stay old new (scans.scan_holds scan)) where
  args_part : Stay old new (args_hold scan.args)
  args_part = stay_less old new (scans.scan_holds scan) (args_hold scan.args) (λ h. omega arith) s

  own : (p : Present) → scan.present ≡ Some p → 0 < scans.scan_holds scan (build_id p.build)
  own p is = omega (arith, holds_own (build_id p.build), ap (λ (o : Option Present). present_holds o (build_id p.build)) is)

  same_text : (p : Present) → scan.present ≡ Some p → stage_of new p ≡ stage_of old p
  same_text p is = ap (λ (ts : List Token). let st : Stage = record { list = ts; from = p.from; matched = p.matched; depth = p.depth } in st) (s.tokens (build_id p.build) (own p is))

  same_present : (o : Option Present) → scan.present ≡ o → option_map (λ p. stage_of new p) o ≡ option_map (λ p. stage_of old p) o
  same_present None is = refl
  same_present (Some p) is = ap (λ (t : Stage). Some t) (same_text p is)

  pub scan_stays : scans.scan_of new scan ≡ scans.scan_of old scan
  scan_stays =
      ap₂ (λ (o : Option Stage) (us : List (List Token)). let k : Scan = record { at = scan.cursor.index; mode = scan.mode; braced = scan.braced; present = o; args = us } in k)
      (same_present scan.present refl) (args_stay old new scan.args args_part)

  building_stays : (p : Present) → scan.present ≡ Some p → IsBuilding old p.build → IsBuilding new p.build
  building_stays p is building = record {
    sole = s.holders (build_id p.build) (own p is) ∙ building.sole;
    at_end = ap (last_or (build_id p.build)) (s.places (build_id p.build) (own p is)) ∙ building.at_end;
  }

  pub owned_stays : ((h : ℕ) → scans.scan_holds scan h ≤ holders_at new h) → scans.Owns old scan → scans.Owns new scan
  owned_stays covers owns = record {
    covered = covers;
    building = λ p is. building_stays p is (owns.building p is);
    filled = owns.filled;
    listed = listed_stay old new scan.args args_part owns.listed;
  }

  module _ (id : ℕ) (tokens : tokens_at new id ≡ tokens_at old id) (places : places_at new id ≡ places_at old id) (outside : scans.scan_holds scan id < holders_at new id) where
    on_stays : (cursor : Cursor) → IsOn old id cursor → IsOn new id cursor
    on_stays cursor on = record {
      held = omega (arith, outside);
      place = on.place ∙ ap (λ (ps : List ℕ). slice_get ps cursor.index) (sym places);
      ends = subst (λ (ts : List Token). IsSome cursor.at ↔ (cursor.index < length ts)) (sym tokens) on.ends;
    }

    same_delimiter : delimiter_at new id scan.cursor ≡ delimiter_at old id scan.cursor
    same_delimiter = ap (λ (ts : List Token). start_of (drop scan.cursor.index ts)) tokens

    in_place_stays : (o : Option Present) → scan.present ≡ o → scans.IsInPlace old id scan o → scans.IsInPlace new id scan o
    in_place_stays None is h = (h.0, h.1, subst (λ (ts : List Token). 0 < length ts) (sym same_delimiter) h.2)
    in_place_stays (Some p) is h = (
      building_stays p is h.0,
      subst (λ (ds : List Token). IsStage ds (stage_of new p)) (sym same_delimiter) (subst (λ (st : Stage). IsStage (delimiter_at old id scan.cursor) st) (sym (same_text p is)) h.1),
      h.2,
      (on_stays p.next h.3.0, h.3.1),
    )

    pub sound_stays : ((h : ℕ) → scans.scan_holds scan h ≤ holders_at new h) → scans.IsSound old id scan → scans.IsSound new id scan
    sound_stays covers sound = record {
      owns = covers;
      on = on_stays scan.cursor sound.on;
      outside = outside;
      filled = sound.filled;
      listed = listed_stay old new scan.args args_part sound.listed;
      in_place = in_place_stays scan.present refl sound.in_place;
    }

-- THE CALL

pub calling_stays : (old new : List (Option Entry)) (k : code.Gathering) → Stay old new (call_holds k) → calling_of new k ≡ calling_of old k
calling_stays old new call.None s = refl
calling_stays old new (call.Gathers name scan) s = ap (Gathering name) (scan_stays old new scan s)
calling_stays old new (call.Stopped name why scan) s = ap (Stopped name why) (scan_stays old new scan s)
calling_stays old new (call.Gathered name args) s = ap (Gathered name) (args_stay old new args s)

-- each list that is held keeps its tokens
pub record Meant (old new : List (Option Entry)) (m : Table) : Type 0 where
  pub tokens : (h : ℕ) → 0 < eqtb.held m h → tokens_at new h ≡ tokens_at old h
  pub places : (h : ℕ) → 0 < eqtb.held m h → places_at new h ≡ places_at old h

-- what is counted then
pub record Counted (new : List (Option Entry)) (m : Table) (k : code.Gathering) : Type 0 where
  pub covers : (h : ℕ) → call_holds k h ≤ holders_at new h
  pub outside : (h : ℕ) → 0 < eqtb.held m h → call_holds k h < holders_at new h

-- where the names mean what they meant
pub call_stays : (old new : List (Option Entry)) (m n : Table) (k : code.Gathering) → n.groups.now.meanings ≡ m.groups.now.meanings → Stay old new (call_holds k) → Meant old new n → Counted new n k → IsCall old m k → IsCall new n k
call_stays old new m n call.None same s meant_stay counted is = tt
call_stays old new m n (call.Gathers name scan) same s meant_stay counted is =
    let list : list_of (name_meaning n.groups.now.meanings name) ≡ Some is.id = ap (λ (ms : List (Meaning (Option ℕ))). list_of (name_meaning ms name)) same ∙ is.list in
    let some : 0 < eqtb.held n is.id = list_held n.groups name is.id list in
    record {
      id = is.id;
      list = list;
      sound = sound_stays old new scan s is.id (meant_stay.tokens is.id some) (meant_stay.places is.id some) (counted.outside is.id some) counted.covers is.sound;
    }
call_stays old new m n (call.Stopped name why scan) same s meant_stay counted is = owned_stays old new scan s counted.covers is
call_stays old new m n (call.Gathered name args) same s meant_stay counted is = record {
  id = is.id;
  list = ap (λ (ms : List (Meaning (Option ℕ))). list_of (name_meaning ms name)) same ∙ is.list;
  filled = is.filled;
  listed = listed_stay old new args s is.listed;
}
