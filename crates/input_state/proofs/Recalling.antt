-- The call takes lists over, or lets them go.
use Rattle.std.proofs.Common.{◌≡◌, ℕ, ◌+◌, ◌<◌, ◌≤◌, List, [], length, Option, None, Some, inl, inr, sym, ap, ◌∙◌, subst, arith}
use Rattle.std.proofs.lemmas.Bool.{cases_lt}
use Rattle.std.proofs.lemmas.Option.{same_Some}
use Rattle.tex_defs.specs.declared.Name.{Name}
use Rattle.tex_defs.specs.declared.Sizes.{Sizes}
use Rattle.plain_tokens.specs.Meanings.{location, fixed_meaning}
use Rattle.plain_tokens.specs.Puts as plain
use Rattle.token_lists.specs.declared.Build.{Build}
use Rattle.token_lists.specs.Ids.{IsBuilding}
use Rattle.token_lists.specs.Table.{Entry, words, tokens_of, holders_at}
use Rattle.token_lists.specs.Accounts.{Moves, Keeps, none}
use Rattle.macro_call.specs.declared.present.Present.{Present}
use Rattle.input_state.specs.declared.answer.CallEnd.{CallEnd}
use Rattle.macro_call.specs.declared.scan.ArgScan.{ArgScan}
use Rattle.macro_call.specs.Scans as scans
use Rattle.macro_call.specs.Scans.{Gains}
use Rattle.equivalents.specs.Groups.{Groups}
use Rattle.equivalents.specs.Holding.{list_of, lists_held}
use Rattle.equivalents.proofs.Names.{appended_at}
use Rattle.eqtb_save.specs.Table.{Table, name_entered}
use Rattle.eqtb_save.specs.Holding as eqtb
use Rattle.input_stack.specs.Pending.{Pending, times}
use Rattle.input_stack.specs.View.{pending, held}
use Rattle.input_stack.specs.Stacks.{IsStack}
use Rattle.input_stack.specs.declared.stack.InputStack.{InputStack}
use Rattle.input_stack.proofs.Helds.{others}
use Rattle.std.proofs.lemmas.List.{length-map}
use Rattle.plain_tokens.specs.Tables.{lists_words}
use Rattle.input_state.specs.Recalls.{Recalls}
use Rattle.input_state.specs.Callings.{call_lists}
use Rattle.input_state.proofs.Words.{words_are}
use Rattle.input_state.proofs.Growing.{words_recalled}
use Rattle.input_state.specs.HeldLists.{HeldLists, puts_held, words_held}
use Rattle.input_state.proofs.Sources.{all_fronts}
use Rattle.input_state.specs.Macros.{KeepsLists}
use Rattle.input_state.specs.Callings.{NotCalling}
use Rattle.input_state.specs.declared.gathering.Gathering as code
use Rattle.input_state.specs.declared.gathering.Gathering.TheVariants as call
use Rattle.input_state.specs.HeldViews.{named, call_holds, calling_of, IsCall, texts, fronts, covers, lists_of, all_builds, built, owns, bodies, cells_of, puts_in, AreFronts, IsApart, IsDefined, IsShared, IsSound}
use Rattle.input_state.proofs.Shares.{held_parts}
use Rattle.input_state.proofs.Sharing.{Reheld, reheld, keeps_lists}
use Rattle.input_state.proofs.ListViews.{same_held}

module _ (old new : List (Option Entry)) (s : InputStack) (making : Option Build) (gathered : List Build) (m : Table) (k l : code.Gathering) (sizes : Sizes) (capacity : ℕ) (sound : IsSound old s making gathered (named m k) sizes capacity) (moves : Moves old new (call_holds k) (call_holds l)) (keeps : Keeps old new (call_holds k)) (gains : Gains old (call_holds k) (call_holds l)) (size : length new ≡ length old) where
  bs : List Build
  bs = all_builds making gathered

  shared : IsShared old s (all_builds making gathered) (named m k)
  shared = sound.shared

  pub recalled_stand : IsStack new s × (pending new s ≡ pending old s)
  recalled_stand = others s old new (call_holds k) (call_holds l) sound.shared.stands (λ h. omega (arith, sound.shared.counted h)) moves keeps

  -- no other part holds a list that is new
  unheld : (h : ℕ) → holders_at old h ≤ 0 → (built (all_builds making gathered) h + (times h (owns (puts_in (pending old s))) + times h (bodies (puts_in (pending old s)))) ≡ 0) × (eqtb.held m h ≡ 0)
  unheld h free = (omega (arith, free, sound.shared.counted h, held_parts old s h), omega (arith, free, sound.shared.counted h))

  apart_now : IsApart (puts_in (pending old s)) (all_builds making gathered) (named m l)
  apart_now = record {
    sole = λ h. elim (cases_lt 0 (holders_at old h)) [
      | inl some ↦ omega (arith, sound.shared.apart.sole h, gains.others h some)
      | inr free ↦ omega (arith, (unheld h free).0, gains.fresh h (omega (arith, free)))
    ];
    apart = λ h more. elim (cases_lt 0 (holders_at old h)) [
      | inl some ↦ sound.shared.apart.apart h (omega (arith, more, gains.others h some))
      | inr free ↦ omega (arith, (unheld h free).0, (unheld h free).1)
    ];
  }

  shared_more : (h : ℕ) → 0 < held s h + eqtb.held m h → call_holds k h < holders_at old h
  shared_more h some = omega (arith, some, sound.shared.counted h)

  pub reheld_now : Reheld old new s (named m l) (all_builds making gathered)
  reheld_now =
      reheld old new s s (named m k) (named m l) [] (all_builds making gathered) sound.shared (λ h. omega (arith, moves h)) recalled_stand.0
      (subst (λ (p : Pending). AreFronts (puts_in p)) (sym recalled_stand.1) sound.shared.fronts)
      (subst (λ (p : Pending). IsApart (puts_in p) (all_builds making gathered) (named m l)) (sym recalled_stand.1) apart_now)
      (λ h some. sound.shared.listed h (subst (λ (p : Pending). 0 < times h (cells_of (puts_in p))) recalled_stand.1 some))
      (record { tokens = λ h l. keeps.tokens h (omega (arith, l)); places = λ h l. keeps.places h (omega (arith, l)) })
      (λ h some. keeps.tokens h (shared_more h some))
      (λ h some. subst IsDefined (sym (keeps.tokens h (shared_more h (omega (arith, some))))) (sound.shared.all_lists h some))

  pub recalled_sound : IsCall new m l → IsSound new s making gathered (named m l) sizes capacity
  recalled_sound is = record {
    shared = reheld_now.shared;
    sized = record {
      memory = size ∙ sound.sized.memory;
      levels = sound.sized.levels;
      parameters = sound.sized.parameters;
      equivalents = sound.sized.equivalents;
      room = sound.sized.room;
      ranges = sound.sized.ranges;
    };
    call = is;
  }

  module _ (v : HeldLists) (is : lists_of old (pending old s) making gathered (named m k) sizes ≡ v) where
    pub recalled_macros : KeepsLists (lists_held m.groups) (all_fronts new (pending new s)) v.lists (texts new)
    recalled_macros = subst (λ (w : HeldLists). KeepsLists (lists_held m.groups) (all_fronts new (pending new s)) w.lists (texts new)) is (keeps_lists old new new new s m reheld_now.kept)

    pub recalled_view : lists_of new (pending new s) making gathered (named m l) sizes ≡ record v { call = calling_of new l; lists = texts new }
    recalled_view =
        same_held old new making gathered (fronts new (pending new s).puts) (fronts old (pending new s).puts) (calling_of new l) (covers new (pending new s).sources) (covers old (pending new s).sources) m sizes (texts new) reheld_now.in_front reheld_now.beneath reheld_now.texts
        ∙ ap (λ (p : Pending). record (lists_of old p making gathered (named m k) sizes) { call = calling_of new l; lists = texts new }) recalled_stand.1
        ∙ ap (λ (w : HeldLists). record w { call = calling_of new l; lists = texts new }) is

-- WHAT A CALL TOOK OVER

module _ (old new : List (Option Entry)) (s : InputStack) (making : Option Build) (gathered : List Build) (m : Table) (k j l n : code.Gathering) (sizes : Sizes) (capacity : ℕ) (sound : IsSound old s making gathered (named m k) sizes capacity) (was : k ≡ j) (is_now : n ≡ l) (recalls : Recalls old new m j l) where
  both : Recalls old new m k n
  both = subst (λ (g : code.Gathering). Recalls old new m g n) (sym was) (subst (λ (g : code.Gathering). Recalls old new m j g) (sym is_now) recalls)

  pub recalls_sound : IsSound new s making gathered (named m n) sizes capacity
  recalls_sound = recalled_sound old new s making gathered m k n sizes capacity sound both.moves both.keeps both.gains both.size both.is

  module _ (v : HeldLists) (is : lists_of old (pending old s) making gathered (named m k) sizes ≡ v) where
    pub recalls_view : lists_of new (pending new s) making gathered (named m n) sizes ≡ record v { call = calling_of new l; lists = texts new }
    recalls_view =
        recalled_view old new s making gathered m k n sizes capacity sound both.moves both.keeps both.gains both.size v is
        ∙ ap (λ (g : code.Gathering). let w : HeldLists = record v { call = calling_of new g; lists = texts new } in w) is_now

    pub recalls_others : lists_of new (pending new s) making gathered (named m n) sizes ≡ record v { call = calling_of new n; lists = texts new }
    recalls_others = recalled_view old new s making gathered m k n sizes capacity sound both.moves both.keeps both.gains both.size v is

    pub recalls_macros : KeepsLists (lists_held m.groups) (all_fronts new (pending new s)) v.lists (texts new)
    recalls_macros = recalled_macros old new s making gathered m k n sizes capacity sound both.moves both.keeps both.gains both.size v is

    -- what was used, and what the call takes now
    pub recalls_words : words new + lists_words (call_lists v.call) ≡ words_held v + lists_words (call_lists (calling_of new l))
    recalls_words =
        let puts : all_fronts new (pending new s) ≡ puts_held v = ap puts_held recalls_view in
        let groups : m.groups ≡ v.groups = ap (λ (w : HeldLists). w.groups) is in
        let keeps : KeepsLists (lists_held v.groups) (puts_held v) v.lists (texts new) = subst (λ (ps : List plain.Put). KeepsLists (lists_held v.groups) ps v.lists (texts new)) puts (subst (λ (g : Groups). KeepsLists (lists_held g) (all_fronts new (pending new s)) v.lists (texts new)) groups recalls_macros) in
        let lists : texts old ≡ v.lists = ap (λ (w : HeldLists). w.lists) is in
        let count : length (texts new) ≡ length v.lists = length-map new tokens_of ∙ both.size ∙ sym (length-map old tokens_of) ∙ ap length lists in
        let all = words_recalled v (calling_of new l) (texts new) keeps count in
        let here : words new ≡ words_held (record v { call = calling_of new l; lists = texts new }) = words_are new s making gathered (named m n) sizes recalls_sound.shared recalls_sound.call ∙ ap words_held recalls_view in
        omega (arith, here, all)

-- THE CALL'S LISTS GO

module _ (old new : List (Option Entry)) (s : InputStack) (making : Option Build) (gathered : List Build) (m : Table) (k l : code.Gathering) (sizes : Sizes) (capacity : ℕ) (sound : IsSound old s making gathered (named m k) sizes capacity) (dropped : l ≡ call.None) (moves : Moves old new (call_holds k) none) (keeps : Keeps old new (call_holds k)) (size : length new ≡ length old) where
  none_gained : Gains old (call_holds k) (call_holds call.None)
  none_gained = record { others = λ h some. omega arith; fresh = λ h free. omega arith }

  pub dropped_sound : IsSound new s making gathered (named m l) sizes capacity
  dropped_sound = subst (λ (j : code.Gathering). IsSound new s making gathered (named m j) sizes capacity) (sym dropped) (recalled_sound old new s making gathered m k call.None sizes capacity sound moves keeps none_gained size tt)

  module _ (v : HeldLists) (is : lists_of old (pending old s) making gathered (named m k) sizes ≡ v) where
    pub dropped_view : lists_of new (pending new s) making gathered (named m l) sizes ≡ record v { call = NotCalling; lists = texts new }
    dropped_view = ap (λ (j : code.Gathering). lists_of new (pending new s) making gathered (named m j) sizes) dropped ∙ recalled_view old new s making gathered m k call.None sizes capacity sound moves keeps none_gained size v is

    pub dropped_macros : KeepsLists (lists_held m.groups) (all_fronts new (pending new s)) v.lists (texts new)
    dropped_macros = recalled_macros old new s making gathered m k call.None sizes capacity sound moves keeps none_gained size v is

-- A SCANNER'S LISTS MAY GO

in_place : (table : List (Option Entry)) (id : ℕ) (scan : ArgScan) (o : Option Present) (p : Present) → o ≡ Some p → scans.IsInPlace table id scan o → IsBuilding table p.build
in_place table id scan None p is h = cc
in_place table id scan (Some q) p is h = subst (λ (r : Present). IsBuilding table r.build) (same_Some q p is) h.0

pub scan_owned : (table : List (Option Entry)) (id : ℕ) (scan : ArgScan) → scans.IsSound table id scan → scans.Owns table scan
scan_owned table id scan sound = record { covered = sound.owns; building = λ p is. in_place table id scan scan.present p is sound.in_place; filled = sound.filled; listed = sound.listed }

pub gathering_owned : (table : List (Option Entry)) (m : Table) (k : code.Gathering) (name : Name) (scan : ArgScan) → k ≡ call.Gathers name scan → IsCall table m k → scans.Owns table scan
gathering_owned table m k name scan is h =
    let g : IsCall table m (call.Gathers name scan) = subst (IsCall table m) is h in
    scan_owned table g.id scan g.sound

pub stopped_owned : (table : List (Option Entry)) (m : Table) (k : code.Gathering) (name : Name) (why : CallEnd) (scan : ArgScan) → k ≡ call.Stopped name why scan → IsCall table m k → scans.Owns table scan
stopped_owned table m k name why scan is h = subst (IsCall table m) is h

-- A NAME IS ENTERED

pub enter_sound : (table : List (Option Entry)) (s : InputStack) (making : Option Build) (gathered : List Build) (m n : Table) (k : code.Gathering) (sizes : Sizes) (capacity : ℕ) → IsSound table s making gathered (named m k) sizes capacity → n ≡ name_entered m → ((h : ℕ) → eqtb.held n h ≡ eqtb.held m h) → IsSound table s making gathered (named n k) sizes capacity
enter_sound table s making gathered m n k sizes capacity sound after same = record {
  shared = record {
    stands = sound.shared.stands;
    fronts = sound.shared.fronts;
    building = sound.shared.building;
    counted = λ h. omega (arith, sound.shared.counted h, same h);
    apart = record {
      sole = λ h. sound.shared.apart.sole h;
      apart = λ h more. omega (arith, sound.shared.apart.apart h more, same h);
    };
    all_lists = λ h some. sound.shared.all_lists h (omega (arith, some, same h));
    listed = sound.shared.listed;
  };
  sized = record {
    memory = sound.sized.memory;
    levels = sound.sized.levels;
    parameters = sound.sized.parameters;
    equivalents = ap (λ (j : Table). j.sizes) after ∙ sound.sized.equivalents;
    room = sound.sized.room;
    ranges = sound.sized.ranges;
  };
  call = subst (λ (j : Table). IsCall table j k) (sym after) (entered_call k sound.call);
}
  where
    entered_call : (j : code.Gathering) → IsCall table m j → IsCall table (name_entered m) j
    entered_call call.None is = tt
    entered_call (call.Gathers name scan) is = record { id = is.id; list = ap list_of (appended_at m.groups.now.meanings (location name) (fixed_meaning name)) ∙ is.list; sound = is.sound }
    entered_call (call.Stopped name why scan) is = is
    entered_call (call.Gathered name args) is = record { id = is.id; list = ap list_of (appended_at m.groups.now.meanings (location name) (fixed_meaning name)) ∙ is.list; filled = is.filled; listed = is.listed }
