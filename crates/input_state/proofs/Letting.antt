-- A location gets a value that holds no list but such as are held.
use Rattle.std.proofs.Common.{◌≡◌, ℕ, ◌+◌, ◌<◌, ◌≤◌, List, [], length, Option, None, Some, Bool, true, refl, sym, ap, ap₂, ◌∙◌, subst, arith}
use Rattle.std.specs.Prelude.{IfSome, nat_lt, if◌then◌else◌}
use Rattle.plain_tokens.specs.Meanings.{location}
use Rattle.std.proofs.lemmas.Bool.Decides.{nat_tests}
use Rattle.std.proofs.lemmas.List.{length-set}
use Rattle.tex_defs.specs.declared.Meaning.{Meaning}
use Rattle.tex_defs.specs.declared.Name.{Name}
use Rattle.tex_defs.specs.declared.Sizes.{Sizes}
use Rattle.token_lists.specs.declared.Build.{Build}
use Rattle.token_lists.specs.Table.{Entry, tokens_at, holders_at}
use Rattle.token_lists.specs.Accounts.{none, Moves, Keeps, Covers}
use Rattle.meanings.specs.Holding.{with_holder}
use Rattle.equivalents.specs.declared.values.Loc.{Loc}
use Rattle.equivalents.specs.Locations.{V, IsTokens, IsMeaning}
use Rattle.equivalents.specs.declared.values.Val.TheVariants as val
use Rattle.equivalents.specs.Groups.{Groups, set, placed, place_of, set_placed, set_name}
use Rattle.equivalents.specs.Holding.{lists_held}
use Rattle.eqtb_save.specs.Table.{Table}
use Rattle.eqtb_save.specs.Holding as eqtb
use Rattle.eqtb_save.specs.Holding.{val_holds}
use Rattle.input_stack.specs.Pending.{Pending, times}
use Rattle.input_stack.specs.View.{pending}
use Rattle.input_stack.specs.Stacks.{IsStack}
use Rattle.input_stack.specs.declared.stack.InputStack.{InputStack}
use Rattle.input_stack.proofs.Helds.{others}
use Rattle.input_state.specs.HeldLists.{HeldLists}
use Rattle.input_state.specs.Macros.{KeepsLists, IsPlaceOf}
use Rattle.input_state.specs.HeldViews.{Named, named, call_holds, calling_of, IsCall, texts, lists_of, all_builds, cells_of, puts_in, AreFronts, IsApart, IsDefined, IsSound}
use Rattle.input_state.specs.Callings.{NotCalling}
use Rattle.input_state.specs.declared.gathering.Gathering as code
use Rattle.input_state.specs.declared.gathering.Gathering.TheVariants as call
use Rattle.input_state.proofs.Sharing.{Moved, Stay, moved}
use Rattle.input_state.proofs.CallStays.{call_stays}
use Rattle.input_state.proofs.Sources.{all_fronts}
use Rattle.input_state.proofs.ListViews.{moved_view, macros_moved}
use Rattle.input_state.proofs.Assigning.{Assigned}

with_length : (o : Option ℕ) (table : List (Option Entry)) → length (with_holder o table) ≡ length table
with_length None table = refl
with_length (Some id) table = length-set table id _

pub if_each : (P : ℕ → Type 0) (o : Option ℕ) → ((k : ℕ) → P k) → IfSome o P
if_each P None all = tt
if_each P (Some k) all = all k

-- a list is no meaning
pub no_meaning : (v : V) → IsTokens v → IsMeaning v → ⊥
no_meaning (val.Number n) is m = is
no_meaning (val.Skip g) is m = is
no_meaning (val.Meant x) is m = is
no_meaning (val.Tokens o) is m = m

-- what the table holds is counted
pub table_covered : (table : List (Option Entry)) (s : InputStack) (making : Option Build) (gathered : List Build) (m : Named) (sizes : Sizes) (capacity : ℕ) → IsSound table s making gathered m sizes capacity → Covers table (eqtb.held m.table)
table_covered table s making gathered m sizes capacity sound h = omega (arith, sound.shared.counted h)

-- the same, once one has a holder more
pub more_covered : (old mid : List (Option Entry)) (m : Table) (holds : ℕ → ℕ) → Covers old (eqtb.held m) → Moves old mid none holds → Covers mid (λ h. holds h + eqtb.held m h)
more_covered old mid m holds covers moves h = omega (arith, covers h, moves h)

-- the table keeps its length where a list has a holder more
pub shared_size : (old mid : List (Option Entry)) (o : Option ℕ) → mid ≡ with_holder o old → length mid ≡ length old
shared_size old mid o after = ap length after ∙ with_length o old

pub no_call : (table : List (Option Entry)) (k : code.Gathering) → calling_of table k ≡ NotCalling → k ≡ call.None
no_call table call.None is = refl
no_call table (call.Gathers name scan) is = cc
no_call table (call.Stopped name why scan) is = cc
no_call table (call.Gathered name args) is = cc

module _ (old mid new : List (Option Entry)) (s : InputStack) (m n : Named) (making : Option Build) (items : List Build) (sizes : Sizes) (capacity : ℕ) (sound : IsSound old s making items m sizes capacity) (v : HeldLists) (is : lists_of old (pending old s) making items m sizes ≡ v) (value : V) (within : (h : ℕ) → val_holds value h ≤ eqtb.held m.table h) (shares : Moves old mid none (val_holds value)) (still_kept : Keeps old mid none) (same_size : length mid ≡ length old) (global : Bool) (place : Loc) (after : n.table ≡ record m.table { groups = set global m.table.groups place value }) (same_gathering : n.call ≡ m.call) (assigned : Assigned mid new m.table n.table value) where
  bs : List Build
  bs = all_builds making items

  same_call : (h : ℕ) → call_holds n.call h ≡ call_holds m.call h
  same_call h = ap (λ (k : code.Gathering). call_holds k h) same_gathering

  -- the list of the old value may be let go
  held_now : (h : ℕ) → eqtb.held n.table h ≤ eqtb.held m.table h + val_holds value h
  held_now h = omega (arith, assigned.moves h, assigned.fewer h)

  moves_all : Moves old new (eqtb.held m.table) (eqtb.held n.table)
  moves_all h = omega (arith, shares h, assigned.moves h)

  keeps_all : Keeps old new (eqtb.held m.table)
  keeps_all = record {
    tokens = λ h l. assigned.keeps.tokens h (omega (arith, l, shares h)) ∙ still_kept.tokens h (omega (arith, l));
    places = λ h l. assigned.keeps.places h (omega (arith, l, shares h)) ∙ still_kept.places h (omega (arith, l));
  }

  -- what is still held was held
  was_held : (h : ℕ) → 0 < holders_at new h → 0 < holders_at old h
  was_held h some = omega (arith, some, moves_all h, sound.shared.counted h, held_now h, within h)

  lasts_all : (h : ℕ) → 0 < holders_at new h → tokens_at new h ≡ tokens_at old h
  lasts_all h some = assigned.lasting.tokens h some ∙ still_kept.tokens h (was_held h some)

  stand : IsStack new s × (pending new s ≡ pending old s)
  stand = others s old new (eqtb.held m.table) (eqtb.held n.table) sound.shared.stands (λ h. omega (arith, sound.shared.counted h)) moves_all keeps_all

  apart_now : IsApart (puts_in (pending old s)) bs n
  unfolding bs
  apart_now = record {
    sole = λ h. omega (arith, sound.shared.apart.sole h, same_call h);
    apart = λ h more. omega (arith, sound.shared.apart.apart h (omega (arith, more, same_call h)), held_now h, within h);
  }

  macros_now : (h : ℕ) → 0 < eqtb.held n.table h → IsDefined (tokens_at new h)
  macros_now h more =
      subst IsDefined (sym (lasts_all h (omega (arith, more, moves_all h, sound.shared.counted h)))) (sound.shared.all_lists h (omega (arith, more, held_now h, within h)))

  moved_now : Moved old new s n bs
  unfolding bs
  moved_now =
      moved old new s s m n [] (all_builds making items) sound.shared stand.0
      (subst (λ (p : Pending). AreFronts (puts_in p)) (sym stand.1) sound.shared.fronts)
      (subst (λ (p : Pending). IsApart (puts_in p) (all_builds making items) n) (sym stand.1) apart_now)
      (λ h some. sound.shared.listed h (subst (λ (p : Pending). 0 < times h (cells_of (puts_in p))) stand.1 some))
      (λ h. omega (arith, moves_all h))
      (record { tokens = λ h l. keeps_all.tokens h (omega (arith, l)); places = λ h l. keeps_all.places h (omega (arith, l)) })
      lasts_all macros_now same_call

  -- where no call was gathered, none is
  uncalled : v.call ≡ NotCalling → IsCall new n.table n.call
  uncalled calls = subst (λ (k : code.Gathering). IsCall new n.table k) (sym (same_gathering ∙ no_call old m.call (ap (λ (w : HeldLists). w.call) is ∙ calls))) tt

  -- where no name means anything else, the call goes on
  still_called : n.table.groups.now.meanings ≡ m.table.groups.now.meanings → IsCall new n.table n.call
  unfolding bs
  still_called same =
      let now = moved_now.reheld.shared.counted in
      let there : (h : ℕ) → 0 < eqtb.held n.table h → 0 < holders_at new h = λ h some. omega (arith, some, now h) in
      subst (λ (k : code.Gathering). IsCall new n.table k) (sym same_gathering) (
      call_stays old new m.table n.table m.call same
      (subst (λ (k : code.Gathering). Stay old new (call_holds k)) same_gathering moved_now.called)
      (record { tokens = λ h some. lasts_all h (there h some); places = λ h some. assigned.lasting.places h (there h some) ∙ still_kept.places h (was_held h (there h some)) })
      (record { covers = λ h. omega (arith, now h, same_call h); outside = λ h some. omega (arith, now h, some, same_call h) })
      sound.call)

  sound_now : IsCall new n.table n.call → IsSound new s making items n sizes capacity
  unfolding bs
  sound_now called = record {
    shared = moved_now.reheld.shared;
    sized = record {
      memory = assigned.size ∙ same_size ∙ sound.sized.memory;
      levels = sound.sized.levels;
      parameters = sound.sized.parameters;
      equivalents = ap (λ (k : Table). k.sizes) after ∙ sound.sized.equivalents;
      room = sound.sized.room;
      ranges = sound.sized.ranges;
    };
    call = called;
  }

  pub let_sound : v.call ≡ NotCalling → IsSound new s making items n sizes capacity
  let_sound calls = sound_now (uncalled calls)

  pub set_sound : n.table.groups.now.meanings ≡ m.table.groups.now.meanings → IsSound new s making items n sizes capacity
  set_sound same = sound_now (still_called same)

  pub let_view : lists_of new (pending new s) making items n sizes ≡ record v { groups = set global v.groups place value; lists = texts new }
  unfolding bs
  let_view =
      let p = pending old s in
      moved_view old new s n sizes making items moved_now
      ∙ ap (λ (q : Pending). record (lists_of old q making items n sizes) { lists = texts new }) stand.1
      ∙ ap₂ (λ (k : Table) (g : code.Gathering). record (lists_of old p making items (named k g) sizes) { lists = texts new }) after same_gathering
      ∙ ap (λ (w : HeldLists). record w { groups = set global w.groups place value; lists = texts new }) is

  pub let_macros : KeepsLists (lists_held n.table.groups) (all_fronts new (pending new s)) v.lists (texts new)
  unfolding bs
  let_macros = macros_moved old new s n sizes (all_builds making items) v.lists moved_now (ap (λ (w : HeldLists). w.lists) is)

-- a name's location is there
below : (a b : ℕ) → a < b → nat_lt a b ≡ true
below a b h = grind (arith, nat_tests)

pub place_found : (g : Groups) (name : Name) (k : ℕ) → location name ≡ Some k → k < length g.now.meanings → place_of g name ≡ Some k
place_found g name k is within =
    ap (placed (length g.now.meanings)) is ∙ ap (λ (b : Bool). if b then Some k else None) (below k (length g.now.meanings) within)

-- at the location of a name
pub named_groups : (global : Bool) (v : HeldLists) (name : Name) (m : Meaning (Option ℕ)) (l : Loc) (new : List (Option Entry)) → IsPlaceOf v.groups name l → ◌≡◌ {A = HeldLists} (record v { groups = set global v.groups l (val.Meant m); lists = texts new }) (record v { groups = set_name global v.groups name m; lists = texts new })
named_groups global v name m l new p =
    ap (λ (k : Loc). let w : HeldLists = record v { groups = set global v.groups k (val.Meant m); lists = texts new } in w) p.is
    ∙ ap (λ (o : Option ℕ). let w : HeldLists = record v { groups = set_placed global v.groups o m; lists = texts new } in w) (sym (place_found v.groups name p.number p.placed p.within))
