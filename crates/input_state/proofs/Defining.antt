-- A list that was gathered becomes a macro's, or a location's.
use Rattle.std.proofs.Common.{◌≡◌, ℕ, ◌+◌, ◌<◌, ◌≤◌, List, [], ◌∷◌, ◌++◌, map, reverse, drop, Bool, true, false, length, Option, Some, inl, inr, sym, ap, ap₂, ◌∙◌, subst, arith}
use Rattle.std.specs.Prelude.{cond, option_to_list, ◌||◌}
use Rattle.std.proofs.lemmas.Bool.{cases_eq, false_from_ne_true}
use Rattle.std.proofs.lemmas.List.Elements.{All-head, All-tail, All-cons, All-append}
use Rattle.tex_defs.specs.declared.Name.{Name}
use Rattle.tex_defs.specs.declared.Meaning.TheVariants as means
use Rattle.tex_defs.specs.declared.Sizes.{Sizes}
use Rattle.plain_tokens.specs.Meanings.{location, is_listed}
use Rattle.plain_tokens.specs.Puts as plain
use Rattle.plain_tokens.specs.Tables.{is_put}
use Rattle.token_lists.specs.declared.Build.{Build}
use Rattle.token_lists.specs.Ids.{build_id, IsBuilding}
use Rattle.token_lists.specs.Table.{Entry, tokens_at, holders_at}
use Rattle.token_lists.specs.Accounts.{holds, Covers}
use Rattle.meanings.specs.Holding.{list_holds}
use Rattle.equivalents.specs.declared.values.Loc.{Loc}
use Rattle.equivalents.specs.declared.values.Loc.TheVariants as loc
use Rattle.equivalents.specs.declared.values.Val.TheVariants as val
use Rattle.equivalents.specs.Locations.{V}
use Rattle.equivalents.specs.Groups.{set, set_placed}
use Rattle.equivalents.specs.Holding.{value_list, lists_held, lists_outside}
use Rattle.eqtb_save.specs.Table.{Table}
use Rattle.eqtb_save.specs.Holding as eqtb
use Rattle.eqtb_save.specs.Holding.{val_holds}
use Rattle.input_stack.specs.Pending.{Pending, times}
use Rattle.input_stack.specs.View.{pending, held}
use Rattle.input_stack.specs.Stacks.{IsStack}
use Rattle.input_stack.specs.declared.stack.InputStack.{InputStack}
use Rattle.input_stack.proofs.Helds.{others}
use Rattle.input_stack.proofs.Kept.{holds_itself}
use Rattle.input_state.specs.HeldLists.{HeldLists, puts_held, first_list}
use Rattle.input_state.specs.Macros.{list_at, is_shared, KeepsLists}
use Rattle.input_state.specs.AtLocations.{SetsList}
use Rattle.input_state.specs.Calls.{Defines}
use Rattle.input_state.specs.HeldViews.{Named, named, call_holds, calling_of, IsCall, text, made_text, texts, fronts, covers, lists_of, all_builds, built, bodies, cells_of, puts_in, AreFronts, IsApart, IsDefined, IsShared, IsSound}
use Rattle.input_state.specs.Callings.{NotCalling}
use Rattle.input_state.specs.declared.gathering.Gathering as code
use Rattle.input_state.proofs.Counting.{some_none, is_none, holds_other}
use Rattle.input_state.proofs.Shares.{held_parts, macro_once}
use Rattle.input_state.proofs.CallStays.{call_stays}
use Rattle.input_state.proofs.Sharing.{Moved, Stay, moved, own_alone, text_at, built_cons, built_append, all_left, all_right}
use Rattle.input_state.proofs.Sources.{all_fronts, fronts_in}
use Rattle.input_state.proofs.ListViews.{held_lists, moved_view, macros_moved, reverse_push}
use Rattle.input_state.proofs.Sounds.{push_builds}
use Rattle.input_state.proofs.Assigning.{Assigned}
use Rattle.input_state.proofs.Letting.{no_call, place_found}

-- the build in front of the others
front_shared : (table : List (Option Entry)) (stack : InputStack) (xs ys : List Build) (b : Build) (m : Named) → IsShared table stack (xs ++ b ∷ ys) m → IsShared table stack (b ∷ (xs ++ ys)) m
front_shared table stack xs ys b m s =
    let same : (h : ℕ) → built (b ∷ (xs ++ ys)) h ≡ built (xs ++ b ∷ ys) h = λ h. omega (arith, built_cons b (xs ++ ys) h, built_append xs ys h, built_append xs (b ∷ ys) h, built_cons b ys h) in
    let right = all_right table xs (b ∷ ys) s.building in
    let others = All-append (IsBuilding table) xs ys (all_left table xs (b ∷ ys) s.building) (All-tail (IsBuilding table) b ys right) in
    record {
      stands = s.stands;
      fronts = s.fronts;
      building = All-cons (IsBuilding table) b (xs ++ ys) (All-head (IsBuilding table) b ys right) others;
      counted = λ h. omega (arith, s.counted h, same h);
      apart = record {
        sole = λ h. omega (arith, s.apart.sole h, same h);
        apart = λ h more. s.apart.apart h (omega (arith, more, same h));
      };
      all_lists = s.all_lists;
      listed = s.listed;
    }

-- A LOCATION TAKES A LIST OVER

module _ (old new : List (Option Entry)) (s : InputStack) (m n : Named) (b : Build) (bs : List Build) (shared : IsShared old s (b ∷ bs) m) (value : V) (list : value_list value ≡ Some (build_id b)) (same_call : (h : ℕ) → call_holds n.call h ≡ call_holds m.call h) (assigned : Assigned old new m.table n.table value) (stored : (h : ℕ) → val_holds value h ≤ eqtb.held n.table h) (text_is : IsDefined (tokens_at old (build_id b))) where
  value_holds : (h : ℕ) → val_holds value h ≡ holds (build_id b) h
  value_holds h = ap (λ (o : Option ℕ). list_holds o h) list

  -- the list of the old value may be let go
  held_now : (h : ℕ) → eqtb.held n.table h ≤ eqtb.held m.table h + holds (build_id b) h
  held_now h = omega (arith, assigned.moves h, assigned.fewer h, value_holds h)

  own : (0 < built (b ∷ bs) (build_id b))
  own = omega (arith, built_cons b bs (build_id b), holds_itself (build_id b))

  alone : (built (b ∷ bs) (build_id b) ≡ 1) × (held s (build_id b) ≡ 0) × (eqtb.held m.table (build_id b) ≡ 0)
  alone =
      let k = own_alone old s (b ∷ bs) m shared.fronts shared.apart (build_id b) (omega (arith, own)) in
      (omega (arith, k.0, own), k.1, k.2)

  has_it : 0 < eqtb.held n.table (build_id b)
  has_it = omega (arith, stored (build_id b), value_holds (build_id b), holds_itself (build_id b))

  stand : IsStack new s × (pending new s ≡ pending old s)
  stand = others s old new (λ h. val_holds value h + eqtb.held m.table h) (eqtb.held n.table) shared.stands (λ h. omega (arith, shared.counted h, value_holds h, built_cons b bs h)) assigned.moves assigned.keeps

  apart_now : IsApart (puts_in (pending old s)) bs n
  apart_now = record {
    sole = λ h. omega (arith, shared.apart.sole h, built_cons b bs h, same_call h);
    apart = λ h more. omega (arith, more, shared.apart.sole h, built_cons b bs h, held_now h, same_call h, shared.apart.apart h (omega (arith, more, built_cons b bs h, same_call h)));
  }

  still_held : (h : ℕ) → 0 < eqtb.held n.table h → 0 < holders_at new h
  still_held h more = omega (arith, more, assigned.moves h, shared.counted h, value_holds h, built_cons b bs h)

  macros_now : (h : ℕ) → 0 < eqtb.held n.table h → IsDefined (tokens_at new h)
  macros_now h more =
      let same = assigned.lasting.tokens h (still_held h more) in
      elim (cases_eq h (build_id b)) [
        | inl is ↦ subst IsDefined (sym same) (subst (λ (k : ℕ). IsDefined (tokens_at old k)) (sym is) text_is)
        | inr other ↦ subst IsDefined (sym same) (shared.all_lists h (omega (arith, more, held_now h, holds_other (build_id b) h (λ e. other (sym e)))))
      ]

  own_holds : (h : ℕ) → built (b ∷ []) h ≡ holds (build_id b) h
  own_holds h = omega (arith, built_cons b [] h)

  pub defined_moved : Moved old new s n bs
  defined_moved =
      moved old new s s m n (b ∷ []) bs shared stand.0
      (subst (λ (p : Pending). AreFronts (puts_in p)) (sym stand.1) shared.fronts)
      (subst (λ (p : Pending). IsApart (puts_in p) bs n) (sym stand.1) apart_now)
      (λ h some. shared.listed h (subst (λ (p : Pending). 0 < times h (cells_of (puts_in p))) stand.1 some))
      (λ h. omega (arith, assigned.moves h, value_holds h, own_holds h))
      (record { tokens = λ h l. assigned.keeps.tokens h (omega (arith, l, value_holds h, own_holds h)); places = λ h l. assigned.keeps.places h (omega (arith, l, value_holds h, own_holds h)) })
      assigned.lasting.tokens macros_now same_call

  pub defined_still : pending new s ≡ pending old s
  defined_still = stand.1

  -- this list wasn't shared
  pub defined_free : (t : List (Option Entry)) → is_shared (build_id b) (lists_held m.table.groups) (all_fronts t (pending old s)) ≡ false
  defined_free t =
      let ps = puts_in (pending old s) in
      let none : eqtb.held m.table (build_id b) + times (build_id b) (bodies ps) ≡ 0 = omega (arith, alone.2, alone.1, held_parts old s (build_id b)) in
      is_none _ (ap (λ (qs : List plain.Put). cond (is_shared (build_id b) (lists_held m.table.groups) qs) 1 0) (sym (fronts_in t (pending old s))) ∙ macro_once t m.table ps (build_id b) ∙ some_none _ none)

  pub defined_text : tokens_at new (build_id b) ≡ tokens_at old (build_id b)
  defined_text = assigned.lasting.tokens (build_id b) (still_held (build_id b) has_it)

-- THE INNERMOST LIST IS TAKEN OVER

-- its holder and the table's are counted
pub covered_now : (table : List (Option Entry)) (s : InputStack) (m : Named) (making : Option Build) (items rest : List Build) (b : Build) → items ≡ rest ++ b ∷ [] → IsShared table s (all_builds making items) m → (value : V) → value_list value ≡ Some (build_id b) → Covers table (λ h. val_holds value h + eqtb.held m.table h)
covered_now table s m making items rest b pops shared value list h =
    let now = front_shared table s (option_to_list making) (reverse rest) b m (subst (λ (us : List Build). IsShared table s us m) (push_builds making items rest b pops) shared) in
    omega (arith, now.counted h, built_cons b (option_to_list making ++ reverse rest) h, ap (λ (o : Option ℕ). list_holds o h) list)

module _ (old new : List (Option Entry)) (s : InputStack) (m n : Named) (making : Option Build) (items rest : List Build) (b : Build) (pops : items ≡ rest ++ b ∷ []) (sizes : Sizes) (capacity now : ℕ) (sound : IsSound old s making items m sizes capacity) (same : now ≡ capacity) (v : HeldLists) (is : lists_of old (pending old s) making items m sizes ≡ v) (value : V) (list_is : value_list value ≡ Some (build_id b)) (list : IsDefined (first_list v.builds)) (global : Bool) (place : Loc) (after : n.table ≡ record m.table { groups = set global m.table.groups place value }) (same_gathering : n.call ≡ m.call) (assigned : Assigned old new m.table n.table value) (stored : (h : ℕ) → val_holds value h ≤ eqtb.held n.table h) where
  bs : List Build
  bs = all_builds making rest

  same_call : (h : ℕ) → call_holds n.call h ≡ call_holds m.call h
  same_call h = ap (λ (g : code.Gathering). call_holds g h) same_gathering

  first_is : first_list v.builds ≡ text old b
  first_is = ap (λ (w : HeldLists). first_list w.builds) (sym is) ∙ ap (λ (us : List Build). first_list (map (text old) us)) (reverse_push items rest b pops)

  shared : IsShared old s (b ∷ bs) m
  unfolding bs
  shared = front_shared old s (option_to_list making) (reverse rest) b m (subst (λ (us : List Build). IsShared old s us m) (push_builds making items rest b pops) sound.shared)

  text_is : IsDefined (tokens_at old (build_id b))
  text_is = subst IsDefined first_is list

  moved_now : Moved old new s n bs
  moved_now = defined_moved old new s m n b bs shared value list_is same_call assigned stored text_is

  still : pending new s ≡ pending old s
  still = defined_still old new s m n b bs shared value list_is same_call assigned stored text_is

  pub taken_sound : IsCall new n.table n.call → IsSound new s making rest n sizes now
  unfolding bs
  taken_sound called = record {
    shared = moved_now.reheld.shared;
    sized = record {
      memory = assigned.size ∙ sound.sized.memory;
      levels = sound.sized.levels;
      parameters = sound.sized.parameters;
      equivalents = ap (λ (t : Table). t.sizes) after ∙ sound.sized.equivalents;
      room = omega (arith, sound.sized.room, same);
      ranges = sound.sized.ranges;
    };
    call = called;
  }

  -- where no call was gathered, none is
  pub taken_uncalled : v.call ≡ NotCalling → IsCall new n.table n.call
  taken_uncalled calls = subst (λ (g : code.Gathering). IsCall new n.table g) (sym (same_gathering ∙ no_call old m.call (ap (λ (w : HeldLists). w.call) is ∙ calls))) tt

  -- what is still held has its words where it had them
  there : (h : ℕ) → 0 < eqtb.held n.table h → 0 < holders_at new h
  there h some = omega (arith, some, moved_now.reheld.shared.counted h)

  -- where no name means anything else, the call goes on
  pub taken_called : n.table.groups.now.meanings ≡ m.table.groups.now.meanings → IsCall new n.table n.call
  taken_called meanings =
      let counted = moved_now.reheld.shared.counted in
      subst (λ (k : code.Gathering). IsCall new n.table k) (sym same_gathering) (
      call_stays old new m.table n.table m.call meanings
      (subst (λ (k : code.Gathering). Stay old new (call_holds k)) same_gathering moved_now.called)
      (record { tokens = λ h some. assigned.lasting.tokens h (there h some); places = λ h some. assigned.lasting.places h (there h some) })
      (record { covers = λ h. omega (arith, counted h, same_call h); outside = λ h some. omega (arith, counted h, some, same_call h) })
      sound.call)

  pub taken_view : lists_of new (pending new s) making rest n sizes ≡ record v { builds = drop 1 v.builds; groups = n.table.groups; lists = texts new }
  unfolding bs
  taken_view =
      let p = pending old s in
      let was : lists_of old p making items m sizes ≡ held_lists (fronts old p.puts) (made_text old making) (calling_of old m.call) (text old b ∷ map (text old) (reverse rest)) (covers old p.sources) m.table sizes (texts old) = ap (λ (us : List Build). held_lists (fronts old p.puts) (made_text old making) (calling_of old m.call) (map (text old) us) (covers old p.sources) m.table sizes (texts old)) (reverse_push items rest b pops) in
      moved_view old new s n sizes making rest moved_now
      ∙ ap (λ (q : Pending). record (lists_of old q making rest n sizes) { lists = texts new }) still
      ∙ ap₂ (λ (t : Table) (g : code.Gathering). record (lists_of old p making rest (named t g) sizes) { groups = n.table.groups; lists = texts new }) after same_gathering
      ∙ ap (λ (w : HeldLists). record w { builds = drop 1 w.builds; groups = n.table.groups; lists = texts new }) (sym was ∙ is)

  pub taken_macros : KeepsLists (lists_held n.table.groups) (all_fronts new (pending new s)) v.lists (texts new)
  taken_macros = macros_moved old new s n sizes bs v.lists moved_now (ap (λ (w : HeldLists). w.lists) is)

  -- what the list is then
  module _ (id : ℕ) (id_is : id ≡ build_id b) where
    pub taken_free : is_shared id (lists_held v.groups) (puts_held v) ≡ false
    taken_free =
        ap (λ (w : HeldLists). is_shared id (lists_held w.groups) (puts_held w)) (sym is) ∙ ap (λ (h : ℕ). is_shared h (lists_held m.table.groups) (all_fronts old (pending old s))) id_is
        ∙ defined_free old new s m n b bs shared value list_is same_call assigned stored text_is old

    pub taken_outside : ((h : ℕ) → is_listed (lists_outside v.groups.outer) h ≡ true → is_listed (lists_held v.groups) h ≡ true) → is_listed (lists_outside v.groups.outer) id ≡ false
    taken_outside outer_held =
        let none = taken_free in
        false_from_ne_true (is_listed (lists_outside v.groups.outer) id) (λ a. (let e : is_shared id (lists_held v.groups) (puts_held v) ≡ true = ap (λ (x : Bool). x || is_put id (puts_held v)) (outer_held id a) in cc))

    pub taken_text : list_at (texts new) id ≡ first_list v.builds
    taken_text = text_at new id ∙ ap (tokens_at new) id_is ∙ defined_text old new s m n b bs shared value list_is same_call assigned stored text_is ∙ sym first_is

-- THE LIST OF A MACRO

module _ (old new : List (Option Entry)) (s : InputStack) (m n : Named) (making : Option Build) (items rest : List Build) (b : Build) (pops : items ≡ rest ++ b ∷ []) (sizes : Sizes) (capacity now : ℕ) (sound : IsSound old s making items m sizes capacity) (same : now ≡ capacity) (v : HeldLists) (is : lists_of old (pending old s) making items m sizes ≡ v) (name : Name) (long outer global : Bool) (id k : ℕ) (id_is : id ≡ build_id b) (list : IsDefined (first_list v.builds)) (placed : location name ≡ Some k) (after : n.table ≡ record m.table { groups = set global m.table.groups (loc.Means k) (val.Meant (means.Macro long outer (Some id))) }) (same_gathering : n.call ≡ m.call) (assigned : Assigned old new m.table n.table (val.Meant (means.Macro long outer (Some id)))) (stored : (h : ℕ) → val_holds (val.Meant (means.Macro long outer (Some id))) h ≤ eqtb.held n.table h) (within : k < length v.groups.now.meanings) (outer_held : (h : ℕ) → is_listed (lists_outside v.groups.outer) h ≡ true → is_listed (lists_held v.groups) h ≡ true) where
  value : V
  value = val.Meant (means.Macro long outer (Some id))

  pub defines_now : Defines global v.groups n.table.groups (puts_held v) v.lists (texts new) (first_list v.builds) name long outer
  unfolding value
  defines_now =
      let list_is : value_list value ≡ Some (build_id b) = ap (λ (h : ℕ). Some h) id_is in
      record {
        id = id;
        free = taken_free old new s m n making items rest b pops sizes capacity now sound same v is value list_is list global (loc.Means k) after same_gathering assigned stored id id_is;
        outside = taken_outside old new s m n making items rest b pops sizes capacity now sound same v is value list_is list global (loc.Means k) after same_gathering assigned stored id id_is outer_held;
        means = ap (λ (t : Table). t.groups) after
            ∙ ap (λ (w : HeldLists). set global w.groups (loc.Means k) (val.Meant (means.Macro long outer (Some id)))) is
            ∙ ap (λ (o : Option ℕ). set_placed global v.groups o (means.Macro long outer (Some id))) (sym (place_found v.groups name k placed within));
        list = taken_text old new s m n making items rest b pops sizes capacity now sound same v is value list_is list global (loc.Means k) after same_gathering assigned stored id id_is;
      }

-- THE LIST OF A LOCATION

module _ (old new : List (Option Entry)) (s : InputStack) (m n : Named) (making : Option Build) (items rest : List Build) (b : Build) (pops : items ≡ rest ++ b ∷ []) (sizes : Sizes) (capacity now : ℕ) (sound : IsSound old s making items m sizes capacity) (same : now ≡ capacity) (v : HeldLists) (is : lists_of old (pending old s) making items m sizes ≡ v) (global : Bool) (place : Loc) (id : ℕ) (id_is : id ≡ build_id b) (list : IsDefined (first_list v.builds)) (after : n.table ≡ record m.table { groups = set global m.table.groups place (val.Tokens (Some id)) }) (same_gathering : n.call ≡ m.call) (assigned : Assigned old new m.table n.table (val.Tokens (Some id))) (stored : (h : ℕ) → val_holds (val.Tokens (Some id)) h ≤ eqtb.held n.table h) (outer_held : (h : ℕ) → is_listed (lists_outside v.groups.outer) h ≡ true → is_listed (lists_held v.groups) h ≡ true) where
  pub sets_now : SetsList global v.groups n.table.groups (puts_held v) v.lists (texts new) (first_list v.builds) place
  sets_now =
      let list_is : value_list (val.Tokens (Some id)) ≡ Some (build_id b) = ap (λ (h : ℕ). Some h) id_is in
      record {
        id = id;
        free = taken_free old new s m n making items rest b pops sizes capacity now sound same v is (val.Tokens (Some id)) list_is list global place after same_gathering assigned stored id id_is;
        outside = taken_outside old new s m n making items rest b pops sizes capacity now sound same v is (val.Tokens (Some id)) list_is list global place after same_gathering assigned stored id id_is outer_held;
        sets = ap (λ (t : Table). t.groups) after ∙ ap (λ (w : HeldLists). set global w.groups place (val.Tokens (Some id))) is;
        list = taken_text old new s m n making items rest b pops sizes capacity now sound same v is (val.Tokens (Some id)) list_is list global place after same_gathering assigned stored id id_is;
      }
