-- One list changes, or who holds some of them, and the others stay.
use Rattle.std.proofs.Common.{◌≡◌, ℕ, zero, suc, ◌+◌, ◌<◌, ◌≤◌, List, [], ◌∷◌, ◌++◌, map, length, Option, None, inl, inr, refl, sym, ap, ap₂, ◌∙◌, subst, arith}
use Rattle.std.specs.Prelude.{All, slice_set, Bool, true, cond}
use Rattle.std.proofs.lemmas.Bool.{cases_eq}
use Rattle.std.proofs.lemmas.List.{get_or-set_other}
use Rattle.std.proofs.lemmas.List.Elements.{All-append, All-head, All-tail, All-cons, All-nil}
use Rattle.std.proofs.lemmas.List.Sums.{sum_by-cons, sum_by-append}
use Rattle.tex_defs.specs.declared.Token.{Token}
use Rattle.plain_tokens.specs.Meanings.{is_listed}
use Rattle.plain_tokens.specs.Puts as plain
use Rattle.token_lists.specs.declared.Build.{Build}
use Rattle.token_lists.specs.Ids.{build_id, IsBuilding}
use Rattle.token_lists.specs.Table.{Entry, entry_at, tokens_at, tokens_of, places_at, places_of, holders_at, holders_of, last_or}
use Rattle.token_lists.specs.Accounts.{holds, Moves, Keeps}
use Rattle.equivalents.specs.Holding.{lists_held}
use Rattle.eqtb_save.specs.Table.{Table}
use Rattle.eqtb_save.specs.Holding as eqtb
use Rattle.input_stack.specs.Pending.{Pending, times}
use Rattle.input_stack.specs.View.{pending, held}
use Rattle.input_stack.specs.Stacks.{IsStack}
use Rattle.input_stack.specs.declared.stack.InputStack.{InputStack}
use Rattle.input_stack.proofs.Helds.{others}
use Rattle.input_stack.proofs.Kept.{holds_itself}
use Rattle.input_state.specs.Changes.{IsOnly}
use Rattle.input_state.specs.Macros.{list_at, is_shared, KeepsLists}
use Rattle.input_state.specs.HeldViews.{Named, call_holds, names_hold, fronts, text, texts, built, owns, bodies, cells_of, covers, puts_in, AreFronts, IsApart, IsDefined, IsShared}
use Rattle.input_state.proofs.Counting.{some, one_some}
use Rattle.input_state.proofs.Shares.{held_parts, listed_once, macro_once}
use Rattle.input_state.proofs.Levels.{no_opens, cells_owned, all_stay}
use Rattle.input_state.proofs.Sources.{all_fronts, fronts_in}

-- the lists that are held so often are as they were
pub record Stay (old new : List (Option Entry)) (f : ℕ → ℕ) : Type 0 where
  pub tokens : (h : ℕ) → 0 < f h → tokens_at new h ≡ tokens_at old h
  pub places : (h : ℕ) → 0 < f h → places_at new h ≡ places_at old h
  pub holders : (h : ℕ) → 0 < f h → holders_at new h ≡ holders_at old h

pub stay_less : (old new : List (Option Entry)) (f g : ℕ → ℕ) → ((h : ℕ) → g h ≤ f h) → Stay old new f → Stay old new g
stay_less old new f g less s = record {
  tokens = λ h some. s.tokens h (omega (arith, some, less h));
  places = λ h some. s.places h (omega (arith, some, less h));
  holders = λ h some. s.holders h (omega (arith, some, less h));
}

-- BUILDS

pub built_cons : (b : Build) (bs : List Build) (h : ℕ) → built (b ∷ bs) h ≡ holds (build_id b) h + built bs h
built_cons b bs h = sum_by-cons (λ (x : Build). holds (build_id x) h) b bs

pub built_append : (xs ys : List Build) (h : ℕ) → built (xs ++ ys) h ≡ built xs h + built ys h
built_append xs ys h = sum_by-append (λ (x : Build). holds (build_id x) h) xs ys

own : (b : Build) (bs : List Build) → 0 < built (b ∷ bs) (build_id b)
own b bs = omega (arith, built_cons b bs (build_id b), holds_itself (build_id b))

tail_stays : (old new : List (Option Entry)) (b : Build) (bs : List Build) → Stay old new (built (b ∷ bs)) → Stay old new (built bs)
tail_stays old new b bs s = stay_less old new (built (b ∷ bs)) (built bs) (λ h. omega (arith, built_cons b bs h)) s

one_stays : (old new : List (Option Entry)) (b : Build) (bs : List Build) → Stay old new (built (b ∷ bs)) → IsBuilding old b → IsBuilding new b
one_stays old new b bs s building = record {
  sole = s.holders (build_id b) (own b bs) ∙ building.sole;
  at_end = ap (last_or (build_id b)) (s.places (build_id b) (own b bs)) ∙ building.at_end;
}

pub building_stays : (old new : List (Option Entry)) (bs : List Build) → Stay old new (built bs) → All (IsBuilding old) bs → All (IsBuilding new) bs
building_stays old new [] s a = All-nil (IsBuilding new)
building_stays old new (b ∷ bs) s a = All-cons (IsBuilding new) b bs (one_stays old new b bs s (All-head (IsBuilding old) b bs a)) (building_stays old new bs (tail_stays old new b bs s) (All-tail (IsBuilding old) b bs a))

pub texts_stay : (old new : List (Option Entry)) (bs : List Build) → Stay old new (built bs) → map (text new) bs ≡ map (text old) bs
texts_stay old new [] s = refl
texts_stay old new (b ∷ bs) s = ap₂ (λ (ts : List Token) (us : List (List Token)). ts ∷ us) (s.tokens (build_id b) (own b bs)) (texts_stay old new bs (tail_stays old new b bs s))

pub all_left : (table : List (Option Entry)) (xs ys : List Build) → All (IsBuilding table) (xs ++ ys) → All (IsBuilding table) xs
all_left table [] ys a = All-nil (IsBuilding table)
all_left table (x ∷ xs) ys a = All-cons (IsBuilding table) x xs (All-head (IsBuilding table) x (xs ++ ys) a) (all_left table xs ys (All-tail (IsBuilding table) x (xs ++ ys) a))

pub all_right : (table : List (Option Entry)) (xs ys : List Build) → All (IsBuilding table) (xs ++ ys) → All (IsBuilding table) ys
all_right table [] ys a = a
all_right table (x ∷ xs) ys a = all_right table xs ys (All-tail (IsBuilding table) x (xs ++ ys) a)

-- ONE LIST CHANGES

pub only_set : (old new : List (Option Entry)) (id : ℕ) (e : Option Entry) → new ≡ slice_set old id e → IsOnly old new id
only_set old new id e after = record { apart = λ h ne. ap (λ (t : List (Option Entry)). entry_at t h) after ∙ get_or-set_other old id h e None ne }

only_stays : (old new : List (Option Entry)) (id : ℕ) (f : ℕ → ℕ) → IsOnly old new id → f id ≡ 0 → Stay old new f
only_stays old new id f only free =
    let ne : (h : ℕ) → 0 < f h → h ≡ id → ⊥ = λ h some e. omega (arith, some, free, ap f e) in
    record {
      tokens = λ h some. ap tokens_of (only.apart h (ne h some));
      places = λ h some. ap places_of (only.apart h (ne h some));
      holders = λ h some. ap holders_of (only.apart h (ne h some));
    }

only_keeps : (old new : List (Option Entry)) (id : ℕ) (f : ℕ → ℕ) → IsOnly old new id → holders_at old id ≡ f id → Keeps old new f
only_keeps old new id f only mine =
    let ne : (h : ℕ) → f h < holders_at old h → h ≡ id → ⊥ = λ h some e. omega (arith, some, mine, ap f e, ap (holders_at old) e) in
    record {
      tokens = λ h some. ap tokens_of (only.apart h (ne h some));
      places = λ h some. ap places_of (only.apart h (ne h some));
    }

-- WHAT IS HELD

-- nothing but the levels and the builds holds a list that one of these has for itself
pub own_alone : (table : List (Option Entry)) (stack : InputStack) (bs : List Build) (m : Named) → AreFronts (puts_in (pending table stack)) → IsApart (puts_in (pending table stack)) bs m → (h : ℕ) → 0 < built bs h + call_holds m.call h →
    (built bs h + call_holds m.call h ≡ 1) × (held stack h ≡ 0) × (eqtb.held m.table h ≡ 0)
own_alone table stack bs m simple a h some =
    let ps = puts_in (pending table stack) in
    let none = a.apart h (omega (arith, some)) in
    (omega (arith, a.sole h, some), omega (arith, held_parts table stack h, no_opens ps simple h (omega (arith, a.sole h, some)), a.sole h, some, none), omega (arith, none))

-- a list that is shared is held
pub macro_held : (table t : List (Option Entry)) (stack : InputStack) (m : Table) → (id : ℕ) → is_shared id (lists_held m.groups) (all_fronts t (pending table stack)) ≡ true → 0 < held stack id + eqtb.held m id
macro_held table t stack m id is =
    let ps = puts_in (pending table stack) in
    let here = macro_once t m ps id in
    let one : some (eqtb.held m id + times id (bodies ps)) ≡ 1 = sym here ∙ ap (λ (qs : List plain.Put). cond (is_shared id (lists_held m.groups) qs) 1 0) (fronts_in t (pending table stack)) ∙ ap (λ (b : Bool). cond b 1 0) is in
    omega (arith, one_some _ one, held_parts table stack id)

-- a list by its number
pub text_at : (table : List (Option Entry)) (id : ℕ) → list_at (texts table) id ≡ tokens_at table id
text_at [] id = refl
text_at (o ∷ os) zero = refl
text_at (o ∷ os) (suc id) = text_at os id

pub keeps_lists : (old new table t : List (Option Entry)) (stack : InputStack) (m : Table) → ((h : ℕ) → 0 < held stack h + eqtb.held m h → tokens_at new h ≡ tokens_at old h) → KeepsLists (lists_held m.groups) (all_fronts t (pending table stack)) (texts old) (texts new)
keeps_lists old new table t stack m same = record { tokens = λ id is. text_at new id ∙ same id (macro_held table t stack m id is) ∙ sym (text_at old id) }

-- each macro's list is one
pub macros_defined : (table : List (Option Entry)) (stack : InputStack) (bs : List Build) (m : Named) → IsShared table stack bs m → (id : ℕ) → is_listed (lists_held m.table.groups) id ≡ true → IsDefined (list_at (texts table) id)
macros_defined table stack bs m shared id is =
    let one : some (eqtb.held m.table id) ≡ 1 = sym (listed_once id (lists_held m.table.groups)) ∙ ap (λ (b : Bool). cond b 1 0) is in
    subst IsDefined (sym (text_at table id)) (shared.all_lists id (one_some (eqtb.held m.table id) one))

-- A LIST THAT IS BEING BUILT CHANGES

-- Some builds have given way to others; what else is held is as it was.
pub record Changed (old new : List (Option Entry)) (stack : InputStack) (m : Named) (xs zs ys : List Build) : Type 0 where
  pub shared : IsShared new stack (xs ++ (zs ++ ys)) m
  pub still : pending new stack ≡ pending old stack
  pub in_front : fronts new (pending old stack).puts ≡ fronts old (pending old stack).puts
  pub beneath : covers new (pending old stack).sources ≡ covers old (pending old stack).sources
  pub before : map (text new) xs ≡ map (text old) xs
  pub behind : map (text new) ys ≡ map (text old) ys
  pub stays : Stay old new (λ h. held stack h + names_hold m h)

module _ (old new : List (Option Entry)) (stack : InputStack) (m : Named) (xs zs us ys : List Build) (id : ℕ) (shared : IsShared old stack (xs ++ (zs ++ ys)) m) (only : IsOnly old new id) (mine : holders_at old id ≡ built zs id) (moves : Moves old new (built zs) (built us)) (building : All (IsBuilding new) us) (sole : holders_at new id ≤ 1) where
  parts : (vs : List Build) (h : ℕ) → built (xs ++ (vs ++ ys)) h ≡ built xs h + (built vs h + built ys h)
  parts vs h = omega (arith, built_append xs (vs ++ ys) h, built_append vs ys h)

  rest : ℕ → ℕ
  rest h = held stack h + (built xs h + (built ys h + names_hold m h))

  apart : rest id ≡ 0
  unfolding rest
  apart = omega (arith, shared.counted id, parts zs id, mine)

  stays : Stay old new rest
  stays = only_stays old new id rest only apart

  stand : IsStack new stack × (pending new stack ≡ pending old stack)
  stand = others stack old new (built zs) (built us) shared.stands (λ h. omega (arith, shared.counted h, parts zs h)) moves (only_keeps old new id (built zs) only mine)

  before_stays : Stay old new (built xs)
  unfolding rest
  before_stays = stay_less old new rest (built xs) (λ h. omega arith) stays

  behind_stays : Stay old new (built ys)
  unfolding rest
  behind_stays = stay_less old new rest (built ys) (λ h. omega arith) stays

  held_stays : Stay old new (λ h. held stack h + names_hold m h)
  unfolding rest
  held_stays = stay_less old new rest (λ h. held stack h + names_hold m h) (λ h. omega arith) stays

  now_building : All (IsBuilding new) (xs ++ (us ++ ys))
  now_building =
      let b = building_stays old new xs before_stays (all_left old xs (zs ++ ys) shared.building) in
      let e = building_stays old new ys behind_stays (all_right old zs ys (all_right old xs (zs ++ ys) shared.building)) in
      All-append (IsBuilding new) xs (us ++ ys) b (All-append (IsBuilding new) us ys building e)

  -- the builds are others at one list alone, which nothing else holds
  same_builds : (h : ℕ) → (h ≡ id → ⊥) → built us h ≡ built zs h
  same_builds h ne = omega (arith, moves h, ap holders_of (only.apart h ne))

  one_place : (h : ℕ) → times h (owns (puts_in (pending old stack))) + (built (xs ++ (us ++ ys)) h + call_holds m.call h) ≤ 1
  unfolding rest
  one_place h = elim (cases_eq h id) [
    | inl is ↦
        let here : times id (owns (puts_in (pending old stack))) + (built (xs ++ (us ++ ys)) id + call_holds m.call id) ≤ 1 = omega (arith, apart, sole, moves id, mine, parts us id, held_parts old stack id) in
        subst (λ (k : ℕ). times k (owns (puts_in (pending old stack))) + (built (xs ++ (us ++ ys)) k + call_holds m.call k) ≤ 1) (sym is) here
    | inr other ↦ omega (arith, shared.apart.sole h, same_builds h other, parts us h, parts zs h)
  ]

  no_macro : (h : ℕ) → 0 < times h (owns (puts_in (pending old stack))) + (built (xs ++ (us ++ ys)) h + call_holds m.call h) → times h (bodies (puts_in (pending old stack))) + eqtb.held m.table h ≡ 0
  unfolding rest
  no_macro h more = elim (cases_eq h id) [
    | inl is ↦
        let here : times id (bodies (puts_in (pending old stack))) + eqtb.held m.table id ≡ 0 = omega (arith, apart, held_parts old stack id) in
        subst (λ (k : ℕ). times k (bodies (puts_in (pending old stack))) + eqtb.held m.table k ≡ 0) (sym is) here
    | inr other ↦ shared.apart.apart h (omega (arith, more, same_builds h other, parts us h, parts zs h))
  ]

  still_front : (fronts new (pending old stack).puts ≡ fronts old (pending old stack).puts) × (covers new (pending old stack).sources ≡ covers old (pending old stack).sources)
  still_front = all_stay old new (pending old stack) (λ h some. held_stays.tokens h (omega (arith, some, held_parts old stack h)))

  pub changed : Changed old new stack m xs us ys
  changed = record {
    shared = record {
      stands = stand.0;
      fronts = subst (λ (p : Pending). AreFronts (puts_in p)) (sym stand.1) shared.fronts;
      building = now_building;
      counted = λ h. omega (arith, shared.counted h, moves h, parts zs h, parts us h);
      apart = subst (λ (p : Pending). IsApart (puts_in p) (xs ++ (us ++ ys)) m) (sym stand.1) (record { sole = one_place; apart = no_macro });
      all_lists = λ h some. subst IsDefined (sym (held_stays.tokens h (omega (arith, some)))) (shared.all_lists h some);
      listed = λ h some.
          let here : 0 < times h (cells_of (puts_in (pending old stack))) = subst (λ (p : Pending). 0 < times h (cells_of (puts_in p))) stand.1 some in
          subst (λ (ts : List Token). 0 < length ts) (sym (held_stays.tokens h (omega (arith, here, cells_owned (puts_in (pending old stack)) h, held_parts old stack h)))) (shared.listed h here);
    };
    still = stand.1;
    in_front = still_front.0;
    beneath = still_front.1;
    before = texts_stay old new xs before_stays;
    behind = texts_stay old new ys behind_stays;
    stays = held_stays;
  }

-- THE HOLDERS CHANGE

-- Levels, names and the call let lists go, or take some over; what is being built is as it was.
pub record Reheld (old new : List (Option Entry)) (t : InputStack) (m : Named) (bs : List Build) : Type 0 where
  pub shared : IsShared new t bs m
  pub in_front : fronts new (pending new t).puts ≡ fronts old (pending new t).puts
  pub beneath : covers new (pending new t).sources ≡ covers old (pending new t).sources
  pub texts : map (text new) bs ≡ map (text old) bs
  pub kept : (h : ℕ) → 0 < held t h + eqtb.held m.table h → tokens_at new h ≡ tokens_at old h

-- the call has none of them
pub record Moved (old new : List (Option Entry)) (t : InputStack) (m : Named) (bs : List Build) : Type 0 where
  pub reheld : Reheld old new t m bs
  pub called : Stay old new (call_holds m.call)

module _ (old new : List (Option Entry)) (s t : InputStack) (m n : Named) (zs bs : List Build) (shared : IsShared old s (zs ++ bs) m) (moves : (h : ℕ) → holders_at new h + (built zs h + (held s h + names_hold m h)) ≡ holders_at old h + (held t h + names_hold n h)) where
  pub counted_now : (h : ℕ) → holders_at new h ≡ held t h + (built bs h + names_hold n h)
  counted_now h = omega (arith, shared.counted h, moves h, built_append zs bs h)

  module _ (stands : IsStack new t) (simple : AreFronts (puts_in (pending new t))) (apart : IsApart (puts_in (pending new t)) bs n) where
    -- a list that is being built has that one holder, before and now
    alone : (h : ℕ) → 0 < built bs h → (holders_at old h ≡ 1) × (holders_at new h ≡ 1) × (built zs h + (held s h + names_hold m h) ≡ 0)
    alone h some =
        let was = own_alone old s (zs ++ bs) m shared.fronts shared.apart h (omega (arith, some, built_append zs bs h)) in
        let now = own_alone new t bs n simple apart h (omega (arith, some)) in
        (omega (arith, was.0, was.1, was.2, shared.counted h), omega (arith, now.0, now.1, now.2, counted_now h), omega (arith, was.0, was.1, was.2, some, built_append zs bs h))

    -- so has a list of the call, if that is as it was
    pub call_alone : (h : ℕ) → call_holds n.call h ≡ call_holds m.call h → 0 < call_holds n.call h → (holders_at old h ≡ 1) × (holders_at new h ≡ 1) × (built zs h + (held s h + eqtb.held m.table h) ≡ 0)
    call_alone h same some =
        let was = own_alone old s (zs ++ bs) m shared.fronts shared.apart h (omega (arith, some, same)) in
        let now = own_alone new t bs n simple apart h (omega (arith, some)) in
        (omega (arith, was.0, was.1, was.2, shared.counted h), omega (arith, now.0, now.1, now.2, counted_now h), omega (arith, was.0, was.1, was.2, some, same, built_append zs bs h))

    module _ (listed : (h : ℕ) → 0 < times h (cells_of (puts_in (pending new t))) → 0 < length (tokens_at old h)) (keeps : Keeps old new (λ h. built zs h + (held s h + names_hold m h))) (lasts : (h : ℕ) → 0 < held t h + eqtb.held n.table h → tokens_at new h ≡ tokens_at old h) (all_lists : (h : ℕ) → 0 < eqtb.held n.table h → IsDefined (tokens_at new h)) where
      built_stay : Stay old new (built bs)
      built_stay = record {
        tokens = λ h some. keeps.tokens h (omega (arith, (alone h some).0, (alone h some).2));
        places = λ h some. keeps.places h (omega (arith, (alone h some).0, (alone h some).2));
        holders = λ h some. (alone h some).1 ∙ sym (alone h some).0;
      }

      pub reheld : Reheld old new t n bs
      reheld = record {
        shared = record {
          stands = stands;
          fronts = simple;
          building = building_stays old new bs built_stay (all_right old zs bs shared.building);
          counted = counted_now;
          apart = apart;
          all_lists = all_lists;
          listed = λ h some. subst (λ (ts : List Token). 0 < length ts) (sym (lasts h (omega (arith, some, cells_owned (puts_in (pending new t)) h, held_parts new t h)))) (listed h some);
        };
        in_front = (all_stay old new (pending new t) (λ h some. lasts h (omega (arith, some, held_parts new t h)))).0;
        beneath = (all_stay old new (pending new t) (λ h some. lasts h (omega (arith, some, held_parts new t h)))).1;
        texts = texts_stay old new bs built_stay;
        kept = lasts;
      }

module _ (old new : List (Option Entry)) (s t : InputStack) (m n : Named) (zs bs : List Build) (shared : IsShared old s (zs ++ bs) m) (stands : IsStack new t) (simple : AreFronts (puts_in (pending new t))) (apart : IsApart (puts_in (pending new t)) bs n) (listed : (h : ℕ) → 0 < times h (cells_of (puts_in (pending new t))) → 0 < length (tokens_at old h)) (moves : (h : ℕ) → holders_at new h + (built zs h + (held s h + eqtb.held m.table h)) ≡ holders_at old h + (held t h + eqtb.held n.table h)) (keeps : Keeps old new (λ h. built zs h + (held s h + eqtb.held m.table h))) (lasts : (h : ℕ) → 0 < holders_at new h → tokens_at new h ≡ tokens_at old h) (all_lists : (h : ℕ) → 0 < eqtb.held n.table h → IsDefined (tokens_at new h)) (same : (h : ℕ) → call_holds n.call h ≡ call_holds m.call h) where
  moves_all : (h : ℕ) → holders_at new h + (built zs h + (held s h + names_hold m h)) ≡ holders_at old h + (held t h + names_hold n h)
  moves_all h = omega (arith, moves h, same h)

  pub moved : Moved old new t n bs
  moved = record {
    reheld =
        reheld old new s t m n zs bs shared moves_all stands simple apart listed
        (record { tokens = λ h l. keeps.tokens h (omega (arith, l)); places = λ h l. keeps.places h (omega (arith, l)) })
        (λ h some. lasts h (omega (arith, some, counted_now old new s t m n zs bs shared moves_all h))) all_lists;
    called =
        let alone = λ (h : ℕ). call_alone old new s t m n zs bs shared moves_all stands simple apart h (same h) in
        record {
          tokens = λ h some. keeps.tokens h (omega (arith, (alone h some).0, (alone h some).2));
          places = λ h some. keeps.places h (omega (arith, (alone h some).0, (alone h some).2));
          holders = λ h some. (alone h some).1 ∙ sym (alone h some).0;
        };
  }
