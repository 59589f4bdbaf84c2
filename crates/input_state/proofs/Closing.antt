-- The innermost group goes: each list that is held then was held.
use Rattle.std.proofs.Common.{◌≡◌, ℕ, ◌+◌, ◌<◌, ◌≤◌, List, [], ◌∷◌, length, Option, None, Some, Bool, true, cond, inl, inr, refl, sym, ap, ◌∙◌, subst, arith}
use Rattle.std.proofs.lemmas.Bool.{cases_lt}
use Rattle.tex_defs.specs.declared.Sizes.{Sizes}
use Rattle.plain_tokens.specs.Meanings.{is_listed}
use Rattle.token_lists.specs.declared.Build.{Build}
use Rattle.token_lists.specs.Table.{Entry, tokens_at}
use Rattle.token_lists.specs.Accounts.{Moves, Keeps}
use Rattle.meanings.specs.Holding.{Lasts}
use Rattle.save_stack.specs.declared.GroupKind.{GroupKind}
use Rattle.save_stack.specs.declared.Saved.{Saved}
use Rattle.save_stack.specs.Groups.{below}
use Rattle.save_stack.specs.Closing.{kind_last}
use Rattle.equivalents.specs.Locations.{V}
use Rattle.equivalents.specs.Tables.{Tables}
use Rattle.equivalents.specs.Groups.{Groups, depth, closed, uncovered, tokens_after, current_group}
use Rattle.equivalents.specs.Holding.{lists_of_table, lists_of_saved, lists_of_entries, lists_held, lists_outside}
use Rattle.eqtb_save.specs.Table.{Table, begun_by}
use Rattle.eqtb_save.specs.Holding as eqtb
use Rattle.input_stack.specs.Pending.{Pending, times}
use Rattle.input_stack.specs.View.{pending}
use Rattle.input_stack.specs.Stacks.{IsStack}
use Rattle.input_stack.specs.declared.stack.InputStack.{InputStack}
use Rattle.input_stack.proofs.Helds.{others}
use Rattle.input_state.specs.HeldLists.{HeldLists}
use Rattle.input_state.specs.Macros.{KeepsLists}
use Rattle.input_state.specs.HeldViews.{named, IsCall, texts, lists_of, all_builds, cells_of, puts_in, AreFronts, IsApart, IsDefined, IsSound}
use Rattle.input_state.specs.Callings.{NotCalling}
use Rattle.input_state.specs.declared.gathering.Gathering as code
use Rattle.input_state.proofs.Counting.{some, some_one, one_some, is_one, times_append}
use Rattle.input_state.proofs.Shares.{listed_once}
use Rattle.input_state.proofs.Sharing.{Moved, moved}
use Rattle.input_state.proofs.Sources.{all_fronts}
use Rattle.input_state.proofs.ListViews.{moved_view, macros_moved}
use Rattle.input_state.proofs.Letting.{no_call}

-- WHAT IS HELD BEHIND A GROUP

counted : (ns : List ℕ) (h : ℕ) → is_listed ns h ≡ true → 0 < times h ns
counted ns h is =
    let one : some (times h ns) ≡ 1 = sym (listed_once h ns) ∙ ap (λ (b : Bool). cond b 1 0) is in
    one_some (times h ns) one

listed : (ns : List ℕ) (h : ℕ) → 0 < times h ns → is_listed ns h ≡ true
listed ns h more = is_one (is_listed ns h) (listed_once h ns ∙ some_one (times h ns) more)

entries_below : (es : List (List (Saved V))) (h : ℕ) → times h (lists_of_entries (below es)) ≤ times h (lists_of_entries es)
entries_below [] h = omega arith
entries_below (e ∷ es) h = omega (arith, times_append h (lists_of_saved e) (lists_of_entries es))

map_below : (now : Tables) (outer : List Tables) (all : List ℕ) → ((h : ℕ) → times h (lists_of_table now) ≤ times h all) →
    ((h : ℕ) → is_listed (lists_outside outer) h ≡ true → is_listed all h ≡ true) → (h : ℕ) → 0 < times h (lists_of_table (uncovered now outer)) → 0 < times h all
map_below now [] all within outside h more = omega (arith, more, within h)
map_below now (m ∷ ms) all within outside h more =
    counted all h (outside h (listed (lists_outside (m ∷ ms)) h (omega (arith, more, times_append h (lists_of_table m) (lists_outside ms)))))

either_some : (a b c : ℕ) → (0 < a → 0 < c) → (0 < b → 0 < c) → 0 < a + b → 0 < c
either_some a b c left right more = elim (cases_lt 0 a) [
  | inl here ↦ left here
  | inr none ↦ right (omega (arith, none, more))
]

none_then : (a b : ℕ) → (0 < b → 0 < a) → a ≡ 0 → b ≡ 0
none_then a b before none = elim (cases_lt 0 b) [
  | inl more ↦ absurd (omega (arith, before more, none))
  | inr less ↦ omega (arith, less)
]

pub was_held : (g : Groups) → ((h : ℕ) → is_listed (lists_outside g.outer) h ≡ true → is_listed (lists_held g) h ≡ true) →
    (h : ℕ) → 0 < times h (lists_held (closed g)) → 0 < times h (lists_held g)
was_held g outside h more =
    let all = λ (k : ℕ). times_append k (lists_of_table g.now) (lists_of_entries g.entries) in
    either_some (times h (lists_of_table (uncovered g.now g.outer))) (times h (lists_of_entries (below g.entries))) (times h (lists_held g))
    (map_below g.now g.outer (lists_held g) (λ k. omega (arith, all k)) outside h)
    (λ k. omega (arith, k, all h, entries_below g.entries h))
    (omega (arith, more, times_append h (lists_of_table (uncovered g.now g.outer)) (lists_of_entries (below g.entries))))

-- THE GROUP HAS A KIND

has_last : (ks : List GroupKind) → 0 < length ks → kind_last ks ≡ None → ⊥
has_last [] more = absurd (omega (arith, more))
has_last (k ∷ []) more = λ e. cc
has_last (k ∷ l ∷ ks) more = has_last (l ∷ ks) (omega arith)

abbrev group_gone : Table → Table
group_gone m = record m { groups = closed m.groups; closing = tokens_after m.groups; ending = current_group m.groups }

by_kind : (m : Table) (o : Option GroupKind) → (o ≡ None → ⊥) → begun_by o m ≡ record m { groups = closed m.groups; closing = tokens_after m.groups; ending = o }
by_kind m None not = absurd (not refl)
by_kind m (Some kind) not = refl

module _ (old new : List (Option Entry)) (s : InputStack) (making : Option Build) (items : List Build) (m n : Table) (k : code.Gathering) (sizes : Sizes) (capacity : ℕ)
    (sound : IsSound old s making items (named m k) sizes capacity) (v : HeldLists) (is : lists_of old (pending old s) making items (named m k) sizes ≡ v)
    (deep : 0 < depth v.groups) (calls : v.call ≡ NotCalling)
    (outside : (h : ℕ) → is_listed (lists_outside m.groups.outer) h ≡ true → is_listed (lists_held m.groups) h ≡ true)
    (after : n ≡ begun_by (current_group m.groups) m) (moves : Moves old new (eqtb.held m) (eqtb.held n)) (keeps : Keeps old new (eqtb.held m))
    (lasting : Lasts old new) (size : length new ≡ length old) where
  gone : n ≡ group_gone m
  gone = after ∙ by_kind m (current_group m.groups) (has_last m.groups.kinds (subst (λ (w : HeldLists). 0 < depth w.groups) (sym is) deep))

  held_before : (h : ℕ) → 0 < eqtb.held n h → 0 < eqtb.held m h
  held_before h more = was_held m.groups outside h (subst (λ (t : Table). 0 < eqtb.held t h) gone more)

  still_none : (h : ℕ) → eqtb.held m h ≡ 0 → eqtb.held n h ≡ 0
  still_none h none = none_then (eqtb.held m h) (eqtb.held n h) (held_before h) none

  stand : IsStack new s × (pending new s ≡ pending old s)
  stand = others s old new (eqtb.held m) (eqtb.held n) sound.shared.stands (λ h. omega (arith, sound.shared.counted h)) moves keeps

  apart_now : IsApart (puts_in (pending old s)) (all_builds making items) (named n k)
  apart_now = record {
    sole = λ h. sound.shared.apart.sole h;
    apart = λ h more. omega (arith, sound.shared.apart.apart h more, still_none h);
  }

  macros_now : (h : ℕ) → 0 < eqtb.held n h → IsDefined (tokens_at new h)
  macros_now h more =
      subst IsDefined (sym (lasting.tokens h (omega (arith, more, moves h, sound.shared.counted h)))) (sound.shared.all_lists h (held_before h more))

  moved_now : Moved old new s (named n k) (all_builds making items)
  moved_now =
      moved old new s s (named m k) (named n k) [] (all_builds making items) sound.shared stand.0
      (subst (λ (p : Pending). AreFronts (puts_in p)) (sym stand.1) sound.shared.fronts)
      (subst (λ (p : Pending). IsApart (puts_in p) (all_builds making items) (named n k)) (sym stand.1) apart_now)
      (λ h more. sound.shared.listed h (subst (λ (p : Pending). 0 < times h (cells_of (puts_in p))) stand.1 more))
      (λ h. omega (arith, moves h))
      (record { tokens = λ h l. keeps.tokens h (omega (arith, l)); places = λ h l. keeps.places h (omega (arith, l)) })
      lasting.tokens macros_now (λ h. refl)

  pub closed_sound : IsSound new s making items (named n k) sizes capacity
  closed_sound = record {
    shared = moved_now.reheld.shared;
    sized = record {
      memory = size ∙ sound.sized.memory;
      levels = sound.sized.levels;
      parameters = sound.sized.parameters;
      equivalents = ap (λ (t : Table). t.sizes) gone ∙ sound.sized.equivalents;
      room = sound.sized.room;
      ranges = sound.sized.ranges;
    };
    call = subst (λ (g : code.Gathering). IsCall new n g) (sym (no_call old k (ap (λ (w : HeldLists). w.call) is ∙ calls))) tt;
  }

  pub closed_view : lists_of new (pending new s) making items (named n k) sizes ≡
      record v { groups = closed v.groups; closing = tokens_after v.groups; ending = current_group v.groups; lists = texts new }
  closed_view =
      let p = pending old s in
      moved_view old new s (named n k) sizes making items moved_now
      ∙ ap (λ (q : Pending). record (lists_of old q making items (named n k) sizes) { lists = texts new }) stand.1
      ∙ ap (λ (t : Table). record (lists_of old p making items (named t k) sizes) { lists = texts new }) gone
      ∙ ap (λ (w : HeldLists). record w { groups = closed w.groups; closing = tokens_after w.groups; ending = current_group w.groups; lists = texts new }) is

  pub closed_macros : KeepsLists (lists_held n.groups) (all_fronts new (pending new s)) v.lists (texts new)
  closed_macros = macros_moved old new s (named n k) sizes (all_builds making items) v.lists moved_now (ap (λ (w : HeldLists). w.lists) is)
