-- What stays true while a group's saved values are taken back, and once the group has gone.
use Rattle.std.proofs.Common.{◌≡◌, inl, inr, ℕ, ◌+◌, ◌-◌, ◌<◌, ◌≤◌, List, [], ◌∷◌, length, Option, Some, refl, sym, ap, ap₂, ◌∙◌, subst, arith}
use Rattle.std.specs.Prelude.{map, IfSome}
use Rattle.std.proofs.lemmas.Bool.{cases_eq}
use Rattle.std.proofs.lemmas.Option.{none-some}
use Rattle.std.proofs.lemmas.List.{map-set, length-take}
use Rattle.std.proofs.lemmas.List.Sums.{sum_by-cons}
use Rattle.tex_defs.specs.declared.Sizes.{Sizes}
use Rattle.tex_defs.specs.declared.Token.{Token}
use Rattle.token_lists.specs.Table.{Entry, holders_at, IsHeld}
use Rattle.token_lists.specs.Accounts.{Moves, Keeps, none}
use Rattle.save_stack.specs.declared.GroupKind.{GroupKind}
use Rattle.save_stack.specs.declared.Saved.{Saved}
use Rattle.save_stack.specs.Groups.{Stack, level_at, held, below, top, set_top, took_back, gone, last_entry, but_last, back_values, restored}
use Rattle.save_stack.specs.Accounts.{weighs}
use Rattle.save_stack.specs.Closing.{closed}
use Rattle.save_stack.specs.Mapped.{mapped}
use Rattle.save_stack.proofs.Mapped.{closed_as, restored_as}
use Rattle.save_stack.proofs.Undo.{skip_values, put_values}
use Rattle.save_stack.proofs.Restoring.{is_entry, restored_taken}
use Rattle.equivalents.specs.Locations.{V}
use Rattle.equivalents.specs.Groups.{Groups, current_group}
use Rattle.equivalents.specs.Flat.{groups_of}
use Rattle.equivalents.specs.Holding.{value_list}
use Rattle.equivalents.specs.Laws.{IsWhole}
use Rattle.equivalents.proofs.Joins.{closes as closes_groups}
use Rattle.equivalents.proofs.Whole.{closes}
use Rattle.meanings.specs.Holding.{Lasts, without_holder}
use Rattle.meanings.proofs.Counted.{list_is_held}
use Rattle.eqtb_save.specs.Values.{numbered_value, categories_in}
use Rattle.eqtb_save.specs.Holding.{MarksLast}
use Rattle.eqtb_save.specs.Table.{Table, IsSound, mirrored, begun_by}
use Rattle.eqtb_save.proofs.Codes.{noted_set, noted_still}
use Rattle.eqtb_save.proofs.Held.{K, weight}
use Rattle.eqtb_save.proofs.Kept.{mk}
use Rattle.eqtb_save.proofs.Marks.{marks_last, same_length, then_marks}

-- THE CODES FOLLOW WHAT IS TAKEN BACK

top_mapped : (s : Stack K) → top (mapped numbered_value s).maps ≡ map numbered_value (top s.maps)
top_mapped s = of s.maps
  where
    of : (ms : List (List K)) → top (map (λ m. map numbered_value m) ms) ≡ map numbered_value (top ms)
    of [] = refl
    of (m ∷ ms) = refl

noted_back : (cs : List ℕ) (ms : List (List K)) (e : Saved K) (l : List ℕ) → cs ≡ categories_in (map numbered_value (top ms)) → mirrored cs (map numbered_value (top (set_top (back_values e (top ms) l) ms))) e.loc ≡ categories_in (map numbered_value (top (set_top (back_values e (top ms) l) ms)))
noted_back cs [] e l is = noted_still cs [] e.loc is
noted_back cs (m ∷ ms) e l is = elim (cases_eq (level_at l e.loc) 0) [
  | inl z ↦ subst (λ (u : List K). mirrored cs (map numbered_value u) e.loc ≡ categories_in (map numbered_value u)) (sym (skip_values e m l z)) (noted_still cs (map numbered_value m) e.loc is)
  | inr p ↦
      let new : map numbered_value (back_values e m l) ≡ _ = ap (λ (u : List K). map numbered_value u) (put_values e m l p) ∙ map-set numbered_value m e.loc e.value in
      subst (λ (u : List V). mirrored cs u e.loc ≡ categories_in u) (sym new) (noted_set cs (map numbered_value m) e.loc (numbered_value e.value) is)
]

noted_taken : (cs : List ℕ) (s s' : Stack K) (at : ℕ) (v : K) → cs ≡ categories_in (top (mapped numbered_value s).maps) → s' ≡ took_back (last_entry s.entries) s → Some (let p : ℕ × K = (at, v) in p) ≡ gone (last_entry s.entries) s → mirrored cs (top (mapped numbered_value s').maps) at ≡ categories_in (top (mapped numbered_value s').maps)
noted_taken cs s s' at v is taken out =
    let found = is_entry (last_entry s.entries) s (at, v) out in
    let e : Saved K = found.0 in
    let here : s' ≡ took_back (Some e) s = taken ∙ ap (λ (o : Option (Saved K)). took_back o s) found.1 in
    let back = noted_back cs s.maps e s.levels (is ∙ ap categories_in (top_mapped s)) in
    let map_is : top (mapped numbered_value s').maps ≡ map numbered_value (top (set_top (back_values e (top s.maps) s.levels) s.maps)) = top_mapped s' ∙ ap (λ (x : Stack K). map numbered_value (top x.maps)) here in
    subst (λ (m : List V). mirrored cs m at ≡ categories_in m) (sym map_is)
    (subst (λ (k : ℕ). mirrored cs (map numbered_value (top (set_top (back_values e (top s.maps) s.levels) s.maps))) k ≡ categories_in (map numbered_value (top (set_top (back_values e (top s.maps) s.levels) s.maps)))) (sym (ap (λ (p : ℕ × K). p.0) found.2)) back)

-- WHILE IT GOES

pub record IsGoing (lists0 : List (Option Entry)) (s0 : Stack K) (lists : List (Option Entry)) (s : Stack K) (cs : List ℕ) : Type 0 where
  pub moves : (h : ℕ) → holders_at lists h + weighs (weight h) s0 ≡ holders_at lists0 h + weighs (weight h) s
  pub kept : Keeps lists0 lists (λ h. weighs (weight h) s0)
  pub lasting : Lasts lists0 lists
  pub length : length lists ≡ length lists0
  pub marks : MarksLast lists0 lists
  pub same : restored s ≡ restored s0
  pub codes : cs ≡ categories_in (top (mapped numbered_value s).maps)

pub going_first : (lists : List (Option Entry)) (s : Stack K) (cs : List ℕ) → cs ≡ categories_in (top (mapped numbered_value s).maps) → IsGoing lists s lists s cs
going_first lists s cs is = record {
  moves = λ h. refl;
  kept = record { tokens = λ h more. refl; places = λ h more. refl };
  lasting = record { tokens = λ h some. refl; places = λ h some. refl };
  length = refl;
  marks = λ h some. refl;
  same = refl;
  codes = is;
}

module _ (lists0 lists : List (Option Entry)) (s0 s s' : Stack K) (cs : List ℕ) (y : K) (covers : (h : ℕ) → weighs (weight h) s0 ≤ holders_at lists0 h) (g : IsGoing lists0 s0 lists s cs) (account : (h : ℕ) → weighs (weight h) s' + weight h y ≡ weighs (weight h) s) where
  pub going_counted : IfSome (value_list (numbered_value y)) (λ id. IsHeld lists id)
  going_counted = list_is_held lists (value_list (numbered_value y)) (λ h. omega (arith, covers h, g.moves h, account h))

  pub going_on : (lists' : List (Option Entry)) (cs' : List ℕ) (at : ℕ) → s' ≡ took_back (last_entry s.entries) s → Some (let p : ℕ × K = (at, y) in p) ≡ gone (last_entry s.entries) s →
      Moves lists lists' (λ h. weight h y) none → Keeps lists lists' (λ h. weight h y) → Lasts lists lists' → lists' ≡ without_holder (value_list (numbered_value y)) lists → cs' ≡ mirrored cs (top (mapped numbered_value s').maps) at → IsGoing lists0 s0 lists' s' cs'
  going_on lists' cs' at taken out moves keeps lasts without codes = record {
    moves = λ h. omega (arith, g.moves h, account h, moves h);
    kept = record {
      tokens = λ h more. keeps.tokens h (omega (arith, more, covers h, g.moves h, account h)) ∙ g.kept.tokens h more;
      places = λ h more. keeps.places h (omega (arith, more, covers h, g.moves h, account h)) ∙ g.kept.places h more;
    };
    lasting = record {
      tokens = λ h some. lasts.tokens h some ∙ g.lasting.tokens h (omega (arith, some, moves h));
      places = λ h some. lasts.places h some ∙ g.lasting.places h (omega (arith, some, moves h));
    };
    length = same_length (value_list (numbered_value y)) lists lists' without ∙ g.length;
    marks = then_marks lists0 lists lists' (λ h. weight h y) g.marks moves (marks_last (value_list (numbered_value y)) lists lists' without);
    same = restored_taken s s' taken ∙ g.same;
    codes = codes ∙ noted_taken cs s s' at y g.codes taken out;
  }

but_less : (gs : List (List (Saved K))) (e : Saved K) → last_entry gs ≡ Some e → length (top (but_last gs)) < length (top gs)
but_less [] e is = absurd (none-some e is)
but_less ([] ∷ gs) e is = absurd (none-some e is)
but_less ((x ∷ es) ∷ gs) e is = omega arith

pub one_less : (s s' : Stack K) (at : ℕ) (y : K) → s' ≡ took_back (last_entry s.entries) s → Some (let p : ℕ × K = (at, y) in p) ≡ gone (last_entry s.entries) s → length (top s'.entries) < length (top s.entries)
one_less s s' at y taken out =
    let found = is_entry (last_entry s.entries) s (at, y) out in
    let here : s' ≡ took_back (Some found.0) s = taken ∙ ap (λ (o : Option (Saved K)). took_back o s) found.1 in
    omega (arith, but_less s.entries found.0 found.1, ap (λ (x : Stack K). length (top x.entries)) here)

-- THE GROUP HAS GONE

pub keeps_as : (old new : List (Option Entry)) (f g : ℕ → ℕ) → Keeps old new f → ((h : ℕ) → f h ≡ g h) → Keeps old new g
keeps_as old new f g keeps same = record {
  tokens = λ h more. keeps.tokens h (omega (arith, more, same h));
  places = λ h more. keeps.places h (omega (arith, more, same h));
}

pub top_within : (gs : List (List Token)) → length (top gs) ≤ held gs
top_within [] = omega arith
top_within (g ∷ gs) = omega (arith, sum_by-cons (λ (x : List Token). length x) g gs)

-- what the maps are seen as once the group has gone
gone_view : (s0 g : Stack K) → g ≡ closed (restored s0) → mapped numbered_value g ≡ closed (restored (mapped numbered_value s0))
gone_view s0 g is = ap (λ (x : Stack K). mapped numbered_value x) is ∙ closed_as numbered_value (restored s0) ∙ ap (λ (x : Stack V). closed x) (restored_as numbered_value s0)

pub gone_whole : (s0 g : Stack K) → g ≡ closed (restored s0) → IsWhole (mapped numbered_value s0) → 0 < length s0.kinds → IsWhole (mapped numbered_value g)
gone_whole s0 g is whole some = subst IsWhole (sym (gone_view s0 g is)) (closes (mapped numbered_value s0) whole some)

pub begun_table : (s0 g : Stack K) (t : Table) (closing0 : List Token) (ending0 : Option GroupKind) (sizes : Sizes) (ts : List Token) (k : GroupKind) → mk (groups_of (mapped numbered_value s0)) closing0 ending0 sizes ≡ t → IsWhole (mapped numbered_value s0) → 0 < length s0.kinds →
    g ≡ closed (restored s0) → ts ≡ top s0.tokens → current_group (groups_of (mapped numbered_value s0)) ≡ Some k → mk (groups_of (mapped numbered_value g)) ts (Some k) sizes ≡ begun_by (current_group t.groups) t
begun_table s0 g t closing0 ending0 sizes ts k view whole some is given kind =
    ap₂ (λ (x : Groups) (us : List Token). mk x us (Some k) sizes) (ap (λ (x : Stack V). groups_of x) (gone_view s0 g is) ∙ closes_groups (mapped numbered_value s0) whole some) given
    ∙ ap (λ (o : Option GroupKind). begun_by o (mk (groups_of (mapped numbered_value s0)) closing0 ending0 sizes)) (sym kind)
    ∙ ap (λ (u : Table). begun_by (current_group u.groups) u) view

-- the codes are those of the map below
codes_below : (cs : List ℕ) (s g : Stack K) → cs ≡ categories_in (top (mapped numbered_value s).maps) → g ≡ closed s → top s.maps ≡ top (below s.maps) → cs ≡ categories_in (top (mapped numbered_value g).maps)
codes_below cs s g is gone same =
    is ∙ ap categories_in (top_mapped s ∙ ap (λ (m : List K). map numbered_value m) same ∙ sym (top_mapped (closed s)) ∙ ap (λ (x : Stack K). top (mapped numbered_value x).maps) (sym gone))

pub gone_sound : (cs cs0 : List ℕ) (s0 s g : Stack K) (ts0 ts : List Token) (room0 room given : ℕ) (ending : Option GroupKind) (k : GroupKind) (sizes : Sizes) → IsSound cs0 (mapped numbered_value s0) ts0 room0 given ending sizes → 0 < length s0.kinds →
    cs ≡ categories_in (top (mapped numbered_value s).maps) → restored s ≡ restored s0 → restored s ≡ s → g ≡ closed s → top s.maps ≡ top (below s.maps) → sizes.save_size ≤ room → IsSound cs (mapped numbered_value g) ts room 0 (Some k) sizes
gone_sound cs cs0 s0 s g ts0 ts room0 room given ending k sizes is some codes same back gone below rooms =
    let begun : g ≡ closed (restored s0) = gone ∙ ap (λ (x : Stack K). closed x) (sym back ∙ same) in
    record {
      whole = gone_whole s0 g begun is.whole some;
      codes = codes_below cs s g codes gone below;
      save_size = ap (λ (x : Stack K). x.size) begun ∙ is.save_size;
      most = ap (λ (x : Stack K). x.most) begun ∙ is.most;
      rooms = rooms;
      levels = omega (arith, is.levels, ap (λ (x : Stack K). length x.kinds) begun, length-take (length s0.kinds - 1) s0.kinds);
      idle = λ e. absurd (none-some k (sym e));
    }
