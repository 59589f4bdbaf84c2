-- What each call does to the weight of what is held.
use Rattle.std.proofs.Common.{◌≡◌, inl, inr, ℕ, ◌+◌, ◌<◌, ◌≤◌, List, [], ◌∷◌, length, Bool, true, false, cond, set, get_or, Option, Some, None, refl, ap, ◌∙◌, sym, arith}
use Rattle.std.proofs.lemmas.Bool.{cases_lt, cases_eq}
use Rattle.std.proofs.lemmas.Option.{none-some, same_Some}
use Rattle.std.proofs.lemmas.List.{set_past, get_or_past}
use Rattle.std.proofs.lemmas.List.Sums.{sum_by-set, sum_by-cons, sum_by_push}
use Rattle.std.specs.Prelude.{sum_by}
use Rattle.save_stack.specs.declared.GroupKind.{GroupKind}
use Rattle.save_stack.specs.declared.Saved.{Saved}
use Rattle.save_stack.specs.declared.Closed.{Closed}
use Rattle.save_stack.specs.declared.Closed.TheVariants.{After, Done}
use Rattle.save_stack.specs.Groups.{Stack, level_at, top, below, put_top, put_all, set_top, add_top, defined, gdefined, opened, extended, each_longer, took_back, gone, dropped, back_values, last_entry, but_last, is_present, replaced, old_value, entry_for}
use Rattle.save_stack.specs.Closing.{ClosesBy}
use Rattle.save_stack.specs.Table.{split, split_from, cells}
use Rattle.save_stack.specs.Accounts.{saved_weight, groups_weight, weighs, taken_weight, mark_weight, array_weight}
use Rattle.save_stack.proofs.Split.{cells_open, cells_add}
use Rattle.save_stack.proofs.Undo.{skip_values, put_values, drop_saved, drop_present}

module _ {V : Type 0} (w : V → ℕ) where
  put_weight : (cs : List V) (k : ℕ) (x d : V) → d ≡ x → sum_by w (set cs k x) + w (get_or cs k d) ≡ sum_by w cs + w x
  put_weight cs k x d same = elim (cases_lt k (length cs)) [
    | inl within ↦ sum_by-set w cs k x d within
    | inr past ↦ omega (arith, ap (λ (ys : List V). sum_by w ys) (set_past cs k x past), ap (λ (y : V). w y) (get_or_past cs k d past ∙ same))
  ]

  top_put : (ms : List (List V)) (k : ℕ) (v : V) → top (put_top ms k v) ≡ set (top ms) k v
  top_put [] k v = refl
  top_put (m ∷ ms) k v = refl

  top_put_all : (ms : List (List V)) (k : ℕ) (v : V) → top (put_all ms k v) ≡ set (top ms) k v
  top_put_all [] k v = refl
  top_put_all (m ∷ ms) k v = refl

  weigh_present : (s : Stack V) (k : ℕ) (v : V) → is_present s k ≡ true → weighs w (defined s k v) + w (old_value s k v) ≡ weighs w s + w v
  weigh_present s k v is =
      let entries : groups_weight w (cond (is_present s k) s.entries (add_top (entry_for s k v) s.entries)) ≡ groups_weight w s.entries = ap (λ (b : Bool). groups_weight w (cond b s.entries (add_top (entry_for s k v) s.entries))) is in
      omega (arith, entries, ap (λ (m : List V). sum_by w m) (top_put s.maps k v), put_weight (top s.maps) k v v refl)

  weight_add : (e : Saved V) (gs : List (List (Saved V))) → 0 < length gs → groups_weight w (add_top e gs) ≡ w e.value + groups_weight w gs
  weight_add e [] some = absurd (omega arith)
  weight_add e (g ∷ gs) some =
      omega (arith, sum_by-cons (λ (x : List (Saved V)). saved_weight w x) (e ∷ g) gs, sum_by-cons (λ (x : List (Saved V)). saved_weight w x) g gs, sum_by-cons (λ (x : Saved V). w x.value) e g)

  weigh_saved : (s : Stack V) (k : ℕ) (v : V) → is_present s k ≡ false → 0 < length s.entries → weighs w (defined s k v) ≡ w v + weighs w s
  weigh_saved s k v is some =
      let entries : groups_weight w (cond (is_present s k) s.entries (add_top (entry_for s k v) s.entries)) ≡ groups_weight w (add_top (entry_for s k v) s.entries) = ap (λ (b : Bool). groups_weight w (cond b s.entries (add_top (entry_for s k v) s.entries))) is in
      omega (arith, entries, weight_add (entry_for s k v) s.entries some, ap (λ (m : List V). sum_by w m) (top_put s.maps k v), put_weight (top s.maps) k v v refl)

  weigh_global : (s : Stack V) (k : ℕ) (v : V) → weighs w (gdefined s k v) + w (old_value s k v) ≡ weighs w s + w v
  weigh_global s k v = omega (arith, ap (λ (m : List V). sum_by w m) (top_put_all s.maps k v), put_weight (top s.maps) k v v refl)

  -- an entry is taken back
  back_weight : (e : Saved V) (t : List V) (l : List ℕ) → sum_by w (back_values e t l) + w (dropped e t l) ≡ sum_by w t + w e.value
  back_weight e t l = elim (cases_eq (level_at l e.loc) 0) [
    | inl z ↦ omega (arith, ap (λ (m : List V). sum_by w m) (skip_values e t l z), ap (λ (y : V). w y) (drop_saved e t l z))
    | inr p ↦ omega (arith, ap (λ (m : List V). sum_by w m) (put_values e t l p), ap (λ (y : V). w y) (drop_present e t l p), put_weight t e.loc e.value e.value refl)
  ]

  back_none : (e : Saved V) (l : List ℕ) → sum_by w (back_values e [] l) ≡ 0
  back_none e l = elim (cases_eq (level_at l e.loc) 0) [
    | inl z ↦ ap (λ (m : List V). sum_by w m) (skip_values e [] l z)
    | inr p ↦ ap (λ (m : List V). sum_by w m) (put_values e [] l p)
  ]

  top_back : (e : Saved V) (ms : List (List V)) (l : List ℕ) → sum_by w (top (set_top (back_values e (top ms) l) ms)) ≡ sum_by w (back_values e (top ms) l)
  top_back e [] l = sym (back_none e l)
  top_back e (m ∷ ms) l = refl

  less_weight : (e : Saved V) (gs : List (List (Saved V))) → last_entry gs ≡ Some e → groups_weight w (but_last gs) + w e.value ≡ groups_weight w gs
  less_weight e [] is = absurd (none-some e is)
  less_weight e ([] ∷ gs) is = absurd (none-some e is)
  less_weight e ((x ∷ g) ∷ gs) is =
      omega (arith, ap (λ (y : Saved V). w y.value) (same_Some x e is), sum_by-cons (λ (x : List (Saved V)). saved_weight w x) (x ∷ g) gs, sum_by-cons (λ (x : List (Saved V)). saved_weight w x) g gs, sum_by-cons (λ (x : Saved V). w x.value) x g)

  weigh_back : (s : Stack V) (e : Saved V) → last_entry s.entries ≡ Some e → weighs w (took_back (Some e) s) + w (dropped e (top s.maps) s.levels) ≡ weighs w s
  weigh_back s e is = omega (arith, less_weight e s.entries is, top_back e s.maps s.levels, back_weight e (top s.maps) s.levels)

  weigh_gone : (s : Stack V) (o : Option (Saved V)) → last_entry s.entries ≡ o → weighs w (took_back o s) + taken_weight w (gone o s) ≡ weighs w s
  weigh_gone s None is = omega arith
  weigh_gone s (Some e) is = weigh_back s e is

  pub weigh_taken : (s s' : Stack V) (y : Option (ℕ × V)) → s' ≡ took_back (last_entry s.entries) s → y ≡ gone (last_entry s.entries) s → weighs w s' + taken_weight w y ≡ weighs w s
  weigh_taken s s' y is out = omega (arith, ap (λ (k : Stack V). weighs w k) is, ap (λ (o : Option (ℕ × V)). taken_weight w o) out, weigh_gone s (last_entry s.entries) refl)

  -- what the answer says of the level
  was_present : (b : Bool) (x y : V) → Some y ≡ cond b (Some x) None → (b ≡ true) × (y ≡ x)
  was_present true x y is = (refl, same_Some y x is)
  was_present false x y is = absurd (none-some y (sym is))

  pub present_balances : (s s' : Stack V) (k : ℕ) (v y : V) → s' ≡ defined s k v → Some y ≡ replaced s k v → weighs w s' + w y ≡ weighs w s + w v
  present_balances s s' k v y is out =
      let was = was_present (is_present s k) (old_value s k v) y out in
      omega (arith, weigh_present s k v was.0, ap (λ (x : V). w x) was.1, ap (λ (q : Stack V). weighs w q) is)

  pub saved_balances : (s s' : Stack V) (k : ℕ) (v : V) → s' ≡ defined s k v → is_present s k ≡ false → 0 < length s.entries → weighs w s' + 0 ≡ weighs w s + w v
  saved_balances s s' k v is off some = omega (arith, weigh_saved s k v off some, ap (λ (q : Stack V). weighs w q) is)

  pub global_balances : (s s' : Stack V) (k : ℕ) (v y : V) → s' ≡ gdefined s k v → y ≡ old_value s k v → weighs w s' + w y ≡ weighs w s + w v
  global_balances s s' k v y is out = omega (arith, weigh_global s k v, ap (λ (x : V). w x) out, ap (λ (q : Stack V). weighs w q) is)

  -- the group goes
  weight_below : (gs : List (List (Saved V))) → last_entry gs ≡ None → groups_weight w (below gs) ≡ groups_weight w gs
  weight_below [] is = refl
  weight_below ([] ∷ gs) is = let none : List (Saved V) = [] in omega (arith, sum_by-cons (λ (x : List (Saved V)). saved_weight w x) none gs)
  weight_below ((e ∷ es) ∷ gs) is = absurd (none-some e (sym is))

  pub weigh_finish : (r : Closed) (s s' : Stack V) → ClosesBy r s s' → top s.maps ≡ top (below s.maps) → last_entry s.entries ≡ None → weighs w s' ≡ weighs w s
  weigh_finish (After token) s s' by same none = ap (λ (k : Stack V). weighs w k) by.1
  weigh_finish (Done kind) s s' by same none =
      ap (λ (k : Stack V). weighs w k) by.2
      ∙ omega (arith, weight_below s.entries none, ap (λ (m : List V). sum_by w m) same)

  pub weigh_opened : (s s' : Stack V) (kind : GroupKind) → s' ≡ opened s kind → weighs w s' ≡ weighs w s
  weigh_opened s s' kind is = ap (λ (k : Stack V). weighs w k) is ∙ let none : List (Saved V) = [] in omega (arith, sum_by-cons (λ (x : List (Saved V)). saved_weight w x) none s.entries)

  top_longer : (ms : List (List V)) (v : V) → 0 < length ms → sum_by w (top (each_longer ms v)) ≡ sum_by w (top ms) + w v
  top_longer [] v some = absurd (omega arith)
  top_longer (m ∷ ms) v some = sum_by_push w m v

  pub weigh_extended : (s s' : Stack V) (v : V) → s' ≡ extended s v → 0 < length s.maps → weighs w s' ≡ weighs w s + w v
  weigh_extended s s' v is some = ap (λ (k : Stack V). weighs w k) is ∙ omega (arith, top_longer s.maps v some)

  -- the array holds what its groups hold, where none of its values stands before the first mark
  cells_within : (os : List (Option (Saved V))) (gs : List (List (Saved V))) → cells (split_from os gs) ≤ length os + cells gs
  cells_within [] gs = omega arith
  cells_within (None ∷ os) gs = omega (arith, cells_within os ([] ∷ gs), cells_open gs)
  cells_within (Some e ∷ os) [] = omega (arith, cells_within os [])
  cells_within (Some e ∷ os) (g ∷ gs) = omega (arith, cells_within os ((e ∷ g) ∷ gs), cells_add e (g ∷ gs) (omega arith))

  weigh_from : (os : List (Option (Saved V))) (gs : List (List (Saved V))) → length os + cells gs ≡ cells (split_from os gs) → array_weight w os + groups_weight w gs ≡ groups_weight w (split_from os gs)
  weigh_from [] gs all = omega arith
  weigh_from (None ∷ os) gs all =
      let none : List (Saved V) = [] in
      let mark : Option (Saved V) = None in
      omega (arith, weigh_from os ([] ∷ gs) (omega (arith, all, cells_open gs)), sum_by-cons (λ (g : List (Saved V)). saved_weight w g) none gs, sum_by-cons (λ (o : Option (Saved V)). mark_weight w o) mark os)
  weigh_from (Some e ∷ os) [] all = absurd (omega (arith, all, cells_within os []))
  weigh_from (Some e ∷ os) (g ∷ gs) all =
      let it : Option (Saved V) = Some e in
      omega (arith, weigh_from os ((e ∷ g) ∷ gs) (omega (arith, all, cells_add e (g ∷ gs) (omega arith))), weight_add e (g ∷ gs) (omega arith), sum_by-cons (λ (o : Option (Saved V)). mark_weight w o) it os)

  pub weigh_array : (os : List (Option (Saved V))) → length os ≡ cells (split os) → array_weight w os ≡ groups_weight w (split os)
  weigh_array os all = let none : List (List (Saved V)) = [] in omega (arith, weigh_from os none (omega (arith, all)))
