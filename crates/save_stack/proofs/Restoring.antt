-- A group's saved values are taken back one by one, and then its tokens.
use Rattle.std.proofs.Common.{◌≡◌, ℕ, ◌+◌, ◌-◌, ◌<◌, List, [], ◌∷◌, ◌++◌, length, take, Option, Some, None, refl, sym, ap, ◌∙◌, arith}
use Rattle.std.proofs.lemmas.Option.{none-some, same_Some}
use Rattle.tex_defs.specs.declared.Token.{Token}
use Rattle.save_stack.specs.declared.GroupKind.{GroupKind}
use Rattle.save_stack.specs.declared.Saved.{Saved}
use Rattle.save_stack.specs.declared.Closed.{Closed}
use Rattle.save_stack.specs.declared.Closed.TheVariants.{After, Done}
use Rattle.save_stack.specs.Groups.{Stack, depth, top, below, set_top, took_back, gone, dropped, back_values, back_levels, last_entry, but_last, restored, undo_levels}
use Rattle.save_stack.specs.Closing.{ClosesBy, closed, kind_last}

none_top : {X : Type 0} (gs : List (List X)) → last_entry gs ≡ None → top gs ≡ []
none_top [] is = refl
none_top ([] ∷ gs) is = refl
none_top ((e ∷ es) ∷ gs) is = absurd (none-some e (sym is))

last_pushed : (ks : List GroupKind) (k : GroupKind) → kind_last (ks ++ k ∷ []) ≡ Some k
last_pushed [] k = refl
last_pushed (a ∷ []) k = refl
last_pushed (a ∷ b ∷ ks) k = last_pushed (b ∷ ks) k

pub last_of : (ts : List (List Token)) (t : Token) → last_entry ts ≡ Some t → top ts ≡ t ∷ top (but_last ts)
last_of [] t is = absurd (none-some t is)
last_of ([] ∷ ts) t is = absurd (none-some t is)
last_of ((x ∷ xs) ∷ ts) t is = ap (λ (y : Token). y ∷ xs) (same_Some x t is)

but_set : (xs : List Token) (ts : List (List Token)) (t : Token) → last_entry (set_top xs ts) ≡ Some t → but_last (set_top xs ts) ≡ set_top (top (but_last (set_top xs ts))) ts
but_set xs [] t is = absurd (none-some t is)
but_set [] (y ∷ ts) t is = absurd (none-some t is)
but_set (x ∷ xs) (y ∷ ts) t is = refl

below_set : (xs : List Token) (ts : List (List Token)) → below (set_top xs ts) ≡ below ts
below_set xs [] = refl
below_set xs (y ∷ ts) = refl

append_none : (c : List Token) (ts : List Token) → ts ≡ [] → c ++ ts ≡ c
append_none [] ts is = is
append_none (x ∷ c) ts is = ap (λ (xs : List Token). x ∷ xs) (append_none c ts is)

top_same : {X : Type 0} (xs : List (List X)) → set_top (top xs) xs ≡ xs
top_same [] = refl
top_same (x ∷ xs) = refl

module _ {V : Type 0} where
  abbrev mk : Stack V → List (List V) → List ℕ → List (List (Saved V)) → List (List Token) → Stack V
  mk s maps levels entries tokens = record { maps = maps; levels = levels; entries = entries; tokens = tokens; kinds = s.kinds; size = s.size; most = s.most }

  maps_restored : (x : List V) (ms : List (List V)) → set_top (top (below (set_top x ms))) (set_top x ms) ≡ set_top (top (below ms)) ms
  maps_restored x [] = refl
  maps_restored x (m ∷ ms) = refl

  entries_restored : (gs : List (List (Saved V))) → set_top [] (but_last gs) ≡ set_top [] gs
  entries_restored [] = refl
  entries_restored ([] ∷ gs) = refl
  entries_restored ((e ∷ es) ∷ gs) = refl

  levels_restored : (e : Saved V) (l : List ℕ) (gs : List (List (Saved V))) → last_entry gs ≡ Some e → undo_levels (top (but_last gs)) (back_levels e l) ≡ undo_levels (top gs) l
  levels_restored e l [] is = absurd (none-some e is)
  levels_restored e l ([] ∷ gs) is = absurd (none-some e is)
  levels_restored e l ((x ∷ g) ∷ gs) is = ap (λ (y : Saved V). undo_levels g (back_levels y l)) (sym (same_Some x e is))

  restored_back : (s : Stack V) (e : Saved V) → last_entry s.entries ≡ Some e → restored (took_back (Some e) s) ≡ restored s
  restored_back s e is =
      let x = back_values e (top s.maps) s.levels in
      ap (λ (ms : List (List V)). mk s ms (restored (took_back (Some e) s)).levels (restored (took_back (Some e) s)).entries s.tokens) (maps_restored x s.maps)
      ∙ ap (λ (l : List ℕ). mk s (restored s).maps l (restored (took_back (Some e) s)).entries s.tokens) (levels_restored e s.levels s.entries is)
      ∙ ap (λ (gs : List (List (Saved V))). mk s (restored s).maps (restored s).levels gs s.tokens) (entries_restored s.entries)

  -- the entry that was taken back
  pub is_entry : (o : Option (Saved V)) (s : Stack V) (y : ℕ × V) → Some y ≡ gone o s → (e : Saved V) × (o ≡ Some e) × (y ≡ (e.loc, dropped e (top s.maps) s.levels))
  is_entry None s y is = absurd (none-some y (sym is))
  is_entry (Some e) s y is = (e, refl, same_Some y (e.loc, dropped e (top s.maps) s.levels) is)

  no_entry : (o : Option (Saved V)) (s : Stack V) → None ≡ gone o s → o ≡ None
  no_entry None s is = refl
  no_entry (Some e) s is = absurd (none-some (let p : ℕ × V = (e.loc, dropped e (top s.maps) s.levels) in p) is)

  restored_taken-by : (s : Stack V) (o : Option (Saved V)) → last_entry s.entries ≡ o → restored (took_back o s) ≡ restored s
  restored_taken-by s None is = refl
  restored_taken-by s (Some e) is = restored_back s e is

  pub restored_taken : (s s' : Stack V) → s' ≡ took_back (last_entry s.entries) s → restored s' ≡ restored s
  restored_taken s s' is = ap (λ (k : Stack V). restored k) is ∙ restored_taken-by s (last_entry s.entries) refl

  pub kinds_taken : (s s' : Stack V) → s' ≡ took_back (last_entry s.entries) s → (s'.kinds ≡ s.kinds) × ((s'.tokens ≡ s.tokens) × (s'.size ≡ s.size))
  kinds_taken s s' is = (ap (λ (k : Stack V). k.kinds) is ∙ kinds_back (last_entry s.entries), (ap (λ (k : Stack V). k.tokens) is ∙ tokens_back (last_entry s.entries), ap (λ (k : Stack V). k.size) is ∙ size_back (last_entry s.entries)))
    where
      kinds_back : (o : Option (Saved V)) → (took_back o s).kinds ≡ s.kinds
      kinds_back None = refl
      kinds_back (Some e) = refl

      tokens_back : (o : Option (Saved V)) → (took_back o s).tokens ≡ s.tokens
      tokens_back None = refl
      tokens_back (Some e) = refl

      size_back : (o : Option (Saved V)) → (took_back o s).size ≡ s.size
      size_back None = refl
      size_back (Some e) = refl

  none_same : (gs : List (List (Saved V))) → last_entry gs ≡ None → set_top [] gs ≡ gs
  none_same [] is = refl
  none_same ([] ∷ gs) is = refl
  none_same ((e ∷ es) ∷ gs) is = absurd (none-some e (sym is))

  -- once no entry is left
  pub ended : (s s' : Stack V) → s' ≡ took_back (last_entry s.entries) s → None ≡ gone (last_entry s.entries) s → top s.maps ≡ top (below s.maps) → (s' ≡ s) × (last_entry s'.entries ≡ None) × (restored s ≡ s)
  ended s s' is out same =
      let none = no_entry (last_entry s.entries) s out in
      let here : s' ≡ s = is ∙ ap (λ (o : Option (Saved V)). took_back o s) none in (
        here,
        ap (λ (k : Stack V). last_entry k.entries) here ∙ none,
        ap (λ (m : List V). mk s (set_top m s.maps) (undo_levels (top s.entries) s.levels) (set_top [] s.entries) s.tokens) (sym same)
            ∙ ap (λ (ms : List (List V)). mk s ms (undo_levels (top s.entries) s.levels) (set_top [] s.entries) s.tokens) (top_same s.maps)
            ∙ ap (λ (g : List (Saved V)). mk s s.maps (undo_levels g s.levels) (set_top [] s.entries) s.tokens) (none_top s.entries none)
            ∙ ap (λ (gs : List (List (Saved V))). mk s s.maps s.levels gs s.tokens) (none_same s.entries none),
      )

  -- ---- the tokens

  abbrev pub with_tokens : List Token → Stack V → Stack V
  with_tokens ts s = mk s s.maps s.levels s.entries (set_top ts s.tokens)

  -- what was handed out so far, and what the last step did
  abbrev pub Given : Stack V → List Token → Closed → Stack V → Type 0
  Given old c (After t) g = (c ++ t ∷ top g.tokens ≡ top old.tokens) × (g ≡ with_tokens (top g.tokens) old)
  Given old c (Done k) g = (c ≡ top old.tokens) × (g ≡ closed old) × (kind_last old.kinds ≡ Some k)

  abbrev pub left_after : Closed → Stack V → ℕ
  left_after (After t) g = 1 + length (top g.tokens)
  left_after (Done k) g = 0

  pub step_given : (old g g' : Stack V) (c : List Token) (r : Closed) → c ++ top g.tokens ≡ top old.tokens → g ≡ with_tokens (top g.tokens) old → ClosesBy r g g' → Given old c r g'
  step_given old g g' c (After t) so_far is by =
      let rest : g'.tokens ≡ but_last g.tokens = ap (λ (k : Stack V). k.tokens) by.1 in
      let tokens_are : g.tokens ≡ set_top (top g.tokens) old.tokens = ap (λ (k : Stack V). k.tokens) is in
      let last_set : last_entry (set_top (top g.tokens) old.tokens) ≡ Some t = ap (λ (ts : List (List Token)). last_entry ts) (sym tokens_are) ∙ by.0 in
      let but : but_last g.tokens ≡ set_top (top (but_last g.tokens)) old.tokens =
      ap (λ (ts : List (List Token)). but_last ts) tokens_are ∙ but_set (top g.tokens) old.tokens t last_set
      ∙ ap (λ (ts : List (List Token)). set_top (top (but_last ts)) old.tokens) (sym tokens_are) in (
        ap (λ (ts : List Token). c ++ ts) (ap (λ (ts : List (List Token)). t ∷ top ts) rest ∙ sym (last_of g.tokens t by.0)) ∙ so_far,
        by.1
            ∙ ap (λ (k : Stack V). mk k k.maps k.levels k.entries (but_last g.tokens)) is
            ∙ ap (λ (ts : List (List Token)). mk old old.maps old.levels old.entries ts) (but ∙ ap (λ (ts : List (List Token)). set_top (top ts) old.tokens) (sym rest)),
      )
  step_given old g g' c (Done k) so_far is by = (
    sym (append_none c (top g.tokens) (none_top g.tokens by.0)) ∙ so_far,
    by.2 ∙ ap (λ (k : Stack V). closed k) is ∙ ap (λ (ts : List (List Token)). let x : Stack V = record { maps = below old.maps; levels = old.levels; entries = below old.entries; tokens = ts; kinds = take (depth old - 1) old.kinds; size = old.size; most = old.most } in x) (below_set (top g.tokens) old.tokens),
    ap (λ (x : Stack V). kind_last x.kinds) (sym is) ∙ ap (λ (ks : List GroupKind). kind_last ks) by.1 ∙ last_pushed (take (depth g - 1) g.kinds) k,
  )

  pub given_at_first : (old : Stack V) → old ≡ with_tokens (top old.tokens) old
  given_at_first old = ap (λ (ts : List (List Token)). mk old old.maps old.levels old.entries ts) (sym (top_same old.tokens))

  pub left_less : (old g g' : Stack V) (c : List Token) (t : Token) (r : Closed) → ClosesBy r g g' → left_after r g' < left_after (After t) g
  left_less old g g' c t (After u) by = omega (arith, ap length (last_of g.tokens u by.0), ap (λ (k : Stack V). length (top k.tokens)) by.1)
  left_less old g g' c t (Done k) by = omega arith
