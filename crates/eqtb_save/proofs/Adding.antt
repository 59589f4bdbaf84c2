-- Locations that are added at the outermost level.
use Rattle.std.proofs.Common.{◌≡◌, ℕ, ◌+◌, List, [], ◌∷◌, ◌++◌, length, map, replicate, refl, sym, ap, subst, ◌∙◌}
use Rattle.std.specs.List.{range_with_len}
use Rattle.std.proofs.lemmas.List.{replicate-append-replicate, length-append}
use Rattle.std.proofs.lemmas.List.FromFn.{map-range_with_len_more}
use Rattle.save_stack.specs.Groups.{Stack, extended}
use Rattle.save_stack.specs.Mapped.{mapped}
use Rattle.save_stack.proofs.Mapped.{extended_as}
use Rattle.equivalents.specs.Locations.{V}
use Rattle.eqtb_save.specs.Values.{numbered_value}
use Rattle.eqtb_save.specs.First.{Adds, with_all}
use Rattle.eqtb_save.proofs.Held.{K}

all_more : (s : Stack V) (vs : List V) (v : V) → with_all s (vs ++ v ∷ []) ≡ extended (with_all s vs) v
all_more s [] v = refl
all_more s (x ∷ vs) v = all_more (extended s x) vs v

all_joined : (s : Stack V) (vs ws : List V) → with_all (with_all s vs) ws ≡ with_all s (vs ++ ws)
all_joined s [] ws = refl
all_joined s (x ∷ vs) ws = all_joined (extended s x) vs ws

-- rows that follow one another
pub then_row : {s t u : Stack K} {vs ws : List V} → Adds s t vs → Adds t u ws → Adds s u (vs ++ ws)
then_row {s} {t} {u} {vs} {ws} first second = record { after = second.after ∙ ap (λ (x : Stack V). with_all x ws) first.after ∙ all_joined (mapped numbered_value s) vs ws }

-- one location
pub one_more : {s t u : Stack K} {vs : List V} (v : K) (x : V) → Adds s t vs → u ≡ extended t v → numbered_value v ≡ x → Adds s u (vs ++ x ∷ [])
one_more {s} {t} {u} {vs} v x done is value = record {
  after =
      ap (mapped numbered_value) is
      ∙ extended_as numbered_value t v
      ∙ ap (λ (y : Stack V). extended y (numbered_value v)) done.after
      ∙ ap (λ (y : V). extended (with_all (mapped numbered_value s) vs) y) value
      ∙ sym (all_more (mapped numbered_value s) vs x);
}

-- the next of a row of a function's values, and of a row of copies
pub next_of : {s t u : Stack K} (v : K) (f : ℕ → V) (a k j : ℕ) → a + k ≡ j → Adds s t (map f (range_with_len a k)) → u ≡ extended t v → numbered_value v ≡ f j → Adds s u (map f (range_with_len a (k + 1)))
next_of {s} {u = u} v f a k j next done is value = subst (λ (vs : List V). Adds s u vs) (sym (map-range_with_len_more f a k j next)) (one_more v (f j) done is value)

pub next_copy : {s t u : Stack K} (v : K) (x : V) (k : ℕ) → Adds s t (replicate k x) → u ≡ extended t v → numbered_value v ≡ x → Adds s u (replicate (k + 1) x)
next_copy {s} {u = u} v x k done is value = subst (λ (vs : List V). Adds s u vs) (replicate-append-replicate k 1 x) (one_more v x done is value)

pub whole_row : {s t : Stack K} (f : ℕ → V) (a k n : ℕ) → k ≡ n → Adds s t (map f (range_with_len a k)) → Adds s t (map f (range_with_len a n))
whole_row {s} {t} f a k n all done = subst (λ (j : ℕ). Adds s t (map f (range_with_len a j))) all done

pub longer_by : {X : Type 0} (s t : Stack X) (v : X) → t ≡ extended s v → length t.levels ≡ length s.levels + 1
longer_by {X} s t v is = ap (λ (x : Stack X). length x.levels) is ∙ length-append s.levels (0 ∷ [])
