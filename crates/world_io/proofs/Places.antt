use Rattle.std.proofs.Common.{rules, ◌≡◌, ℕ, zero, suc, List, [], ◌∷◌, get_or, set, ◌∙◌, sym, refl, Bool, true, false, arith, ap}
use Rattle.std.specs.Prelude.{Option, Some, None, nat_eq, if◌then◌else◌}
use Rattle.std.proofs.lemmas.Grind.{common_steps}
use Rattle.slab.specs.Slab.{Slab, get, Updates}

-- what stands at each place after one has changed
pub updates_at : {T : Type 0} (old new : Slab T) (key : ℕ) (slot : Option T) → Updates old new key slot → (i : ℕ) → get new i ≡ (if nat_eq i key then slot else get old i)
updates_at old new key slot u i = place_at (nat_eq i key) refl
  where
    place_at : (b : Bool) → nat_eq i key ≡ b → get new i ≡ (if b then slot else get old i)
    place_at true e = let k : i ≡ key = grind (arith, common_steps, e) in ap (λ (j : ℕ). get new j) k ∙ u.changed
    place_at false e = u.others i (grind (arith, common_steps, e))

-- what is seen of each place stays, where another value that looks the same stands at one of them
pub seen_alike : {T U : Type 0} (f : Option T → U) (slots : List (Option T)) (key : ℕ) (old new : T) → get_or slots key None ≡ Some old → f (Some new) ≡ f (Some old) → (i : ℕ) → f (get_or (set slots key (Some new)) i None) ≡ f (get_or slots i None)
seen_alike f [] key old new e a i = search rules
seen_alike f (o ∷ os) zero old new e a zero = a ∙ sym (ap f e)
seen_alike f (o ∷ os) zero old new e a (suc i) = refl
seen_alike f (o ∷ os) (suc key) old new e a zero = refl
seen_alike f (o ∷ os) (suc key) old new e a (suc i) = seen_alike f os key old new e a i

-- both ways of a choice are the same
pub either : {T : Type 0} (b : Bool) (x : T) → x ≡ (if b then x else x)
either true x = refl
either false x = refl
