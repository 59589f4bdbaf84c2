-- The category codes follow the innermost map.
use Rattle.std.proofs.Common.{◌≡◌, inl, inr, ℕ, zero, suc, ◌<◌, ◌≤◌, List, [], ◌∷◌, ◌++◌, length, Bool, cond, set, get_or, take, refl, sym, ap, ◌∙◌, arith}
use Rattle.std.specs.Prelude.{map}
use Rattle.std.proofs.lemmas.Bool.{cases_lt, lt-ltb, le-ltb}
use Rattle.std.proofs.lemmas.List.{map-set, set-get_or}
use Rattle.equivalents.specs.Locations.{V, category_of, zero_value}
use Rattle.eqtb_save.specs.Values.{categories_in}
use Rattle.eqtb_save.specs.Table.{mirrored}

take_set : (n : ℕ) (m : List V) (k : ℕ) (v : V) → take n (set m k v) ≡ set (take n m) k v
take_set zero m k v = refl
take_set (suc n) [] k v = refl
take_set (suc n) (x ∷ m) zero v = refl
take_set (suc n) (x ∷ m) (suc k) v = ap (λ (xs : List V). x ∷ xs) (take_set n m k v)

take_past : (n : ℕ) (m : List V) (k : ℕ) (v : V) → n ≤ k → set (take n m) k v ≡ take n m
take_past zero m k v past = refl
take_past (suc n) [] k v past = refl
take_past (suc n) (x ∷ m) zero v past = absurd (omega arith)
take_past (suc n) (x ∷ m) (suc k) v past = ap (λ (xs : List V). x ∷ xs) (take_past n m k v (omega arith))

take_push : (n : ℕ) (m : List V) (v : V) → n ≤ length m → take n (m ++ v ∷ []) ≡ take n m
take_push zero m v within = refl
take_push (suc n) [] v within = absurd (omega arith)
take_push (suc n) (x ∷ m) v within = ap (λ (xs : List V). x ∷ xs) (take_push n m v (omega arith))

-- more locations
pub codes_push : (m : List V) (v : V) → 256 ≤ length m → categories_in (m ++ v ∷ []) ≡ categories_in m
codes_push m v within = ap (λ (xs : List V). map category_of xs) (take_push 256 m v within)

codes_set : (m : List V) (k : ℕ) (v : V) → categories_in (set m k v) ≡ set (categories_in m) k (category_of v)
codes_set m k v = ap (λ (xs : List V). map category_of xs) (take_set 256 m k v) ∙ map-set category_of (take 256 m) k v

codes_past : (m : List V) (k : ℕ) (v : V) → 256 ≤ k → categories_in (set m k v) ≡ categories_in m
codes_past m k v past = ap (λ (xs : List V). map category_of xs) (take_set 256 m k v ∙ take_past 256 m k v past)

set_same : (m : List V) (k : ℕ) (v d : V) → set m k (get_or (set m k v) k d) ≡ set m k v
set_same [] k v d = refl
set_same (x ∷ m) zero v d = refl
set_same (x ∷ m) (suc k) v d = ap (λ (xs : List V). x ∷ xs) (set_same m k v d)

pub noted_in : (cs : List ℕ) (m : List V) (at : ℕ) → at < 256 → mirrored cs m at ≡ set cs at (category_of (get_or m at zero_value))
noted_in cs m at within = ap (λ (b : Bool). cond b (set cs at (category_of (get_or m at zero_value))) cs) (lt-ltb at 256 within)

noted_out : (cs : List ℕ) (m : List V) (at : ℕ) → 256 ≤ at → mirrored cs m at ≡ cs
noted_out cs m at past = ap (λ (b : Bool). cond b (set cs at (category_of (get_or m at zero_value))) cs) (le-ltb at 256 past)

-- what is mirrored of a location that was set
pub noted_set : (cs : List ℕ) (m : List V) (k : ℕ) (v : V) → cs ≡ categories_in m → mirrored cs (set m k v) k ≡ categories_in (set m k v)
noted_set cs m k v is = elim (cases_lt k 256) [
  | inl within ↦
      let x : V = get_or (set m k v) k zero_value in
      noted_in cs (set m k v) k within ∙ ap (λ (ds : List ℕ). set ds k (category_of x)) is ∙ sym (codes_set m k x) ∙ ap categories_in (set_same m k v zero_value)
  | inr past ↦ noted_out cs (set m k v) k past ∙ is ∙ sym (codes_past m k v past)
]

-- nothing is new where nothing was set
pub noted_still : (cs : List ℕ) (m : List V) (k : ℕ) → cs ≡ categories_in m → mirrored cs m k ≡ categories_in m
noted_still cs m k is = elim (cases_lt k 256) [
  | inl within ↦
      let x : V = get_or m k zero_value in
      noted_in cs m k within ∙ ap (λ (ds : List ℕ). set ds k (category_of x)) is ∙ sym (codes_set m k x) ∙ ap categories_in (set-get_or m k zero_value)
  | inr past ↦ noted_out cs m k past ∙ is
]
