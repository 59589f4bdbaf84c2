-- A row of the one list of values, where one value changes or one more comes.
use Rattle.std.proofs.Common.{◌≡◌, ℕ, zero, suc, ◌+◌, ◌-◌, ◌<◌, ◌≤◌, List, [], ◌∷◌, ◌++◌, length, map, set, get_or, take, drop, refl, ap, ◌∙◌, arith, true}
use Rattle.std.specs.Prelude.{nat_le}
use Rattle.std.proofs.lemmas.Bool.{leb-true}
use Rattle.std.proofs.lemmas.List.{map-set, map-append, length-drop, length-take, get_or-map, get_or-take, get_or-drop}
use Rattle.equivalents.specs.Locations.{V}
use Rattle.equivalents.specs.Flat.{row}

drop_set : (a : ℕ) (m : List V) (i : ℕ) (v : V) → drop a (set m (a + i) v) ≡ set (drop a m) i v
drop_set zero m i v = let z : zero + i ≡ i = omega arith in ap (λ (k : ℕ). set m k v) z
drop_set (suc a) [] i v = refl
drop_set (suc a) (x ∷ m) i v = let s : suc a + i ≡ suc (a + i) = omega arith in ap (λ (k : ℕ). drop (suc a) (set (x ∷ m) k v)) s ∙ drop_set a m i v

drop_before : (a : ℕ) (m : List V) (k : ℕ) (v : V) → k < a → drop a (set m k v) ≡ drop a m
drop_before zero m k v before = absurd (omega arith)
drop_before (suc a) [] k v before = refl
drop_before (suc a) (x ∷ m) zero v before = refl
drop_before (suc a) (x ∷ m) (suc k) v before = drop_before a m k v (omega arith)

take_set : (n : ℕ) (m : List V) (i : ℕ) (v : V) → take n (set m i v) ≡ set (take n m) i v
take_set zero m i v = refl
take_set (suc n) [] i v = refl
take_set (suc n) (x ∷ m) zero v = refl
take_set (suc n) (x ∷ m) (suc i) v = ap (λ (xs : List V). x ∷ xs) (take_set n m i v)

take_behind : (n : ℕ) (m : List V) (i : ℕ) (v : V) → n ≤ i → take n (set m i v) ≡ take n m
take_behind zero m i v behind = refl
take_behind (suc n) [] i v behind = refl
take_behind (suc n) (x ∷ m) zero v behind = absurd (omega arith)
take_behind (suc n) (x ∷ m) (suc i) v behind = ap (λ (xs : List V). x ∷ xs) (take_behind n m i v (omega arith))

module _ {X : Type 0} (f : V → X) (cells : List V) (v : V) where
  -- the row in which the location is, and those before it
  pub here : (a n i : ℕ) → map f (row a n (set cells (a + i) v)) ≡ set (map f (row a n cells)) i (f v)
  here a n i = ap (λ (m : List V). map f (take n m)) (drop_set a cells i v) ∙ ap (λ (m : List V). map f m) (take_set n (drop a cells) i v) ∙ map-set f (row a n cells) i v

  pub last : (a i : ℕ) → map f (drop a (set cells (a + i) v)) ≡ set (map f (drop a cells)) i (f v)
  last a i = ap (λ (m : List V). map f m) (drop_set a cells i v) ∙ map-set f (drop a cells) i v

  pub behind : (a n b i : ℕ) → nat_le (a + n) b ≡ true → map f (row a n (set cells (b + i) v)) ≡ map f (row a n cells)
  behind a n b i is =
      let far : a + n ≤ b = leb-true (a + n) b is in
      let k = b + i - a in
      let at : b + i ≡ a + k = omega arith in
      ap (λ (j : ℕ). map f (row a n (set cells j v))) at ∙ ap (λ (m : List V). map f (take n m)) (drop_set a cells k v) ∙ ap (λ (m : List V). map f m) (take_behind n (drop a cells) k v (omega arith))

-- the rows behind the one in which the location is, which begins at `b` and has `w` locations
module _ (b w i : ℕ) (within : i < w) where
  pub before : {X : Type 0} (f : V → X) (cells : List V) (v : V) (a n : ℕ) → nat_le (b + w) a ≡ true → map f (row a n (set cells (b + i) v)) ≡ map f (row a n cells)
  before f cells v a n is =
      let far : b + w ≤ a = leb-true (b + w) a is in
      ap (λ (m : List V). map f (take n m)) (drop_before a cells (b + i) v (omega arith))

  pub before_last : {X : Type 0} (f : V → X) (cells : List V) (v : V) (a : ℕ) → nat_le (b + w) a ≡ true → map f (drop a (set cells (b + i) v)) ≡ map f (drop a cells)
  before_last f cells v a is =
      let far : b + w ≤ a = leb-true (b + w) a is in
      ap (λ (m : List V). map f m) (drop_before a cells (b + i) v (omega arith))

-- one name more
drop_push : (a : ℕ) (m : List V) (v : V) → a ≤ length m → drop a (m ++ v ∷ []) ≡ drop a m ++ v ∷ []
drop_push zero m v within = refl
drop_push (suc a) [] v within = absurd (omega arith)
drop_push (suc a) (x ∷ m) v within = drop_push a m v (omega arith)

take_push : (n : ℕ) (m : List V) (v : V) → n ≤ length m → take n (m ++ v ∷ []) ≡ take n m
take_push zero m v within = refl
take_push (suc n) [] v within = absurd (omega arith)
take_push (suc n) (x ∷ m) v within = ap (λ (xs : List V). x ∷ xs) (take_push n m v (omega arith))

pub row_push : {X : Type 0} (f : V → X) (cells : List V) (v : V) (a n : ℕ) → a + n ≤ length cells → map f (row a n (cells ++ v ∷ [])) ≡ map f (row a n cells)
row_push f cells v a n within = ap (λ (m : List V). map f (take n m)) (drop_push a cells v (omega (arith, within))) ∙ ap (λ (m : List V). map f m) (take_push n (drop a cells) v (omega (arith, within, length-drop a cells)))

pub last_push : {X : Type 0} (f : V → X) (cells : List V) (v : V) (a : ℕ) → a ≤ length cells → map f (drop a (cells ++ v ∷ [])) ≡ map f (drop a cells) ++ f v ∷ []
last_push f cells v a within = ap (λ (m : List V). map f m) (drop_push a cells v within) ∙ map-append f (drop a cells) (v ∷ [])

-- what stands in a row
pub row_at : {X : Type 0} (f : V → X) (m : List V) (a n i : ℕ) (x : X) (d : V) → i < n → a + i < length m → get_or (map f (row a n m)) i x ≡ f (get_or m (a + i) d)
row_at f m a n i x d within placed =
    get_or-map f (row a n m) i d x (omega (arith, length-take n (drop a m), length-drop a m))
    ∙ ap f (get_or-take n (drop a m) i d within ∙ get_or-drop a m i d)

pub last_at : {X : Type 0} (f : V → X) (m : List V) (a i : ℕ) (x : X) (d : V) → a + i < length m → get_or (map f (drop a m)) i x ≡ f (get_or m (a + i) d)
last_at f m a i x d placed = get_or-map f (drop a m) i d x (omega (arith, length-drop a m)) ∙ ap f (get_or-drop a m i d)
