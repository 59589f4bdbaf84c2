-- Looking up and changing what is read ahead of a reader.
use Rattle.std.proofs.Common.{◌≡◌, ◌≢◌, ℕ, zero, suc, ◌<◌, Bool, true, false, List, [], ◌∷◌, ◌++◌, length, get_or, refl, sym, ap, ◌∙◌, arith}
use Rattle.std.specs.Prelude.{nat_eq, if◌then◌else◌}
use Rattle.std.proofs.lemmas.Grind.{common_steps}
use Rattle.line_reader.specs.Ahead.{Ahead, IsWindowAt, is_begun, ahead_of, with_ahead}

pub is_same : (a b : ℕ) → a ≡ b → nat_eq a b ≡ true
is_same a b e = grind (arith, common_steps)

pub is_other : (a b : ℕ) → a ≢ b → nat_eq a b ≡ false
is_other a b e = grind (arith, common_steps)

found : (id : ℕ) (a : Ahead) (others : List Ahead) → a.reader ≡ id → IsWindowAt id (a ∷ others) 0
found id a others e =
    let t : nat_eq a.reader id ≡ true = is_same a.reader id e in
    record {
      below = omega arith;
      begun = ap (λ (b : Bool). if b then true else is_begun id others) t;
      reader = λ d. e;
      bytes = λ d. ap (λ (b : Bool). if b then a.bytes else ahead_of id others) (sym t);
      changed = λ bytes. ap (λ (b : Bool). if b then (record { reader = id; bytes = bytes }) ∷ others else a ∷ with_ahead id bytes others) (sym t);
    }

later : (id : ℕ) (a : Ahead) (others : List Ahead) (place : ℕ) → a.reader ≢ id → IsWindowAt id others place → IsWindowAt id (a ∷ others) (suc place)
later id a others place ne s =
    let f : nat_eq a.reader id ≡ false = is_other a.reader id ne in
    record {
      below = omega (arith, s.below);
      begun = ap (λ (b : Bool). if b then true else is_begun id others) f ∙ s.begun;
      reader = λ d. s.reader d;
      bytes = λ d. s.bytes d ∙ ap (λ (b : Bool). if b then a.bytes else ahead_of id others) (sym f);
      changed = λ bytes. ap (λ (xs : List Ahead). a ∷ xs) (s.changed bytes) ∙ ap (λ (b : Bool). if b then (record { reader = id; bytes = bytes }) ∷ others else a ∷ with_ahead id bytes others) (sym f);
    }

-- the first at which a reader stands
pub stands : (id : ℕ) (ahead : List Ahead) (place : ℕ) (d : Ahead) → place < length ahead → (get_or ahead place d).reader ≡ id → ((k : ℕ) → k < place → (get_or ahead k d).reader ≢ id) → IsWindowAt id ahead place
stands id [] place d below here before = absurd (omega arith)
stands id (a ∷ others) zero d below here before = found id a others here
stands id (a ∷ others) (suc place) d below here before =
    later id a others place (before 0 (omega arith)) (stands id others place d (omega arith) here (λ k lt. before (suc k) (omega arith)))

pub not_begun : (id : ℕ) (ahead : List Ahead) (d : Ahead) → ((k : ℕ) → k < length ahead → (get_or ahead k d).reader ≢ id) → is_begun id ahead ≡ false
not_begun id [] d none = refl
not_begun id (a ∷ others) d none =
    ap (λ (b : Bool). if b then true else is_begun id others) (is_other a.reader id (none 0 (omega arith))) ∙ not_begun id others d (λ k lt. none (suc k) (omega arith))

pub begun : (id : ℕ) (bytes : List ℕ) (ahead : List Ahead) → is_begun id (with_ahead id bytes ahead) ≡ true
begun id bytes [] = grind (arith, common_steps)
begun id bytes (a ∷ others) = let h : is_begun id (with_ahead id bytes others) ≡ true = begun id bytes others in grind (arith, common_steps)

pub ahead-with : (id : ℕ) (bytes : List ℕ) (ahead : List Ahead) → ahead_of id (with_ahead id bytes ahead) ≡ bytes
ahead-with id bytes [] = grind (arith, common_steps)
ahead-with id bytes (a ∷ others) = let h : ahead_of id (with_ahead id bytes others) ≡ bytes = ahead-with id bytes others in grind (arith, common_steps)

pub with-with : (id : ℕ) (bytes more : List ℕ) (ahead : List Ahead) → with_ahead id more (with_ahead id bytes ahead) ≡ with_ahead id more ahead
with-with id bytes more [] = grind (arith, common_steps)
with-with id bytes more (a ∷ others) = let h : with_ahead id more (with_ahead id bytes others) ≡ with_ahead id more others = with-with id bytes more others in grind (arith, common_steps)

-- a reader that isn't begun comes last
pub with-new : (id : ℕ) (bytes : List ℕ) (ahead : List Ahead) → is_begun id ahead ≡ false → with_ahead id bytes ahead ≡ ahead ++ (record { reader = id; bytes = bytes }) ∷ []
with-new id bytes [] h = refl
with-new id bytes (a ∷ others) h = grind (arith, common_steps, with-new id bytes others)

pub ahead-new : (id : ℕ) (ahead : List Ahead) → is_begun id ahead ≡ false → ahead_of id ahead ≡ []
ahead-new id [] h = refl
ahead-new id (a ∷ others) h = grind (arith, common_steps, ahead-new id others)

-- the bytes that are there
pub with-same : (id : ℕ) (ahead : List Ahead) → is_begun id ahead ≡ true → with_ahead id (ahead_of id ahead) ahead ≡ ahead
with-same id [] h = grind (arith, common_steps)
with-same id (a ∷ others) h = grind (arith, common_steps, with-same id others)

pub length-with : (id : ℕ) (bytes more : List ℕ) (ahead : List Ahead) → length (with_ahead id bytes ahead) ≡ length (with_ahead id more ahead)
length-with id bytes more [] = refl
length-with id bytes more (a ∷ others) = let h : length (with_ahead id bytes others) ≡ length (with_ahead id more others) = length-with id bytes more others in grind (arith, common_steps)
