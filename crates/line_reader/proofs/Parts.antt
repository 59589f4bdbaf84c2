-- Lines whose bytes come in pieces.
use Rattle.std.proofs.Common.{◌≡◌, ℕ, Bool, false, true, List, [], ◌∷◌, ◌++◌, refl, ap, sym, ◌∙◌, subst, arith, append_assoc}
use Rattle.std.specs.Prelude.{Option, Some, None, if◌then◌else◌}
use Rattle.std.proofs.lemmas.Grind.{common_steps}
use Rattle.plain_tokens.specs.Lines.{has_feed, before_feed, behind_feed, without_last, first_bytes}
use Rattle.world_io.specs.Contents.{FilesTold, SoFar, SameFiles}
use Rattle.line_reader.specs.Reading.{CameIn}

pub has-append : (xs ys : List ℕ) → has_feed xs ≡ false → has_feed (xs ++ ys) ≡ has_feed ys
has-append [] ys h = refl
has-append (x ∷ xs) ys h = grind (arith, common_steps, has-append xs ys)

pub before-append : (xs ys : List ℕ) → has_feed xs ≡ false → before_feed (xs ++ ys) ≡ xs ++ before_feed ys
before-append [] ys h = refl
before-append (x ∷ xs) ys h = grind (arith, common_steps, before-append xs ys)

pub behind-append : (xs ys : List ℕ) → has_feed xs ≡ false → behind_feed (xs ++ ys) ≡ behind_feed ys
behind-append [] ys h = refl
behind-append (x ∷ xs) ys h = grind (arith, common_steps, behind-append xs ys)

pub before-whole : (xs : List ℕ) → has_feed xs ≡ false → before_feed xs ≡ xs
before-whole [] h = refl
before-whole (x ∷ xs) h = grind (arith, common_steps, before-whole xs)

pub behind-whole : (xs : List ℕ) → has_feed xs ≡ false → behind_feed xs ≡ []
behind-whole [] h = refl
behind-whole (x ∷ xs) h = grind (arith, common_steps, behind-whole xs)

-- where there is a line feed, nothing behind it matters to the line
pub has-front : (xs ys : List ℕ) → has_feed xs ≡ true → has_feed (xs ++ ys) ≡ true
has-front [] ys h = absurd (cc)
has-front (x ∷ xs) ys h = grind (arith, common_steps, has-front xs ys)

pub before-front : (xs ys : List ℕ) → has_feed xs ≡ true → before_feed (xs ++ ys) ≡ before_feed xs
before-front [] ys h = absurd (cc)
before-front (x ∷ xs) ys h = grind (arith, common_steps, before-front xs ys)

pub behind-front : (xs ys : List ℕ) → has_feed xs ≡ true → behind_feed (xs ++ ys) ≡ behind_feed xs ++ ys
behind-front [] ys h = absurd (cc)
behind-front (x ∷ xs) ys h = grind (arith, common_steps, behind-front xs ys)

pub first_with : (xs : List ℕ) → has_feed xs ≡ true → first_bytes xs ≡ without_last 13 (before_feed xs)
first_with xs h = ap (λ (b : Bool). if b then without_last 13 (before_feed xs) else before_feed xs) h

pub first_without : (xs : List ℕ) → has_feed xs ≡ false → first_bytes xs ≡ xs
first_without xs h = ap (λ (b : Bool). if b then without_last 13 (before_feed xs) else before_feed xs) h ∙ before-whole xs h

-- what came in, call by call
so_far_none : (rest : Option (List ℕ)) → SoFar rest [] rest
so_far_none None = refl
so_far_none (Some r) = refl

so_far_more : (first next last : Option (List ℕ)) (got more : List ℕ) → SoFar first got next → SoFar next more last → SoFar first (got ++ more) last
so_far_more None None last got more h k = k
so_far_more None (Some y) last got more h k = absurd (cc)
so_far_more (Some x) None last got more h k = absurd h
so_far_more (Some x) (Some y) None got more h k = absurd k
so_far_more (Some x) (Some y) (Some z) got more h k = h ∙ ap (λ (r : List ℕ). got ++ r) k ∙ sym (append_assoc got more z)

pub came_none : (id : ℕ) (f : FilesTold) → CameIn id [] f f
came_none id f = record { so_far = so_far_none (f.rest id); only = record { file = λ n. refl; reading = λ i. refl; rest = λ i h. refl; writer = λ i. refl } }

pub came_more : (id : ℕ) (got more : List ℕ) (f f' f'' : FilesTold) → CameIn id got f f' → CameIn id more f' f'' → CameIn id (got ++ more) f f''
came_more id got more f f' f'' a b = record {
  so_far = so_far_more (f.rest id) (f'.rest id) (f''.rest id) got more a.so_far b.so_far;
  only = record {
    file = λ n. b.only.file n ∙ a.only.file n;
    reading = λ i. b.only.reading i ∙ a.only.reading i;
    rest = λ i h. b.only.rest i h ∙ a.only.rest i h;
    writer = λ i. b.only.writer i ∙ a.only.writer i;
  };
}

pub came_same : (id : ℕ) (got : List ℕ) (f f' f'' : FilesTold) → CameIn id got f f' → SameFiles f' f'' → CameIn id got f f''
came_same id got f f' f'' a b = record {
  so_far = subst (SoFar (f.rest id) got) (sym (b.rest id)) a.so_far;
  only = record {
    file = λ n. b.file n ∙ a.only.file n;
    reading = λ i. b.reading i ∙ a.only.reading i;
    rest = λ i h. b.rest i ∙ a.only.rest i h;
    writer = λ i. b.writer i ∙ a.only.writer i;
  };
}
