-- Partial matches of a delimiter, and groups.
use Rattle.std.proofs.Common.{◌≡◌, ℕ, zero, suc, ◌-◌, ◌<◌, ◌≤◌, List, [], ◌∷◌, ◌++◌, length, take, drop, refl, sym, ap, ◌∙◌, arith, Bool, true, false, not, ◌&&◌, length-append}
use Rattle.std.specs.Prelude.{◌==◌, if◌then◌else◌}
use Rattle.std.proofs.lemmas.List.{take_at, drop_at, take-append-drop}
use Rattle.std.proofs.lemmas.Bool.{and_parts, and_from, eqb-true, true≢false, false_from_ne_true}
use Rattle.tex_defs.specs.declared.Token.{Token}
use Rattle.plain_tokens.specs.Arguments.{same, is_end, open_behind, open_after, all_close, is_balanced, is_prefix, are_same, partial, unmatched, is_delimited}
use Rattle.macro_call.proofs.ArgumentTokens.{same_true, are_same_true, are_same_refl, prefix_refl}

-- the list is what is unmatched and the partial match
pub joined : (ds : List Token) (n : ℕ) (t : List Token) → unmatched ds n t ++ partial ds n t ≡ t
joined ds n [] = refl
joined ds n (x ∷ xs) =
    elim ((n == 0) && is_prefix (x ∷ xs) ds) as (λ b. (if b then [] else x ∷ unmatched ds (open_behind n x) xs) ++ (if b then x ∷ xs else partial ds (open_behind n x) xs) ≡ x ∷ xs) [
      | true ↦ refl
      | false ↦ ap (λ (ys : List Token). x ∷ ys) (joined ds (open_behind n x) xs)
    ]

and_more : (a b c : Bool) → (b ≡ false → c ≡ false) → (a && b) ≡ false → (a && c) ≡ false
and_more true b c f h = f h
and_more false b c f h = refl

-- what is no front of the delimiter does not become one
pub longer : (ds t : List Token) (x : Token) → is_prefix t ds ≡ false → is_prefix (t ++ x ∷ []) ds ≡ false
longer ds [] x h = absurd (true≢false h)
longer [] (y ∷ ys) x h = refl
longer (d ∷ ds) (y ∷ ys) x h = and_more (same y d) (is_prefix ys ds) (is_prefix (ys ++ x ∷ []) ds) (longer ds ys x) h

-- One token more: only the partial match and this token have to be looked at.
unmatched_cases : (ds : List Token) (n : ℕ) (y : Token) (ys : List Token) (x : Token) (b : Bool) → ((n == 0) && is_prefix (y ∷ ys) ds) ≡ b →
    unmatched ds (open_behind n y) (ys ++ x ∷ []) ≡ unmatched ds (open_behind n y) ys ++ unmatched ds (open_after (open_behind n y) (unmatched ds (open_behind n y) ys)) (partial ds (open_behind n y) ys ++ x ∷ []) →
    unmatched ds n (y ∷ ys ++ x ∷ []) ≡ (if b then [] else y ∷ unmatched ds (open_behind n y) ys) ++ unmatched ds (open_after n (if b then [] else y ∷ unmatched ds (open_behind n y) ys)) ((if b then y ∷ ys else partial ds (open_behind n y) ys) ++ x ∷ [])
unmatched_cases ds n y ys x true h ih = refl
unmatched_cases ds n y ys x false h ih =
    let e : ((n == 0) && is_prefix (y ∷ ys ++ x ∷ []) ds) ≡ false = and_more (n == 0) (is_prefix (y ∷ ys) ds) (is_prefix (y ∷ ys ++ x ∷ []) ds) (longer ds (y ∷ ys) x) h in
    rw e (ap (λ (zs : List Token). y ∷ zs) ih)

pub unmatched_on : (ds : List Token) (n : ℕ) (t : List Token) (x : Token) →
    unmatched ds n (t ++ x ∷ []) ≡ unmatched ds n t ++ unmatched ds (open_after n (unmatched ds n t)) (partial ds n t ++ x ∷ [])
unmatched_on ds n [] x = refl
unmatched_on ds n (y ∷ ys) x = unmatched_cases ds n y ys x ((n == 0) && is_prefix (y ∷ ys) ds) refl (unmatched_on ds (open_behind n y) ys x)

partial_cases : (ds : List Token) (n : ℕ) (y : Token) (ys : List Token) (x : Token) (b : Bool) → ((n == 0) && is_prefix (y ∷ ys) ds) ≡ b →
    partial ds (open_behind n y) (ys ++ x ∷ []) ≡ partial ds (open_after (open_behind n y) (unmatched ds (open_behind n y) ys)) (partial ds (open_behind n y) ys ++ x ∷ []) →
    partial ds n (y ∷ ys ++ x ∷ []) ≡ partial ds (open_after n (if b then [] else y ∷ unmatched ds (open_behind n y) ys)) ((if b then y ∷ ys else partial ds (open_behind n y) ys) ++ x ∷ [])
partial_cases ds n y ys x true h ih = refl
partial_cases ds n y ys x false h ih =
    let e : ((n == 0) && is_prefix (y ∷ ys ++ x ∷ []) ds) ≡ false = and_more (n == 0) (is_prefix (y ∷ ys) ds) (is_prefix (y ∷ ys ++ x ∷ []) ds) (longer ds (y ∷ ys) x) h in
    rw e ih

pub partial_on : (ds : List Token) (n : ℕ) (t : List Token) (x : Token) →
    partial ds n (t ++ x ∷ []) ≡ partial ds (open_after n (unmatched ds n t)) (partial ds n t ++ x ∷ [])
partial_on ds n [] x = refl
partial_on ds n (y ∷ ys) x = partial_cases ds n y ys x ((n == 0) && is_prefix (y ∷ ys) ds) refl (partial_on ds (open_behind n y) ys x)

-- a match that fits is all of the partial match
pub partial_all : (ds t : List Token) → is_prefix t ds ≡ true → partial ds 0 t ≡ t
partial_all ds [] h = refl
partial_all ds (y ∷ ys) h = rw h refl

pub unmatched_none : (ds t : List Token) → is_prefix t ds ≡ true → unmatched ds 0 t ≡ []
unmatched_none ds [] h = refl
unmatched_none ds (y ∷ ys) h = rw h refl

pub front_is_take : (ds t : List Token) (k : ℕ) → is_prefix t ds ≡ true → length t ≡ k → take k ds ≡ t
front_is_take ds [] zero h e = refl
front_is_take [] (y ∷ ys) k h e = absurd (true≢false (sym h))
front_is_take (d ∷ ds) (y ∷ ys) zero h e = absurd (omega arith)
front_is_take (d ∷ ds) (y ∷ ys) (suc k) h e =
    let parts : (same y d ≡ true) × (is_prefix ys ds ≡ true) = and_parts (same y d) (is_prefix ys ds) h in
    let same_head : y ≡ d = same_true y d parts.0 in
    let same_tail : take k ds ≡ ys = front_is_take ds ys k parts.1 (omega arith) in
    rw (same_head, same_tail) refl
front_is_take ds [] (suc k) h e = absurd (omega arith)

pub prefix_length : (u ds : List Token) → is_prefix u ds ≡ true → length u ≤ length ds
prefix_length [] ds h = omega arith
prefix_length (y ∷ ys) [] h = absurd (true≢false (sym h))
prefix_length (y ∷ ys) (d ∷ ds) h =
    let parts : (same y d ≡ true) × (is_prefix ys ds ≡ true) = and_parts (same y d) (is_prefix ys ds) h in
    omega (arith, prefix_length ys ds parts.1)

outside_more : (ds : List Token) (n : ℕ) (y : Token) (ys : List Token) (b : Bool) → ((n == 0) && is_prefix (y ∷ ys) ds) ≡ b →
    (0 < length (partial ds (open_behind n y) ys) → open_after (open_behind n y) (unmatched ds (open_behind n y) ys) ≡ 0) →
    0 < length (if b then y ∷ ys else partial ds (open_behind n y) ys) → open_after n (if b then [] else y ∷ unmatched ds (open_behind n y) ys) ≡ 0
outside_more ds n y ys true h ih l = eqb-true n 0 (and_parts (n == 0) (is_prefix (y ∷ ys) ds) h).0
outside_more ds n y ys false h ih l = ih l

-- a match begins outside all groups
pub begins_outside : (ds : List Token) (n : ℕ) (t : List Token) → 0 < length (partial ds n t) → open_after n (unmatched ds n t) ≡ 0
begins_outside ds n [] h = absurd (omega arith)
begins_outside ds n (y ∷ ys) h = outside_more ds n y ys ((n == 0) && is_prefix (y ∷ ys) ds) refl (begins_outside ds (open_behind n y) ys) h

pub open_after_on : (n : ℕ) (t : List Token) (x : Token) → open_after n (t ++ x ∷ []) ≡ open_behind (open_after n t) x
open_after_on n [] x = refl
open_after_on n (y ∷ ys) x = open_after_on (open_behind n y) ys x

pub all_close_on : (n : ℕ) (t : List Token) (x : Token) → all_close n t ≡ true → (is_end x && (open_after n t == 0)) ≡ false → all_close n (t ++ x ∷ []) ≡ true
all_close_on n [] x h e = rw e refl
all_close_on n (y ∷ ys) x h e =
    let parts : (not (is_end y && (n == 0)) ≡ true) × (all_close (open_behind n y) ys ≡ true) = and_parts (not (is_end y && (n == 0))) (all_close (open_behind n y) ys) h in
    and_from (not (is_end y && (n == 0))) (all_close (open_behind n y) (ys ++ x ∷ [])) parts.0 (all_close_on (open_behind n y) ys x parts.1 e)

pub all_close_front : (n : ℕ) (a b : List Token) → all_close n (a ++ b) ≡ true → all_close n a ≡ true
all_close_front n [] b h = refl
all_close_front n (y ∷ ys) b h =
    let parts : (not (is_end y && (n == 0)) ≡ true) × (all_close (open_behind n y) (ys ++ b) ≡ true) = and_parts (not (is_end y && (n == 0))) (all_close (open_behind n y) (ys ++ b)) h in
    and_from (not (is_end y && (n == 0))) (all_close (open_behind n y) ys) parts.0 (all_close_front (open_behind n y) ys b parts.1)

-- the delimiter behind a balanced list is found, as no suffix that is longer is a prefix of it
pub partial_of : (ds : List Token) (n : ℕ) (a : List Token) → open_after n a ≡ 0 → partial ds n (a ++ ds) ≡ ds
partial_of ds n [] h = rw h (partial_all ds ds (prefix_refl ds))
partial_of ds n (y ∷ ys) h =
    let no_prefix : is_prefix (y ∷ ys ++ ds) ds ≡ false = false_from_ne_true (is_prefix (y ∷ ys ++ ds) ds) (λ p. let l : length (y ∷ ys ++ ds) ≤ length ds = prefix_length (y ∷ ys ++ ds) ds p in omega (arith, length-append ys ds)) in
    let e : ((n == 0) && is_prefix (y ∷ ys ++ ds) ds) ≡ false = and_no (n == 0) (is_prefix (y ∷ ys ++ ds) ds) no_prefix in
    rw e (partial_of ds (open_behind n y) ys h)
  where
    and_no : (a b : Bool) → b ≡ false → (a && b) ≡ false
    and_no true b h = h
    and_no false b h = refl

pub delimited_is : (ds t : List Token) → is_delimited ds t ≡ true → (a : List Token) × (t ≡ a ++ ds) × (is_balanced a ≡ true)
delimited_is ds t h =
    let k : ℕ = length t - length ds in
    let parts : (are_same (drop k t) ds ≡ true) × (is_balanced (take k t) ≡ true) = and_parts (are_same (drop k t) ds) (is_balanced (take k t)) h in
    (take k t, sym (take-append-drop k t) ∙ ap (λ (b : List Token). take k t ++ b) (are_same_true (drop k t) ds parts.0), parts.1)

pub is_delimited_by : (ds t a : List Token) → t ≡ a ++ ds → is_balanced a ≡ true → is_delimited ds t ≡ true
is_delimited_by ds t a e h =
    let count : length a ≡ length t - length ds = omega (arith, ap length e, length-append a ds) in
    let f : take (length t - length ds) t ≡ a = ap (take (length t - length ds)) e ∙ take_at a ds (length t - length ds) count in
    let b : drop (length t - length ds) t ≡ ds = ap (drop (length t - length ds)) e ∙ drop_at a ds (length t - length ds) count in
    and_from (are_same (drop (length t - length ds) t) ds) (is_balanced (take (length t - length ds) t)) (rw b (are_same_refl ds)) (rw f h)

prefix_more : (ds : List Token) (n : ℕ) (y : Token) (ys : List Token) (b : Bool) → ((n == 0) && is_prefix (y ∷ ys) ds) ≡ b → is_prefix (partial ds (open_behind n y) ys) ds ≡ true →
    is_prefix (if b then y ∷ ys else partial ds (open_behind n y) ys) ds ≡ true
prefix_more ds n y ys true h ih = (and_parts (n == 0) (is_prefix (y ∷ ys) ds) h).1
prefix_more ds n y ys false h ih = ih

pub is_match : (ds : List Token) (n : ℕ) (t : List Token) → is_prefix (partial ds n t) ds ≡ true
is_match ds n [] = refl
is_match ds n (y ∷ ys) = prefix_more ds n y ys ((n == 0) && is_prefix (y ∷ ys) ds) refl (is_match ds (open_behind n y) ys)

longest_more : (ds : List Token) (n : ℕ) (y : Token) (ys v : List Token) (b : Bool) → ((n == 0) && is_prefix (y ∷ ys ++ v) ds) ≡ b → length v ≤ length (partial ds (open_behind n y) (ys ++ v)) →
    length v ≤ length (if b then y ∷ ys ++ v else partial ds (open_behind n y) (ys ++ v))
longest_more ds n y ys v true h ih = omega (arith, length-append ys v)
longest_more ds n y ys v false h ih = ih

pub is_longest : (ds : List Token) (n : ℕ) (u v : List Token) → open_after n u ≡ 0 → is_prefix v ds ≡ true → length v ≤ length (partial ds n (u ++ v))
is_longest ds n [] v o p = let e : partial ds n v ≡ v = ap (λ (k : ℕ). partial ds k v) o ∙ partial_all ds v p in omega (arith, ap length e)
is_longest ds n (y ∷ ys) v o p = longest_more ds n y ys v ((n == 0) && is_prefix (y ∷ ys ++ v) ds) refl (is_longest ds (open_behind n y) ys v o p)
