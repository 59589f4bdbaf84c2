-- Groups in lists.
use Rattle.std.proofs.Common.{zero, suc, ◌≡◌, ℕ, ◌+◌, ◌-◌, Bool, true, false, not, List, [], ◌∷◌, ◌++◌, Option, Some, None, refl, sym, ap, ◌∙◌, arith}
use Rattle.std.specs.Prelude.{if◌then◌else◌, ◌==◌, ◌&&◌}
use Rattle.std.proofs.lemmas.Bool.{true≢false, eqb-true, eq-eqb, ne_eqb}
use Rattle.std.proofs.lemmas.Option.{none-some}
use Rattle.tex_defs.specs.declared.Token.{Token}
use Rattle.tex_defs.specs.declared.Token.TheVariants.{Char, Named, Marked, Place, Number, EndPlaces}
use Rattle.plain_tokens.specs.Categories.{begin_group, end_group}
use Rattle.plain_tokens.specs.Tokens.{has_category}
use Rattle.list_builder.specs.Forms.{closes, is_brace}

-- two choices by one test
pub pick : {A B : Type 0} → (c : Bool) (p q : A) (r s : B) (a : A) (b : B) → (c ≡ true → r ≡ b → p ≡ a) → (c ≡ false → s ≡ b → q ≡ a) → (if c then r else s) ≡ b → (if c then p else q) ≡ a
pick true p q r s a b f g e = f refl e
pick false p q r s a b f g e = g refl e

pub both_left : (a b : Bool) → (a && b) ≡ true → a ≡ true
both_left true b e = refl
both_left false b e = e

pub both_right : (a b : Bool) → (a && b) ≡ true → b ≡ true
both_right true b e = e
both_right false b e = absurd (true≢false (sym e))

pub both : (a b : Bool) → a ≡ true → b ≡ true → (a && b) ≡ true
both true b e f = f
both false b e f = e

pub not_true : (a : Bool) → not a ≡ true → a ≡ false
not_true true e = sym e
not_true false e = refl

categories_apart : (category : ℕ) → (category == 2) ≡ true → (category == 1) ≡ false
categories_apart category e = ne_eqb category 1 (λ a. omega (arith, eqb-true category 2 e))

-- a `}` is no `{`
pub end_begins_not : (t : Token) → has_category end_group t ≡ true → has_category begin_group t ≡ false
end_begins_not (Char category code) e = categories_apart category e
end_begins_not (Named n) e = refl
end_begins_not (Marked n) e = refl
end_begins_not (Place c) e = refl
end_begins_not (Number n) e = refl
end_begins_not EndPlaces e = refl

no_brace_by : (b e : Bool) → (if b then true else e) ≡ false → (b ≡ false) × (e ≡ false)
no_brace_by true e h = absurd (true≢false h)
no_brace_by false e h = (refl, h)

pub no_brace : (t : Token) → is_brace t ≡ false → (has_category begin_group t ≡ false) × (has_category end_group t ≡ false)
no_brace t h = no_brace_by (has_category begin_group t) (has_category end_group t) h

pub closes_append : (n k : ℕ) (xs ys : List Token) → closes n xs ≡ Some k → closes n (xs ++ ys) ≡ closes k ys
closes_append n k [] ys e = ap (λ (o : Option ℕ). by o) e
  where
    by : Option ℕ → Option ℕ
    by None = None
    by (Some j) = closes j ys
closes_append n k (x ∷ xs) ys e =
    pick (has_category begin_group x) _ _ _ _ (closes k ys) (Some k) (λ c h. closes_append (n + 1) k xs ys h)
    (λ c g. pick (has_category end_group x) _ _ _ _ (closes k ys) (Some k)
    (λ d h. pick (n == 0) _ _ _ _ (closes k ys) (Some k) (λ z i. absurd (none-some k i)) (λ z i. closes_append (n - 1) k xs ys i) h)
    (λ d h. closes_append n k xs ys h) g) e

not_zero : (d n : ℕ) → (n == 0) ≡ false → ((d + n) == 0) ≡ false
not_zero d n e = ne_eqb (d + n) 0 (λ a. true≢false (sym (eq-eqb n 0 (omega arith)) ∙ e))

one_less : (d n : ℕ) → (n == 0) ≡ false → d + n - 1 ≡ d + (n - 1)
one_less d zero e = absurd (true≢false e)
one_less d (suc n) e = omega arith

shift_end : (d n k : ℕ) (xs : List Token) (z : Bool) → (n == 0) ≡ z → (if z then None else closes (n - 1) xs) ≡ Some k → (closes (n - 1) xs ≡ Some k → closes (d + (n - 1)) xs ≡ Some (d + k)) →
    (if (d + n) == 0 then None else closes (d + n - 1) xs) ≡ Some (d + k)
shift_end d n k xs true z e then_on = absurd (none-some k e)
shift_end d n k xs false z e then_on = rw (not_zero d n z) (ap (λ (j : ℕ). closes j xs) (one_less d n z) ∙ then_on e)

shifted : (d n k : ℕ) (xs : List Token) → closes n xs ≡ Some k → closes (d + n) xs ≡ Some (d + k)
shifted d n k [] e = ap (λ (o : Option ℕ). by o) e
  where
    by : Option ℕ → Option ℕ
    by None = None
    by (Some j) = Some (d + j)
shifted d n k (x ∷ xs) e =
    pick (has_category begin_group x) _ _ _ _ (Some (d + k)) (Some k) (λ c h. ap (λ (i : ℕ). closes i xs) (omega arith) ∙ shifted d (n + 1) k xs h)
    (λ c g. pick (has_category end_group x) _ _ _ _ (Some (d + k)) (Some k)
    (λ a h. shift_end d n k xs (n == 0) refl h (λ i. shifted d (n - 1) k xs i))
    (λ a h. shifted d n k xs h) g) e

-- a balanced list leaves the groups that are open
pub closes_inside : (d : ℕ) (xs : List Token) → closes 0 xs ≡ Some 0 → closes d xs ≡ Some d
closes_inside d xs e = ap (λ (i : ℕ). closes i xs) (omega arith) ∙ shifted d 0 0 xs e ∙ ap (λ (i : ℕ). Some i) (omega arith)
