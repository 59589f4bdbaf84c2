-- A list that is one group, met token by token.
use Rattle.std.proofs.Common.{◌≡◌, ℕ, zero, suc, ◌+◌, ◌-◌, ◌≤◌, List, [], ◌∷◌, length, take, drop, refl, sym, ap, ◌∙◌, arith, Bool, true, false, not, ◌&&◌, inl, inr}
use Rattle.std.specs.Prelude.{◌==◌, if◌then◌else◌}
use Rattle.std.proofs.lemmas.Bool.{eq-eqb, ne_eqb, cases_eq, true≢false}
use Rattle.tex_defs.specs.declared.Token.{Token}
use Rattle.plain_tokens.specs.Arguments.{is_begin, is_end, open_behind, open_after, all_close, without_last, ends_in_brace, is_group, without_braces}
use Rattle.macro_call.proofs.ArgumentTokens.{no_both}
use Rattle.macro_call.specs.Braces.{closes_last}

-- behind the first brace
abbrev Closes : ℕ → List Token → Bool
Closes n us = ends_in_brace us && (all_close n (without_last us) && (open_after n (without_last us) == 0))

last_by : (b e : Bool) (n : ℕ) → (if b then (n + 1) + 1 else if e then (n + 1) - 1 else n + 1) ≡ 0 → (e ≡ true) × (n ≡ 0)
last_by true e n h = absurd (omega arith)
last_by false true n h = (refl, omega arith)
last_by false false n h = absurd (omega arith)

one_by : (b e : Bool) (n : ℕ) → (b ≡ true → e ≡ false) → (e && (n == 0)) ≡ ((if b then (n + 1) + 1 else if e then (n + 1) - 1 else n + 1) == 0)
one_by true e n d = let f : e ≡ false = d refl in let z : ((n + 1) + 1 == 0) ≡ false = ne_eqb ((n + 1) + 1) 0 (λ q. omega arith) in rw (f, z) refl
one_by false true n d = let k : (n + 1) - 1 ≡ n = omega arith in rw k refl
one_by false false n d = let z : (n + 1 == 0) ≡ false = ne_eqb (n + 1) 0 (λ q. omega arith) in rw z refl

step_by : (b e : Bool) (n k : ℕ) → (b ≡ true → e ≡ false) → (if b then (n + 1) + 1 else if e then (n + 1) - 1 else n + 1) ≡ k + 1 → (not (e && (n == 0)) ≡ true) × ((if b then n + 1 else if e then n - 1 else n) ≡ k)
step_by true e n k d h = let f : e ≡ false = d refl in (rw f refl, omega arith)
step_by false true zero k d h = absurd (omega arith)
step_by false true (suc n) k d h = let f : (suc n == 0) ≡ false = ne_eqb (suc n) 0 (λ q. omega arith) in (rw f refl, omega arith)
step_by false false n k d h = (refl, omega arith)

no : (b : Bool) → (b && false) ≡ false
no true = refl
no false = refl

if_same : (b : Bool) → b ≡ (if b then true else false)
if_same true = refl
if_same false = refl

same_closes : (y : Token) (ws : List Token) (n k : ℕ) → not (is_end y && (n == 0)) ≡ true → open_behind n y ≡ k →
    (ends_in_brace ws && (all_close n (y ∷ without_last ws) && (open_after n (y ∷ without_last ws) == 0))) ≡ Closes k ws
same_closes y ws n k a b =
    ap (λ (v : Bool). ends_in_brace ws && ((v && all_close (open_behind n y) (without_last ws)) && (open_after (open_behind n y) (without_last ws) == 0))) a
    ∙ ap (λ (j : ℕ). ends_in_brace ws && (all_close j (without_last ws) && (open_after j (without_last ws) == 0))) b

closes_is : (us : List Token) (n : ℕ) → Closes n us ≡ closes_last (n + 1) us
closes_is [] n = refl
closes_is (y ∷ []) n = one_by (is_begin y) (is_end y) n (no_both y) ∙ if_same (open_behind (n + 1) y == 0)
closes_is (y ∷ w ∷ ws) n = elim (cases_eq (open_behind (n + 1) y) 0) [
  | inl q ↦
      let p : (is_end y ≡ true) × (n ≡ 0) = last_by (is_begin y) (is_end y) n q in
      let e : is_end y ≡ true = p.0 in
      let o : (n == 0) ≡ true = eq-eqb n 0 p.1 in
      let z : (open_behind (n + 1) y == 0) ≡ true = eq-eqb (open_behind (n + 1) y) 0 q in
      let l : Closes n (y ∷ w ∷ ws) ≡ false = rw (e, o) (no (ends_in_brace (w ∷ ws))) in
      l ∙ sym (rw z refl)
  | inr q ↦
      let k : ℕ = open_behind (n + 1) y - 1 in
      let s : open_behind (n + 1) y ≡ k + 1 = omega arith in
      let p : (not (is_end y && (n == 0)) ≡ true) × (open_behind n y ≡ k) = step_by (is_begin y) (is_end y) n k (no_both y) s in
      let z : (open_behind (n + 1) y == 0) ≡ false = ne_eqb (open_behind (n + 1) y) 0 q in
      same_closes y (w ∷ ws) n k p.0 p.1 ∙ closes_is (w ∷ ws) k ∙ ap (λ (j : ℕ). closes_last j (w ∷ ws)) (sym s)
      ∙ sym (ap (λ (b : Bool). if b then false else closes_last (open_behind (n + 1) y) (w ∷ ws)) z)
]

pub group_is : (b : Token) (us : List Token) → (is_begin b && closes_last 1 us) ≡ is_group (b ∷ us)
group_is b us = by (is_begin b)
  where
    by : (g : Bool) → (g && closes_last 1 us) ≡ ((g && ends_in_brace us) && (all_close 0 (without_last us) && (open_after 0 (without_last us) == 0)))
    by true = sym (closes_is us 0)
    by false = refl

-- without its first and last token
front_at : (xs : List Token) (k : ℕ) → k + 1 ≡ length xs → without_last xs ≡ take k xs
front_at [] k h = absurd (omega arith)
front_at (x ∷ []) zero h = refl
front_at (x ∷ []) (suc k) h = absurd (omega arith)
front_at (x ∷ y ∷ ys) zero h = absurd (omega arith)
front_at (x ∷ y ∷ ys) (suc k) h = ap (λ (l : List Token). x ∷ l) (front_at (y ∷ ys) k (omega arith))

pub group_length : (l : List Token) → is_group l ≡ true → 2 ≤ length l
group_length [] h = absurd (true≢false (sym h))
group_length (x ∷ []) h = absurd (true≢false (sym h ∙ one (is_begin x)))
  where
    one : (u : Bool) → ((u && false) && true) ≡ false
    one true = refl
    one false = refl
group_length (x ∷ y ∷ ys) h = omega arith

pub stripped : (l : List Token) → is_group l ≡ true → take (length (drop 1 l) - 1) (drop 1 l) ≡ without_braces l
stripped [] h = absurd (true≢false (sym h))
stripped (x ∷ xs) h = rw h (sym (front_at xs (length xs - 1) (omega (arith, group_length (x ∷ xs) h))))
