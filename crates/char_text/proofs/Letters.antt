-- Roman numerals, letter by letter.
use Rattle.std.proofs.Common.{◌≡◌, ℕ, zero, suc, ◌+◌, ◌-◌, ◌/◌, ◌%◌, ◌<◌, ◌≤◌, Bool, true, ◌&&◌, List, ◌∷◌, ◌++◌, replicate, refl, ap, subst, ◌∙◌, inl, inr, arith}
use Rattle.std.specs.Prelude.{bytes_eq}
use Rattle.std.proofs.lemmas.Bool.{and_parts, cases_lt}
use Rattle.std.proofs.lemmas.Slice.Eq.{bytes_eq-Decides}
use Rattle.plain_tokens.specs.Numerals.{roman_numeral, roman_digit}

-- the numerals of the count numbers from low on begin with the letter, and go on as the numeral of the number changed
abbrev all_begin : ℕ → (ℕ → ℕ) → ℕ → ℕ → Bool
all_begin letter changed low zero = true
all_begin letter changed low (suc count) = bytes_eq (roman_numeral (low + count)) (letter ∷ roman_numeral (changed (low + count))) && all_begin letter changed low count

eq_from_test : (xs ys : List ℕ) → bytes_eq xs ys ≡ true → xs ≡ ys
eq_from_test xs ys t = grind (arith, bytes_eq-Decides xs ys)

begins : (letter : ℕ) (changed : ℕ → ℕ) (low count n : ℕ) → all_begin letter changed low count ≡ true → low ≤ n → n < low + count
    → roman_numeral n ≡ letter ∷ roman_numeral (changed n)
begins letter changed low zero n t above below = absurd (omega arith)
begins letter changed low (suc count) n t above below =
    let parts = and_parts (bytes_eq (roman_numeral (low + count)) (letter ∷ roman_numeral (changed (low + count)))) (all_begin letter changed low count) t in
    elim (cases_lt n (low + count)) [
      | inl earlier ↦ begins letter changed low count n parts.1 above earlier
      | inr later ↦
          let here : low + count ≡ n = omega arith in
          let P : ℕ → Type 0 = λ k. roman_numeral k ≡ letter ∷ roman_numeral (changed k) in
          subst P here (eq_from_test (roman_numeral (low + count)) (letter ∷ roman_numeral (changed (low + count))) parts.0)
    ]

pub begins_c : (n : ℕ) → 100 ≤ n → n < 400 → roman_numeral n ≡ 99 ∷ roman_numeral (n - 100)
begins_c n above below = begins 99 (λ k. k - 100) 100 300 n refl above below

pub begins_cd : (n : ℕ) → 400 ≤ n → n < 500 → roman_numeral n ≡ 99 ∷ roman_numeral (n + 100)
begins_cd n above below = begins 99 (λ k. k + 100) 400 100 n refl above below

pub begins_d : (n : ℕ) → 500 ≤ n → n < 900 → roman_numeral n ≡ 100 ∷ roman_numeral (n - 500)
begins_d n above below = begins 100 (λ k. k - 500) 500 400 n refl above below

pub begins_cm : (n : ℕ) → 900 ≤ n → n < 1000 → roman_numeral n ≡ 99 ∷ roman_numeral (n + 100)
begins_cm n above below = begins 99 (λ k. k + 100) 900 100 n refl above below

-- a numeral by its digits
abbrev by_digits : ℕ → ℕ → ℕ → ℕ → List ℕ
by_digits m c x i = replicate m 109 ++ roman_digit 99 100 109 c ++ roman_digit 120 108 99 x ++ roman_digit 105 118 120 i

by_parts : (m m' c c' x x' i i' : ℕ) → m ≡ m' → c ≡ c' → x ≡ x' → i ≡ i' → by_digits m c x i ≡ by_digits m' c' x' i'
by_parts m m' c c' x x' i i' em ec ex ei =
    ap (λ k. by_digits k c x i) em ∙ ap (λ k. by_digits m' k x i) ec ∙ ap (λ k. by_digits m' c' k i) ex ∙ ap (λ k. by_digits m' c' x' k) ei

-- a thousand is an m
pub begins_m : (n : ℕ) → 1000 ≤ n → roman_numeral n ≡ 109 ∷ roman_numeral (n - 1000)
begins_m n above =
    let thousands : n / 1000 ≡ suc ((n - 1000) / 1000) = omega arith in
    let hundreds : n / 100 % 10 ≡ (n - 1000) / 100 % 10 = omega arith in
    let tens : n / 10 % 10 ≡ (n - 1000) / 10 % 10 = omega arith in
    let ones : n % 10 ≡ (n - 1000) % 10 = omega arith in
    by_parts (n / 1000) (suc ((n - 1000) / 1000)) (n / 100 % 10) ((n - 1000) / 100 % 10) (n / 10 % 10) ((n - 1000) / 10 % 10) (n % 10) ((n - 1000) % 10)
    thousands hundreds tens ones
