-- What the letters of a roman numeral are worth.
use Rattle.std.proofs.Common.{◌≡◌, ℕ, zero, suc, ◌+◌, ◌-◌, ◌*◌, ◌/◌, ◌<◌, ◌≤◌, true, nat_lt, ℤ, pos, negsuc, ◌+ℤ◌, ◌≤ℤ◌, List, [], ◌∷◌, inl, inr, refl, ap, ◌∙◌, arith}
use Rattle.std.specs.Prelude.{◌==◌}
use Rattle.std.proofs.lemmas.Bool.{agree_below_at, eqb-true, cond_both, cond-false, le-ltb, cases_lt}
use Rattle.std.proofs.lemmas.Int.{ints}
use Rattle.plain_tokens.specs.Numerals.{roman, roman_numeral, letter_value, first_value, roman_value}
use Rattle.char_text.specs.Readings.{repeats_little}
use Rattle.char_text.proofs.Letters.{begins_m}

letter_at_most : (c : ℕ) → letter_value c ≤ 1000
letter_at_most c =
    let P : ℕ → Type 0 = λ v. v ≤ 1000 in
    cond_both (c == 105) 1 _ P (λ _. omega arith) (λ _. cond_both (c == 118) 5 _ P (λ _. omega arith) (λ _. cond_both (c == 120) 10 _ P (λ _. omega arith)
    (λ _. cond_both (c == 108) 50 _ P (λ _. omega arith) (λ _. cond_both (c == 99) 100 _ P (λ _. omega arith) (λ _. cond_both (c == 100) 500 _ P (λ _. omega arith)
    (λ _. cond_both (c == 109) 1000 0 P (λ _. omega arith) (λ _. omega arith)))))))

first_at_most : (letters : List ℕ) → first_value letters ≤ 1000
first_at_most [] = omega arith
first_at_most (c ∷ letters) = letter_at_most c

-- an m is worth 1000, whatever follows
m_value : (letters : List ℕ) → roman_value (109 ∷ letters) ≡ 1000 + roman_value letters
m_value letters = cond-false (nat_lt 1000 (first_value letters)) (roman_value letters - 1000) (1000 + roman_value letters) (le-ltb 1000 _ (first_at_most letters))

small_value : (n : ℕ) → n < 1000 → roman_value (roman_numeral n) ≡ n
small_value n h = eqb-true _ n (agree_below_at (λ k. roman_value (roman_numeral k) == k) (λ _. true) 1000 n refl h)

small_look : (n : ℕ) → n < 1000 → repeats_little (roman_numeral n) ≡ true
small_look n h = agree_below_at (λ k. repeats_little (roman_numeral k)) (λ _. true) 1000 n refl h

-- with k thousands
value_with : (k n : ℕ) → n < 1000 * k + 1000 → roman_value (roman_numeral n) ≡ n
value_with zero n h = small_value n (omega arith)
value_with (suc k) n h = elim (cases_lt n 1000) [
  | inl less ↦ small_value n less
  | inr more ↦
      let below : n - 1000 < 1000 * k + 1000 = omega arith in
      rw (begins_m n more) (m_value (roman_numeral (n - 1000)) ∙ ap (λ v. 1000 + v) (value_with k (n - 1000) below) ∙ omega arith)
]

look_with : (k n : ℕ) → n < 1000 * k + 1000 → repeats_little (roman_numeral n) ≡ true
look_with zero n h = small_look n (omega arith)
look_with (suc k) n h = elim (cases_lt n 1000) [
  | inl less ↦ small_look n less
  | inr more ↦ let below : n - 1000 < 1000 * k + 1000 = omega arith in rw (begins_m n more) (look_with k (n - 1000) below)
]

pub numeral_value : (n : ℕ) → roman_value (roman_numeral n) ≡ n
numeral_value n = value_with (n / 1000) n (omega arith)

pub numeral_look : (n : ℕ) → repeats_little (roman_numeral n) ≡ true
numeral_look n = look_with (n / 1000) n (omega arith)

pub value_of : (n : ℤ) → pos 0 ≤ℤ n → pos (roman_value (roman n)) ≡ n
value_of (pos n) h = ap pos (numeral_value n)
value_of (negsuc m) h = absurd (omega (arith, ints, h))

pub none_of : (n : ℤ) → n ≤ℤ pos 0 → roman n ≡ []
none_of (pos zero) h = refl
none_of (pos (suc n)) h = absurd (omega (arith, ints, h))
none_of (negsuc m) h = refl

pub thousand_of : (n : ℤ) → pos 0 ≤ℤ n → roman (n +ℤ pos 1000) ≡ 109 ∷ roman n
thousand_of (pos n) h = let e : n + 1000 - 1000 ≡ n = omega arith in begins_m (n + 1000) (omega arith) ∙ ap (λ k. 109 ∷ roman_numeral k) e
thousand_of (negsuc m) h = absurd (omega (arith, ints, h))

pub look_of : (n : ℤ) → repeats_little (roman n) ≡ true
look_of (pos n) = numeral_look n
look_of (negsuc m) = refl
