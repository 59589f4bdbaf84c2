-- The digits that are printed of a fraction, read back. Where n is the number that the k digits so far spell and r what is left
-- of t, 10^k·f + 10^k / 2 is 65536·n + r: so n / 10^k lies within half a unit of f / 65536 as soon as 10·r is at most 10^(k+1).
use Rattle.std.proofs.Common.{◌≡◌, ℕ, ◌+◌, ◌-◌, ◌*◌, ◌/◌, ◌%◌, ◌<◌, ◌≤◌, nat_le, List, [], ◌∷◌, length, All, arith}
use Rattle.std.proofs.lemmas.Bool.{cond_both, leb-true, leb-false}
use Rattle.std.proofs.lemmas.List.Elements.{All-nil, All-cons}
use Rattle.plain_tokens.specs.Numerals.{digits_until, fraction_digits}
use Rattle.scaled_arith.specs.Scaled.{fraction_of}

abbrev IsDigit : ℕ → Type 0
IsDigit digit = digit ≤ 9

abbrev pub AllNine : List ℕ → Type 0
AllNine digits = All (λ digit. digit ≤ 9) digits

-- at most five digits, and they are read as the fraction f
pub record Reads (f : ℕ) (digits : List ℕ) : Type 0 where
  pub some : 1 ≤ length digits
  pub few : length digits ≤ 5
  pub nines : AllNine digits
  pub read : fraction_of digits ≡ f

all_1 : (d1 : ℕ) → d1 ≤ 9 → AllNine (d1 ∷ [])
all_1 d1 h1 = All-cons IsDigit d1 [] h1 (All-nil IsDigit)

all_2 : (d1 d2 : ℕ) → d1 ≤ 9 → d2 ≤ 9 → AllNine (d1 ∷ d2 ∷ [])
all_2 d1 d2 h1 h2 = All-cons IsDigit d1 (d2 ∷ []) h1 (all_1 d2 h2)

all_3 : (d1 d2 d3 : ℕ) → d1 ≤ 9 → d2 ≤ 9 → d3 ≤ 9 → AllNine (d1 ∷ d2 ∷ d3 ∷ [])
all_3 d1 d2 d3 h1 h2 h3 = All-cons IsDigit d1 (d2 ∷ d3 ∷ []) h1 (all_2 d2 d3 h2 h3)

all_4 : (d1 d2 d3 d4 : ℕ) → d1 ≤ 9 → d2 ≤ 9 → d3 ≤ 9 → d4 ≤ 9 → AllNine (d1 ∷ d2 ∷ d3 ∷ d4 ∷ [])
all_4 d1 d2 d3 d4 h1 h2 h3 h4 = All-cons IsDigit d1 (d2 ∷ d3 ∷ d4 ∷ []) h1 (all_3 d2 d3 d4 h2 h3 h4)

all_5 : (d1 d2 d3 d4 d5 : ℕ) → d1 ≤ 9 → d2 ≤ 9 → d3 ≤ 9 → d4 ≤ 9 → d5 ≤ 9 → AllNine (d1 ∷ d2 ∷ d3 ∷ d4 ∷ d5 ∷ [])
all_5 d1 d2 d3 d4 d5 h1 h2 h3 h4 h5 = All-cons IsDigit d1 (d2 ∷ d3 ∷ d4 ∷ d5 ∷ []) h1 (all_4 d2 d3 d4 d5 h2 h3 h4 h5)

-- the lists of one to five digits, where what is left is within the bounds
reads_1 : (f d1 r : ℕ) → d1 ≤ 9 → 65536 * d1 + r ≡ 10 * f + 5 → 0 < r → 10 * r ≤ 100 → Reads f (d1 ∷ [])
reads_1 f d1 r h1 e above within =
    let read : (131072 * (d1 * 1 + 0) / 10 + 1) / 2 ≡ f = omega arith in
    record { some = omega arith; few = omega arith; nines = all_1 d1 h1; read = read }

reads_2 : (f d1 d2 r : ℕ) → d1 ≤ 9 → d2 ≤ 9 → 65536 * (d1 * 10 + d2) + r ≡ 100 * f + 50 → 0 < r → 10 * r ≤ 1000 → Reads f (d1 ∷ d2 ∷ [])
reads_2 f d1 d2 r h1 h2 e above within =
    let read : (131072 * (d1 * 10 + (d2 * 1 + 0)) / 100 + 1) / 2 ≡ f = omega arith in
    record { some = omega arith; few = omega arith; nines = all_2 d1 d2 h1 h2; read = read }

reads_3 : (f d1 d2 d3 r : ℕ) → d1 ≤ 9 → d2 ≤ 9 → d3 ≤ 9 → 65536 * (d1 * 100 + d2 * 10 + d3) + r ≡ 1000 * f + 500 → 0 < r → 10 * r ≤ 10000
    → Reads f (d1 ∷ d2 ∷ d3 ∷ [])
reads_3 f d1 d2 d3 r h1 h2 h3 e above within =
    let read : (131072 * (d1 * 100 + (d2 * 10 + (d3 * 1 + 0))) / 1000 + 1) / 2 ≡ f = omega arith in
    record { some = omega arith; few = omega arith; nines = all_3 d1 d2 d3 h1 h2 h3; read = read }

reads_4 : (f d1 d2 d3 d4 r : ℕ) → d1 ≤ 9 → d2 ≤ 9 → d3 ≤ 9 → d4 ≤ 9 → 65536 * (d1 * 1000 + d2 * 100 + d3 * 10 + d4) + r ≡ 10000 * f + 5000
    → 0 < r → 10 * r ≤ 100000 → Reads f (d1 ∷ d2 ∷ d3 ∷ d4 ∷ [])
reads_4 f d1 d2 d3 d4 r h1 h2 h3 h4 e above within =
    let read : (131072 * (d1 * 1000 + (d2 * 100 + (d3 * 10 + (d4 * 1 + 0)))) / 10000 + 1) / 2 ≡ f = omega arith in
    record { some = omega arith; few = omega arith; nines = all_4 d1 d2 d3 d4 h1 h2 h3 h4; read = read }

reads_5 : (f d1 d2 d3 d4 d5 r : ℕ) → d1 ≤ 9 → d2 ≤ 9 → d3 ≤ 9 → d4 ≤ 9 → d5 ≤ 9
    → 65536 * (d1 * 10000 + d2 * 1000 + d3 * 100 + d4 * 10 + d5) + r ≡ 100000 * f + 32768 → r < 65536 → Reads f (d1 ∷ d2 ∷ d3 ∷ d4 ∷ d5 ∷ [])
reads_5 f d1 d2 d3 d4 d5 r h1 h2 h3 h4 h5 e within =
    let read : (131072 * (d1 * 10000 + (d2 * 1000 + (d3 * 100 + (d4 * 10 + (d5 * 1 + 0))))) / 100000 + 1) / 2 ≡ f = omega arith in
    record { some = omega arith; few = omega arith; nines = all_5 d1 d2 d3 d4 d5 h1 h2 h3 h4 h5; read = read }

-- The digits from the fifth, the fourth, .. on. A t that is no multiple of 65536 leaves something over; that it is none shows in
-- the number of times that 2 divides it.
fifth : (f d1 d2 d3 d4 t : ℕ) → d1 ≤ 9 → d2 ≤ 9 → d3 ≤ 9 → d4 ≤ 9 → 100000 < t → t ≤ 655350
    → 655360 * (d1 * 1000 + d2 * 100 + d3 * 10 + d4) + t ≡ 100000 * f + 50000 → Reads f (d1 ∷ d2 ∷ d3 ∷ d4 ∷ digits_until 1 t 100000)
fifth f d1 d2 d3 d4 t h1 h2 h3 h4 low high e =
    let s = t + 32768 - 50000 in
    let whole : Reads f (d1 ∷ d2 ∷ d3 ∷ d4 ∷ s / 65536 ∷ []) =
    reads_5 f d1 d2 d3 d4 (s / 65536) (s % 65536) h1 h2 h3 h4 (omega arith) (omega arith) (omega arith) in
    cond_both (nat_le (10 * (s % 65536)) 1000000) [] [] (λ rest. Reads f (d1 ∷ d2 ∷ d3 ∷ d4 ∷ s / 65536 ∷ rest)) (λ _. whole) (λ _. whole)

fourth : (f d1 d2 d3 t : ℕ) → d1 ≤ 9 → d2 ≤ 9 → d3 ≤ 9 → t % 16 ≡ 8 → t ≤ 655350
    → 655360 * (d1 * 100 + d2 * 10 + d3) + t ≡ 10000 * f + 5000 → Reads f (d1 ∷ d2 ∷ d3 ∷ digits_until 2 t 10000)
fourth f d1 d2 d3 t h1 h2 h3 twos high e =
    let d = t / 65536 in
    let r = t % 65536 in
    cond_both (nat_le (10 * r) 100000) [] (digits_until 1 (10 * r) 100000) (λ rest. Reads f (d1 ∷ d2 ∷ d3 ∷ d ∷ rest))
    (λ stop. reads_4 f d1 d2 d3 d r h1 h2 h3 (omega arith) (omega arith) (omega arith) (leb-true _ _ stop))
    (λ more. fifth f d1 d2 d3 d (10 * r) h1 h2 h3 (omega arith) (leb-false _ _ more) (omega arith) (omega arith))

third : (f d1 d2 t : ℕ) → d1 ≤ 9 → d2 ≤ 9 → t % 8 ≡ 4 → t ≤ 655350
    → 655360 * (d1 * 10 + d2) + t ≡ 1000 * f + 500 → Reads f (d1 ∷ d2 ∷ digits_until 3 t 1000)
third f d1 d2 t h1 h2 twos high e =
    let d = t / 65536 in
    let r = t % 65536 in
    cond_both (nat_le (10 * r) 10000) [] (digits_until 2 (10 * r) 10000) (λ rest. Reads f (d1 ∷ d2 ∷ d ∷ rest))
    (λ stop. reads_3 f d1 d2 d r h1 h2 (omega arith) (omega arith) (omega arith) (leb-true _ _ stop))
    (λ more. fourth f d1 d2 d (10 * r) h1 h2 (omega arith) (omega arith) (omega arith) (omega arith))

second : (f d1 t : ℕ) → d1 ≤ 9 → t % 4 ≡ 2 → t ≤ 655350 → 655360 * d1 + t ≡ 100 * f + 50 → Reads f (d1 ∷ digits_until 4 t 100)
second f d1 t h1 twos high e =
    let d = t / 65536 in
    let r = t % 65536 in
    cond_both (nat_le (10 * r) 1000) [] (digits_until 3 (10 * r) 1000) (λ rest. Reads f (d1 ∷ d ∷ rest))
    (λ stop. reads_2 f d1 d r h1 (omega arith) (omega arith) (omega arith) (leb-true _ _ stop))
    (λ more. third f d1 d (10 * r) h1 (omega arith) (omega arith) (omega arith) (omega arith))

-- the digits that are printed of f/65536 are read as f
pub printed_reads : (f : ℕ) → f < 65536 → Reads f (fraction_digits f)
unfolding fraction_digits
printed_reads f high =
    let t = 10 * f + 5 in
    let d = t / 65536 in
    let r = t % 65536 in
    cond_both (nat_le (10 * r) 100) [] (digits_until 4 (10 * r) 100) (λ rest. Reads f (d ∷ rest))
    (λ stop. reads_1 f d r (omega arith) (omega arith) (omega arith) (leb-true _ _ stop))
    (λ more. second f d (10 * r) (omega arith) (omega arith) (omega arith) (omega arith))
