-- How long the texts are, and that five digits are always enough.
use Rattle.std.proofs.Common.{◌≡◌, ℕ, zero, suc, ◌+◌, ◌-◌, ◌*◌, ◌/◌, ◌%◌, ◌^◌, ◌<◌, ◌≤◌, true, cond, nat_le, ℤ, pos, negsuc, FitsSigned, w32, List, [], ◌∷◌, length, length-append, ap, sym, ◌∙◌, arith}
use Rattle.std.specs.Prelude.{◌==◌}
use Rattle.std.specs.Fmt.{digits, digits_onto, digit_glyph}
use Rattle.std.proofs.Math.Nat.{pow-suc}
use Rattle.std.proofs.lemmas.Fmt.{length-decimal-le}
use Rattle.std.proofs.lemmas.List.{length-map}
use Rattle.std.proofs.lemmas.Bool.{cond-true, cond_both, le-leb, eqb-false}
use Rattle.plain_tokens.specs.Numerals.{digits_until, fraction_digits, unsigned_scaled, scaled, hexadecimal}
use Rattle.char_text.proofs.Fractions.{printed_reads}
use Rattle.char_text.proofs.Hexadecimal.{hex_some_place}

unsigned_length : (n : ℕ) → n ≤ 2 ^ 31 → length (unsigned_scaled n) ≤ 11
unsigned_length n h =
    let whole = length-decimal-le 5 (n / 65536) (omega arith) (omega arith) (omega arith) in
    let part = (printed_reads (n % 65536) (omega arith)).few in
    simp (length-append, length-map) (omega arith)

pub scaled_length_le : (v : ℤ) → FitsSigned w32 v → length (scaled v) ≤ 12
scaled_length_le (pos n) h = let fits = h.sfits in omega (arith, unsigned_length n (omega arith))
scaled_length_le (negsuc m) h = let fits = h.sfits in omega (arith, unsigned_length (suc m) (omega arith))

-- k places hold the digits of a number below 16^k
hex_length : (k j n : ℕ) (acc : List ℕ) → 0 < k → n < 16 ^ k → length (digits_onto (k + j) 16 true n acc) ≤ k + length acc
hex_length zero j n acc some h = absurd (omega arith)
hex_length (suc k) j n acc some h =
    let e : suc k + j ≡ suc (k + j) = omega arith in
    let p : n < 16 ^ k * 16 = rw pow-suc at h in
    let P : List ℕ → Type 0 = λ ds. length ds ≤ suc k + length acc in
    let more = digit_glyph true (n % 16) ∷ acc in
    rw e (cond_both (n / 16 == 0) more (digits_onto (k + j) 16 true (n / 16) more) P
    (λ _. omega arith)
    (λ go.
    let ne = eqb-false (n / 16) 0 go in
    let below : n / 16 < 16 ^ k = omega arith in
    let place : 0 < k = hex_some_place k (n / 16) below (omega arith) in
    omega (arith, hex_length k j (n / 16) more place below)))

pub hexadecimal_length_le : (n : ℕ) → n < 2 ^ 32 → length (hexadecimal n) ≤ 8
unfolding digits
hexadecimal_length_le n h = omega (arith, hex_length 8 56 n [] (omega arith) (omega arith))

-- after the fifth digit nothing is left above d
same_1 : (more t : ℕ) → digits_until (suc more) t 100000 ≡ digits_until 1 t 100000
same_1 more t =
    let s = t + 32768 - 50000 in
    let stop : nat_le (10 * (s % 65536)) 1000000 ≡ true = le-leb _ _ (omega arith) in
    ap (λ rest. s / 65536 ∷ rest)
    (cond-true (nat_le (10 * (s % 65536)) 1000000) [] (digits_until more (10 * (s % 65536)) 1000000) stop
    ∙ sym (cond-true (nat_le (10 * (s % 65536)) 1000000) [] [] stop))

same_2 : (more t : ℕ) → digits_until (suc (suc more)) t 10000 ≡ digits_until 2 t 10000
same_2 more t = ap (λ rest. t / 65536 ∷ cond (nat_le (10 * (t % 65536)) 100000) [] rest) (same_1 more (10 * (t % 65536)))

same_3 : (more t : ℕ) → digits_until (suc (suc (suc more))) t 1000 ≡ digits_until 3 t 1000
same_3 more t = ap (λ rest. t / 65536 ∷ cond (nat_le (10 * (t % 65536)) 10000) [] rest) (same_2 more (10 * (t % 65536)))

same_4 : (more t : ℕ) → digits_until (suc (suc (suc (suc more)))) t 100 ≡ digits_until 4 t 100
same_4 more t = ap (λ rest. t / 65536 ∷ cond (nat_le (10 * (t % 65536)) 1000) [] rest) (same_3 more (10 * (t % 65536)))

same_5 : (more t : ℕ) → digits_until (suc (suc (suc (suc (suc more))))) t 10 ≡ digits_until 5 t 10
same_5 more t = ap (λ rest. t / 65536 ∷ cond (nat_le (10 * (t % 65536)) 100) [] rest) (same_4 more (10 * (t % 65536)))

pub five_suffice : (f more : ℕ) → digits_until (5 + more) (10 * f + 5) 10 ≡ fraction_digits f
unfolding fraction_digits
five_suffice f more =
    let e : 5 + more ≡ suc (suc (suc (suc (suc more)))) = omega arith in
    ap (λ k. digits_until k (10 * f + 5) 10) e ∙ same_5 more (10 * f + 5)
