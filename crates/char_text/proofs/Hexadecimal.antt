-- Hexadecimal digits, from the last to the first.
use Rattle.std.proofs.Common.{◌≡◌, ℕ, zero, suc, ◌+◌, ◌-◌, ◌*◌, ◌/◌, ◌%◌, ◌^◌, ◌<◌, ◌≤◌, true, ◌==◌, List, [], ◌∷◌, length, length-drop, length-set, drop, take, refl, ap, sym, ◌∙◌, arith}
use Rattle.std.proofs.Math.Nat.{pow-suc}
use Rattle.std.specs.Fmt.{digits, digits_onto, digit_glyph}
use Rattle.std.proofs.lemmas.Bool.{eq-eqb, ne_eqb, cond-true, cond-false}
use Rattle.std.proofs.Math.ListN.{set}
use Rattle.std.proofs.lemmas.List.{drop-set}
use Rattle.std.proofs.Math.Seq.{take-length}
use Rattle.plain_tokens.specs.Numerals.{hexadecimal}

-- writing at place i - 1 puts the byte before those from place i on
pub drop_written : (digits : List ℕ) (i x : ℕ) → 0 < i → i ≤ length digits → drop (i - 1) (set digits (i - 1) x) ≡ x ∷ drop i digits
drop_written digits i x some h = let e : i - 1 + 1 ≡ i = omega arith in drop-set digits (i - 1) x (omega arith) ∙ ap (λ k. x ∷ drop k digits) e

-- the bytes from a place to the end
whole_tail : (bytes : List ℕ) (n i : ℕ) → length bytes ≡ n → take (n - i) (drop i bytes) ≡ drop i bytes
whole_tail bytes n i e =
    let k : n - i ≡ length (drop i bytes) = omega (arith, length-drop i bytes) in
    ap (λ j. take j (drop i bytes)) k ∙ take-length (drop i bytes)

-- the digits of n before those that stand already, which begin at the place start of 8
unfoldable pub hex_onto : ℕ → ℕ → List ℕ → List ℕ
hex_onto start n digits = digits_onto (56 + start) 16 true n digits

pub hex_begin : (n : ℕ) → hex_onto 8 n [] ≡ hexadecimal n
unfolding hex_onto digits
hex_begin n = refl

pub hex_last : (start n : ℕ) (digits : List ℕ) → n / 16 ≡ 0 → hex_onto start n digits ≡ digit_glyph true (n % 16) ∷ digits
unfolding hex_onto
hex_last start n digits e =
    let k : 56 + start ≡ suc (55 + start) = omega arith in
    let digit = digit_glyph true (n % 16) in
    ap (λ j. digits_onto j 16 true n digits) k
    ∙ cond-true (n / 16 == 0) (digit ∷ digits) (digits_onto (55 + start) 16 true (n / 16) (digit ∷ digits)) (eq-eqb (n / 16) 0 e)

pub hex_step : (start n : ℕ) (digits : List ℕ) → 0 < start → 0 < n / 16 → hex_onto start n digits ≡ hex_onto (start - 1) (n / 16) (digit_glyph true (n % 16) ∷ digits)
unfolding hex_onto
hex_step start n digits some e =
    let k : 56 + start ≡ suc (55 + start) = omega arith in
    let k' : 55 + start ≡ 56 + (start - 1) = omega arith in
    let digit = digit_glyph true (n % 16) in
    ap (λ j. digits_onto j 16 true n digits) k
    ∙ cond-false (n / 16 == 0) (digit ∷ digits) (digits_onto (55 + start) 16 true (n / 16) (digit ∷ digits)) (ne_eqb (n / 16) 0 (λ z. omega arith))
    ∙ ap (λ j. digits_onto j 16 true (n / 16) (digit ∷ digits)) k'

-- a number with a digit more than the places before start would not fit
pub hex_below : (start n : ℕ) → 0 < start → n < 16 ^ start → n / 16 < 16 ^ (start - 1)
hex_below zero n some h = absurd (omega arith)
hex_below (suc k) n some h =
    let e : suc k - 1 ≡ k = omega arith in
    let p : n < 16 ^ k * 16 = rw pow-suc at h in
    rw e (omega arith)

pub hex_some_place : (start n : ℕ) → n < 16 ^ start → 0 < n → 0 < start
hex_some_place zero n h some = absurd (omega arith)
hex_some_place (suc k) n h some = omega arith

-- the digits that stand once the last is written
pub written_digits : (n left start x : ℕ) (bytes : List ℕ) → 0 < start → start ≤ 8 → length bytes ≡ 8 → x ≡ digit_glyph true (left % 16) → left / 16 ≡ 0
    → hex_onto start left (drop start bytes) ≡ hexadecimal n → take (8 - (start - 1)) (drop (start - 1) (set bytes (start - 1) x)) ≡ hexadecimal n
written_digits n left start x bytes some few whole e last total =
    whole_tail (set bytes (start - 1) x) 8 (start - 1) (length-set bytes (start - 1) x ∙ whole)
    ∙ drop_written bytes start x some (omega arith) ∙ ap (λ d. d ∷ drop start bytes) e
    ∙ sym (hex_last start left (drop start bytes) last) ∙ total
