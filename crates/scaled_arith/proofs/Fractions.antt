-- A decimal fraction, worked out from its last digit to its first.
use Rattle.std.proofs.Common.{◌≡◌, ℕ, suc, ◌+◌, ◌-◌, ◌*◌, ◌/◌, ◌^◌, ◌<◌, ◌≤◌, List, ◌∷◌, length, drop, take, get_or, EachIndex, min, ap, sym, ◌∙◌, arith}
use Rattle.std.proofs.Math.Nat.{div-div-eq-div-mul, add-mul-div_right, pow-suc, one-le-pow}
use Rattle.std.proofs.Math.Seq.{drop-cons}
use Rattle.std.proofs.lemmas.List.{get_or-take, length-take}
use Rattle.scaled_arith.specs.Scaled.{spelled_number}

-- one more digit before those that are worked out
digit_before : (d v m : ℕ) → 0 < m → (131072 * v / m + 131072 * d) / 10 ≡ 131072 * (d * m + v) / (m * 10)
digit_before d v m above =
    let e : 131072 * (d * m + v) ≡ 131072 * v + 131072 * d * m = omega arith in
    ap (λ n. n / 10) (sym (add-mul-div_right (131072 * v) (131072 * d) above)) ∙ div-div-eq-div-mul (131072 * v + 131072 * d * m) m 10
    ∙ ap (λ n. n / (m * 10)) (sym e)

digit_before_others : (d : ℕ) (ds : List ℕ) → (131072 * spelled_number ds / 10 ^ length ds + 131072 * d) / 10 ≡ 131072 * spelled_number (d ∷ ds) / 10 ^ length (d ∷ ds)
digit_before_others d ds =
    let above : 0 < 10 ^ length ds = omega (arith, one-le-pow (length ds) 10 (omega arith)) in
    rw (pow-suc 10 (length ds)) (digit_before d (spelled_number ds) (10 ^ length ds) above)

-- the digit at place j - 1, before those from place j on
pub place_before : (ds : List ℕ) (j a : ℕ) → 0 < j → j ≤ length ds → a ≡ 131072 * spelled_number (drop j ds) / 10 ^ length (drop j ds)
    → (a + 131072 * get_or ds (j - 1) 0) / 10 ≡ 131072 * spelled_number (drop (j - 1) ds) / 10 ^ length (drop (j - 1) ds)
place_before ds j a above within e =
    let next : suc (j - 1) ≡ j = omega arith in
    let cons : drop (j - 1) ds ≡ get_or ds (j - 1) 0 ∷ drop j ds = drop-cons ds (j - 1) 0 (omega arith) ∙ ap (λ k. get_or ds (j - 1) 0 ∷ drop k ds) next in
    rw (cons, e) (digit_before_others (get_or ds (j - 1) 0) (drop j ds))

-- a digit among the first m digits
pub counted_digit : (xs : List ℕ) (m i : ℕ) → EachIndex xs (λ k. get_or xs k 0 ≤ 9) → i < length (take m xs) → get_or (take m xs) i 0 ≤ 9
counted_digit xs m i nines within =
    let len : length (take m xs) ≡ min m (length xs) = length-take m xs in
    let before : i < m = omega arith in
    let inside : i < length xs = omega arith in
    rw (get_or-take m xs i 0 before) (nines i inside)
