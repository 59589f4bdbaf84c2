-- A multiple and a sum of numbers of at most 2^31 in absolute value fit 64 bits.
use Rattle.std.proofs.Common.{◌≡◌, ◌+◌, ◌^◌, ◌≤◌, ℤ, ◌+ℤ◌, ◌*ℤ◌, unsigned_abs, FitsSigned, to_z, of_z, w64, arith}
use Rattle.std.proofs.lemmas.Int.{ints, to_z-of_z, fits_signed_mul, fits_signed_from_abs, unsigned_abs-mul}
use Rattle.std.proofs.lemmas.Nat.{mul-le}

abs_sum : (a b : ℤ) → unsigned_abs (a +ℤ b) ≤ unsigned_abs a + unsigned_abs b
abs_sum a b = omega (arith, ints)

pub small_sum : (n x y : ℤ) → unsigned_abs n ≤ 2 ^ 31 → unsigned_abs x ≤ 2 ^ 31 → unsigned_abs y ≤ 2 ^ 31 → unsigned_abs (n *ℤ x +ℤ y) ≤ 2 ^ 62 + 2 ^ 31
small_sum n x y hn hx hy = omega (arith, abs_sum (n *ℤ x) y, unsigned_abs-mul n x, mul-le (unsigned_abs n) (unsigned_abs x) (2 ^ 31) (2 ^ 31) hn hx)

pub fits_sum : (n x y : ℤ) → unsigned_abs n ≤ 2 ^ 31 → unsigned_abs x ≤ 2 ^ 31 → unsigned_abs y ≤ 2 ^ 31 → FitsSigned w64 (n *ℤ x +ℤ y)
fits_sum n x y hn hx hy = fits_signed_from_abs w64 (n *ℤ x +ℤ y) (omega (arith, small_sum n x y hn hx hy))

-- what the code computes is the sum
pub computed_sum : (n x y : ℤ) → FitsSigned w64 n → FitsSigned w64 x → FitsSigned w64 y → unsigned_abs n ≤ 2 ^ 31 → unsigned_abs x ≤ 2 ^ 31 → unsigned_abs y ≤ 2 ^ 31
    → to_z w64 (of_z w64 (to_z w64 (of_z w64 (to_z w64 (of_z w64 n) *ℤ to_z w64 (of_z w64 x))) +ℤ to_z w64 (of_z w64 y))) ≡ n *ℤ x +ℤ y
computed_sum n x y fn fx fy hn hx hy =
    let product : FitsSigned w64 (n *ℤ x) = fits_signed_mul w64 n x (2 ^ 31) (2 ^ 31) hn hx (omega arith) in
    let total : FitsSigned w64 (n *ℤ x +ℤ y) = fits_sum n x y hn hx hy in
    rw (to_z-of_z w64 n fn, to_z-of_z w64 x fx, to_z-of_z w64 y fy, to_z-of_z w64 (n *ℤ x) product, to_z-of_z w64 (n *ℤ x +ℤ y) total)
