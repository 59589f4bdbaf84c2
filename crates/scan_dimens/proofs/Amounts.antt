-- The factor times the value of an internal unit, as it is computed in 64 bits.
use Rattle.std.proofs.Common.{◌≡◌, ℕ, ◌^◌, ◌<◌, ◌≤◌, ℤ, pos, negsuc, ◌+ℤ◌, ◌*ℤ◌, ◌≤ℤ◌, int_div, nat_abs, unsigned_abs, FitsSigned, to_z, of_z, w32, w64, Bool, true, false, Some, None, nat_le, refl, ap, sym, ◌∙◌, arith}
use Rattle.std.specs.Prelude.{if◌then◌else◌}
use Rattle.std.proofs.lemmas.Bool.Decides.{nat_tests}
use Rattle.std.proofs.lemmas.Int.{ints, to_z-of_z, fits_signed_from_abs, unsigned_abs-mul}
use Rattle.std.proofs.lemmas.Nat.{mul-le}
use Rattle.rows.specs.Arithmetic.{measured, too_large}

part_small : (z : ℤ) → unsigned_abs (int_div z (pos 65536)) ≤ unsigned_abs z
part_small (pos n) = omega arith
part_small (negsuc n) = omega (arith, ints)

in_range : (z : ℤ) → FitsSigned w32 z → unsigned_abs z ≤ 2 ^ 31
in_range z f = omega (arith, ints)

product_small : (v : ℤ) (f : ℕ) → unsigned_abs v ≤ 2 ^ 31 → f ≤ 65536 → unsigned_abs (v *ℤ pos f) ≤ 2 ^ 47
product_small v f h g = omega (arith, unsigned_abs-mul v (pos f), mul-le (unsigned_abs v) f (2 ^ 31) 65536 h g)

widened : (v r : ℤ) → FitsSigned w32 v → r ≡ to_z w32 (of_z w32 v) → to_z w64 (of_z w64 r) ≡ v
widened v r fits e = omega (arith, ints)

pub computed : (w f : ℕ) (v r q : ℤ) → FitsSigned w32 v → w ≤ 2147483647 → f ≤ 65536 → r ≡ to_z w32 (of_z w32 v) → q ≡ pos f →
    to_z w64 w *ℤ to_z w64 (of_z w64 r) +ℤ to_z w64 (of_z w64 (int_div (to_z w64 (of_z w64 (to_z w64 (of_z w64 r) *ℤ to_z w64 (of_z w64 q)))) (pos 65536))) ≡
    pos w *ℤ v +ℤ int_div (v *ℤ pos f) (pos 65536)
computed w f v r q fits hw hf er eq =
    let a : to_z w64 (of_z w64 r) ≡ v = widened v r fits er in
    let b : to_z w64 (of_z w64 q) ≡ pos f = omega (arith, ints) in
    let c : to_z w64 w ≡ pos w = omega (arith, ints) in
    let small : unsigned_abs (v *ℤ pos f) ≤ 2 ^ 47 = product_small v f (in_range v fits) hf in
    let product : FitsSigned w64 (v *ℤ pos f) = fits_signed_from_abs w64 (v *ℤ pos f) (omega arith) in
    let part : FitsSigned w64 (int_div (v *ℤ pos f) (pos 65536)) = fits_signed_from_abs w64 (int_div (v *ℤ pos f) (pos 65536)) (omega (arith, part_small (v *ℤ pos f))) in
    rw (a, b, c, to_z-of_z w64 (v *ℤ pos f) product, to_z-of_z w64 (int_div (v *ℤ pos f) (pos 65536)) part) refl

chosen : (s : ℤ) (b : Bool) → nat_le too_large (nat_abs s) ≡ b → measured s ≡ (if b then None else Some s)
chosen s b e = ap (λ (b : Bool). if b then None else Some s) e

bound : (r : ℤ) → r ≡ pos 1073741823 → to_z w64 (of_z w64 r) ≡ pos 1073741823
bound r e = omega (arith, ints)

-- where r is the greatest value, as a call is given it
pub fits : (s t n r : ℤ) → s ≡ t → r ≡ pos 1073741823 → pos (nat_abs s) ≤ℤ to_z w64 (of_z w64 r) → s ≡ n →
    Some (to_z w32 (of_z w32 (to_z w64 (of_z w64 n)))) ≡ measured t
fits s t n r e f h is =
    let b : to_z w64 (of_z w64 r) ≡ pos 1073741823 = bound r f in
    let small : nat_abs t < too_large = rw (sym e) (omega (arith, ints)) in
    let test : nat_le too_large (nat_abs t) ≡ false = grind (arith, nat_tests) in
    let same : to_z w32 (of_z w32 (to_z w64 (of_z w64 n))) ≡ t = omega (arith, ints) in
    ap Some same ∙ sym (chosen t false test)

pub exceeds : (s t r : ℤ) → s ≡ t → r ≡ pos 1073741823 → (pos (nat_abs s) ≤ℤ to_z w64 (of_z w64 r) → ⊥) → None ≡ measured t
exceeds s t r e f h =
    let b : to_z w64 (of_z w64 r) ≡ pos 1073741823 = bound r f in
    let large : too_large ≤ nat_abs s = grind (arith, ints, b) in
    let test : nat_le too_large (nat_abs t) ≡ true = rw (sym e) (grind (arith, nat_tests)) in
    sym (chosen t true test)
