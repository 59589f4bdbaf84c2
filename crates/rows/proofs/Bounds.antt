-- Results that 32 bits don't hold are out of bounds, and too large for a dimension.
use Rattle.std.proofs.Common.{◌≡◌, ℤ, pos, negsuc, None, w32, arith}
use Rattle.std.specs.Prelude.{FitsSigned}
use Rattle.std.proofs.lemmas.Bool.Decides.{nat_tests}
use Rattle.std.proofs.lemmas.Int.{ints}
use Rattle.rows.specs.Arithmetic.{within_bounds, measured}

pub beyond : (n : ℤ) → (FitsSigned w32 n → ⊥) → within_bounds n ≡ None
beyond (pos n) h = grind (arith, ints, nat_tests, h)
beyond (negsuc n) h = grind (arith, ints, nat_tests, h)

pub beyond_dimensions : (n : ℤ) → (FitsSigned w32 n → ⊥) → measured n ≡ None
beyond_dimensions (pos n) h = grind (arith, ints, nat_tests, h)
beyond_dimensions (negsuc n) h = grind (arith, ints, nat_tests, h)
