-- Exact arithmetic on scaled points: each rule is a formula over integers of any size.
use Rattle.std.specs.Prelude.{ℕ, ◌+◌, ◌*◌, ◌/◌, ◌^◌, ℤ, pos, ◌*ℤ◌, List, [], ◌∷◌, length, take}
use Rattle.std.specs.Int.{int_div_euclid}

-- floor(x·num/den), for den above 0
abbrev pub floor_ratio : ℤ → ℕ → ℕ → ℤ
floor_ratio x num den = int_div_euclid (x *ℤ pos num) (pos den)

-- the number that the decimal digits d1..dk spell
abbrev pub spelled_number : List ℕ → ℕ
spelled_number [] = 0
spelled_number (digit ∷ digits) = digit * 10 ^ length digits + spelled_number digits

-- The fraction 0.d1..dk in units of 2^-16, rounded: (floor(131072·0.d1..dk) + 1) div 2.
abbrev pub rounded_fraction : List ℕ → ℕ
rounded_fraction digits = (131072 * spelled_number digits / 10 ^ length digits + 1) / 2

-- the same of the first 17 digits, which are all that count
abbrev pub fraction_of : List ℕ → ℕ
fraction_of digits = rounded_fraction (take 17 digits)
