-- What an integer may answer with (`NumberAsk`), which numbers are in TeX's range (`IsInRange`), and what its scanner keeps at a place.
use Rattle.std.specs.Prelude.{ℕ, ℤ, pos, negsuc, ◌≤ℤ◌}
use Rattle.equivalents.specs.declared.values.Loc.{Loc}
use Rattle.equivalents.specs.declared.values.Loc.TheVariants as loc
use Rattle.rows.specs.Internal.{IsFetchable}
use Rattle.plain_readings.specs.declared.asks.NumberAsk.{NumberAsk}
use Rattle.plain_readings.specs.declared.asks.NumberAsk.TheVariants.{Fetches, Done}
use Rattle.scan_numbers.specs.declared.digits.Radix.{Radix}
use Rattle.scan_numbers.specs.declared.digits.Radix.TheVariants.{Octal, Decimal, Hexadecimal}
use Rattle.scan_numbers.specs.declared.number.Place.{Place}
use Rattle.scan_numbers.specs.declared.number.Place.TheVariants.{Digits, Fetching, MuFound, Ended}

abbrev pub radix_number : Radix → ℕ
radix_number Octal = 8
radix_number Decimal = 10
radix_number Hexadecimal = 16

-- between -2147483647 and 2147483647
pub record IsInRange (n : ℤ) : Type 0 where
  pub low : negsuc 2147483646 ≤ℤ n
  pub high : n ≤ℤ pos 2147483647

abbrev pub EndsInRange : NumberAsk → Type 0
EndsInRange (Done n back) = IsInRange n
EndsInRange a = Unit {0}

-- what is fetched stands at a location that is there
abbrev pub IsFetchedAt : NumberAsk → Type 0
IsFetchedAt (Fetches l) = IsFetchable l
IsFetchedAt a = Unit {0}

abbrev pub location_at : Place → Loc
location_at (Fetching l) = l
location_at p = loc.Integer 0

-- the number that the digits so far spell, and the value at the end
abbrev pub digits_value : Place → ℕ
digits_value (Digits radix n) = n
digits_value p = 0

abbrev pub end_value : Place → ℤ
end_value (Ended n back) = n
end_value (MuFound n) = n
end_value p = pos 0
