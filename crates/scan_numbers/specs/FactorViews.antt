-- What the integer before a fraction may answer with (`FactorAsk`), and what its scanner keeps.
use Rattle.std.specs.Prelude.{◌≡◌, Bool, false, List, Option, Some, None}
use Rattle.rows.specs.Internal.{IsFetchable}
use Rattle.rows.specs.Readings as reading
use Rattle.plain_readings.specs.Integers.{integer, is_digit}
use Rattle.plain_readings.specs.Factors.{is_point}
use Rattle.plain_readings.specs.declared.asks.FactorAsk.{FactorAsk}
use Rattle.plain_readings.specs.declared.asks.FactorAsk.TheVariants.{Fetches, Done}
use Rattle.scan_numbers.specs.Views.{IsInRange}
use Rattle.scan_numbers.specs.Resumes.{resume}
use Rattle.scan_numbers.specs.declared.number.NumberScan.{NumberScan}

abbrev pub EndsInRange : FactorAsk → Type 0
EndsInRange (Done n point back) = IsInRange n
EndsInRange a = Unit {0}

-- what is fetched stands at a location that is there
abbrev pub IsFetchedAt : FactorAsk → Type 0
IsFetchedAt (Fetches l) = IsFetchable l
IsFetchedAt a = Unit {0}

-- before the first item the scanner of the integer is one that has read nothing
abbrev pub IsFresh : Option Bool → NumberScan → Type 0
IsFresh decimal scan = decimal ≡ None → (fed : List reading.Fed) → integer false fed ≡ resume scan fed

-- whether it began with a decimal digit
abbrev pub began_with : Option Bool → Bool
began_with None = false
began_with (Some decimal) = decimal

-- the same once an item came, which is one or not
abbrev pub decimal_behind : Option Bool → Bool → Bool
decimal_behind None decimal = decimal
decimal_behind (Some began) decimal = began

abbrev pub is_decimal_item : reading.Fed → Bool
is_decimal_item (reading.Tok x) = is_digit 10 x
is_decimal_item y = false

abbrev pub is_point_item : reading.Fed → Bool
is_point_item (reading.Tok x) = is_point x
is_point_item y = false
