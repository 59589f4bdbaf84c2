-- What a dimension may answer with (`DimenAsk`), and what its scanner keeps at a place, with the ranges of these.
use Rattle.std.specs.Prelude.{ℕ, ℤ, pos, ◌≤◌, ◌<◌, List, take, Option, Some, None, nat_abs}
use Rattle.equivalents.specs.declared.values.Loc.{Loc}
use Rattle.equivalents.specs.declared.values.Loc.TheVariants as loc
use Rattle.rows.specs.Arithmetic.{too_large}
use Rattle.rows.specs.Internal.{IsFetchable}
use Rattle.plain_readings.specs.declared.asks.DimenAsk.{DimenAsk}
use Rattle.plain_readings.specs.declared.asks.DimenAsk.TheVariants as ask
use Rattle.plain_readings.specs.declared.measures.Quantity.{Quantity}
use Rattle.plain_readings.specs.declared.measures.Measure.{Measure}
use Rattle.scan_dimens.specs.declared.decimals.Digits.{Digits}
use Rattle.scan_dimens.specs.declared.dimen.Sought.{Sought}
use Rattle.scan_dimens.specs.declared.dimen.Sought.TheVariants as sought
use Rattle.scan_dimens.specs.declared.dimen.DimenPlace.{DimenPlace}
use Rattle.scan_dimens.specs.declared.dimen.DimenPlace.TheVariants as place

-- the digits that are kept
abbrev pub digits_of : Digits → List ℕ
digits_of ds = take ds.count ds.values

-- FACTORS: as they are read, and as `true` makes them, at a magnification of 1 at least

pub record IsRead (a : Quantity) : Type 0 where
  pub whole : a.whole ≤ 2147483647
  pub fraction : a.fraction ≤ 65536

pub record IsMagnified (a : Quantity) : Type 0 where
  pub whole : a.whole ≤ 2199023255552
  pub fraction : a.fraction ≤ 65536

-- a unit of num/den points, at least one
pub record IsUnit (u : Measure) : Type 0 where
  pub num : u.num ≤ 32768
  pub den : 1 ≤ u.den
  pub above : u.den ≤ u.num

-- WHAT IS KEPT at a place: a factor as it was read, one that `true` may have changed, a value and a location; elsewhere 0

abbrev pub no_amount : Quantity
no_amount = record { whole = 0; fraction = 0 }

abbrev pub amount_sought : Sought → Quantity
amount_sought sought.Dimension = no_amount
amount_sought (sought.Unit a) = a

abbrev pub amount_read : DimenPlace → Quantity
amount_read (place.Point n) = record { whole = n; fraction = 0 }
amount_read (place.Fraction n ds) = record { whole = n; fraction = 0 }
amount_read (place.Numbered s b) = amount_sought s
amount_read (place.BadNumber s b n) = amount_sought s
amount_read (place.Fetching s l) = amount_sought s
amount_read (place.Fil a begins) = a
amount_read (place.Longer a order) = a
amount_read (place.TooLong a order) = a
amount_read (place.UnitSought a) = a
amount_read (place.Mu a) = a
amount_read (place.Em a) = a
amount_read (place.Ex a) = a
amount_read (place.True a) = a
amount_read (place.Magnification a) = a
amount_read (place.MagnificationFetched a) = a
amount_read p = no_amount

abbrev pub amount_kept : DimenPlace → Quantity
amount_kept (place.Physical n a) = a
amount_kept (place.ScaledPoints a) = a
amount_kept p = no_amount

abbrev pub value_in : Option ℤ → ℤ
value_in (Some n) = n
value_in None = pos 0

abbrev pub value_at : DimenPlace → ℤ
value_at (place.Incompatible v) = value_in v
value_at (place.Illegal unit v) = value_in v
value_at (place.Space v order) = value_in v
value_at (place.Ended n order back) = n
value_at p = pos 0

abbrev pub location_at : DimenPlace → Loc
location_at (place.Fetching s l) = l
location_at p = loc.Integer 0

-- the order of infinity, 0 to 3
abbrev pub order_at : DimenPlace → ℕ
order_at (place.Longer a order) = order
order_at (place.TooLong a order) = order
order_at (place.Space v order) = order
order_at (place.TooLarge order back) = order
order_at (place.Ended n order back) = order
order_at p = 0

-- below 2^30 in absolute value
abbrev pub IsDimension : ℤ → Type 0
IsDimension n = nat_abs n < too_large

pub record EndsWell (n : ℤ) (order : ℕ) : Type 0 where
  pub range : IsDimension n
  pub infinite : order ≤ 3

abbrev pub EndsInRange : DimenAsk → Type 0
EndsInRange (ask.Done n order back) = EndsWell n order
EndsInRange a = Unit {0}

-- what is fetched stands at a location that is there
abbrev pub IsFetchedAt : DimenAsk → Type 0
IsFetchedAt (ask.Fetches l) = IsFetchable l
IsFetchedAt a = Unit {0}
