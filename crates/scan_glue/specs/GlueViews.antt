-- What glue may answer with (`GlueAsk`), and what its scanner keeps at a place.
use Rattle.std.specs.Prelude.{◌≤◌, true, false}
use Rattle.equivalents.specs.declared.values.Glue.{Glue}
use Rattle.equivalents.specs.declared.values.Loc.{Loc}
use Rattle.equivalents.specs.declared.values.Loc.TheVariants as loc
use Rattle.equivalents.specs.Locations.{zero_glue}
use Rattle.rows.specs.Internal.{IsFetchable}
use Rattle.scan_dimens.specs.DimenViews.{IsDimension}
use Rattle.plain_readings.specs.declared.asks.GlueAsk.{GlueAsk}
use Rattle.plain_readings.specs.declared.asks.GlueAsk.TheVariants as ask
use Rattle.scan_glue.specs.declared.glue.GluePlace.{GluePlace}
use Rattle.scan_glue.specs.declared.glue.GluePlace.TheVariants as place

-- glue whose parts were scanned: each below 2^30 in absolute value, at an order of infinity of 0 to 3
pub record IsScanned (g : Glue) : Type 0 where
  pub width : IsDimension g.width
  pub stretch : IsDimension g.stretch
  pub stretch_order : g.stretch_order ≤ 3
  pub shrink : IsDimension g.shrink
  pub shrink_order : g.shrink_order ≤ 3

-- WHAT IS KEPT at a place: the parts that were scanned, and a location; elsewhere 0

abbrev pub scanned_at : GluePlace → Glue
scanned_at (place.Plus g) = g
scanned_at (place.Stretch g) = g
scanned_at (place.Minus g) = g
scanned_at (place.Shrink g) = g
scanned_at (place.Ended g false) = g
scanned_at p = zero_glue

abbrev pub location_at : GluePlace → Loc
location_at (place.Fetching l) = l
location_at p = loc.Integer 0

-- glue that it is done with was scanned, unless it stood at a location
abbrev pub EndsInRange : GluePlace → GlueAsk → Type 0
EndsInRange (place.Ended g true) a = Unit {0}
EndsInRange p (ask.Done g) = IsScanned g
EndsInRange p a = Unit {0}

-- what is fetched stands at a location that is there
abbrev pub IsFetchedAt : GlueAsk → Type 0
IsFetchedAt (ask.Fetches l) = IsFetchable l
IsFetchedAt a = Unit {0}
