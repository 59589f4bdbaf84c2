-- What a scanner of a dimension will answer on what is still to come.
use Rattle.std.specs.Prelude.{Bool, true, false, ℤ, List, drop}
use Rattle.equivalents.specs.declared.values.Loc.{Loc}
use Rattle.plain_readings.specs.Dimens.{Fed, dimension, factored, pointed, fraction, numbered, bad_numbered, fetched, value_fetched, unit_fetched, incompatible, no_number, fil_or_not, longer, unit_sought, mu_or_not, em_or_not, ex_or_not, true_or_not, magnified, magnification_fetched, by_unit, physical, scaled_points, illegal, spaced, too_large_noted}
use Rattle.plain_readings.specs.declared.asks.DimenAsk.{DimenAsk}
use Rattle.plain_readings.specs.declared.asks.DimenAsk.TheVariants.{Done}
use Rattle.scan_dimens.specs.DimenViews.{digits_of}
use Rattle.rows.specs.declared.words.DimenKind.{DimenKind}
use Rattle.scan_dimens.specs.declared.dimen.Sought.{Sought}
use Rattle.scan_dimens.specs.declared.dimen.Sought.TheVariants.{Dimension, Unit}
use Rattle.scan_dimens.specs.declared.dimen.DimenPlace.{DimenPlace}
use Rattle.scan_dimens.specs.declared.dimen.DimenPlace.TheVariants as place
use Rattle.scan_dimens.specs.declared.dimen.DimenScan.{DimenScan}

-- what comes of an internal value
abbrev pub onward : DimenKind → (negative : Bool) → Sought → Loc → ℤ → List Fed → DimenAsk
onward k negative Dimension = value_fetched k negative
onward k negative (Unit a) = unit_fetched k negative a

abbrev pub resume_at : DimenKind → (negative : Bool) → DimenPlace → List Fed → DimenAsk
resume_at k negative place.Signs fed = dimension k negative fed
resume_at k negative place.Factor fed = factored k negative fed
resume_at k negative (place.Point n) fed = pointed k negative n fed
resume_at k negative (place.Fraction n ds) fed = fraction k negative n (digits_of ds) fed
resume_at k negative (place.Numbered s b) fed = numbered b (onward k negative s) fed
resume_at k negative (place.BadNumber s b n) fed = bad_numbered b n (onward k negative s) fed
resume_at k negative (place.Fetching s l) fed = fetched (onward k negative s) l fed
resume_at k negative (place.Incompatible v) fed = incompatible negative v fed
resume_at k negative place.NoNumber fed = no_number k.mu negative fed
resume_at k negative (place.Fil a begins) fed = fil_or_not k negative a begins fed
resume_at k negative (place.Longer a order) fed = longer negative a order false fed
resume_at k negative (place.TooLong a order) fed = longer negative a order true fed
resume_at k negative (place.UnitSought a) fed = unit_sought k negative a fed
resume_at k negative (place.Mu a) fed = mu_or_not negative a fed
resume_at k negative (place.Em a) fed = em_or_not negative a fed
resume_at k negative (place.Ex a) fed = ex_or_not negative a fed
resume_at k negative (place.True a) fed = true_or_not negative a fed
resume_at k negative (place.Magnification a) fed = magnified negative a fed
resume_at k negative (place.MagnificationFetched a) fed = magnification_fetched negative a fed
resume_at k negative (place.Physical n a) fed = by_unit negative a (drop n physical) fed
resume_at k negative (place.ScaledPoints a) fed = scaled_points negative a fed
resume_at k negative (place.Illegal unit v) fed = illegal unit negative v fed
resume_at k negative (place.Space v order) fed = spaced negative v order fed
resume_at k negative (place.TooLarge order back) fed = too_large_noted negative order back fed
resume_at k negative (place.Ended n order back) fed = Done n order back

abbrev pub resume : DimenScan → List Fed → DimenAsk
resume scan fed = resume_at scan.kind scan.negative scan.place fed
