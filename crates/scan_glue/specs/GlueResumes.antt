-- What a scanner of glue will answer on what is still to come.
use Rattle.std.specs.Prelude.{Bool, List}
use Rattle.plain_readings.specs.Glues.{Fed, glue, numbered, bad_numbered, fetched, incompatible, width, plus_or_not, stretch, minus_or_not, shrink}
use Rattle.plain_readings.specs.declared.asks.GlueAsk.{GlueAsk}
use Rattle.plain_readings.specs.declared.asks.GlueAsk.TheVariants.{Done}
use Rattle.scan_glue.specs.declared.glue.GluePlace.{GluePlace}
use Rattle.scan_glue.specs.declared.glue.GluePlace.TheVariants as place
use Rattle.scan_glue.specs.declared.glue.GlueScan.{GlueScan}

abbrev pub resume_at : (mu negative : Bool) → GluePlace → List Fed → GlueAsk
resume_at mu negative place.Signs fed = glue mu negative fed
resume_at mu negative (place.Numbered b) fed = numbered mu negative b fed
resume_at mu negative (place.BadNumber b n) fed = bad_numbered mu negative b n fed
resume_at mu negative (place.Fetching l) fed = fetched mu negative l fed
resume_at mu negative (place.Incompatible g) fed = incompatible g fed
resume_at mu negative place.Width fed = width mu negative fed
resume_at mu negative (place.Plus g) fed = plus_or_not mu g fed
resume_at mu negative (place.Stretch g) fed = stretch mu g fed
resume_at mu negative (place.Minus g) fed = minus_or_not mu g fed
resume_at mu negative (place.Shrink g) fed = shrink mu g fed
resume_at mu negative (place.Ended g internal) fed = Done g

abbrev pub resume : GlueScan → List Fed → GlueAsk
resume scan fed = resume_at scan.mu scan.negative scan.place fed
