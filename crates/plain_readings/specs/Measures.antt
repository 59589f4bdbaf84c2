-- Dimensions and glue as readings, by their definitions. What neither asked for counts as the number 0.
use Rattle.std.specs.Prelude.{pos, Bool, false, List, [], ◌∷◌}
use Rattle.rows.specs.declared.words.Datum.{Datum}
use Rattle.rows.specs.declared.words.Datum.TheVariants as datum
use Rattle.rows.specs.declared.words.Value.{Value}
use Rattle.rows.specs.declared.words.Value.TheVariants as value
use Rattle.rows.specs.declared.words.Phrase.{Phrase}
use Rattle.rows.specs.declared.words.Phrase.TheVariants as phrase
use Rattle.rows.specs.declared.words.DimenKind.{DimenKind}
use Rattle.rows.specs.Readings.{Fed, Tok, Val, Noted, Fetched, Verbatim, Cut, Ask, More, Inner, Done, Tells, Fetches, Magnifies}
use Rattle.plain_readings.specs.Dimens as dimens
use Rattle.plain_readings.specs.declared.asks.DimenAsk.{DimenAsk}
use Rattle.plain_readings.specs.declared.asks.DimenAsk.TheVariants as dimen_asks
use Rattle.plain_readings.specs.declared.asks.DimenInner.{DimenInner}
use Rattle.plain_readings.specs.declared.asks.DimenInner.TheVariants as dimen_inners
use Rattle.plain_readings.specs.Glues as glues
use Rattle.plain_readings.specs.declared.asks.GlueAsk.{GlueAsk}
use Rattle.plain_readings.specs.declared.asks.GlueAsk.TheVariants as glue_asks
use Rattle.plain_readings.specs.declared.asks.GlueInner.{GlueInner}
use Rattle.plain_readings.specs.declared.asks.GlueInner.TheVariants as glue_inners

-- DIMENSIONS

abbrev pub dimen_datum : Datum → dimens.Fed
dimen_datum (datum.Number n) = dimens.Numbered n
dimen_datum (datum.Factor n point) = dimens.Factored n point
dimen_datum (datum.Found found) = dimens.Found found
dimen_datum d = dimens.Numbered (pos 0)

abbrev pub dimen_value : Value → dimens.Fed
dimen_value (value.Plain d) = dimen_datum d
dimen_value value.List = dimens.Numbered (pos 0)

abbrev pub dimen_item : Fed → dimens.Fed
dimen_item (Tok x) = dimens.Tok x
dimen_item (Val v ts) = dimen_value v
dimen_item Noted = dimens.Noted
dimen_item (Fetched v) = dimens.Fetched v
dimen_item (Verbatim t) = dimens.Numbered (pos 0)
dimen_item Cut = dimens.Numbered (pos 0)

abbrev pub dimen_fed : List Fed → List dimens.Fed
dimen_fed [] = []
dimen_fed (y ∷ fed) = dimen_item y ∷ dimen_fed fed

abbrev pub dimen_inner : DimenInner → Phrase
dimen_inner dimen_inners.Factor = phrase.Factor
dimen_inner dimen_inners.Number = phrase.Integer
dimen_inner (dimen_inners.Key w) = phrase.Keyword w

abbrev pub dimen_ask : DimenAsk → Ask
dimen_ask (dimen_asks.More want) = More want
dimen_ask (dimen_asks.Begins i begins) = Inner (dimen_inner i) begins
dimen_ask (dimen_asks.Fetches l) = Fetches l
dimen_ask dimen_asks.Magnifies = Magnifies
dimen_ask (dimen_asks.Tells report back) = Tells report back
dimen_ask (dimen_asks.Done n order back) = Done (value.Plain (datum.Dimension n order)) back

abbrev pub dimension : DimenKind → List Fed → Ask
dimension k fed = dimen_ask (dimens.dimension k false (dimen_fed fed))

-- GLUE

abbrev pub glue_datum : Datum → glues.Fed
glue_datum (datum.Number n) = glues.Numbered n
glue_datum (datum.Dimension n order) = glues.Measured n order
glue_datum (datum.Found found) = glues.Found found
glue_datum d = glues.Numbered (pos 0)

abbrev pub glue_value : Value → glues.Fed
glue_value (value.Plain d) = glue_datum d
glue_value value.List = glues.Numbered (pos 0)

abbrev pub glue_item : Fed → glues.Fed
glue_item (Tok x) = glues.Tok x
glue_item (Val v ts) = glue_value v
glue_item Noted = glues.Noted
glue_item (Fetched v) = glues.Fetched v
glue_item (Verbatim t) = glues.Numbered (pos 0)
glue_item Cut = glues.Numbered (pos 0)

abbrev pub glue_fed : List Fed → List glues.Fed
glue_fed [] = []
glue_fed (y ∷ fed) = glue_item y ∷ glue_fed fed

abbrev pub glue_inner : GlueInner → Phrase
glue_inner (glue_inners.Dimension k) = phrase.Dimension k
glue_inner glue_inners.Number = phrase.Integer
glue_inner (glue_inners.Key w) = phrase.Keyword w

abbrev pub glue_ask : GlueAsk → Ask
glue_ask (glue_asks.More want) = More want
glue_ask (glue_asks.Begins i begins) = Inner (glue_inner i) begins
glue_ask (glue_asks.Fetches l) = Fetches l
glue_ask (glue_asks.Tells report) = Tells report false
glue_ask (glue_asks.Done g) = Done (value.Plain (datum.Glue g)) false

abbrev pub glue : (mu : Bool) → List Fed → Ask
glue mu fed = glue_ask (glues.glue mu false (glue_fed fed))
