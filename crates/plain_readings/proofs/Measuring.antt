-- The laws of dimensions and of glue as readings, by what may follow what they asked for.
use Rattle.std.proofs.Common.{◌≡◌, ◌≤◌, ◌<◌, ◌-◌, Bool, true, false, List, [], ◌∷◌, ◌++◌, refl, sym, subst, append_assoc, arith}
use Rattle.std.proofs.lemmas.List.{append-nil}
use Rattle.equivalents.specs.declared.values.Loc.{Loc}
use Rattle.equivalents.specs.Locations.{SeenValue}
use Rattle.rows.specs.declared.words.Datum.TheVariants as datum
use Rattle.rows.specs.declared.words.Value.{Value}
use Rattle.rows.specs.declared.words.Value.TheVariants as value
use Rattle.rows.specs.declared.words.Phrase.TheVariants.{Dimension, Glue}
use Rattle.rows.specs.declared.words.DimenKind.{DimenKind}
use Rattle.rows.specs.Readings.{Fed, Tok, Val, Noted, Fetched, Verbatim, Cut, Ask, Inner, Fetches}
use Rattle.plain_readings.specs.Dimens as dimens
use Rattle.plain_readings.specs.declared.asks.DimenAsk.{DimenAsk}
use Rattle.plain_readings.specs.declared.asks.DimenAsk.TheVariants as dimen_asks
use Rattle.plain_readings.specs.declared.asks.DimenInner.TheVariants as dimen_inners
use Rattle.plain_readings.specs.Glues as glues
use Rattle.plain_readings.specs.declared.asks.GlueAsk.{GlueAsk}
use Rattle.plain_readings.specs.declared.asks.GlueAsk.TheVariants as glue_asks
use Rattle.plain_readings.specs.declared.asks.GlueInner.TheVariants as glue_inners
use Rattle.plain_readings.specs.Measures.{dimen_item, dimen_value, dimen_fed, dimen_ask, dimension, glue_item, glue_value, glue_fed, glue_ask, glue}
use Rattle.plain_readings.specs.Laws.{is_met, Lends, GivesValue, reports_due}
use Rattle.plain_readings.specs.Weights.{IsNoted}
use Rattle.plain_readings.proofs.Follows.{Value as Valued, Note, Standing, weighs, Follows, IsNoToken, unlent, noted_lighter, reports_fewer, fetched_lighter}
use Rattle.plain_readings.proofs.DimenSteps as dimen_steps
use Rattle.plain_readings.proofs.DimenSteps.{dimension_steps}
use Rattle.plain_readings.proofs.GlueSteps as glue_steps_of
use Rattle.plain_readings.proofs.GlueSteps.{glue_steps}

-- WHAT IS FED

dimen_last : (y : Fed) (fed : List Fed) → dimen_fed (fed ++ y ∷ []) ≡ dimen_fed fed ++ dimen_item y ∷ []
dimen_last y [] = refl
dimen_last y (z ∷ fed) = rw (dimen_last y fed) refl

glue_last : (y : Fed) (fed : List Fed) → glue_fed (fed ++ y ∷ []) ≡ glue_fed fed ++ glue_item y ∷ []
glue_last y [] = refl
glue_last y (z ∷ fed) = rw (glue_last y fed) refl

dimen_valued : (v : Value) → IsNoToken (dimen_steps.item_of (dimen_value v))
dimen_valued (value.Plain (datum.Number n)) = tt
dimen_valued (value.Plain (datum.Factor n point)) = tt
dimen_valued (value.Plain (datum.Found found)) = tt
dimen_valued (value.Plain d) = tt
dimen_valued value.List = tt

glue_valued : (v : Value) → IsNoToken (glue_steps_of.item_of (glue_value v))
glue_valued (value.Plain (datum.Number n)) = tt
glue_valued (value.Plain (datum.Dimension n order)) = tt
glue_valued (value.Plain (datum.Found found)) = tt
glue_valued (value.Plain d) = tt
glue_valued value.List = tt

dimension_follows : (k : DimenKind) (fed : List Fed) (y : Fed) → Follows (dimen_steps.item_of (dimen_item y)) (dimension k fed) (dimension k (fed ++ y ∷ []))
dimension_follows k fed y =
    subst (λ (more : List dimens.Fed). Follows (dimen_steps.item_of (dimen_item y)) (dimension k fed) (dimen_ask (dimens.dimension k false more))) (sym (dimen_last y fed))
    (dimension_steps (dimen_item y) k false (dimen_fed fed))

glue_follows : (mu : Bool) (fed : List Fed) (y : Fed) → Follows (glue_steps_of.item_of (glue_item y)) (glue mu fed) (glue mu (fed ++ y ∷ []))
glue_follows mu fed y =
    subst (λ (more : List glues.Fed). Follows (glue_steps_of.item_of (glue_item y)) (glue mu fed) (glue_ask (glues.glue mu false more))) (sym (glue_last y fed))
    (glue_steps (glue_item y) mu false (glue_fed fed))

-- VALUES

pub dimension_value : (k : DimenKind) (a : DimenAsk) → GivesValue (Dimension k) [] (dimen_ask a)
dimension_value k (dimen_asks.More want) = tt
dimension_value k (dimen_asks.Begins dimen_inners.Factor begins) = omega arith
dimension_value k (dimen_asks.Begins dimen_inners.Number begins) = omega arith
dimension_value k (dimen_asks.Begins (dimen_inners.Key w) begins) = omega arith
dimension_value k (dimen_asks.Fetches l) = tt
dimension_value k dimen_asks.Magnifies = tt
dimension_value k (dimen_asks.Tells report back) = tt
dimension_value k (dimen_asks.Done n order back) = tt

pub glue_value_given : (mu : Bool) (a : GlueAsk) → GivesValue (Glue mu) [] (glue_ask a)
glue_value_given mu (glue_asks.More want) = tt
glue_value_given mu (glue_asks.Begins (glue_inners.Dimension k) begins) = omega arith
glue_value_given mu (glue_asks.Begins glue_inners.Number begins) = omega arith
glue_value_given mu (glue_asks.Begins (glue_inners.Key w) begins) = omega arith
glue_value_given mu (glue_asks.Fetches l) = tt
glue_value_given mu (glue_asks.Tells report) = tt
glue_value_given mu (glue_asks.Done g) = tt

-- TOKENS LENT

met_lends : (a : Ask) → Lends true a
met_lends (Inner j true) = refl
met_lends (Inner j false) = tt
met_lends a = tt

-- a law of all lists that items may have come to, where it holds of none, and behind each
by_last : (P : List Fed → Type 0) → ((fed : List Fed) (y : Fed) → P (fed ++ y ∷ [])) → (before fed : List Fed) → P before → P (before ++ fed)
by_last P h before [] p = subst P (sym (append-nil before)) p
by_last P h before (y ∷ fed) p = subst P (append_assoc before (y ∷ []) fed) (by_last P h (before ++ y ∷ []) fed (h before y))

abbrev pub is_token : Fed → Bool
is_token (Tok x) = true
is_token y = false

pub met_last : (y : Fed) (b : Bool) (fed : List Fed) → is_met b (fed ++ y ∷ []) ≡ is_token y
met_last (Tok x) b [] = refl
met_last y b [] = refl
met_last y b (Tok x ∷ fed) = met_last y true fed
met_last y b (z ∷ fed) = met_last y false fed

dimension_lent : (k : DimenKind) (fed : List Fed) (y : Fed) → Lends (is_token y) (dimension k (fed ++ y ∷ []))
dimension_lent k fed (Tok x) = met_lends (dimension k (fed ++ Tok x ∷ []))
dimension_lent k fed (Val v ts) =
    unlent (dimen_steps.item_of (dimen_value v)) (dimension k fed) (dimension k (fed ++ Val v ts ∷ [])) (dimen_valued v) (dimension_follows k fed (Val v ts))
dimension_lent k fed Noted = unlent Note (dimension k fed) (dimension k (fed ++ Noted ∷ [])) tt (dimension_follows k fed Noted)
dimension_lent k fed (Fetched v) = unlent Standing (dimension k fed) (dimension k (fed ++ Fetched v ∷ [])) tt (dimension_follows k fed (Fetched v))
dimension_lent k fed (Verbatim t) = unlent Valued (dimension k fed) (dimension k (fed ++ Verbatim t ∷ [])) tt (dimension_follows k fed (Verbatim t))
dimension_lent k fed Cut = unlent Valued (dimension k fed) (dimension k (fed ++ Cut ∷ [])) tt (dimension_follows k fed Cut)

glue_lent : (mu : Bool) (fed : List Fed) (y : Fed) → Lends (is_token y) (glue mu (fed ++ y ∷ []))
glue_lent mu fed (Tok x) = met_lends (glue mu (fed ++ Tok x ∷ []))
glue_lent mu fed (Val v ts) =
    unlent (glue_steps_of.item_of (glue_value v)) (glue mu fed) (glue mu (fed ++ Val v ts ∷ [])) (glue_valued v) (glue_follows mu fed (Val v ts))
glue_lent mu fed Noted = unlent Note (glue mu fed) (glue mu (fed ++ Noted ∷ [])) tt (glue_follows mu fed Noted)
glue_lent mu fed (Fetched v) = unlent Standing (glue mu fed) (glue mu (fed ++ Fetched v ∷ [])) tt (glue_follows mu fed (Fetched v))
glue_lent mu fed (Verbatim t) = unlent Valued (glue mu fed) (glue mu (fed ++ Verbatim t ∷ [])) tt (glue_follows mu fed (Verbatim t))
glue_lent mu fed Cut = unlent Valued (glue mu fed) (glue mu (fed ++ Cut ∷ [])) tt (glue_follows mu fed Cut)

pub dimension_lends : (k : DimenKind) (fed : List Fed) → Lends (is_met false fed) (dimension k fed)
dimension_lends k fed =
    by_last (λ fed. Lends (is_met false fed) (dimension k fed)) (λ fed y. subst (λ (b : Bool). Lends b (dimension k (fed ++ y ∷ []))) (sym (met_last y false fed)) (dimension_lent k fed y))
    [] fed tt

pub glue_lends : (mu : Bool) (fed : List Fed) → Lends (is_met false fed) (glue mu fed)
glue_lends mu fed =
    by_last (λ fed. Lends (is_met false fed) (glue mu fed)) (λ fed y. subst (λ (b : Bool). Lends b (glue mu (fed ++ y ∷ []))) (sym (met_last y false fed)) (glue_lent mu fed y)) [] fed tt

-- NOTES AND WEIGHTS

pub dimension_reports : (k : DimenKind) (fed : List Fed) → reports_due (dimension k (fed ++ Noted ∷ [])) ≤ reports_due (dimension k fed) - 1
dimension_reports k fed = reports_fewer (dimension k fed) (dimension k (fed ++ Noted ∷ [])) (dimension_follows k fed Noted)

pub glue_reports : (mu : Bool) (fed : List Fed) → reports_due (glue mu (fed ++ Noted ∷ [])) ≤ reports_due (glue mu fed) - 1
glue_reports mu fed = reports_fewer (glue mu fed) (glue mu (fed ++ Noted ∷ [])) (glue_follows mu fed Noted)

pub dimension_noted : (k : DimenKind) (fed : List Fed) → IsNoted (dimension k fed) → weighs (dimension k (fed ++ Noted ∷ [])) < weighs (dimension k fed)
dimension_noted k fed h = noted_lighter (dimension k fed) (dimension k (fed ++ Noted ∷ [])) h (dimension_follows k fed Noted)

pub glue_noted : (mu : Bool) (fed : List Fed) → IsNoted (glue mu fed) → weighs (glue mu (fed ++ Noted ∷ [])) < weighs (glue mu fed)
glue_noted mu fed h = noted_lighter (glue mu fed) (glue mu (fed ++ Noted ∷ [])) h (glue_follows mu fed Noted)

pub dimension_fetched : (k : DimenKind) (fed : List Fed) (l : Loc) (v : SeenValue) → dimension k fed ≡ Fetches l → weighs (dimension k (fed ++ Fetched v ∷ [])) < weighs (dimension k fed)
dimension_fetched k fed l v e = fetched_lighter (dimension k fed) (dimension k (fed ++ Fetched v ∷ [])) l e (dimension_follows k fed (Fetched v))

pub glue_fetched : (mu : Bool) (fed : List Fed) (l : Loc) (v : SeenValue) → glue mu fed ≡ Fetches l → weighs (glue mu (fed ++ Fetched v ∷ [])) < weighs (glue mu fed)
glue_fetched mu fed l v e = fetched_lighter (glue mu fed) (glue mu (fed ++ Fetched v ∷ [])) l e (glue_follows mu fed (Fetched v))
