-- The integer before a fraction asks for what an integer asks for, and ends where that does: its laws are those of integers.
use Rattle.std.proofs.Common.{◌≡◌, ◌<◌, Bool, false, List, [], ◌∷◌, ◌++◌, refl, arith}
use Rattle.rows.specs.declared.words.Phrase.TheVariants.{Integer, Factor}
use Rattle.rows.specs.Readings.{Fed, Tok}
use Rattle.plain_readings.specs.declared.asks.NumberAsk.{NumberAsk}
use Rattle.plain_readings.specs.declared.asks.NumberAsk.TheVariants as number
use Rattle.plain_readings.specs.declared.asks.FactorAsk.{FactorAsk}
use Rattle.plain_readings.specs.Integers.{integer, is_digit, number_ask}
use Rattle.plain_readings.specs.Factors.{is_point, ends_in_point, as_factor, factor, factor_ask}
use Rattle.plain_readings.specs.Laws.{GivesValue, Lends, reports_due}
use Rattle.plain_readings.specs.Weights.{value_weight, ask_weight}
use Rattle.plain_readings.proofs.IntegerWeights.{Wants, integer_falls}

-- what holds of an integer's answer as a factor's holds of a factor's
pub factor_is : (P : FactorAsk → Type 0) (fed : List Fed) → ((decimal point : Bool) → P (as_factor decimal point (integer false fed))) → P (factor fed)
factor_is P [] h = h false false
factor_is P (Tok x ∷ fed) h = h (is_digit 10 x) (ends_in_point (is_point x) fed)
factor_is P (y ∷ fed) h = h false (ends_in_point false fed)

-- ITS ANSWERS

as_value : (decimal point : Bool) (a : NumberAsk) → GivesValue Integer [] (number_ask a) → GivesValue Factor [] (factor_ask (as_factor decimal point a))
as_value decimal point (number.Done n back) h = tt
as_value decimal point (number.More want) h = h
as_value decimal point number.Begins h = h
as_value decimal point (number.Fetches l) h = h
as_value decimal point (number.Tells report back) h = h

as_lends : (decimal point b : Bool) (a : NumberAsk) → Lends b (number_ask a) → Lends b (factor_ask (as_factor decimal point a))
as_lends decimal point b (number.Done n back) h = tt
as_lends decimal point b (number.More want) h = h
as_lends decimal point b number.Begins h = h
as_lends decimal point b (number.Fetches l) h = h
as_lends decimal point b (number.Tells report back) h = h

as_weight : (decimal point : Bool) (a : NumberAsk) → ask_weight value_weight (factor_ask (as_factor decimal point a)) ≡ ask_weight value_weight (number_ask a)
as_weight decimal point (number.Done n back) = refl
as_weight decimal point (number.More want) = refl
as_weight decimal point number.Begins = refl
as_weight decimal point (number.Fetches l) = refl
as_weight decimal point (number.Tells report back) = refl

as_wanted : (decimal point : Bool) (a : NumberAsk) (y : Fed) → Wants (factor_ask (as_factor decimal point a)) y → Wants (number_ask a) y
as_wanted decimal point (number.Done n back) y h = absurd h
as_wanted decimal point (number.More want) y h = h
as_wanted decimal point number.Begins y h = h
as_wanted decimal point (number.Fetches l) y h = h
as_wanted decimal point (number.Tells report back) y h = h

as_reports : (decimal point : Bool) (a : NumberAsk) → reports_due (factor_ask (as_factor decimal point a)) ≡ reports_due (number_ask a)
as_reports decimal point (number.Done n back) = refl
as_reports decimal point (number.More want) = refl
as_reports decimal point number.Begins = refl
as_reports decimal point (number.Fetches l) = refl
as_reports decimal point (number.Tells report back) = refl

-- THE LAWS

pub factor_value : (fed : List Fed) → GivesValue Integer [] (number_ask (integer false fed)) → GivesValue Factor [] (factor_ask (factor fed))
factor_value fed h = factor_is (λ a. GivesValue Factor [] (factor_ask a)) fed (λ decimal point. as_value decimal point (integer false fed) h)

pub factor_lends : (b : Bool) (fed : List Fed) → Lends b (number_ask (integer false fed)) → Lends b (factor_ask (factor fed))
factor_lends b fed h = factor_is (λ a. Lends b (factor_ask a)) fed (λ decimal point. as_lends decimal point b (integer false fed) h)

pub factor_reports : (fed : List Fed) → reports_due (factor_ask (factor fed)) ≡ reports_due (number_ask (integer false fed))
factor_reports fed =
    factor_is (λ a. reports_due (factor_ask a) ≡ reports_due (number_ask (integer false fed))) fed (λ decimal point. as_reports decimal point (integer false fed))

pub factor_weighs : (fed : List Fed) → ask_weight value_weight (factor_ask (factor fed)) ≡ ask_weight value_weight (number_ask (integer false fed))
factor_weighs fed =
    factor_is (λ a. ask_weight value_weight (factor_ask a) ≡ ask_weight value_weight (number_ask (integer false fed))) fed
    (λ decimal point. as_weight decimal point (integer false fed))

pub factor_falls : (y : Fed) (fed : List Fed) → Wants (factor_ask (factor fed)) y →
    ask_weight value_weight (factor_ask (factor (fed ++ y ∷ []))) < ask_weight value_weight (factor_ask (factor fed))
factor_falls y fed h =
    let wanted : Wants (factor_ask (factor fed)) y → Wants (number_ask (integer false fed)) y =
    factor_is (λ a. Wants (factor_ask a) y → Wants (number_ask (integer false fed)) y) fed (λ decimal point. as_wanted decimal point (integer false fed) y) in
    omega (arith, integer_falls y false fed (wanted h), factor_weighs fed, factor_weighs (fed ++ y ∷ []))
