-- The weights of a factor's frame: it asks for what an integer does, but for its value.
use Rattle.std.proofs.Common.{◌≡◌, ◌≤◌, ◌<◌, ℕ, Bool, false, [], ◌∷◌, Option, Some, None, arith, refl}
use Rattle.tex_defs.specs.declared.Seen.{Seen}
use Rattle.equivalents.specs.Locations.{SeenValue}
use Rattle.rows.specs.Readings.{Tok, Noted, Fetched}
use Rattle.plain_readings.specs.declared.asks.NumberAsk.{NumberAsk}
use Rattle.plain_readings.specs.declared.asks.NumberAsk.TheVariants as asks
use Rattle.plain_readings.specs.declared.asks.FactorAsk.{FactorAsk}
use Rattle.plain_readings.specs.Integers.{integer, is_digit, number_ask}
use Rattle.plain_readings.specs.Factors.{is_point, as_factor, factor_ask}
use Rattle.plain_readings.specs.Weights.{value_weight, ask_weight, IsNoted}
use Rattle.scan_numbers.specs.Resumes as number
use Rattle.scan_numbers.specs.FactorResumes.{resume_at, resume_factor}
use Rattle.scan_numbers.specs.declared.number.NumberScan.{NumberScan}
use Rattle.scan_numbers.specs.declared.factor.FactorScan.{FactorScan}
use Rattle.reading_frames.specs.Weights.{IsEnd}
use Rattle.reading_frames.proofs.Integers.{weighs, signs_fed, integer_light, integer_fed, integer_noted, integer_fetched, integer_unended}

abbrev factor_weighs : FactorAsk → ℕ
factor_weighs a = ask_weight value_weight (factor_ask a)

-- what it asks for
abbrev Most : ℕ → FactorAsk → Type 0
Most n a = factor_weighs a ≤ n

same_weight : (decimal point : Bool) (a : NumberAsk) → factor_weighs (as_factor decimal point a) ≡ weighs a
same_weight decimal point (asks.More want) = refl
same_weight decimal point asks.Begins = refl
same_weight decimal point (asks.Fetches l) = refl
same_weight decimal point (asks.Tells report back) = refl
same_weight decimal point (asks.Done n back) = refl

noted : (decimal point : Bool) (a : NumberAsk) → IsNoted (factor_ask (as_factor decimal point a)) → IsNoted (number_ask a)
noted decimal point (asks.More want) h = h
noted decimal point asks.Begins h = h
noted decimal point (asks.Fetches l) h = h
noted decimal point (asks.Tells report back) h = h
noted decimal point (asks.Done n back) h = h

ended : (decimal point : Bool) (a : NumberAsk) → IsEnd (factor_ask (as_factor decimal point a)) → IsEnd (number_ask a)
ended decimal point (asks.More want) h = h
ended decimal point asks.Begins h = h
ended decimal point (asks.Fetches l) h = h
ended decimal point (asks.Tells report back) h = h
ended decimal point (asks.Done n back) h = h

-- BY WHETHER IT BEGAN, AND HOW

light_at : (o : Option Bool) (point : Bool) (s : NumberScan) → Most 60 (resume_at o point s [])
light_at None point s = omega arith
light_at (Some decimal) point s = omega (arith, same_weight decimal point (number.resume s []), integer_light s)

pub factor_light : (s : FactorScan) → Most 60 (resume_factor s [])
factor_light s = light_at s.decimal s.point s.scan

fed_at : (o : Option Bool) (point : Bool) (s : NumberScan) (x : Seen) → Most 59 (resume_at o point s (Tok x ∷ []))
fed_at None point s x = omega (arith, same_weight (is_digit 10 x) (is_point x) (integer false (Tok x ∷ [])), signs_fed false x)
fed_at (Some decimal) point s x = omega (arith, same_weight decimal (is_point x) (number.resume s (Tok x ∷ [])), integer_fed s x)

pub factor_fed : (s : FactorScan) (x : Seen) → Most 59 (resume_factor s (Tok x ∷ []))
factor_fed s x = fed_at s.decimal s.point s.scan x

noted_at : (o : Option Bool) (point : Bool) (s : NumberScan) → IsNoted (factor_ask (resume_at o point s [])) →
    factor_weighs (resume_at o point s (Noted ∷ [])) < factor_weighs (resume_at o point s [])
noted_at None point s h = absurd h
noted_at (Some decimal) point s h =
    omega (arith, same_weight decimal point (number.resume s []), same_weight decimal false (number.resume s (Noted ∷ [])), integer_noted s (noted decimal point (number.resume s []) h))

pub factor_noted : (s : FactorScan) → IsNoted (factor_ask (resume_factor s [])) → factor_weighs (resume_factor s (Noted ∷ [])) < factor_weighs (resume_factor s [])
factor_noted s h = noted_at s.decimal s.point s.scan h

fetched_at : (o : Option Bool) (point : Bool) (s : NumberScan) (v : SeenValue) → Most 58 (resume_at o point s (Fetched v ∷ []))
fetched_at None point s v = omega arith
fetched_at (Some decimal) point s v = omega (arith, same_weight decimal false (number.resume s (Fetched v ∷ [])), integer_fetched s v)

pub factor_fetched : (s : FactorScan) (v : SeenValue) → Most 58 (resume_factor s (Fetched v ∷ []))
factor_fetched s v = fetched_at s.decimal s.point s.scan v

-- IT HAS A VALUE

unended_at : (o : Option Bool) (point : Bool) (s : NumberScan) → IsEnd (factor_ask (resume_at o point s [])) → ⊥
unended_at None point s h = h
unended_at (Some decimal) point s h = integer_unended s (ended decimal point (number.resume s []) h)

pub factor_unended : (s : FactorScan) → IsEnd (factor_ask (resume_factor s [])) → ⊥
factor_unended s h = unended_at s.decimal s.point s.scan h
