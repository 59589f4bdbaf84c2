-- The integer before a fraction: its value tells whether a point stands directly behind its decimal digits, which is given back as any other token.
-- TeX: The Program, part 26 (`scan_dimen`).
use Rattle.std.specs.Prelude.{Bool, false, ◌&&◌, ◌||◌, List, [], ◌∷◌}
use Rattle.tex_defs.specs.declared.Seen.{Seen}
use Rattle.plain_tokens.specs.Tokens.{is_other}
use Rattle.rows.specs.declared.words.Datum.TheVariants as datum
use Rattle.rows.specs.declared.words.Phrase.TheVariants as phrase
use Rattle.rows.specs.declared.words.Value.TheVariants as value
use Rattle.rows.specs.Readings.{Fed, Tok, Ask}
use Rattle.rows.specs.Readings as reading
use Rattle.plain_readings.specs.Integers.{integer, is_digit}
use Rattle.plain_readings.specs.declared.asks.NumberAsk.{NumberAsk}
use Rattle.plain_readings.specs.declared.asks.NumberAsk.TheVariants as number
use Rattle.plain_readings.specs.declared.asks.FactorAsk.{FactorAsk}
use Rattle.plain_readings.specs.declared.asks.FactorAsk.TheVariants.{More, Begins, Fetches, Tells, Done}

-- `.` or `,`
abbrev pub is_point : Seen → Bool
is_point x = is_other 46 x.token || is_other 44 x.token

-- whether a point came last; before this one did, or didn't
abbrev pub ends_in_point : Bool → List Fed → Bool
ends_in_point b [] = b
ends_in_point b (Tok x ∷ fed) = ends_in_point (is_point x) fed
ends_in_point b (y ∷ fed) = ends_in_point false fed

-- what an integer asks for that began with a decimal digit or not, and behind which a point came last or not
abbrev pub as_factor : (decimal point : Bool) → NumberAsk → FactorAsk
as_factor decimal point (number.More want) = More want
as_factor decimal point number.Begins = Begins
as_factor decimal point (number.Fetches l) = Fetches l
as_factor decimal point (number.Tells report back) = Tells report back
as_factor decimal point (number.Done n back) = Done n (decimal && (point && back)) back

abbrev pub factor : List Fed → FactorAsk
factor [] = as_factor false false (integer false [])
factor (Tok x ∷ fed) = as_factor (is_digit 10 x) (ends_in_point (is_point x) fed) (integer false (Tok x ∷ fed))
factor (y ∷ fed) = as_factor false (ends_in_point false fed) (integer false (y ∷ fed))

-- what it asks for, among all that a reading may ask for
abbrev pub factor_ask : FactorAsk → Ask
factor_ask (More want) = reading.More want
factor_ask Begins = reading.Inner phrase.Integer false
factor_ask (Fetches l) = reading.Fetches l
factor_ask (Tells report back) = reading.Tells report back
factor_ask (Done n point back) = reading.Done (value.Plain (datum.Factor n point)) back
