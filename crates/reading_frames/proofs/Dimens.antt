-- The weights of a dimension's frame, by where it stands.
use Rattle.std.proofs.Common.{◌≤◌, ◌<◌, ℕ, ℤ, pos, ◌+◌, Bool, true, false, List, [], ◌∷◌, drop, Option, Some, None, arith}
use Rattle.std.specs.Prelude.{if◌then◌else◌, ◌==◌, nat_abs}
use Rattle.equivalents.specs.declared.values.Loc.{Loc}
use Rattle.equivalents.specs.Locations.{SeenValue}
use Rattle.rows.specs.declared.words.Datum.TheVariants as datum
use Rattle.rows.specs.declared.words.DimenKind.{DimenKind}
use Rattle.rows.specs.declared.words.Value.{Value}
use Rattle.rows.specs.declared.words.Value.TheVariants as value
use Rattle.rows.specs.declared.internal.Bank.{Bank}
use Rattle.rows.specs.declared.internal.Bank.TheVariants as bank
use Rattle.rows.specs.Internal.{in_bounds, integer_of, is_mu}
use Rattle.rows.specs.Tokens.{is_at_most}
use Rattle.rows.specs.Arithmetic.{measured}
use Rattle.plain_readings.specs.declared.measures.Quantity.{Quantity}
use Rattle.plain_readings.specs.declared.measures.Measure.{Measure}
use Rattle.plain_readings.specs.Dimens.{Fed, Factored, Numbered, Found, Noted, Fetched, physical, magnification_in, magnified_amount, by_magnification, by_unit, finished, valued, fil_or_not, unit_sought, unit_behind, turned, factor_read, with_factor, longer, with_number, is_integer_at, times}
use Rattle.plain_readings.specs.declared.asks.DimenAsk.{DimenAsk}
use Rattle.plain_readings.specs.declared.asks.DimenAsk.TheVariants.{More, Begins, Fetches, Magnifies, Tells, Done}
use Rattle.plain_readings.specs.Measures.{dimen_ask, dimen_value}
use Rattle.plain_readings.specs.Weights.{value_weight, ask_weight, IsNoted}
use Rattle.scan_dimens.specs.DimenResumes.{resume_at, resume, onward}
use Rattle.scan_dimens.specs.declared.dimen.Sought.{Sought}
use Rattle.scan_dimens.specs.declared.dimen.Sought.TheVariants as sought
use Rattle.scan_dimens.specs.declared.dimen.DimenPlace.{DimenPlace}
use Rattle.scan_dimens.specs.declared.dimen.DimenPlace.TheVariants as place
use Rattle.scan_dimens.specs.declared.dimen.DimenScan.{DimenScan}
use Rattle.reading_frames.specs.Weights.{IsEnd}

abbrev pub answer_weight : DimenAsk → ℕ
answer_weight a = ask_weight value_weight (dimen_ask a)

-- what it asks for
abbrev Most : ℕ → DimenAsk → Type 0
Most n a = answer_weight a ≤ n

most_if : (n : ℕ) (c : Bool) (p q : DimenAsk) → Most n p → Most n q → Most n (if c then p else q)
most_if n true p q h i = h
most_if n false p q h i = i

-- WHAT ITS PARTS ASK FOR AT FIRST

unit_light : (negative : Bool) (a : Quantity) (us : List Measure) → Most 11 (by_unit negative a us [])
unit_light negative a [] = omega arith
unit_light negative a (u ∷ us) = omega arith

finished_light : (negative : Bool) (v : Option ℤ) → Most 57 (finished negative v 0 false [])
finished_light negative None = omega arith
finished_light negative (Some n) = omega arith

valued_light : (wanted mu negative : Bool) (v : Option ℤ) → Most 58 (valued wanted mu negative v [])
valued_light true true negative v = omega (arith, finished_light negative v)
valued_light false false negative v = omega (arith, finished_light negative v)
valued_light true false negative v = omega arith
valued_light false true negative v = omega arith

behind_light : (k : DimenKind) (negative : Bool) (a : Quantity) → Most 11 (unit_behind k negative a [])
behind_light k negative a = most_if 11 k.infinite (fil_or_not k negative a false []) (unit_sought k negative a []) (omega arith) (omega arith)

-- WHEREVER IT STANDS

light_at : (k : DimenKind) (negative : Bool) (p : DimenPlace) → Most 70 (resume_at k negative p [])
light_at k negative place.Signs = omega arith
light_at k negative place.Factor = omega arith
light_at k negative (place.Point n) = omega arith
light_at k negative (place.Fraction n ds) = omega arith
light_at k negative (place.Numbered s b) = omega arith
light_at k negative (place.BadNumber s (bank.Codes c) n) = omega arith
light_at k negative (place.BadNumber s (bank.Registers c) n) = omega arith
light_at k negative (place.Fetching s l) = omega arith
light_at k negative (place.Incompatible v) = omega arith
light_at k negative place.NoNumber = omega arith
light_at k negative (place.Fil a true) = omega arith
light_at k negative (place.Fil a false) = omega arith
light_at k negative (place.Longer a order) = omega arith
light_at k negative (place.TooLong a order) = omega arith
light_at k negative (place.UnitSought a) = omega arith
light_at k negative (place.Mu a) = omega arith
light_at k negative (place.Em a) = omega arith
light_at k negative (place.Ex a) = omega arith
light_at k negative (place.True a) = omega arith
light_at k negative (place.Magnification a) = omega arith
light_at k negative (place.MagnificationFetched a) = omega arith
light_at k negative (place.Physical n a) = omega (arith, unit_light negative a (drop n physical))
light_at k negative (place.ScaledPoints a) = omega arith
light_at k negative (place.Illegal unit v) = omega arith
light_at k negative (place.Space v order) = omega arith
light_at k negative (place.TooLarge order back) = omega arith
light_at k negative (place.Ended n order back) = omega arith

pub dimension_light : (s : DimenScan) → answer_weight (resume s []) ≤ 70
dimension_light s = light_at s.kind s.negative s.place

-- BEHIND A NOTE

unit_unnoted : (negative : Bool) (a : Quantity) (us : List Measure) → IsNoted (dimen_ask (by_unit negative a us [])) → ⊥
unit_unnoted negative a [] h = h
unit_unnoted negative a (u ∷ us) h = h

abbrev Falls : (old new : DimenAsk) → Type 0
Falls old new = IsNoted (dimen_ask old) → answer_weight new < answer_weight old

noted_at : (k : DimenKind) (negative : Bool) (p : DimenPlace) → Falls (resume_at k negative p []) (resume_at k negative p (Noted ∷ []))
noted_at k negative place.Signs h = absurd h
noted_at k negative place.Factor h = absurd h
noted_at k negative (place.Point n) h = absurd h
noted_at k negative (place.Fraction n ds) h = absurd h
noted_at k negative (place.Numbered s b) h = absurd h
noted_at k negative (place.BadNumber s (bank.Codes c) n) h = omega arith
noted_at k negative (place.BadNumber s (bank.Registers c) n) h = omega arith
noted_at k negative (place.Fetching s l) h = absurd h
noted_at k negative (place.Incompatible v) h = omega (arith, finished_light negative v)
noted_at k negative place.NoNumber h = omega (arith, valued_light k.mu false negative (Some (pos 0)))
noted_at k negative (place.Fil a begins) h = absurd h
noted_at k negative (place.Longer a order) h = absurd h
noted_at k negative (place.TooLong a order) h = omega arith
noted_at k negative (place.UnitSought a) h = absurd h
noted_at k negative (place.Mu a) h = absurd h
noted_at k negative (place.Em a) h = absurd h
noted_at k negative (place.Ex a) h = absurd h
noted_at k negative (place.True a) h = absurd h
noted_at k negative (place.Magnification a) h = omega arith
noted_at k negative (place.MagnificationFetched a) h = absurd h
noted_at k negative (place.Physical n a) h = absurd (unit_unnoted negative a (drop n physical) h)
noted_at k negative (place.ScaledPoints a) h = absurd h
noted_at k negative (place.Illegal unit v) h = omega arith
noted_at k negative (place.Space v order) h = absurd h
noted_at k negative (place.TooLarge order back) h = omega arith
noted_at k negative (place.Ended n order back) h = absurd h

pub dimension_noted : (s : DimenScan) → IsNoted (dimen_ask (resume s [])) → answer_weight (resume s (Noted ∷ [])) < answer_weight (resume s [])
dimension_noted s h = noted_at s.kind s.negative s.place h

-- BEHIND WHAT STANDS AT A LOCATION

unit_fetched : (negative : Bool) (a : Quantity) (us : List Measure) (v : SeenValue) → Most 58 (by_unit negative a us (Fetched v ∷ []))
unit_fetched negative a [] v = omega arith
unit_fetched negative a (u ∷ us) v = omega arith

onward_light : (k : DimenKind) (negative : Bool) (s : Sought) (l : Loc) (n : ℤ) → Most 58 (onward k negative s l n [])
onward_light k negative sought.Dimension l n =
    most_if 58 (is_integer_at l) (with_factor k negative n []) (valued k.mu (is_mu l) negative (measured n) [])
    (omega (arith, behind_light k (turned negative n) (record { whole = nat_abs n; fraction = 0 }))) (valued_light k.mu (is_mu l) negative (measured n))
onward_light k negative (sought.Unit a) l n = valued_light k.mu (is_mu l) negative (measured (times a n))

magnified_light : (negative : Bool) (a : Quantity) (mag : ℕ) → Most 58 (by_magnification negative a mag [])
magnified_light negative a mag = most_if 58 (mag == 0) (Done (pos 0) 0 false) (by_unit negative (magnified_amount a mag) physical []) (omega arith) (omega arith)

fetched_at : (k : DimenKind) (negative : Bool) (p : DimenPlace) (v : SeenValue) → Most 58 (resume_at k negative p (Fetched v ∷ []))
fetched_at k negative (place.Fetching s m) v = onward_light k negative s m (integer_of v)
fetched_at k negative (place.MagnificationFetched a) v = magnified_light negative a (magnification_in v)
fetched_at k negative (place.Physical n a) v = unit_fetched negative a (drop n physical) v
fetched_at k negative place.Signs v = omega arith
fetched_at k negative place.Factor v = omega arith
fetched_at k negative (place.Point n) v = omega arith
fetched_at k negative (place.Fraction n ds) v = omega arith
fetched_at k negative (place.Numbered s b) v = omega arith
fetched_at k negative (place.BadNumber s b n) v = omega arith
fetched_at k negative (place.Incompatible w) v = omega arith
fetched_at k negative place.NoNumber v = omega arith
fetched_at k negative (place.Fil a begins) v = omega arith
fetched_at k negative (place.Longer a order) v = omega arith
fetched_at k negative (place.TooLong a order) v = omega arith
fetched_at k negative (place.UnitSought a) v = omega arith
fetched_at k negative (place.Mu a) v = omega arith
fetched_at k negative (place.Em a) v = omega arith
fetched_at k negative (place.Ex a) v = omega arith
fetched_at k negative (place.True a) v = omega arith
fetched_at k negative (place.Magnification a) v = omega arith
fetched_at k negative (place.ScaledPoints a) v = omega arith
fetched_at k negative (place.Illegal unit w) v = omega arith
fetched_at k negative (place.Space w order) v = omega arith
fetched_at k negative (place.TooLarge order back) v = omega arith
fetched_at k negative (place.Ended n order back) v = omega arith

pub dimension_fetched : (s : DimenScan) (v : SeenValue) → answer_weight (resume s (Fetched v ∷ [])) ≤ 58
dimension_fetched s v = fetched_at s.kind s.negative s.place v

-- BEHIND A VALUE

factor_light : (k : DimenKind) (negative : Bool) (n : ℤ) (point : Bool) → Most 60 (factor_read k negative n point [])
factor_light k negative n true = omega arith
factor_light k negative n false = omega (arith, behind_light k (turned negative n) (record { whole = nat_abs n; fraction = 0 }))

unit_factored : (negative : Bool) (a : Quantity) (us : List Measure) (n : ℤ) (point : Bool) → Most 60 (by_unit negative a us (Factored n point ∷ []))
unit_factored negative a [] n point = omega arith
unit_factored negative a (u ∷ us) n point = omega arith

unit_numbered : (negative : Bool) (a : Quantity) (us : List Measure) (n : ℤ) → Most 60 (by_unit negative a us (Numbered n ∷ []))
unit_numbered negative a [] n = omega arith
unit_numbered negative a (u ∷ us) n = omega arith

unit_found : (negative : Bool) (a : Quantity) (us : List Measure) (found : Bool) → Most 60 (by_unit negative a us (Found found ∷ []))
unit_found negative a [] true = omega arith
unit_found negative a [] false = omega arith
unit_found negative a (u ∷ us) true = omega arith
unit_found negative a (u ∷ us) false = omega (arith, unit_light negative a us)

factored_at : (k : DimenKind) (negative : Bool) (p : DimenPlace) (n : ℤ) (point : Bool) → Most 60 (resume_at k negative p (Factored n point ∷ []))
factored_at k negative place.Factor n point = factor_light k negative (in_bounds n) point
factored_at k negative (place.Physical m a) n point = unit_factored negative a (drop m physical) n point
factored_at k negative place.Signs n point = omega arith
factored_at k negative (place.Point m) n point = omega arith
factored_at k negative (place.Fraction m ds) n point = omega arith
factored_at k negative (place.Numbered s b) n point = omega arith
factored_at k negative (place.BadNumber s b m) n point = omega arith
factored_at k negative (place.Fetching s l) n point = omega arith
factored_at k negative (place.Incompatible v) n point = omega arith
factored_at k negative place.NoNumber n point = omega arith
factored_at k negative (place.Fil a begins) n point = omega arith
factored_at k negative (place.Longer a order) n point = omega arith
factored_at k negative (place.TooLong a order) n point = omega arith
factored_at k negative (place.UnitSought a) n point = omega arith
factored_at k negative (place.Mu a) n point = omega arith
factored_at k negative (place.Em a) n point = omega arith
factored_at k negative (place.Ex a) n point = omega arith
factored_at k negative (place.True a) n point = omega arith
factored_at k negative (place.Magnification a) n point = omega arith
factored_at k negative (place.MagnificationFetched a) n point = omega arith
factored_at k negative (place.ScaledPoints a) n point = omega arith
factored_at k negative (place.Illegal unit v) n point = omega arith
factored_at k negative (place.Space v order) n point = omega arith
factored_at k negative (place.TooLarge order back) n point = omega arith
factored_at k negative (place.Ended m order back) n point = omega arith

number_light : (b : Bank) (n : ℤ) (on : Loc → ℤ → List Fed → DimenAsk) → Most 60 (with_number b n on [])
number_light (bank.Codes c) n on = most_if 60 (is_at_most 255 n) _ _ (omega arith) (omega arith)
number_light (bank.Registers c) n on = most_if 60 (is_at_most 255 n) _ _ (omega arith) (omega arith)

numbered_at : (k : DimenKind) (negative : Bool) (p : DimenPlace) (n : ℤ) → Most 60 (resume_at k negative p (Numbered n ∷ []))
numbered_at k negative (place.Numbered s b) n = number_light b n (onward k negative s)
numbered_at k negative (place.Physical m a) n = unit_numbered negative a (drop m physical) n
numbered_at k negative place.Signs n = omega arith
numbered_at k negative place.Factor n = omega arith
numbered_at k negative (place.Point m) n = omega arith
numbered_at k negative (place.Fraction m ds) n = omega arith
numbered_at k negative (place.BadNumber s b m) n = omega arith
numbered_at k negative (place.Fetching s l) n = omega arith
numbered_at k negative (place.Incompatible v) n = omega arith
numbered_at k negative place.NoNumber n = omega arith
numbered_at k negative (place.Fil a begins) n = omega arith
numbered_at k negative (place.Longer a order) n = omega arith
numbered_at k negative (place.TooLong a order) n = omega arith
numbered_at k negative (place.UnitSought a) n = omega arith
numbered_at k negative (place.Mu a) n = omega arith
numbered_at k negative (place.Em a) n = omega arith
numbered_at k negative (place.Ex a) n = omega arith
numbered_at k negative (place.True a) n = omega arith
numbered_at k negative (place.Magnification a) n = omega arith
numbered_at k negative (place.MagnificationFetched a) n = omega arith
numbered_at k negative (place.ScaledPoints a) n = omega arith
numbered_at k negative (place.Illegal unit v) n = omega arith
numbered_at k negative (place.Space v order) n = omega arith
numbered_at k negative (place.TooLarge order back) n = omega arith
numbered_at k negative (place.Ended m order back) n = omega arith

found_at : (k : DimenKind) (negative : Bool) (p : DimenPlace) (found : Bool) → Most 60 (resume_at k negative p (Found found ∷ []))
found_at k negative (place.Longer a order) true = most_if 60 (order == 3) (longer negative a order true []) (longer negative a (order + 1) false []) (omega arith) (omega arith)
found_at k negative (place.Longer a order) false = omega arith
found_at k negative (place.Physical m a) found = unit_found negative a (drop m physical) found
found_at k negative (place.Fil a begins) true = omega arith
found_at k negative (place.Fil a begins) false = omega arith
found_at k negative (place.Mu a) true = omega arith
found_at k negative (place.Mu a) false = omega arith
found_at k negative (place.Em a) true = omega arith
found_at k negative (place.Em a) false = omega arith
found_at k negative (place.Ex a) true = omega arith
found_at k negative (place.Ex a) false = omega arith
found_at k negative (place.True a) true = omega arith
found_at k negative (place.True a) false = omega arith
found_at k negative (place.ScaledPoints a) true = omega arith
found_at k negative (place.ScaledPoints a) false = omega arith
found_at k negative place.Signs found = omega arith
found_at k negative place.Factor found = omega arith
found_at k negative (place.Point m) found = omega arith
found_at k negative (place.Fraction m ds) found = omega arith
found_at k negative (place.Numbered s b) found = omega arith
found_at k negative (place.BadNumber s b m) found = omega arith
found_at k negative (place.Fetching s l) found = omega arith
found_at k negative (place.Incompatible v) found = omega arith
found_at k negative place.NoNumber found = omega arith
found_at k negative (place.TooLong a order) found = omega arith
found_at k negative (place.UnitSought a) found = omega arith
found_at k negative (place.Magnification a) found = omega arith
found_at k negative (place.MagnificationFetched a) found = omega arith
found_at k negative (place.Illegal unit v) found = omega arith
found_at k negative (place.Space v order) found = omega arith
found_at k negative (place.TooLarge order back) found = omega arith
found_at k negative (place.Ended m order back) found = omega arith

value_light : (s : DimenScan) (v : Value) → Most 60 (resume s (dimen_value v ∷ []))
value_light s (value.Plain (datum.Number n)) = numbered_at s.kind s.negative s.place n
value_light s (value.Plain (datum.Factor n point)) = factored_at s.kind s.negative s.place n point
value_light s (value.Plain (datum.Found found)) = found_at s.kind s.negative s.place found
value_light s (value.Plain d) = numbered_at s.kind s.negative s.place (pos 0)
value_light s value.List = numbered_at s.kind s.negative s.place (pos 0)

pub dimension_valued : (s : DimenScan) (v : Value) → answer_weight (resume s (dimen_value v ∷ [])) ≤ 60
dimension_valued s v = value_light s v

-- IT HAS A VALUE

pub dimension_unended : (a : DimenAsk) → IsEnd (dimen_ask a) → ⊥
dimension_unended (More want) h = h
dimension_unended (Begins i begins) h = h
dimension_unended (Fetches l) h = h
dimension_unended Magnifies h = h
dimension_unended (Tells report back) h = h
dimension_unended (Done n order back) h = h
