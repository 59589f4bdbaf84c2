-- The weights of the frame of glue, by where it stands.
use Rattle.std.proofs.Common.{◌≤◌, ◌<◌, ℕ, ℤ, pos, Bool, true, false, [], ◌∷◌, arith}
use Rattle.std.specs.Prelude.{if◌then◌else◌}
use Rattle.equivalents.specs.declared.values.Glue.{Glue}
use Rattle.equivalents.specs.Locations.{SeenValue}
use Rattle.rows.specs.declared.words.Datum.TheVariants as datum
use Rattle.rows.specs.declared.words.Value.{Value}
use Rattle.rows.specs.declared.words.Value.TheVariants as value
use Rattle.rows.specs.declared.internal.Bank.{Bank}
use Rattle.rows.specs.declared.internal.Bank.TheVariants as bank
use Rattle.rows.specs.Internal.{is_mu}
use Rattle.rows.specs.Tokens.{is_at_most}
use Rattle.rows.specs.Arithmetic.{glue_at}
use Rattle.plain_readings.specs.Glues.{Measured, Numbered, Found, Noted, Fetched, is_part, with_number, valued, signed_glue}
use Rattle.plain_readings.specs.declared.asks.GlueAsk.{GlueAsk}
use Rattle.plain_readings.specs.declared.asks.GlueAsk.TheVariants.{More, Begins, Fetches, Tells, Done}
use Rattle.plain_readings.specs.Measures.{glue_ask, glue_value}
use Rattle.plain_readings.specs.Weights.{value_weight, ask_weight, IsNoted}
use Rattle.scan_glue.specs.GlueResumes.{resume_at, resume}
use Rattle.scan_glue.specs.declared.glue.GluePlace.{GluePlace}
use Rattle.scan_glue.specs.declared.glue.GluePlace.TheVariants as place
use Rattle.scan_glue.specs.declared.glue.GlueScan.{GlueScan}
use Rattle.reading_frames.specs.Weights.{IsEnd}

abbrev pub answer_weight : GlueAsk → ℕ
answer_weight a = ask_weight value_weight (glue_ask a)

-- what it asks for
abbrev Most : ℕ → GlueAsk → Type 0
Most n a = answer_weight a ≤ n

most_if : (n : ℕ) (c : Bool) (p q : GlueAsk) → Most n p → Most n q → Most n (if c then p else q)
most_if n true p q h i = h
most_if n false p q h i = i

-- WHEREVER IT STANDS

light_at : (mu negative : Bool) (p : GluePlace) → Most 81 (resume_at mu negative p [])
light_at mu negative place.Signs = omega arith
light_at mu negative (place.Numbered b) = omega arith
light_at mu negative (place.BadNumber (bank.Codes c) n) = omega arith
light_at mu negative (place.BadNumber (bank.Registers c) n) = omega arith
light_at mu negative (place.Fetching l) = omega arith
light_at mu negative (place.Incompatible g) = omega arith
light_at mu negative place.Width = omega arith
light_at mu negative (place.Plus g) = omega arith
light_at mu negative (place.Stretch g) = omega arith
light_at mu negative (place.Minus g) = omega arith
light_at mu negative (place.Shrink g) = omega arith
light_at mu negative (place.Ended g internal) = omega arith

pub glue_light : (s : GlueScan) → answer_weight (resume s []) ≤ 81
glue_light s = light_at s.mu s.negative s.place

-- BEHIND A NOTE

noted_at : (mu negative : Bool) (p : GluePlace) → IsNoted (glue_ask (resume_at mu negative p [])) → answer_weight (resume_at mu negative p (Noted ∷ [])) < answer_weight (resume_at mu negative p [])
noted_at mu negative place.Signs h = absurd h
noted_at mu negative (place.Numbered b) h = absurd h
noted_at mu negative (place.BadNumber (bank.Codes c) n) h = omega arith
noted_at mu negative (place.BadNumber (bank.Registers c) n) h = omega arith
noted_at mu negative (place.Fetching l) h = absurd h
noted_at mu negative (place.Incompatible g) h = omega arith
noted_at mu negative place.Width h = absurd h
noted_at mu negative (place.Plus g) h = absurd h
noted_at mu negative (place.Stretch g) h = absurd h
noted_at mu negative (place.Minus g) h = absurd h
noted_at mu negative (place.Shrink g) h = absurd h
noted_at mu negative (place.Ended g internal) h = absurd h

pub glue_noted : (s : GlueScan) → IsNoted (glue_ask (resume s [])) → answer_weight (resume s (Noted ∷ [])) < answer_weight (resume s [])
glue_noted s h = noted_at s.mu s.negative s.place h

-- BEHIND WHAT STANDS AT A LOCATION

valued_light : (wanted mu : Bool) (g : Glue) → Most 58 (valued wanted mu g [])
valued_light true true g = omega arith
valued_light false false g = omega arith
valued_light true false g = omega arith
valued_light false true g = omega arith

fetched_at : (mu negative : Bool) (p : GluePlace) (v : SeenValue) → Most 58 (resume_at mu negative p (Fetched v ∷ []))
fetched_at mu negative (place.Fetching l) v = valued_light mu (is_mu l) (signed_glue negative (glue_at v))
fetched_at mu negative place.Signs v = omega arith
fetched_at mu negative (place.Numbered b) v = omega arith
fetched_at mu negative (place.BadNumber b n) v = omega arith
fetched_at mu negative (place.Incompatible g) v = omega arith
fetched_at mu negative place.Width v = omega arith
fetched_at mu negative (place.Plus g) v = omega arith
fetched_at mu negative (place.Stretch g) v = omega arith
fetched_at mu negative (place.Minus g) v = omega arith
fetched_at mu negative (place.Shrink g) v = omega arith
fetched_at mu negative (place.Ended g internal) v = omega arith

pub glue_fetched : (s : GlueScan) (v : SeenValue) → answer_weight (resume s (Fetched v ∷ [])) ≤ 58
glue_fetched s v = fetched_at s.mu s.negative s.place v

-- BEHIND A VALUE

number_light : (mu negative : Bool) (b : Bank) (n : ℤ) → Most 60 (with_number mu negative b n [])
number_light mu negative (bank.Codes c) n = most_if 60 (is_at_most 255 n) _ _ (omega arith) (omega arith)
number_light mu negative (bank.Registers c) n = most_if 60 (is_at_most 255 n) _ _ (omega arith) (omega arith)

numbered_at : (mu negative : Bool) (p : GluePlace) (n : ℤ) → Most 60 (resume_at mu negative p (Numbered n ∷ []))
numbered_at mu negative (place.Numbered b) n = number_light mu negative b n
numbered_at mu negative place.Signs n = omega arith
numbered_at mu negative (place.BadNumber b m) n = omega arith
numbered_at mu negative (place.Fetching l) n = omega arith
numbered_at mu negative (place.Incompatible g) n = omega arith
numbered_at mu negative place.Width n = omega arith
numbered_at mu negative (place.Plus g) n = omega arith
numbered_at mu negative (place.Stretch g) n = omega arith
numbered_at mu negative (place.Minus g) n = omega arith
numbered_at mu negative (place.Shrink g) n = omega arith
numbered_at mu negative (place.Ended g internal) n = omega arith

measured_at : (mu negative : Bool) (p : GluePlace) (n : ℤ) (order : ℕ) → Most 60 (resume_at mu negative p (Measured n order ∷ []))
measured_at mu negative place.Width n order = most_if 60 (is_part n order) _ _ (omega arith) (omega arith)
measured_at mu negative (place.Stretch g) n order = most_if 60 (is_part n order) _ _ (omega arith) (omega arith)
measured_at mu negative (place.Shrink g) n order = most_if 60 (is_part n order) _ _ (omega arith) (omega arith)
measured_at mu negative place.Signs n order = omega arith
measured_at mu negative (place.Numbered b) n order = omega arith
measured_at mu negative (place.BadNumber b m) n order = omega arith
measured_at mu negative (place.Fetching l) n order = omega arith
measured_at mu negative (place.Incompatible g) n order = omega arith
measured_at mu negative (place.Plus g) n order = omega arith
measured_at mu negative (place.Minus g) n order = omega arith
measured_at mu negative (place.Ended g internal) n order = omega arith

found_at : (mu negative : Bool) (p : GluePlace) (found : Bool) → Most 60 (resume_at mu negative p (Found found ∷ []))
found_at mu negative (place.Plus g) true = omega arith
found_at mu negative (place.Plus g) false = omega arith
found_at mu negative (place.Minus g) true = omega arith
found_at mu negative (place.Minus g) false = omega arith
found_at mu negative place.Signs found = omega arith
found_at mu negative (place.Numbered b) found = omega arith
found_at mu negative (place.BadNumber b m) found = omega arith
found_at mu negative (place.Fetching l) found = omega arith
found_at mu negative (place.Incompatible g) found = omega arith
found_at mu negative place.Width found = omega arith
found_at mu negative (place.Stretch g) found = omega arith
found_at mu negative (place.Shrink g) found = omega arith
found_at mu negative (place.Ended g internal) found = omega arith

value_light : (s : GlueScan) (v : Value) → Most 60 (resume s (glue_value v ∷ []))
value_light s (value.Plain (datum.Number n)) = numbered_at s.mu s.negative s.place n
value_light s (value.Plain (datum.Dimension n order)) = measured_at s.mu s.negative s.place n order
value_light s (value.Plain (datum.Found found)) = found_at s.mu s.negative s.place found
value_light s (value.Plain d) = numbered_at s.mu s.negative s.place (pos 0)
value_light s value.List = numbered_at s.mu s.negative s.place (pos 0)

pub glue_valued : (s : GlueScan) (v : Value) → answer_weight (resume s (glue_value v ∷ [])) ≤ 60
glue_valued s v = value_light s v

-- IT HAS A VALUE

pub glue_unended : (a : GlueAsk) → IsEnd (glue_ask a) → ⊥
glue_unended (More want) h = h
glue_unended (Begins i begins) h = h
glue_unended (Fetches l) h = h
glue_unended (Tells report) h = h
glue_unended (Done g) h = h
