-- The weights of an integer's frame, by where it stands.
use Rattle.std.proofs.Common.{◌≤◌, ◌<◌, ℕ, pos, ◌+◌, ◌*◌, Bool, true, false, [], ◌∷◌, Option, Some, None, arith}
use Rattle.std.specs.Prelude.{if◌then◌else◌, nat_le}
use Rattle.tex_defs.specs.declared.Seen.{Seen}
use Rattle.tex_syntax.specs.declared.words.Report.TheVariants.{MissingNumber}
use Rattle.plain_tokens.specs.Tokens.{is_other}
use Rattle.equivalents.specs.Locations.{SeenValue}
use Rattle.rows.specs.declared.internal.Bank.TheVariants as bank
use Rattle.rows.specs.declared.internal.Internal.{Internal}
use Rattle.rows.specs.declared.internal.Internal.TheVariants as internal
use Rattle.rows.specs.Internal.{internal_of, is_mu}
use Rattle.rows.specs.Readings.{Tok, Noted, Fetched}
use Rattle.plain_readings.specs.declared.asks.NumberAsk.{NumberAsk}
use Rattle.plain_readings.specs.Integers.{is_digit, digit_of, is_minus, is_plus, greatest_integer, digits, too_big, missing, code_of, behind_code, internal_integer, by_meaning, unsigned, integer, number_ask}
use Rattle.plain_readings.specs.Weights.{value_weight, ask_weight, IsNoted}
use Rattle.scan_numbers.specs.Views.{radix_number}
use Rattle.scan_numbers.specs.Resumes.{resume_at, resume}
use Rattle.scan_numbers.specs.declared.number.Place.{Place}
use Rattle.scan_numbers.specs.declared.number.Place.TheVariants as place
use Rattle.scan_numbers.specs.declared.number.NumberScan.{NumberScan}
use Rattle.reading_frames.specs.Weights.{IsEnd}

abbrev pub weighs : NumberAsk → ℕ
weighs a = ask_weight value_weight (number_ask a)

-- what it asks for
abbrev pub Most : ℕ → NumberAsk → Type 0
Most n a = weighs a ≤ n

pub most_if : (n : ℕ) (c : Bool) (p q : NumberAsk) → Most n p → Most n q → Most n (if c then p else q)
most_if n true p q h i = h
most_if n false p q h i = i

-- INTEGERS

light_at : (negative : Bool) (p : Place) → Most 60 (resume_at negative p [])
light_at negative place.Signs = omega arith
light_at negative place.Quote = omega arith
light_at negative (place.First radix) = omega arith
light_at negative (place.Digits radix n) = omega arith
light_at negative (place.TooBig radix) = omega arith
light_at negative (place.Dropped radix) = omega arith
light_at negative (place.Behind code) = omega arith
light_at negative place.NoNumber = omega arith
light_at negative place.NoCode = omega arith
light_at negative (place.Numbered b) = omega arith
light_at negative (place.BadNumber (bank.Codes kind) n) = omega arith
light_at negative (place.BadNumber (bank.Registers kind) n) = omega arith
light_at negative (place.Fetching l) = omega arith
light_at negative (place.MuFound n) = omega arith
light_at negative (place.Ended n back) = omega arith

pub integer_light : (s : NumberScan) → Most 60 (resume s [])
integer_light s = light_at s.negative s.place

-- Behind a token, where no number has been read

code_light : (negative : Bool) (o : Option ℕ) → Most 59 (behind_code negative o [])
code_light negative None = omega arith
code_light negative (Some c) = omega arith

internal_light : (negative : Bool) (i : Internal) → Most 59 (internal_integer negative i [])
internal_light negative (internal.Given n) = omega arith
internal_light negative (internal.At l) = omega arith
internal_light negative (internal.Numbered b) = omega arith

meaning_light : (negative : Bool) (o : Option Internal) (x : Seen) → Most 59 (by_meaning negative o x [])
meaning_light negative (Some i) x = internal_light negative i
meaning_light negative None x = most_if 59 (is_digit 10 x) (digits negative 10 (digit_of x.token) []) (missing (pos 0) MissingNumber []) (omega arith) (omega arith)

unsigned_light : (negative : Bool) (x : Seen) → Most 59 (unsigned negative x [])
unsigned_light negative x =
    most_if 59 (is_other 96 x.token) _ _ (omega arith)
    (most_if 59 (is_other 39 x.token) _ _ (omega arith) (most_if 59 (is_other 34 x.token) _ _ (omega arith) (meaning_light negative (internal_of x.meaning) x)))

pub signs_fed : (negative : Bool) (x : Seen) → Most 59 (integer negative (Tok x ∷ []))
signs_fed negative x = most_if 59 (is_minus x) _ _ (omega arith) (most_if 59 (is_plus x) _ _ (omega arith) (unsigned_light negative x))

fed_at : (negative : Bool) (p : Place) (x : Seen) → Most 59 (resume_at negative p (Tok x ∷ []))
fed_at negative place.Signs x = signs_fed negative x
fed_at negative place.Quote x = code_light negative (code_of x.token)
fed_at negative (place.First radix) x =
    most_if 59 (is_digit (radix_number radix) x) (digits negative (radix_number radix) (digit_of x.token) []) (missing (pos 0) MissingNumber []) (omega arith) (omega arith)
fed_at negative (place.Digits radix n) x =
    most_if 59 (is_digit (radix_number radix) x) _ _
    (most_if 59 (nat_le (n * radix_number radix + digit_of x.token) greatest_integer) (digits negative (radix_number radix) (n * radix_number radix + digit_of x.token) []) (too_big negative (radix_number radix) [])
    (omega arith) (omega arith))
    (omega arith)
fed_at negative (place.TooBig radix) x = omega arith
fed_at negative (place.Dropped radix) x = most_if 59 (is_digit (radix_number radix) x) _ _ (omega arith) (omega arith)
fed_at negative (place.Behind code) x = omega arith
fed_at negative place.NoNumber x = omega arith
fed_at negative place.NoCode x = omega arith
fed_at negative (place.Numbered b) x = omega arith
fed_at negative (place.BadNumber b n) x = omega arith
fed_at negative (place.Fetching l) x = omega arith
fed_at negative (place.MuFound n) x = omega arith
fed_at negative (place.Ended n back) x = omega arith

pub integer_fed : (s : NumberScan) (x : Seen) → Most 59 (resume s (Tok x ∷ []))
integer_fed s x = fed_at s.negative s.place x

-- Behind a note

noted_at : (negative : Bool) (p : Place) → IsNoted (number_ask (resume_at negative p [])) → weighs (resume_at negative p (Noted ∷ [])) < weighs (resume_at negative p [])
noted_at negative place.Signs h = absurd h
noted_at negative place.Quote h = absurd h
noted_at negative (place.First radix) h = absurd h
noted_at negative (place.Digits radix n) h = absurd h
noted_at negative (place.TooBig radix) h = omega arith
noted_at negative (place.Dropped radix) h = absurd h
noted_at negative (place.Behind code) h = absurd h
noted_at negative place.NoNumber h = omega arith
noted_at negative place.NoCode h = omega arith
noted_at negative (place.Numbered b) h = absurd h
noted_at negative (place.BadNumber (bank.Codes kind) n) h = omega arith
noted_at negative (place.BadNumber (bank.Registers kind) n) h = omega arith
noted_at negative (place.Fetching l) h = absurd h
noted_at negative (place.MuFound n) h = omega arith
noted_at negative (place.Ended n back) h = absurd h

pub integer_noted : (s : NumberScan) → IsNoted (number_ask (resume s [])) → weighs (resume s (Noted ∷ [])) < weighs (resume s [])
integer_noted s h = noted_at s.negative s.place h

-- Behind what stands at a location

fetched_at : (negative : Bool) (p : Place) (v : SeenValue) → Most 58 (resume_at negative p (Fetched v ∷ []))
fetched_at negative (place.Fetching m) v = most_if 58 (is_mu m) _ _ (omega arith) (omega arith)
fetched_at negative place.Signs v = omega arith
fetched_at negative place.Quote v = omega arith
fetched_at negative (place.First radix) v = omega arith
fetched_at negative (place.Digits radix n) v = omega arith
fetched_at negative (place.TooBig radix) v = omega arith
fetched_at negative (place.Dropped radix) v = omega arith
fetched_at negative (place.Behind code) v = omega arith
fetched_at negative place.NoNumber v = omega arith
fetched_at negative place.NoCode v = omega arith
fetched_at negative (place.Numbered b) v = omega arith
fetched_at negative (place.BadNumber b n) v = omega arith
fetched_at negative (place.MuFound n) v = omega arith
fetched_at negative (place.Ended n back) v = omega arith

pub integer_fetched : (s : NumberScan) (v : SeenValue) → Most 58 (resume s (Fetched v ∷ []))
integer_fetched s v = fetched_at s.negative s.place v

-- It has a value.

unended_at : (negative : Bool) (p : Place) → IsEnd (number_ask (resume_at negative p [])) → ⊥
unended_at negative place.Signs h = h
unended_at negative place.Quote h = h
unended_at negative (place.First radix) h = h
unended_at negative (place.Digits radix n) h = h
unended_at negative (place.TooBig radix) h = h
unended_at negative (place.Dropped radix) h = h
unended_at negative (place.Behind code) h = h
unended_at negative place.NoNumber h = h
unended_at negative place.NoCode h = h
unended_at negative (place.Numbered b) h = h
unended_at negative (place.BadNumber b n) h = h
unended_at negative (place.Fetching l) h = h
unended_at negative (place.MuFound n) h = h
unended_at negative (place.Ended n back) h = h

pub integer_unended : (s : NumberScan) → IsEnd (number_ask (resume s [])) → ⊥
integer_unended s h = unended_at s.negative s.place h
