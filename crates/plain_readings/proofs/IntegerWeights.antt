-- An integer weighs less behind the note of its report, and behind what stands at the location for which it asked.
use Rattle.std.proofs.Common.{◌<◌, ℕ, ℤ, pos, ◌+◌, ◌*◌, Bool, true, false, not, List, [], ◌∷◌, ◌++◌, Option, Some, None, arith}
use Rattle.std.specs.Prelude.{if◌then◌else◌, nat_le}
use Rattle.tex_defs.specs.declared.Seen.{Seen}
use Rattle.tex_syntax.specs.declared.words.Report.{Report}
use Rattle.tex_syntax.specs.declared.words.Report.TheVariants.{MissingNumber, ImproperConstant}
use Rattle.plain_tokens.specs.Tokens.{is_other}
use Rattle.equivalents.specs.declared.values.Loc.{Loc}
use Rattle.rows.specs.declared.words.Datum.TheVariants as datum
use Rattle.rows.specs.declared.words.Value.TheVariants as value
use Rattle.rows.specs.declared.internal.Bank.{Bank}
use Rattle.rows.specs.declared.internal.Bank.TheVariants as bank
use Rattle.rows.specs.declared.internal.Internal.{Internal}
use Rattle.rows.specs.declared.internal.Internal.TheVariants as internal
use Rattle.rows.specs.Tokens.{is_at_most}
use Rattle.rows.specs.Internal.{byte_of, location_in, internal_of, integer_of, with_sign, is_mu}
use Rattle.rows.specs.Readings.{Fed, Tok, Val, Noted, Fetched, Ask, Tells, Inserts, Puts, Relaxes, Fetches, Magnifies}
use Rattle.plain_readings.specs.Integers.{is_digit, digit_of, is_minus, is_plus, greatest_integer, digits_dropped, too_big, digits, missing, first_digit, behind_number, behind_code, constant, code_of, improper_code, signed, mu_found, fetched, bad_numbered, with_number, numbered, internal_integer, by_meaning, unsigned, integer, number_ask}
use Rattle.plain_readings.specs.declared.asks.NumberAsk.{NumberAsk}
use Rattle.plain_readings.specs.Weights.{value_weight, ask_weight}

-- what is asked for is answered by this, which is no token and no value
abbrev pub Wants : Ask → Fed → Type 0
Wants (Tells report back) Noted = Unit {0}
Wants (Inserts t report back) Noted = Unit {0}
Wants (Puts t more) Noted = Unit {0}
Wants (Relaxes c n) Noted = Unit {0}
Wants Magnifies Noted = Unit {0}
Wants (Fetches l) (Fetched v) = Unit {0}
Wants a y = ⊥

abbrev weighs : NumberAsk → ℕ
weighs a = ask_weight value_weight (number_ask a)

abbrev pub Falls : Fed → NumberAsk → NumberAsk → Type 0
Falls y a b = Wants (number_ask a) y → weighs b < weighs a

falls_if : (y : Fed) (c : Bool) (p p' q q' : NumberAsk) → Falls y p p' → Falls y q q' → Falls y (if c then p else q) (if c then p' else q')
falls_if y true p p' q q' h i = h
falls_if y false p p' q q' h i = i

light_if : (c : Bool) (p q : NumberAsk) (n : ℕ) → weighs p < n → weighs q < n → weighs (if c then p else q) < n
light_if true p q n h i = h
light_if false p q n h i = i

module _ (y : Fed) where
  dropped_falls : (negative : Bool) (radix : ℕ) (fed : List Fed) → Falls y (digits_dropped negative radix fed) (digits_dropped negative radix (fed ++ y ∷ []))
  dropped_falls negative radix [] = λ h. absurd h
  dropped_falls negative radix (Tok x ∷ fed) = falls_if y (is_digit radix x) _ _ _ _ (dropped_falls negative radix fed) (λ h. absurd h)
  dropped_falls negative radix (z ∷ fed) = λ h. absurd h

too_big_ends : (y : Fed) (negative : Bool) (radix : ℕ) → Falls y (too_big negative radix []) (too_big negative radix (y ∷ []))
too_big_ends Noted negative radix h = omega arith
too_big_ends y negative radix h = absurd h

missing_ends : (y : Fed) (n : ℤ) (report : Report) → Falls y (missing n report []) (missing n report (y ∷ []))
missing_ends Noted n report h = omega arith
missing_ends y n report h = absurd h

mu_ends : (y : Fed) (n : ℤ) → Falls y (mu_found n []) (mu_found n (y ∷ []))
mu_ends Noted n h = omega arith
mu_ends y n h = absurd h

fetched_ends : (y : Fed) (negative : Bool) (l : Loc) → Falls y (fetched negative l []) (fetched negative l (y ∷ []))
fetched_ends (Fetched v) negative l h = light_if (is_mu l) _ _ _ (omega arith) (omega arith)
fetched_ends y negative l h = absurd h

bad_ends : (y : Fed) (negative : Bool) (b : Bank) (n : ℤ) → Falls y (bad_numbered negative b n []) (bad_numbered negative b n (y ∷ []))
bad_ends Noted negative (bank.Codes kind) n h = omega arith
bad_ends Noted negative (bank.Registers kind) n h = omega arith
bad_ends y negative b n h = absurd h

module _ (y : Fed) where
  too_big_falls : (negative : Bool) (radix : ℕ) (fed : List Fed) → Falls y (too_big negative radix fed) (too_big negative radix (fed ++ y ∷ []))
  too_big_falls negative radix [] = too_big_ends y negative radix
  too_big_falls negative radix (Noted ∷ fed) = dropped_falls y negative radix fed
  too_big_falls negative radix (z ∷ fed) = λ h. absurd h

  digits_fall : (negative : Bool) (radix n : ℕ) (fed : List Fed) → Falls y (digits negative radix n fed) (digits negative radix n (fed ++ y ∷ []))
  digits_fall negative radix n [] = λ h. absurd h
  digits_fall negative radix n (Tok x ∷ fed) =
      falls_if y (is_digit radix x) _ _ _ _
      (falls_if y (nat_le (n * radix + digit_of x.token) greatest_integer) _ _ _ _ (digits_fall negative radix (n * radix + digit_of x.token) fed) (too_big_falls negative radix fed))
      (λ h. absurd h)
  digits_fall negative radix n (z ∷ fed) = λ h. absurd h

  missing_falls : (n : ℤ) (report : Report) (fed : List Fed) → Falls y (missing n report fed) (missing n report (fed ++ y ∷ []))
  missing_falls n report [] = missing_ends y n report
  missing_falls n report (Noted ∷ fed) = λ h. absurd h
  missing_falls n report (z ∷ fed) = λ h. absurd h

  first_falls : (negative : Bool) (radix : ℕ) (fed : List Fed) → Falls y (first_digit negative radix fed) (first_digit negative radix (fed ++ y ∷ []))
  first_falls negative radix [] = λ h. absurd h
  first_falls negative radix (Tok x ∷ fed) = falls_if y (is_digit radix x) _ _ _ _ (digits_fall negative radix (digit_of x.token) fed) (missing_falls (pos 0) MissingNumber fed)
  first_falls negative radix (z ∷ fed) = λ h. absurd h

  behind_falls : (negative : Bool) (n : ℕ) (fed : List Fed) → Falls y (behind_number negative n fed) (behind_number negative n (fed ++ y ∷ []))
  behind_falls negative n [] = λ h. absurd h
  behind_falls negative n (Tok x ∷ fed) = λ h. absurd h
  behind_falls negative n (z ∷ fed) = λ h. absurd h

  code_falls : (negative : Bool) (o : Option ℕ) (fed : List Fed) → Falls y (behind_code negative o fed) (behind_code negative o (fed ++ y ∷ []))
  code_falls negative None fed = missing_falls (signed negative improper_code) ImproperConstant fed
  code_falls negative (Some c) fed = behind_falls negative c fed

  constant_falls : (negative : Bool) (fed : List Fed) → Falls y (constant negative fed) (constant negative (fed ++ y ∷ []))
  constant_falls negative [] = λ h. absurd h
  constant_falls negative (Tok x ∷ fed) = code_falls negative (code_of x.token) fed
  constant_falls negative (z ∷ fed) = λ h. absurd h

  mu_falls : (n : ℤ) (fed : List Fed) → Falls y (mu_found n fed) (mu_found n (fed ++ y ∷ []))
  mu_falls n [] = mu_ends y n
  mu_falls n (Noted ∷ fed) = λ h. absurd h
  mu_falls n (z ∷ fed) = λ h. absurd h

  fetched_falls : (negative : Bool) (l : Loc) (fed : List Fed) → Falls y (fetched negative l fed) (fetched negative l (fed ++ y ∷ []))
  fetched_falls negative l [] = fetched_ends y negative l
  fetched_falls negative l (Fetched v ∷ fed) = falls_if y (is_mu l) _ _ _ _ (mu_falls (with_sign negative (integer_of v)) fed) (λ h. absurd h)
  fetched_falls negative l (z ∷ fed) = λ h. absurd h

  bad_falls : (negative : Bool) (b : Bank) (n : ℤ) (fed : List Fed) → Falls y (bad_numbered negative b n fed) (bad_numbered negative b n (fed ++ y ∷ []))
  bad_falls negative b n [] = bad_ends y negative b n
  bad_falls negative b n (Noted ∷ fed) = fetched_falls negative (location_in b 0) fed
  bad_falls negative b n (z ∷ fed) = λ h. absurd h

  number_falls : (negative : Bool) (b : Bank) (n : ℤ) (fed : List Fed) → Falls y (with_number negative b n fed) (with_number negative b n (fed ++ y ∷ []))
  number_falls negative b n fed = falls_if y (is_at_most 255 n) _ _ _ _ (fetched_falls negative (location_in b (byte_of n)) fed) (bad_falls negative b n fed)

  numbered_falls : (negative : Bool) (b : Bank) (fed : List Fed) → Falls y (numbered negative b fed) (numbered negative b (fed ++ y ∷ []))
  numbered_falls negative b [] = λ h. absurd h
  numbered_falls negative b (Val (value.Plain (datum.Number n)) ts ∷ fed) = number_falls negative b n fed
  numbered_falls negative b (z ∷ fed) = λ h. absurd h

  internal_falls : (negative : Bool) (i : Internal) (fed : List Fed) → Falls y (internal_integer negative i fed) (internal_integer negative i (fed ++ y ∷ []))
  internal_falls negative (internal.Given n) fed = λ h. absurd h
  internal_falls negative (internal.At l) fed = fetched_falls negative l fed
  internal_falls negative (internal.Numbered b) fed = numbered_falls negative b fed

  meaning_falls : (negative : Bool) (o : Option Internal) (x : Seen) (fed : List Fed) → Falls y (by_meaning negative o x fed) (by_meaning negative o x (fed ++ y ∷ []))
  meaning_falls negative (Some i) x fed = internal_falls negative i fed
  meaning_falls negative None x fed = falls_if y (is_digit 10 x) _ _ _ _ (digits_fall negative 10 (digit_of x.token) fed) (missing_falls (pos 0) MissingNumber fed)

  unsigned_falls : (negative : Bool) (x : Seen) (fed : List Fed) → Falls y (unsigned negative x fed) (unsigned negative x (fed ++ y ∷ []))
  unsigned_falls negative x fed =
      falls_if y (is_other 96 x.token) _ _ _ _ (constant_falls negative fed)
      (falls_if y (is_other 39 x.token) _ _ _ _ (first_falls negative 8 fed)
      (falls_if y (is_other 34 x.token) _ _ _ _ (first_falls negative 16 fed) (meaning_falls negative (internal_of x.meaning) x fed)))

  pub integer_falls : (negative : Bool) (fed : List Fed) → Falls y (integer negative fed) (integer negative (fed ++ y ∷ []))
  integer_falls negative [] = λ h. absurd h
  integer_falls negative (Tok x ∷ fed) =
      falls_if y (is_minus x) _ _ _ _ (integer_falls (not negative) fed) (falls_if y (is_plus x) _ _ _ _ (integer_falls negative fed) (unsigned_falls negative x fed))
  integer_falls negative (z ∷ fed) = λ h. absurd h

-- AN INTEGER THAT BEGAN WITH A TOKEN may report that no number is there, or ask for what stands at a location

meaning_light : (negative : Bool) (o : Option Internal) (x : Seen) → weighs (by_meaning negative o x []) < 60
meaning_light negative (Some (internal.Given n)) x = omega arith
meaning_light negative (Some (internal.At l)) x = omega arith
meaning_light negative (Some (internal.Numbered b)) x = omega arith
meaning_light negative None x = light_if (is_digit 10 x) _ _ _ (omega arith) (omega arith)

pub integer_light : (x : Seen) → weighs (integer false (Tok x ∷ [])) < 60
integer_light x =
    light_if (is_minus x) _ _ _ (omega arith)
    (light_if (is_plus x) _ _ _ (omega arith)
    (light_if (is_other 96 x.token) _ _ _ (omega arith)
    (light_if (is_other 39 x.token) _ _ _ (omega arith)
    (light_if (is_other 34 x.token) _ _ _ (omega arith) (meaning_light false (internal_of x.meaning) x)))))
