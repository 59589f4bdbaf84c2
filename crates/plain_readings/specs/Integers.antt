-- Integers: signs, then a constant, digits or an internal integer; one space behind all but the last. The TeXbook, chapter 24; TeX: The
-- Program, part 26 (`scan_int`, `scan_something_internal`).
use Rattle.std.specs.Prelude.{ℕ, ℤ, pos, ◌-ℤ◌, ◌+◌, ◌-◌, ◌*◌, ◌==◌, ◌&&◌, ◌||◌, nat_le, Bool, true, false, not, if◌then◌else◌, List, [], ◌∷◌, Option, Some, None}
use Rattle.tex_defs.specs.declared.Token.{Token}
use Rattle.tex_defs.specs.declared.Token.TheVariants as token
use Rattle.tex_defs.specs.declared.Name.{Name}
use Rattle.tex_defs.specs.declared.Name.TheVariants as name
use Rattle.tex_defs.specs.declared.Seen.{Seen}
use Rattle.tex_syntax.specs.declared.words.Want.TheVariants.{Raw, Expanded, Nonblank}
use Rattle.tex_syntax.specs.declared.words.Report.{Report}
use Rattle.tex_syntax.specs.declared.words.Report.TheVariants.{ImproperConstant, MissingNumber, NumberTooBig, IncompatibleUnits}
use Rattle.plain_tokens.specs.Categories.{letter, other, is_between}
use Rattle.plain_tokens.specs.Tokens.{is_other, is_space}
use Rattle.equivalents.specs.declared.values.Loc.{Loc}
use Rattle.rows.specs.declared.words.Datum.TheVariants as datum
use Rattle.rows.specs.declared.words.Value.TheVariants as value
use Rattle.rows.specs.declared.words.Phrase.TheVariants as phrase
use Rattle.rows.specs.declared.internal.Bank.{Bank}
use Rattle.rows.specs.declared.internal.Internal.{Internal}
use Rattle.rows.specs.declared.internal.Internal.TheVariants as internal
use Rattle.rows.specs.Tokens.{is_at_most}
use Rattle.rows.specs.Internal.{byte_of, location_in, bad_number, internal_of, integer_of, with_sign, is_mu}
use Rattle.rows.specs.Readings.{Fed, Tok, Val, Noted, Fetched, Ask}
use Rattle.rows.specs.Readings as reading
use Rattle.plain_readings.specs.declared.asks.NumberAsk.{NumberAsk}
use Rattle.plain_readings.specs.declared.asks.NumberAsk.TheVariants.{More, Begins, Fetches, Tells, Done}

-- it ends with this number, and the token behind it may be given back
abbrev pub ends_with : ℤ → (give_back : Bool) → NumberAsk
ends_with n back = Done n back

-- The end of an integer that was fed with what it didn't ask for, to which no run comes.
abbrev pub impossible : NumberAsk
impossible = ends_with (pos 0) false

abbrev pub is_minus : Seen → Bool
is_minus x = is_other 45 x.token

abbrev pub is_plus : Seen → Bool
is_plus x = is_other 43 x.token

-- DIGITS: 0 to 9 of category 12, and in hexadecimal constants A to F of category 11 or 12

abbrev pub is_digit_code : (radix category : ℕ) → ℕ → Bool
is_digit_code radix category c =
    ((category == other) && (nat_le 48 c && nat_le (c + 1) (48 + (if radix == 8 then 8 else 10))))
    || ((radix == 16) && ((category == letter || category == other) && is_between 65 70 c))

abbrev pub is_digit_token : ℕ → Token → Bool
is_digit_token radix (token.Char category code) = is_digit_code radix category code
is_digit_token radix t = false

abbrev pub is_digit : ℕ → Seen → Bool
is_digit radix x = is_digit_token radix x.token

abbrev pub digit_value : ℕ → ℕ
digit_value c = if nat_le 65 c then c - 55 else c - 48

abbrev pub digit_of : Token → ℕ
digit_of (token.Char category code) = digit_value code
digit_of t = 0

abbrev pub greatest_integer : ℕ
greatest_integer = 2147483647

abbrev pub signed : (negative : Bool) → ℕ → ℤ
signed negative n = if negative then (pos 0 -ℤ pos n) else pos n

-- the token behind a number: one space goes, another token is given back
abbrev pub number_ended : (negative : Bool) → ℕ → Seen → NumberAsk
number_ended negative n x = ends_with (signed negative n) (not (is_space x))

-- more digits, behind a number that was too big: they are dropped
abbrev pub digits_dropped : (negative : Bool) → (radix : ℕ) → List Fed → NumberAsk
digits_dropped negative radix [] = More Expanded
digits_dropped negative radix (Tok x ∷ fed) = if is_digit radix x then digits_dropped negative radix fed else number_ended negative greatest_integer x
digits_dropped negative radix (y ∷ fed) = impossible

-- a value above the greatest integer is reported at its digit
abbrev pub too_big : (negative : Bool) → (radix : ℕ) → List Fed → NumberAsk
too_big negative radix [] = Tells NumberTooBig false
too_big negative radix (Noted ∷ fed) = digits_dropped negative radix fed
too_big negative radix (y ∷ fed) = impossible

-- digits behind those of this value, and the token behind the last
abbrev pub digits : (negative : Bool) → (radix n : ℕ) → List Fed → NumberAsk
digits negative radix n [] = More Expanded
digits negative radix n (Tok x ∷ fed) =
    if is_digit radix x then (
    if nat_le (n * radix + digit_of x.token) greatest_integer then digits negative radix (n * radix + digit_of x.token) fed
    else too_big negative radix fed
    ) else number_ended negative n x
digits negative radix n (y ∷ fed) = impossible

-- in place of a number, where there is none: the token is given back and the report written
abbrev pub missing : ℤ → Report → List Fed → NumberAsk
missing n report [] = Tells report true
missing n report (Noted ∷ fed) = ends_with n false
missing n report (y ∷ fed) = impossible

-- the first digit behind ' or "
abbrev pub first_digit : (negative : Bool) → (radix : ℕ) → List Fed → NumberAsk
first_digit negative radix [] = More Expanded
first_digit negative radix (Tok x ∷ fed) = if is_digit radix x then digits negative radix (digit_of x.token) fed else missing (pos 0) MissingNumber fed
first_digit negative radix (y ∷ fed) = impossible

-- CONSTANTS: a backquote, and a character, an active character or a name of one character, which gives its code

abbrev pub name_code : Name → Option ℕ
name_code (name.Active c) = Some c
name_code (name.Single c) = Some c
name_code n = None

abbrev pub code_of : Token → Option ℕ
code_of (token.Char category code) = Some code
code_of (token.Named name) = name_code name
code_of (token.Marked name) = name_code name
code_of t = None

-- in place of a code that no token gives
abbrev pub improper_code : ℕ
improper_code = 48

-- one space behind a code
abbrev pub behind_number : (negative : Bool) → ℕ → List Fed → NumberAsk
behind_number negative n [] = More Expanded
behind_number negative n (Tok x ∷ fed) = number_ended negative n x
behind_number negative n (y ∷ fed) = impossible

abbrev pub behind_code : (negative : Bool) → Option ℕ → List Fed → NumberAsk
behind_code negative None fed = missing (signed negative improper_code) ImproperConstant fed
behind_code negative (Some c) fed = behind_number negative c fed

-- behind a backquote
abbrev pub constant : (negative : Bool) → List Fed → NumberAsk
constant negative [] = More Raw
constant negative (Tok x ∷ fed) = behind_code negative (code_of x.token) fed
constant negative (y ∷ fed) = impossible

-- INTERNAL INTEGERS: no space is read behind one

-- glue in mu is reported, and its width taken
abbrev pub mu_found : ℤ → List Fed → NumberAsk
mu_found n [] = Tells IncompatibleUnits false
mu_found n (Noted ∷ fed) = ends_with n false
mu_found n (y ∷ fed) = impossible

-- what stands at a location
abbrev pub fetched : (negative : Bool) → Loc → List Fed → NumberAsk
fetched negative l [] = Fetches l
fetched negative l (Fetched v ∷ fed) =
    if is_mu l then mu_found (with_sign negative (integer_of v)) fed else ends_with (with_sign negative (integer_of v)) false
fetched negative l (y ∷ fed) = impossible

-- another number than that of a register or a character is reported, and number 0 taken
abbrev pub bad_numbered : (negative : Bool) → Bank → ℤ → List Fed → NumberAsk
bad_numbered negative b n [] = Tells (bad_number b n) false
bad_numbered negative b n (Noted ∷ fed) = fetched negative (location_in b 0) fed
bad_numbered negative b n (y ∷ fed) = impossible

abbrev pub with_number : (negative : Bool) → Bank → ℤ → List Fed → NumberAsk
with_number negative b n fed = if is_at_most 255 n then fetched negative (location_in b (byte_of n)) fed else bad_numbered negative b n fed

-- the number of the register or of the character comes
abbrev pub numbered : (negative : Bool) → Bank → List Fed → NumberAsk
numbered negative b [] = Begins
numbered negative b (Val (value.Plain (datum.Number n)) ts ∷ fed) = with_number negative b n fed
numbered negative b (y ∷ fed) = impossible

abbrev pub internal_integer : (negative : Bool) → Internal → List Fed → NumberAsk
internal_integer negative (internal.Given n) fed = ends_with (with_sign negative (pos n)) false
internal_integer negative (internal.At l) fed = fetched negative l fed
internal_integer negative (internal.Numbered b) fed = numbered negative b fed

-- digits, where the token stands for no internal integer
abbrev pub plain_integer : (negative : Bool) → Seen → List Fed → NumberAsk
plain_integer negative x fed = if is_digit 10 x then digits negative 10 (digit_of x.token) fed else missing (pos 0) MissingNumber fed

abbrev pub by_meaning : (negative : Bool) → Option Internal → Seen → List Fed → NumberAsk
by_meaning negative (Some i) x fed = internal_integer negative i fed
by_meaning negative None x fed = plain_integer negative x fed

-- the first token behind the signs
abbrev pub unsigned : (negative : Bool) → Seen → List Fed → NumberAsk
unsigned negative x fed =
    if is_other 96 x.token then constant negative fed
    else if is_other 39 x.token then first_digit negative 8 fed
    else if is_other 34 x.token then first_digit negative 16 fed
    else by_meaning negative (internal_of x.meaning) x fed

-- with the sign so far
abbrev pub integer : (negative : Bool) → List Fed → NumberAsk
integer negative [] = More Nonblank
integer negative (Tok x ∷ fed) =
    if is_minus x then integer (not negative) fed
    else if is_plus x then integer negative fed
    else unsigned negative x fed
integer negative (y ∷ fed) = impossible

-- what it asks for, among all that a reading may ask for
abbrev pub number_ask : NumberAsk → Ask
number_ask (More want) = reading.More want
number_ask Begins = reading.Inner phrase.Integer false
number_ask (Fetches l) = reading.Fetches l
number_ask (Tells report back) = reading.Tells report back
number_ask (Done n back) = reading.Done (value.Plain (datum.Number n)) back
