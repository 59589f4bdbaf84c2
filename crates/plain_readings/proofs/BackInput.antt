-- Integers, factors, and the names that are spelt or are a file's give the last token back only directly behind a token: by induction over what they were
-- fed with.
use Rattle.std.proofs.Common.{ℕ, ℤ, pos, ◌+◌, ◌*◌, Bool, true, false, not, List, [], ◌∷◌, ◌++◌, Option, Some, None, refl}
use Rattle.std.specs.Prelude.{if◌then◌else◌, nat_le}
use Rattle.tex_defs.specs.declared.Token.{Token}
use Rattle.tex_defs.specs.declared.Seen.{Seen}
use Rattle.tex_syntax.specs.declared.words.Want.{Want}
use Rattle.tex_syntax.specs.declared.words.Want.TheVariants.{Expanded}
use Rattle.tex_syntax.specs.declared.words.Report.{Report}
use Rattle.tex_syntax.specs.declared.words.Report.TheVariants.{MissingNumber, ImproperConstant}
use Rattle.plain_tokens.specs.Tokens.{is_other, is_space}
use Rattle.equivalents.specs.declared.values.Loc.{Loc}
use Rattle.rows.specs.declared.words.Datum.TheVariants as datum
use Rattle.rows.specs.declared.words.Value.{Value}
use Rattle.rows.specs.declared.words.Value.TheVariants as value
use Rattle.rows.specs.declared.internal.Bank.{Bank}
use Rattle.rows.specs.declared.internal.Internal.{Internal}
use Rattle.rows.specs.declared.internal.Internal.TheVariants as internal
use Rattle.rows.specs.Tokens.{is_at_most, is_character}
use Rattle.rows.specs.Internal.{byte_of, location_in, internal_of, integer_of, with_sign, is_mu}
use Rattle.rows.specs.declared.command.Call.{Call}
use Rattle.rows.specs.Commands.{CommandAsk, command_ask}
use Rattle.rows.specs.Readings.{Fed, Tok, Val, Noted, Fetched, Ask, Done}
use Rattle.plain_readings.specs.Integers.{is_digit, digit_of, is_minus, is_plus, greatest_integer, signed, digits_dropped, too_big, digits, missing, first_digit, behind_number, behind_code, constant, code_of, improper_code, mu_found, fetched, bad_numbered, numbered, internal_integer, by_meaning, unsigned, integer, ends_with, number_ask}
use Rattle.plain_readings.specs.declared.asks.NumberAsk.{NumberAsk}
use Rattle.plain_readings.specs.declared.asks.NumberAsk.TheVariants as number
use Rattle.plain_readings.specs.Factors.{as_factor, factor, factor_ask}
use Rattle.plain_readings.specs.Spelling.{is_endcsname, endcsname_missing, spelling}
use Rattle.plain_readings.specs.FileNames.{character_meant, is_blank, opens, named_on, file_naming}
use Rattle.plain_readings.specs.Laws.{is_met, Returns, GivesBack, Comes, ComeInTurn}
use Rattle.plain_readings.proofs.Factors.{factor_is}

-- Where all came in turn, what is asked for gives the last token back only directly behind one; `b` says whether one came directly before these.
abbrev pub Gives : Bool → (List Fed → Ask) → List Fed → Type 0
Gives b asks fed = ComeInTurn asks fed → GivesBack (is_met b fed) (asks fed)

-- directly behind a token
pub direct : (back : Bool) → Returns true back
direct true = refl
direct false = tt

-- nothing comes behind an end with a value
pub done_gives : (v : Value) (back b : Bool) → Returns b back → (fed : List Fed) → Gives b (λ more. Done v back) fed
done_gives v back b r [] = λ h. r
done_gives v back b r (y ∷ fed) = λ h. absurd h.0

pub if_gives : (b c : Bool) (p q : List Fed → Ask) (fed : List Fed) → Gives b p fed → Gives b q fed → Gives b (λ more. if c then p more else q more) fed
if_gives b true p q fed h i = h
if_gives b false p q fed h i = i

-- INTEGERS

abbrev pub Numbers : Bool → (List Fed → NumberAsk) → List Fed → Type 0
Numbers b asks fed = Gives b (λ more. number_ask (asks more)) fed

number_if : (b c : Bool) (p q : List Fed → NumberAsk) (fed : List Fed) → Numbers b p fed → Numbers b q fed → Numbers b (λ more. if c then p more else q more) fed
number_if b true p q fed h i = h
number_if b false p q fed h i = i

number_gives : (n : ℤ) (x : Seen) (fed : List Fed) → Numbers true (λ more. ends_with n (not (is_space x))) fed
number_gives n x fed = done_gives (value.Plain (datum.Number n)) (not (is_space x)) true (direct (not (is_space x))) fed

dropped_gives : (negative : Bool) (radix : ℕ) (b : Bool) (fed : List Fed) → Numbers b (digits_dropped negative radix) fed
dropped_gives negative radix b [] = λ h. tt
dropped_gives negative radix b (Tok x ∷ fed) =
    λ h. number_if true (is_digit radix x) _ _ fed (dropped_gives negative radix true fed) (number_gives (signed negative greatest_integer) x fed) h.1
dropped_gives negative radix b (y ∷ fed) = λ h. tt

too_big_gives : (negative : Bool) (radix : ℕ) (b : Bool) (fed : List Fed) → Numbers b (too_big negative radix) fed
too_big_gives negative radix b [] = λ h. tt
too_big_gives negative radix b (Noted ∷ fed) = λ h. dropped_gives negative radix false fed h.1
too_big_gives negative radix b (y ∷ fed) = λ h. tt

digits_give : (negative : Bool) (radix n : ℕ) (b : Bool) (fed : List Fed) → Numbers b (digits negative radix n) fed
digits_give negative radix n b [] = λ h. tt
digits_give negative radix n b (Tok x ∷ fed) =
    λ h. number_if true (is_digit radix x) _ _ fed
    (number_if true (nat_le (n * radix + digit_of x.token) greatest_integer) _ _ fed (digits_give negative radix (n * radix + digit_of x.token) true fed) (too_big_gives negative radix true fed))
    (number_gives (signed negative n) x fed) h.1
digits_give negative radix n b (y ∷ fed) = λ h. tt

missing_gives : (n : ℤ) (report : Report) (fed : List Fed) → Numbers true (missing n report) fed
missing_gives n report [] = λ h. refl
missing_gives n report (Noted ∷ fed) = λ h. tt
missing_gives n report (y ∷ fed) = λ h. tt

first_gives : (negative : Bool) (radix : ℕ) (b : Bool) (fed : List Fed) → Numbers b (first_digit negative radix) fed
first_gives negative radix b [] = λ h. tt
first_gives negative radix b (Tok x ∷ fed) =
    λ h. number_if true (is_digit radix x) _ _ fed (digits_give negative radix (digit_of x.token) true fed) (missing_gives (pos 0) MissingNumber fed) h.1
first_gives negative radix b (y ∷ fed) = λ h. tt

behind_gives : (negative : Bool) (n : ℕ) (b : Bool) (fed : List Fed) → Numbers b (behind_number negative n) fed
behind_gives negative n b [] = λ h. tt
behind_gives negative n b (Tok x ∷ fed) = λ h. number_gives (signed negative n) x fed h.1
behind_gives negative n b (y ∷ fed) = λ h. tt

code_gives : (negative : Bool) (o : Option ℕ) (fed : List Fed) → Numbers true (behind_code negative o) fed
code_gives negative None fed = missing_gives (signed negative improper_code) ImproperConstant fed
code_gives negative (Some c) fed = behind_gives negative c true fed

constant_gives : (negative b : Bool) (fed : List Fed) → Numbers b (constant negative) fed
constant_gives negative b [] = λ h. tt
constant_gives negative b (Tok x ∷ fed) = λ h. code_gives negative (code_of x.token) fed h.1
constant_gives negative b (y ∷ fed) = λ h. tt

mu_gives : (n : ℤ) (b : Bool) (fed : List Fed) → Numbers b (mu_found n) fed
mu_gives n b [] = λ h. tt
mu_gives n b (Noted ∷ fed) = λ h. tt
mu_gives n b (y ∷ fed) = λ h. tt

fetched_gives : (negative : Bool) (l : Loc) (b : Bool) (fed : List Fed) → Numbers b (fetched negative l) fed
fetched_gives negative l b [] = λ h. tt
fetched_gives negative l b (Fetched v ∷ fed) = λ h. number_if false (is_mu l) _ (λ more. ends_with (with_sign negative (integer_of v)) false) fed (mu_gives (with_sign negative (integer_of v)) false fed) (λ h. tt) h.1
fetched_gives negative l b (y ∷ fed) = λ h. tt

bad_gives : (negative : Bool) (k : Bank) (n : ℤ) (b : Bool) (fed : List Fed) → Numbers b (bad_numbered negative k n) fed
bad_gives negative k n b [] = λ h. tt
bad_gives negative k n b (Noted ∷ fed) = λ h. fetched_gives negative (location_in k 0) false fed h.1
bad_gives negative k n b (y ∷ fed) = λ h. tt

numbered_gives : (negative : Bool) (k : Bank) (b : Bool) (fed : List Fed) → Numbers b (numbered negative k) fed
numbered_gives negative k b [] = λ h. tt
numbered_gives negative k b (Val (value.Plain (datum.Number n)) ts ∷ fed) =
    λ h. number_if false (is_at_most 255 n) _ _ fed (fetched_gives negative (location_in k (byte_of n)) false fed) (bad_gives negative k n false fed) h.1
numbered_gives negative k b (y ∷ fed) = λ h. tt

internal_gives : (negative : Bool) (i : Internal) (b : Bool) (fed : List Fed) → Numbers b (internal_integer negative i) fed
internal_gives negative (internal.Given n) b fed = λ h. tt
internal_gives negative (internal.At l) b fed = fetched_gives negative l b fed
internal_gives negative (internal.Numbered k) b fed = numbered_gives negative k b fed

meaning_gives : (negative : Bool) (o : Option Internal) (x : Seen) (fed : List Fed) → Numbers true (by_meaning negative o x) fed
meaning_gives negative (Some i) x fed = internal_gives negative i true fed
meaning_gives negative None x fed = number_if true (is_digit 10 x) _ _ fed (digits_give negative 10 (digit_of x.token) true fed) (missing_gives (pos 0) MissingNumber fed)

unsigned_gives : (negative : Bool) (x : Seen) (fed : List Fed) → Numbers true (unsigned negative x) fed
unsigned_gives negative x fed =
    number_if true (is_other 96 x.token) _ _ fed (constant_gives negative true fed)
    (number_if true (is_other 39 x.token) _ _ fed (first_gives negative 8 true fed)
    (number_if true (is_other 34 x.token) _ _ fed (first_gives negative 16 true fed) (meaning_gives negative (internal_of x.meaning) x fed)))

pub integer_gives : (negative b : Bool) (fed : List Fed) → Numbers b (integer negative) fed
integer_gives negative b [] = λ h. tt
integer_gives negative b (Tok x ∷ fed) =
    λ h. number_if true (is_minus x) _ _ fed (integer_gives (not negative) true fed) (number_if true (is_plus x) _ _ fed (integer_gives negative true fed) (unsigned_gives negative x fed)) h.1
integer_gives negative b (y ∷ fed) = λ h. tt

-- THE INTEGER BEFORE A FRACTION: what comes to it comes to an integer so

in_turn_too : (p q : List Fed → Ask) → ((fed : List Fed) (y : Fed) → Comes (p fed) y → Comes (q fed) y) → (fed : List Fed) → ComeInTurn p fed → ComeInTurn q fed
in_turn_too p q h [] t = tt
in_turn_too p q h (y ∷ fed) t = (h [] y t.0, in_turn_too (λ more. p (y ∷ more)) (λ more. q (y ∷ more)) (λ more z. h (y ∷ more) z) fed t.1)

as_comes : (decimal point : Bool) (a : NumberAsk) (y : Fed) → Comes (factor_ask (as_factor decimal point a)) y → Comes (number_ask a) y
as_comes decimal point (number.Done n back) y h = absurd h
as_comes decimal point (number.More want) y h = h
as_comes decimal point number.Begins y h = h
as_comes decimal point (number.Fetches l) y h = h
as_comes decimal point (number.Tells report back) y h = h

as_gives : (decimal point b : Bool) (a : NumberAsk) → GivesBack b (number_ask a) → GivesBack b (factor_ask (as_factor decimal point a))
as_gives decimal point b (number.Done n back) h = h
as_gives decimal point b (number.More want) h = h
as_gives decimal point b number.Begins h = h
as_gives decimal point b (number.Fetches l) h = h
as_gives decimal point b (number.Tells report back) h = h

pub factor_gives : (b : Bool) (fed : List Fed) → Gives b (λ more. factor_ask (factor more)) fed
factor_gives b fed h =
    let comes : (fed : List Fed) (y : Fed) → Comes (factor_ask (factor fed)) y → Comes (number_ask (integer false fed)) y =
    λ fed y. factor_is (λ a. Comes (factor_ask a) y → Comes (number_ask (integer false fed)) y) fed (λ decimal point. as_comes decimal point (integer false fed) y) in
    factor_is (λ a. GivesBack (is_met b fed) (factor_ask a)) fed
    (λ decimal point. as_gives decimal point (is_met b fed) (integer false fed)
    (integer_gives false b fed (in_turn_too (λ more. factor_ask (factor more)) (λ more. number_ask (integer false more)) comes fed h)))

-- NAMES THAT ARE SPELT, AND THOSE OF FILES

abbrev CommandGives : Bool → (List Fed → CommandAsk) → List Fed → Type 0
CommandGives b asks fed = Gives b (λ more. command_ask (asks more)) fed

command_if : (b c : Bool) (p q : List Fed → CommandAsk) (fed : List Fed) → CommandGives b p fed → CommandGives b q fed → CommandGives b (λ more. if c then p more else q more) fed
command_if b true p q fed h i = h
command_if b false p q fed h i = i

endcsname_gives : (c : Call) (ts : List Token) (fed : List Fed) → CommandGives true (endcsname_missing c ts) fed
endcsname_gives c ts [] = λ h. refl
endcsname_gives c ts (Noted ∷ fed) = λ h. tt
endcsname_gives c ts (y ∷ fed) = λ h. tt

pub spelling_gives : (c : Call) (ts : List Token) (b : Bool) (fed : List Fed) → CommandGives b (spelling c ts) fed
spelling_gives c ts b [] = λ h. tt
spelling_gives c ts b (Tok x ∷ fed) =
    λ h. command_if true (is_character x.token) _ _ fed (spelling_gives c (ts ++ x.token ∷ []) true fed) (command_if true (is_endcsname x) _ _ fed (λ h. tt) (endcsname_gives c ts fed)) h.1
spelling_gives c ts b (y ∷ fed) = λ h. tt

opened_gives : (c : Call) (back : Bool) (ts : List Token) (fed : List Fed) → CommandGives true (λ more. opens c back ts) fed
opened_gives c back ts [] = λ h. direct back
opened_gives c back ts (y ∷ fed) = λ h. absurd h.0

named_gives : (c : Call) (ts : List Token) (o : Option Token) (longer : List Token → List Fed → CommandAsk) (fed : List Fed) → ((us : List Token) → CommandGives true (longer us) fed) →
    CommandGives true (λ more. named_on c ts o (λ us. longer us more)) fed
named_gives c ts None longer fed h = opened_gives c true ts fed
named_gives c ts (Some t) longer fed h = command_if true (is_blank t) _ _ fed (opened_gives c false ts fed) (h (ts ++ t ∷ []))

pub naming_gives : (c : Call) (want : Want) (ts : List Token) (b : Bool) (fed : List Fed) → CommandGives b (file_naming c want ts) fed
naming_gives c want ts b [] = λ h. tt
naming_gives c want ts b (Tok x ∷ fed) =
    λ h. named_gives c ts (character_meant x.meaning) (λ us more. file_naming c Expanded us more) fed (λ us. naming_gives c Expanded us true fed) h.1
naming_gives c want ts b (y ∷ fed) = λ h. tt
