-- A law of integers, of `\csname`, of `\input` and of skipped text is proved once, by induction over what they were fed with: it holds of all that they ask for,
-- where it holds of what each step of their definitions asks for.
use Rattle.std.proofs.Common.{ℕ, ℤ, pos, ◌+◌, ◌*◌, Bool, true, false, not, List, [], ◌∷◌, ◌++◌, Option, Some, None}
use Rattle.std.specs.Prelude.{if◌then◌else◌, nat_le}
use Rattle.tex_defs.specs.declared.Token.{Token}
use Rattle.tex_defs.specs.declared.Seen.{Seen}
use Rattle.tex_syntax.specs.declared.words.Want.{Want}
use Rattle.tex_syntax.specs.declared.words.Want.TheVariants.{Raw, Expanded, Nonblank, Unentered}
use Rattle.tex_syntax.specs.declared.words.Report.{Report}
use Rattle.tex_syntax.specs.declared.words.Report.TheVariants.{MissingNumber, ImproperConstant, NumberTooBig, IncompatibleUnits, MissingEndcsname}
use Rattle.plain_tokens.specs.Tokens.{is_other, is_space}
use Rattle.conditionals.specs.declared.choice.Aim.{Aim}
use Rattle.conditionals.specs.declared.skip.Ender.{Ender}
use Rattle.conditionals.specs.Skipping.{part, ends_at, open_behind}
use Rattle.equivalents.specs.declared.values.Loc.{Loc}
use Rattle.rows.specs.declared.words.Datum.TheVariants as datum
use Rattle.rows.specs.declared.words.Value.TheVariants as value
use Rattle.rows.specs.declared.internal.Bank.{Bank}
use Rattle.rows.specs.declared.internal.Internal.{Internal}
use Rattle.rows.specs.declared.internal.Internal.TheVariants as internal
use Rattle.rows.specs.Internal.{byte_of, location_in, bad_number, internal_of, integer_of, with_sign, is_mu}
use Rattle.rows.specs.declared.command.Call.{Call}
use Rattle.rows.specs.declared.command.Effect.TheVariants.{Reach}
use Rattle.rows.specs.Tokens.{is_character, is_at_most}
use Rattle.rows.specs.Laws.{is_noted}
use Rattle.rows.specs.Commands.{CommandAsk, command_ask}
use Rattle.rows.specs.Readings.{Fed, Tok, Val, Noted, Fetched, Ask, More, Acts, Ends, Tells}
use Rattle.plain_readings.specs.declared.asks.NumberAsk.{NumberAsk}
use Rattle.plain_readings.specs.declared.asks.NumberAsk.TheVariants as number
use Rattle.plain_readings.specs.Integers.{ends_with, is_digit, digit_of, is_minus, is_plus, greatest_integer, signed, digits_dropped, too_big, digits, missing, first_digit, behind_number, behind_code, constant, code_of, improper_code, mu_found, fetched, bad_numbered, with_number, numbered, internal_integer, by_meaning, unsigned, integer}
use Rattle.plain_readings.specs.Spelling.{is_endcsname, makes, endcsname_missing, spelling}
use Rattle.plain_readings.specs.FileNames.{character_meant, is_blank, opens, named_on, file_naming}
use Rattle.plain_readings.specs.Skips.{ended, skipping}
use Rattle.plain_readings.proofs.Wants.{IsUncopied}

-- INTEGERS: a law speaks of an answer, and of whether a note came last
module _
    (P : Bool → NumberAsk → Type 0)
    (more : (b : Bool) (want : Want) → IsUncopied want → P b (number.More want))
    (tell : (report : Report) (back : Bool) → P false (number.Tells report back))
    (done : (b : Bool) (n : ℤ) (back : Bool) → P b (ends_with n back))
    (begin : (b : Bool) → P b number.Begins)
    (fetch : (b : Bool) (l : Loc) → P b (number.Fetches l))
  where
    number_if : (b c : Bool) (p q : NumberAsk) → P b p → P b q → P b (if c then p else q)
    number_if b true p q h i = h
    number_if b false p q h i = i

    dropped_holds : (negative : Bool) (radix : ℕ) (b : Bool) (fed : List Fed) → P (is_noted b fed) (digits_dropped negative radix fed)
    dropped_holds negative radix b [] = more b Expanded tt
    dropped_holds negative radix b (Tok x ∷ fed) =
        number_if _ (is_digit radix x) _ _ (dropped_holds negative radix false fed) (done _ (signed negative greatest_integer) (not (is_space x)))
    dropped_holds negative radix b (y ∷ fed) = done _ (pos 0) false

    too_big_holds : (negative : Bool) (radix : ℕ) (fed : List Fed) → P (is_noted false fed) (too_big negative radix fed)
    too_big_holds negative radix [] = tell NumberTooBig false
    too_big_holds negative radix (Noted ∷ fed) = dropped_holds negative radix true fed
    too_big_holds negative radix (y ∷ fed) = done _ (pos 0) false

    digits_hold : (negative : Bool) (radix n : ℕ) (b : Bool) (fed : List Fed) → P (is_noted b fed) (digits negative radix n fed)
    digits_hold negative radix n b [] = more b Expanded tt
    digits_hold negative radix n b (Tok x ∷ fed) =
        number_if _ (is_digit radix x) _ _
        (number_if _ (nat_le (n * radix + digit_of x.token) greatest_integer) _ _ (digits_hold negative radix (n * radix + digit_of x.token) false fed) (too_big_holds negative radix fed))
        (done _ (signed negative n) (not (is_space x)))
    digits_hold negative radix n b (y ∷ fed) = done _ (pos 0) false

    missing_holds : (n : ℤ) (report : Report) (fed : List Fed) → P (is_noted false fed) (missing n report fed)
    missing_holds n report [] = tell report true
    missing_holds n report (Noted ∷ fed) = done _ n false
    missing_holds n report (y ∷ fed) = done _ (pos 0) false

    first_holds : (negative : Bool) (radix : ℕ) (fed : List Fed) → P (is_noted false fed) (first_digit negative radix fed)
    first_holds negative radix [] = more false Expanded tt
    first_holds negative radix (Tok x ∷ fed) =
        number_if _ (is_digit radix x) _ _ (digits_hold negative radix (digit_of x.token) false fed) (missing_holds (pos 0) MissingNumber fed)
    first_holds negative radix (y ∷ fed) = done _ (pos 0) false

    behind_holds : (negative : Bool) (n : ℕ) (fed : List Fed) → P (is_noted false fed) (behind_number negative n fed)
    behind_holds negative n [] = more false Expanded tt
    behind_holds negative n (Tok x ∷ fed) = done _ (signed negative n) (not (is_space x))
    behind_holds negative n (y ∷ fed) = done _ (pos 0) false

    code_holds : (negative : Bool) (o : Option ℕ) (fed : List Fed) → P (is_noted false fed) (behind_code negative o fed)
    code_holds negative None fed = missing_holds (signed negative improper_code) ImproperConstant fed
    code_holds negative (Some c) fed = behind_holds negative c fed

    constant_holds : (negative : Bool) (fed : List Fed) → P (is_noted false fed) (constant negative fed)
    constant_holds negative [] = more false Raw tt
    constant_holds negative (Tok x ∷ fed) = code_holds negative (code_of x.token) fed
    constant_holds negative (y ∷ fed) = done _ (pos 0) false

    mu_holds : (n : ℤ) (fed : List Fed) → P (is_noted false fed) (mu_found n fed)
    mu_holds n [] = tell IncompatibleUnits false
    mu_holds n (Noted ∷ fed) = done _ n false
    mu_holds n (y ∷ fed) = done _ (pos 0) false

    fetched_holds : (negative : Bool) (l : Loc) (b : Bool) (fed : List Fed) → P (is_noted b fed) (fetched negative l fed)
    fetched_holds negative l b [] = fetch b l
    fetched_holds negative l b (Fetched v ∷ fed) =
        number_if _ (is_mu l) _ _ (mu_holds (with_sign negative (integer_of v)) fed) (done _ (with_sign negative (integer_of v)) false)
    fetched_holds negative l b (y ∷ fed) = done _ (pos 0) false

    bad_holds : (negative : Bool) (k : Bank) (n : ℤ) (fed : List Fed) → P (is_noted false fed) (bad_numbered negative k n fed)
    bad_holds negative k n [] = tell (bad_number k n) false
    bad_holds negative k n (Noted ∷ fed) = fetched_holds negative (location_in k 0) true fed
    bad_holds negative k n (y ∷ fed) = done _ (pos 0) false

    number_holds : (negative : Bool) (k : Bank) (n : ℤ) (fed : List Fed) → P (is_noted false fed) (with_number negative k n fed)
    number_holds negative k n fed =
        number_if _ (is_at_most 255 n) _ _ (fetched_holds negative (location_in k (byte_of n)) false fed) (bad_holds negative k n fed)

    numbered_holds : (negative : Bool) (k : Bank) (fed : List Fed) → P (is_noted false fed) (numbered negative k fed)
    numbered_holds negative k [] = begin false
    numbered_holds negative k (Val (value.Plain (datum.Number n)) ts ∷ fed) = number_holds negative k n fed
    numbered_holds negative k (y ∷ fed) = done _ (pos 0) false

    internal_holds : (negative : Bool) (i : Internal) (fed : List Fed) → P (is_noted false fed) (internal_integer negative i fed)
    internal_holds negative (internal.Given n) fed = done _ (with_sign negative (pos n)) false
    internal_holds negative (internal.At l) fed = fetched_holds negative l false fed
    internal_holds negative (internal.Numbered k) fed = numbered_holds negative k fed

    meaning_holds : (negative : Bool) (o : Option Internal) (x : Seen) (fed : List Fed) → P (is_noted false fed) (by_meaning negative o x fed)
    meaning_holds negative (Some i) x fed = internal_holds negative i fed
    meaning_holds negative None x fed =
        number_if _ (is_digit 10 x) _ _ (digits_hold negative 10 (digit_of x.token) false fed) (missing_holds (pos 0) MissingNumber fed)

    unsigned_holds : (negative : Bool) (x : Seen) (fed : List Fed) → P (is_noted false fed) (unsigned negative x fed)
    unsigned_holds negative x fed =
        number_if _ (is_other 96 x.token) _ _ (constant_holds negative fed)
        (number_if _ (is_other 39 x.token) _ _ (first_holds negative 8 fed)
        (number_if _ (is_other 34 x.token) _ _ (first_holds negative 16 fed)
        (meaning_holds negative (internal_of x.meaning) x fed)))

    pub integer_holds : (negative b : Bool) (fed : List Fed) → P (is_noted b fed) (integer negative fed)
    integer_holds negative b [] = more b Nonblank tt
    integer_holds negative b (Tok x ∷ fed) =
        number_if _ (is_minus x) _ _ (integer_holds (not negative) false fed) (number_if _ (is_plus x) _ _ (integer_holds negative false fed) (unsigned_holds negative x fed))
    integer_holds negative b (y ∷ fed) = done _ (pos 0) false

-- OTHERS: a law speaks of an answer, and of whether a note came last
module _ (P : Bool → Ask → Type 0) (more : (b : Bool) (want : Want) → IsUncopied want → P b (More want)) (tell : (report : Report) (back : Bool) → P false (Tells report back)) where
  command_if : (b c : Bool) (p q : CommandAsk) → P b (command_ask p) → P b (command_ask q) → P b (command_ask (if c then p else q))
  command_if b true p q h i = h
  command_if b false p q h i = i

  module _ (end : (b : Bool) → P b Ends) (make : (b : Bool) (c : Call) (ts : List Token) → P b (command_ask (makes c ts))) where
    endcsname_holds : (c : Call) (ts : List Token) (fed : List Fed) → P (is_noted false fed) (command_ask (endcsname_missing c ts fed))
    endcsname_holds c ts [] = tell MissingEndcsname true
    endcsname_holds c ts (Noted ∷ fed) = make _ c ts
    endcsname_holds c ts (y ∷ fed) = end _

    pub spelling_holds : (c : Call) (ts : List Token) (b : Bool) (fed : List Fed) → P (is_noted b fed) (command_ask (spelling c ts fed))
    spelling_holds c ts b [] = more b Expanded tt
    spelling_holds c ts b (Tok x ∷ fed) =
        command_if _ (is_character x.token) _ _ (spelling_holds c (ts ++ x.token ∷ []) false fed) (command_if _ (is_endcsname x) _ _ (make _ c ts) (endcsname_holds c ts fed))
    spelling_holds c ts b (y ∷ fed) = end _

  module _ (end : (b : Bool) → P b Ends) (opened : (b : Bool) (c : Call) (back : Bool) (ts : List Token) → P b (command_ask (opens c back ts))) where
    named_holds : (c : Call) (ts : List Token) (b : Bool) (o : Option Token) (longer : List Token → CommandAsk) → ((us : List Token) → P b (command_ask (longer us))) → P b (command_ask (named_on c ts o longer))
    named_holds c ts b None longer h = opened b c true ts
    named_holds c ts b (Some t) longer h = command_if b (is_blank t) _ _ (opened b c false ts) (h (ts ++ t ∷ []))

    pub naming_holds : (c : Call) (want : Want) → IsUncopied want → (ts : List Token) (b : Bool) (fed : List Fed) → P (is_noted b fed) (command_ask (file_naming c want ts fed))
    naming_holds c want plain ts b [] = more b want plain
    naming_holds c want plain ts b (Tok x ∷ fed) =
        named_holds c ts (is_noted false fed) (character_meant x.meaning) (λ us. file_naming c Expanded us fed) (λ us. naming_holds c Expanded tt us false fed)
    naming_holds c want plain ts b (y ∷ fed) = end _

  module _ (end : (b : Bool) → P b Ends) (reach : (b : Bool) (c : Call) (aim : Aim) (e : Ender) → P b (Acts c (Reach aim e))) where
    ended_holds : (c : Call) (aim : Aim) (b : Bool) (o : Option Ender) (onward : CommandAsk) → P b (command_ask onward) → P b (command_ask (ended c aim o onward))
    ended_holds c aim b None onward h = h
    ended_holds c aim b (Some e) onward h = reach b c aim e

    pub skipping_holds : (c : Call) (aim : Aim) (depth : ℕ) (b : Bool) (fed : List Fed) → P (is_noted b fed) (command_ask (skipping c aim depth fed))
    skipping_holds c aim depth b [] = more b Unentered tt
    skipping_holds c aim depth b (Tok x ∷ fed) =
        ended_holds c aim (is_noted false fed) (ends_at depth (part x.meaning)) _ (skipping_holds c aim (open_behind depth (part x.meaning)) false fed)
    skipping_holds c aim depth b (y ∷ fed) = end _
