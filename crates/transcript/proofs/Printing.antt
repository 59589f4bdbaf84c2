-- The machine's own words, printed.
use Rattle.std.proofs.Common.{◌≡◌, ℕ, zero, suc, ℤ, ◌+◌, ◌<◌, ◌^◌, Bool, true, false, List, [], ◌∷◌, ◌++◌, length, take, get_or, IsTrue, refl, ap, sym, ◌∙◌, arith}
use Rattle.std.specs.Prelude.{◌&&◌, if◌then◌else◌}
use Rattle.std.specs.Fmt.{decimal, signed_decimal}
use Rattle.std.proofs.lemmas.List.{take_more, flat_map_more}
use Rattle.std.specs.Str.Parse.{AllDigits}
use Rattle.std.specs.Prelude.{pos, negsuc}
use Rattle.std.specs.Int.Signed.{mag}
use Rattle.std.specs.Int.{IsInRange}
use Rattle.std.proofs.lemmas.Str.Parse.{digit_from_value}
use Rattle.std.proofs.lemmas.Bool.Decides.{nat_tests}
use Rattle.std.proofs.lemmas.Fmt.{decimal_is_IsNumeral}
use Rattle.plain_tokens.specs.Categories.{is_between}
use Rattle.plain_tokens.specs.Printed.{is_code, printed_by}
use Rattle.token_show.specs.Bytes.{all_printed}
use Rattle.transcript.specs.Plain.{is_plain}

one_if : (b : Bool) (c : ℕ) → (if b then 10 ∷ [] else c ∷ []) ≡ (if b then 10 else c) ∷ []
one_if true c = refl
one_if false c = refl

and_first : (a b : Bool) → IsTrue (a && b) → a ≡ true
and_first true b h = refl
and_first false b h = cc

and_second : (a b : Bool) → IsTrue (a && b) → IsTrue b
and_second true b h = h
and_second false b h = cc

-- a character from 32 to 126 prints as one byte
one_byte : (newline : ℤ) (c : ℕ) → is_between 32 126 c ≡ true → printed_by newline c ≡ (if is_code newline c then 10 else c) ∷ []
one_byte newline c plain = rw plain (one_if (is_code newline c) c)

plain_at : (cs : List ℕ) (i : ℕ) → i < length cs → IsTrue (is_plain cs) → is_between 32 126 (get_or cs i 0) ≡ true
plain_at [] i h p = absurd (omega arith)
plain_at (c ∷ cs) zero h p = and_first (is_between 32 126 c) (is_plain cs) p
plain_at (c ∷ cs) (suc i) h p = plain_at cs i (omega arith) (and_second (is_between 32 126 c) (is_plain cs) p)

-- one character more
pub fixed_more : (newline : ℤ) (cs old text text' : List ℕ) (i byte : ℕ) → i < length cs → IsTrue (is_plain cs) → text ≡ old ++ all_printed newline (take i cs) →
    byte ≡ (if is_code newline (get_or cs i 0) then 10 else get_or cs i 0) → text' ≡ text ++ byte ∷ [] → text' ≡ old ++ all_printed newline (take (i + 1) cs)
fixed_more newline cs old text text' i byte h p front is more =
    more ∙ ap (λ (t : List ℕ). t ++ byte ∷ []) front
    ∙ ap (λ (t : List ℕ). (old ++ all_printed newline (take i cs)) ++ t) (ap (λ (b : ℕ). b ∷ []) is ∙ sym (one_byte newline (get_or cs i 0) (plain_at cs i h p)))
    ∙ flat_map_more (printed_by newline) old (take i cs) (get_or cs i 0)
    ∙ ap (λ (t : List ℕ). old ++ all_printed newline t) (sym (take_more cs i 0 h))

-- digits
digit_between : (c : ℕ) → IsInRange 48 57 c → is_between 32 126 c ≡ true
digit_between c h = grind (arith, nat_tests)

digits_plain : (ds : List ℕ) → AllDigits 10 ds → IsTrue (is_plain ds)
digits_plain [] h = refl
digits_plain (c ∷ cs) h = rw (digit_between c (digit_from_value c h.0)) (digits_plain cs h.1)

pub decimal_plain : (n : ℕ) → n < 2 ^ 64 → IsTrue (is_plain (decimal n))
decimal_plain n h = digits_plain (decimal n) (decimal_is_IsNumeral n h).0.1

pub signed_plain : (n : ℤ) → mag n < 2 ^ 32 → IsTrue (is_plain (signed_decimal n))
signed_plain (pos n) h = decimal_plain n (omega arith)
signed_plain (negsuc n) h = decimal_plain (suc n) (omega arith)

pub plain_by : (bs ds : List ℕ) → bs ≡ ds → IsTrue (is_plain ds) → IsTrue (is_plain bs)
plain_by bs ds e h = rw e h
