-- The text of a dimension, item by item.
use Rattle.std.proofs.Common.{◌≡◌, ℕ, zero, suc, ◌+◌, ◌-◌, ◌*◌, ◌/◌, ◌%◌, ◌^◌, ◌<◌, ◌≤◌, ℤ, pos, negsuc, Bool, true, false, not, Option, Some, None, List, [], ◌∷◌, ◌++◌, length, append_assoc, append-nil, length-append, nat_le, nat_lt, refl, ap, sym, ◌∙◌, subst, arith}
use Rattle.std.specs.Prelude.{if◌then◌else◌}
use Rattle.std.specs.Fmt.{decimal}
use Rattle.std.proofs.lemmas.Fmt.{decimal_by_steps}
use Rattle.std.proofs.lemmas.Bool.Decides.{nat_tests}
use Rattle.std.proofs.lemmas.Int.{ints}
use Rattle.std.proofs.lemmas.List.Elements.{All-head, All-tail}
use Rattle.tex_defs.specs.declared.Seen.{Seen}
use Rattle.plain_tokens.specs.Categories.{other}
use Rattle.plain_tokens.specs.Numerals.{fraction_digits}
use Rattle.plain_tokens.specs.Tokens.{is_space}
use Rattle.rows.specs.Worked.{character}
use Rattle.rows.specs.Arithmetic.{measured, too_large}
use Rattle.rows.specs.Internal.{with_sign}
use Rattle.plain_readings.specs.Integers.{is_digit}
use Rattle.scaled_arith.specs.Scaled.{fraction_of}
use Rattle.scan_numbers.specs.Laws.{digit}
use Rattle.scan_numbers.proofs.Spelt.{digit_holds}
use Rattle.char_text.proofs.Fractions.{AllNine, printed_reads}
use Rattle.plain_readings.specs.Dimens.{Fed, Tok, Factored, dimension, factored, fraction, behind_digits, with_digit, amount, finished}
use Rattle.plain_readings.specs.declared.asks.DimenAsk.{DimenAsk}
use Rattle.plain_readings.specs.declared.asks.DimenAsk.TheVariants.{Done}
use Rattle.scan_dimens.specs.DimenViews.{IsDimension}
use Rattle.scan_dimens.specs.DimenWorked.{others, a_character, behind, plain}
use Rattle.scan_dimens.specs.DimenLaws.{characters, first, IsReadBack}

-- THE FIRST DIGIT

record IsDigitCode (c : ℕ) : Type 0 where
  low : 48 ≤ c
  high : c ≤ 57

pushed : (ds : List ℕ) (x : ℕ) → IsDigitCode x → IsDigitCode (first ds) → IsDigitCode (first (ds ++ x ∷ []))
pushed [] x h g = h
pushed (d ∷ ds) x h g = g

first_digit : (n : ℕ) → n < 2 ^ 64 → IsDigitCode (first (decimal n))
first_digit = decimal_by_steps (λ n ds. IsDigitCode (first ds))
    (λ n h. record { low = omega arith; high = omega arith })
    (λ n ds l h. pushed ds (48 + n % 10) (record { low = omega arith; high = omega arith }) h)

begun : (d : ℕ) → d ≤ 9 → (negative : Bool) (fed : List Fed) → dimension plain negative (Tok (digit d) ∷ fed) ≡ factored plain negative fed
begun zero h negative fed = refl
begun (suc zero) h negative fed = refl
begun (suc (suc zero)) h negative fed = refl
begun (suc (suc (suc zero))) h negative fed = refl
begun (suc (suc (suc (suc zero)))) h negative fed = refl
begun (suc (suc (suc (suc (suc zero))))) h negative fed = refl
begun (suc (suc (suc (suc (suc (suc zero)))))) h negative fed = refl
begun (suc (suc (suc (suc (suc (suc (suc zero))))))) h negative fed = refl
begun (suc (suc (suc (suc (suc (suc (suc (suc zero)))))))) h negative fed = refl
begun (suc (suc (suc (suc (suc (suc (suc (suc (suc zero))))))))) h negative fed = refl
begun (suc (suc (suc (suc (suc (suc (suc (suc (suc (suc d)))))))))) h negative fed = absurd (omega arith)

begun_at : (c : ℕ) → IsDigitCode c → (negative : Bool) (fed : List Fed) → dimension plain negative (Tok (character other c) ∷ fed) ≡ factored plain negative fed
begun_at c h negative fed =
    let low : 48 ≤ c = h.low in
    let high : c ≤ 57 = h.high in
    let e : 48 + (c - 48) ≡ c = omega arith in
    subst (λ (c : ℕ). dimension plain negative (Tok (character other c) ∷ fed) ≡ factored plain negative fed) e (begun (c - 48) (omega arith) negative fed)

-- THE DIGITS BEHIND THE POINT

taken : (b : Bool) (p q : DimenAsk) → b ≡ true → (if b then p else q) ≡ p
taken b p q e = ap (λ (b : Bool). if b then p else q) e

room : (ds : List ℕ) (d : ℕ) → length ds < 17 → with_digit ds d ≡ ds ++ d ∷ []
room ds d h =
    let e : nat_lt (length ds) 17 ≡ true = grind (arith, nat_tests) in
    ap (λ (b : Bool). if b then ds ++ d ∷ [] else ds) e

one_more : (negative : Bool) (n d : ℕ) (ds : List ℕ) (fed : List Fed) → d ≤ 9 → length ds < 17 →
    fraction plain negative n ds (Tok (digit d) ∷ fed) ≡ fraction plain negative n (ds ++ d ∷ []) fed
one_more negative n d ds fed h g =
    let i = digit_holds d h in
    taken (is_digit 10 (digit d)) _ (behind_digits plain negative (amount n ds) (digit d) fed) i.is ∙
    (ap (λ (e : ℕ). fraction plain negative n (with_digit ds e) fed) i.value ∙ ap (λ (l : List ℕ). fraction plain negative n l fed) (room ds d g))

several : (negative : Bool) (n : ℕ) (ds es : List ℕ) (fed : List Fed) → AllNine es → length ds + length es ≤ 17 →
    fraction plain negative n ds (others (characters es) fed) ≡ fraction plain negative n (ds ++ es) fed
several negative n ds [] fed nines h = ap (λ (l : List ℕ). fraction plain negative n l fed) (sym (append-nil ds))
several negative n ds (e ∷ es) fed nines h =
    let l : length (ds ++ e ∷ []) ≡ length ds + 1 = length-append ds (e ∷ []) in
    one_more negative n e ds (others (characters es) fed) (All-head (λ digit. digit ≤ 9) e es nines) (omega arith) ∙
    (several negative n (ds ++ e ∷ []) es fed (All-tail (λ digit. digit ≤ 9) e es nines) (omega arith) ∙
    ap (λ (l : List ℕ). fraction plain negative n l fed) (append_assoc ds (e ∷ []) es))

-- THE VALUE

worth : (n w f : ℕ) → w ≡ n / 65536 → f ≡ n % 65536 → (65536 * w + f) * 1 / 1 ≡ n
worth n w f e g = omega arith

small : (n : ℕ) → n < too_large → measured (pos n) ≡ Some (pos n)
small n h =
    let e : nat_le too_large n ≡ false = grind (arith, nat_tests) in
    ap (λ (b : Bool). if b then None else Some (pos n)) e

-- behind the unit
abbrev ended : (negative : Bool) → Option ℤ → Seen → DimenAsk
ended negative v x = finished negative v 0 (not (is_space x)) []

-- behind the signs
unsigned_read : (negative : Bool) (n : ℕ) (x : Seen) → n < too_large →
    dimension plain negative (Tok (character other (first (decimal (n / 65536)))) ∷ Factored (pos (n / 65536)) true ∷ others (46 ∷ characters (fraction_digits (n % 65536))) (a_character 112 (behind 3 (Tok x ∷ [])))) ≡
    Done (with_sign negative (pos n)) 0 (not (is_space x))
unsigned_read negative n x h =
    let w : ℕ = n / 65536 in
    let ds : List ℕ = fraction_digits (n % 65536) in
    let r = printed_reads (n % 65536) (omega arith) in
    let few : length ds ≤ 5 = r.few in
    let tail : List Fed = a_character 112 (behind 3 (Tok x ∷ [])) in
    let value : (65536 * w + fraction_of ds) * 1 / 1 ≡ n = worth n w (fraction_of ds) refl r.read in
    begun_at (first (decimal w)) (first_digit w (omega arith)) negative (Factored (pos w) true ∷ others (46 ∷ characters ds) tail) ∙
    (several negative w [] ds tail r.nines (omega arith) ∙
    ap (λ (o : Option ℤ). ended negative o x) (ap (λ (m : ℕ). measured (pos m)) value ∙ small n h))

negated : (n : ℕ) → with_sign true (pos (suc n)) ≡ negsuc n
negated n = omega (arith, ints)

pub read_back : (v : ℤ) → IsDimension v → IsReadBack v
read_back (pos n) h = record {
  negative = false;
  whole = n / 65536;
  digits = fraction_digits (n % 65536);
  text = refl;
  read = λ x. unsigned_read false n x h;
}
read_back (negsuc n) h = record {
  negative = true;
  whole = suc n / 65536;
  digits = fraction_digits (suc n % 65536);
  text = refl;
  read = λ x. unsigned_read true (suc n) x h ∙ ap (λ (m : ℤ). Done m 0 (not (is_space x))) (negated n);
}
