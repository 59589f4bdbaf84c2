-- The decimal text of a number, digit by digit.
use Rattle.std.proofs.Common.{◌≡◌, ◌≤◌, ◌<◌, ◌+◌, ◌*◌, ◌/◌, ◌%◌, ◌^◌, ◌++◌, ℕ, suc, ℤ, pos, negsuc, ◌≤ℤ◌, Bool, true, false, not, List, [], ◌∷◌, ap, ◌∙◌, refl, arith}
use Rattle.std.specs.Fmt.{decimal, signed_decimal}
use Rattle.std.proofs.lemmas.Fmt.{decimal_by_steps}
use Rattle.std.proofs.lemmas.Int.{ints}
use Rattle.tex_defs.specs.declared.Seen.{Seen}
use Rattle.plain_tokens.specs.Categories.{other}
use Rattle.plain_tokens.specs.Tokens.{is_space}
use Rattle.rows.specs.Worked.{character}
use Rattle.rows.specs.Readings.{Fed, Tok}
use Rattle.plain_readings.specs.Integers.{integer, digits, ends_with, signed, is_digit, greatest_integer}
use Rattle.plain_readings.specs.Worked.{others}
use Rattle.scan_numbers.specs.Views.{IsInRange}
use Rattle.scan_numbers.specs.Laws.{digit}
use Rattle.scan_numbers.proofs.Spelt.{digit_holds, fits, ended}

-- behind this text an integer stands behind digits of this value
abbrev Reads : ℕ → List ℕ → Type 0
Reads n ds = n ≤ greatest_integer → (negative : Bool) (fed : List Fed) → integer negative (others ds fed) ≡ digits negative 10 n fed

others_append : (ds es : List ℕ) (fed : List Fed) → others (ds ++ es) fed ≡ others ds (others es fed)
others_append [] es fed = refl
others_append (d ∷ ds) es fed = ap (λ (fed : List Fed). Tok (character other d) ∷ fed) (others_append ds es fed)

one : (n : ℕ) → n < 10 → Reads n ((48 + n) ∷ [])
one n h = λ f negative fed. (digit_holds n (omega arith)).first negative fed

more : (n : ℕ) (ds : List ℕ) → 10 ≤ n → Reads (n / 10) ds → Reads n (ds ++ ((48 + n % 10) ∷ []))
more n ds h reads = λ f negative fed.
    let d : ℕ = n % 10 in
    let e : (n / 10) * 10 + n % 10 ≡ n = omega arith in
    ap (λ (fed : List Fed). integer negative fed) (others_append ds ((48 + n % 10) ∷ []) fed)
    ∙ (reads (omega arith) negative (Tok (digit (n % 10)) ∷ fed)
    ∙ (fits negative (n / 10) (n % 10) fed (omega arith) (omega arith)
    ∙ ap (λ (k : ℕ). digits negative 10 k fed) e))

decimal_reads : (n : ℕ) → n < 2 ^ 64 → Reads n (decimal n)
decimal_reads = decimal_by_steps Reads one more

negated : (n : ℕ) → signed true (suc n) ≡ negsuc n
negated n = omega (arith, ints)

pub read_back : (n : ℤ) (x : Seen) → IsInRange n → is_digit 10 x ≡ false → integer false (others (signed_decimal n) (Tok x ∷ [])) ≡ ends_with n (not (is_space x))
read_back (pos n) x range e =
    let h : pos n ≤ℤ pos 2147483647 = range.high in
    let f : n ≤ greatest_integer = omega (arith, ints) in
    decimal_reads n (omega arith) f false (Tok x ∷ []) ∙ ended false n x e
read_back (negsuc n) x range e =
    let h : negsuc 2147483646 ≤ℤ negsuc n = range.low in
    let f : suc n ≤ greatest_integer = omega (arith, ints) in
    decimal_reads (suc n) (omega arith) f true (Tok x ∷ [])
    ∙ (ended true (suc n) x e ∙ ap (λ (k : ℤ). ends_with k (not (is_space x))) (negated n))
