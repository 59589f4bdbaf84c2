-- Digits, one after the other.
use Rattle.std.proofs.Common.{◌≡◌, ◌≤◌, ◌<◌, ◌+◌, ◌*◌, ℕ, zero, suc, Bool, true, false, not, List, [], ◌∷◌, ap, sym, ◌∙◌, refl, subst, arith, zero-add, if◌then◌else◌, nat_le}
use Rattle.std.proofs.lemmas.Bool.Decides.{nat_tests}
use Rattle.tex_defs.specs.declared.Seen.{Seen}
use Rattle.plain_tokens.specs.Tokens.{is_space}
use Rattle.rows.specs.Readings.{Fed, Tok}
use Rattle.plain_readings.specs.declared.asks.NumberAsk.{NumberAsk}
use Rattle.plain_readings.specs.Integers.{integer, digits, digits_dropped, too_big, number_ended, ends_with, signed, is_digit, digit_of, greatest_integer}
use Rattle.scan_numbers.specs.Laws.{digit, spelt, AreDigits, number_behind, Spells, IsTooBig}

taken : (b : Bool) (p q : NumberAsk) → b ≡ true → (if b then p else q) ≡ p
taken b p q e = ap (λ (b : Bool). if b then p else q) e

skipped : (b : Bool) (p q : NumberAsk) → b ≡ false → (if b then p else q) ≡ q
skipped b p q e = ap (λ (b : Bool). if b then p else q) e

is_fit : (n : ℕ) → n ≤ greatest_integer → nat_le n greatest_integer ≡ true
is_fit n h = grind (arith, nat_tests)

is_unfit : (n : ℕ) → greatest_integer < n → nat_le n greatest_integer ≡ false
is_unfit n h = grind (arith, nat_tests)

-- what a digit is to an integer
pub record Digit (d : ℕ) : Type 0 where
  pub is : is_digit 10 (digit d) ≡ true
  pub value : digit_of (digit d).token ≡ d
  pub first : (negative : Bool) (fed : List Fed) → integer negative (Tok (digit d) ∷ fed) ≡ digits negative 10 d fed

pub digit_holds : (d : ℕ) → d ≤ 9 → Digit d
digit_holds zero h = record { is = refl; value = refl; first = λ negative fed. refl }
digit_holds (suc zero) h = record { is = refl; value = refl; first = λ negative fed. refl }
digit_holds (suc (suc zero)) h = record { is = refl; value = refl; first = λ negative fed. refl }
digit_holds (suc (suc (suc zero))) h = record { is = refl; value = refl; first = λ negative fed. refl }
digit_holds (suc (suc (suc (suc zero)))) h = record { is = refl; value = refl; first = λ negative fed. refl }
digit_holds (suc (suc (suc (suc (suc zero))))) h = record { is = refl; value = refl; first = λ negative fed. refl }
digit_holds (suc (suc (suc (suc (suc (suc zero)))))) h = record { is = refl; value = refl; first = λ negative fed. refl }
digit_holds (suc (suc (suc (suc (suc (suc (suc zero))))))) h = record { is = refl; value = refl; first = λ negative fed. refl }
digit_holds (suc (suc (suc (suc (suc (suc (suc (suc zero)))))))) h = record { is = refl; value = refl; first = λ negative fed. refl }
digit_holds (suc (suc (suc (suc (suc (suc (suc (suc (suc zero))))))))) h = record { is = refl; value = refl; first = λ negative fed. refl }
digit_holds (suc (suc (suc (suc (suc (suc (suc (suc (suc (suc d)))))))))) h = absurd (omega arith)

-- behind the number `n` a digit is one more
more : (negative : Bool) (n d : ℕ) (fed : List Fed) → d ≤ 9 → digits negative 10 n (Tok (digit d) ∷ fed) ≡
    (if nat_le (n * 10 + d) greatest_integer then digits negative 10 (n * 10 + d) fed else too_big negative 10 fed)
more negative n d fed h =
    let i = digit_holds d h in
    taken (is_digit 10 (digit d)) _ (number_ended negative n (digit d)) i.is
    ∙ ap (λ (d : ℕ). if nat_le (n * 10 + d) greatest_integer then digits negative 10 (n * 10 + d) fed else too_big negative 10 fed) i.value

pub fits : (negative : Bool) (n d : ℕ) (fed : List Fed) → d ≤ 9 → n * 10 + d ≤ greatest_integer → digits negative 10 n (Tok (digit d) ∷ fed) ≡ digits negative 10 (n * 10 + d) fed
fits negative n d fed h f = more negative n d fed h ∙ taken (nat_le (n * 10 + d) greatest_integer) _ (too_big negative 10 fed) (is_fit (n * 10 + d) f)

exceeds : (negative : Bool) (n d : ℕ) (fed : List Fed) → d ≤ 9 → greatest_integer < n * 10 + d → digits negative 10 n (Tok (digit d) ∷ fed) ≡ too_big negative 10 fed
exceeds negative n d fed h f = more negative n d fed h ∙ skipped (nat_le (n * 10 + d) greatest_integer) (digits negative 10 (n * 10 + d) fed) _ (is_unfit (n * 10 + d) f)

grows : (n : ℕ) (ds : List ℕ) → n ≤ number_behind n ds
grows n [] = omega arith
grows n (d ∷ ds) = let h = grows (n * 10 + d) ds in omega arith

several : (negative : Bool) (n : ℕ) (ds : List ℕ) (fed : List Fed) → AreDigits ds → number_behind n ds ≤ greatest_integer →
    digits negative 10 n (spelt ds fed) ≡ digits negative 10 (number_behind n ds) fed
several negative n [] fed are f = refl
several negative n (d ∷ ds) fed are f =
    let g = grows (n * 10 + d) ds in
    fits negative n d (spelt ds fed) are.0 (omega arith) ∙ several negative (n * 10 + d) ds fed are.1 f

-- from the first digit on
pub all : (negative : Bool) (d : ℕ) (ds : List ℕ) (n : ℕ) (fed : List Fed) → Spells (d ∷ ds) n → integer negative (spelt (d ∷ ds) fed) ≡ digits negative 10 n fed
all negative d ds n fed s =
    let e : number_behind d ds ≡ n = ap (λ (k : ℕ). number_behind k ds) (sym (zero-add d)) ∙ s.number in
    let f : number_behind d ds ≤ greatest_integer = subst (λ (k : ℕ). k ≤ greatest_integer) (sym e) s.fits in
    (digit_holds d s.digits.0).first negative (spelt ds fed)
    ∙ (several negative d ds fed s.digits.1 f ∙ ap (λ (k : ℕ). digits negative 10 k fed) e)

pub ended : (negative : Bool) (n : ℕ) (x : Seen) → is_digit 10 x ≡ false → digits negative 10 n (Tok x ∷ []) ≡ ends_with (signed negative n) (not (is_space x))
ended negative n x e = skipped (is_digit 10 x) _ (number_ended negative n x) e

pub too_big_at : (negative : Bool) (ds : List ℕ) (n d : ℕ) (fed : List Fed) → IsTooBig ds n d → integer negative (spelt ds (Tok (digit d) ∷ fed)) ≡ too_big negative 10 fed
too_big_at negative [] n d fed b =
    let e : 0 ≡ n = b.spells.number in
    let f = b.digit in
    let g = b.exceeds in
    absurd (omega arith)
too_big_at negative (e ∷ es) n d fed b = all negative e es n (Tok (digit d) ∷ fed) b.spells ∙ exceeds negative n d fed b.digit b.exceeds

pub drops : (negative : Bool) (more : List ℕ) (fed : List Fed) → AreDigits more → digits_dropped negative 10 (spelt more fed) ≡ digits_dropped negative 10 fed
drops negative [] fed are = refl
drops negative (d ∷ ds) fed are =
    taken (is_digit 10 (digit d)) (digits_dropped negative 10 (spelt ds fed)) (number_ended negative greatest_integer (digit d)) (digit_holds d are.0).is ∙ drops negative ds fed are.1

pub dropped : (negative : Bool) (x : Seen) → is_digit 10 x ≡ false →
    digits_dropped negative 10 (Tok x ∷ []) ≡ ends_with (signed negative greatest_integer) (not (is_space x))
dropped negative x e = skipped (is_digit 10 x) (digits_dropped negative 10 []) (number_ended negative greatest_integer x) e
