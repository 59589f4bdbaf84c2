-- A printed scaled number with the unit pt, read back.
use Rattle.std.proofs.Common.{◌≡◌, ℕ, suc, ◌+◌, ◌*◌, ◌/◌, ◌%◌, ◌^◌, ◌<◌, ◌≤◌, true, false, ℤ, pos, negsuc, neg_ℤ, unsigned_abs, List, [], ◌∷◌, ◌++◌, length, length-append, refl, ap, sym, ◌∙◌, arith}
use Rattle.std.specs.Prelude.{codes}
use Rattle.std.proofs.Math.Nat.{pow-suc}
use Rattle.std.proofs.lemmas.Fmt.{decimal_by_steps}
use Rattle.std.proofs.lemmas.List.Elements.{All-nil, All-cons, All-push}
use Rattle.std.specs.Fmt.{decimal}
use Rattle.plain_tokens.specs.Numerals.{scaled, unsigned_scaled, fraction_digits}
use Rattle.scaled_arith.specs.Scaled.{spelled_number, fraction_of}
use Rattle.char_text.specs.Readings.{characters, SpellsDimension}
use Rattle.char_text.proofs.Fractions.{AllNine, printed_reads}

-- the text is that of digits which spell n
record Spelled (n : ℕ) (text : List ℕ) : Type 0 where
  digits : List ℕ
  nines : AllNine digits
  text_is : text ≡ characters digits
  value_is : spelled_number digits ≡ n

number-last : (xs : List ℕ) (d : ℕ) → spelled_number (xs ++ d ∷ []) ≡ 10 * spelled_number xs + d
number-last [] d = omega arith
number-last (x ∷ xs) d =
    let e : length (xs ++ d ∷ []) ≡ suc (length xs) = length-append xs (d ∷ []) ∙ omega arith in
    let p = 10 ^ length xs in
    rw (e, pow-suc 10 (length xs), number-last xs d) (omega arith)

nines-last : (xs : List ℕ) (d : ℕ) → AllNine xs → d ≤ 9 → AllNine (xs ++ d ∷ [])
nines-last xs d h g = All-push (λ digit. digit ≤ 9) xs d h g

characters-last : (xs : List ℕ) (d : ℕ) → characters (xs ++ d ∷ []) ≡ characters xs ++ (48 + d) ∷ []
characters-last [] d = refl
characters-last (x ∷ xs) d = ap (λ rest. (48 + x) ∷ rest) (characters-last xs d)

spelled_decimal : (n : ℕ) → n < 2 ^ 64 → Spelled n (decimal n)
spelled_decimal n below = decimal_by_steps Spelled
    (λ k h. record { digits = k ∷ []; nines = All-cons (λ digit. digit ≤ 9) k [] (omega arith) (All-nil (λ digit. digit ≤ 9)); text_is = refl; value_is = omega arith })
    (λ k ds h s. record {
      digits = s.digits ++ k % 10 ∷ [];
      nines = nines-last s.digits (k % 10) s.nines (omega arith);
      text_is = ap (λ front. front ++ (48 + k % 10) ∷ []) s.text_is ∙ sym (characters-last s.digits (k % 10));
      value_is = number-last s.digits (k % 10) ∙ ap (λ front. 10 * front + k % 10) s.value_is ∙ omega arith;
    })
    n below

-- what the two parts of a number are worth together
worth : (n w f : ℕ) → w ≡ n / 65536 → f ≡ n % 65536 → (65536 * w + f) * 1 / 1 ≡ n
worth n w f e g = omega arith

reads_positive : (n : ℕ) → n < 2 ^ 31 → SpellsDimension (unsigned_scaled n ++ codes "pt") (pos n)
reads_positive n below =
    let s = spelled_decimal (n / 65536) (omega arith) in
    let r = printed_reads (n % 65536) (omega arith) in
    record {
      negative = false;
      whole = s.digits;
      fraction = fraction_digits (n % 65536);
      whole_digits = s.nines;
      fraction_digits = r.nines;
      text_is = ap (λ w. w ++ 46 ∷ characters (fraction_digits (n % 65536)) ++ codes "pt") s.text_is;
      value_is = ap pos (sym (worth n (spelled_number s.digits) (fraction_of (fraction_digits (n % 65536))) s.value_is r.read));
    }

reads_negative : (m : ℕ) → m < 2 ^ 31 → SpellsDimension (45 ∷ unsigned_scaled (suc m) ++ codes "pt") (negsuc m)
reads_negative m below =
    let n = suc m in
    let s = spelled_decimal (n / 65536) (omega arith) in
    let r = printed_reads (n % 65536) (omega arith) in
    record {
      negative = true;
      whole = s.digits;
      fraction = fraction_digits (n % 65536);
      whole_digits = s.nines;
      fraction_digits = r.nines;
      text_is = ap (λ w. 45 ∷ w ++ 46 ∷ characters (fraction_digits (n % 65536)) ++ codes "pt") s.text_is;
      value_is = ap (λ k. neg_ℤ (pos k)) (sym (worth n (spelled_number s.digits) (fraction_of (fraction_digits (n % 65536))) s.value_is r.read));
    }

pub reads_back : (v : ℤ) → unsigned_abs v < 2 ^ 30 → SpellsDimension (scaled v ++ codes "pt") v
reads_back (pos n) below = reads_positive n (omega arith)
reads_back (negsuc m) below = reads_negative m (omega arith)
