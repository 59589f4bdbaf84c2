-- The texts of numbers, as bytes: whole numbers, hexadecimal, scaled numbers and roman numerals.
use Rattle.std.specs.Prelude.{ℕ, zero, suc, ◌+◌, ◌-◌, ◌*◌, ◌/◌, ◌%◌, ◌==◌, nat_lt, nat_le, true, if◌then◌else◌, ℤ, pos, negsuc, List, [], ◌∷◌, ◌++◌, map, replicate}
use Rattle.std.specs.Fmt.{digits, decimal, signed_decimal}

-- a whole number: `-` where it is negative, and its decimal digits
abbrev pub whole_number : ℤ → List ℕ
whole_number = signed_decimal

-- a number in hexadecimal digits, 0 to 9 and A to F
abbrev pub hexadecimal : ℕ → List ℕ
hexadecimal n = digits 16 true n

-- The digits of a fraction, from t and d. Where d passes 65536, 32768 - 50000 is added to t. Then t div 65536 is a digit,
-- t becomes 10·(t mod 65536), d becomes 10·d, and so on until t is at most d. The first argument bounds their number.
abbrev pub digits_until : ℕ → ℕ → ℕ → List ℕ
digits_until zero t d = []
digits_until (suc more) t d =
    let s = if nat_lt 65536 d then t + 32768 - 50000 else t in
    let rest = 10 * (s % 65536) in
    s / 65536 ∷ (if nat_le rest (10 * d) then [] else digits_until more rest (10 * d))

-- the digits of f/65536, f below 65536, from t = 10·f + 5 and d = 10: there are at most 5
unfoldable pub fraction_digits : ℕ → List ℕ
fraction_digits f = digits_until 5 (10 * f + 5) 10

-- n/65536 of a point: the integer part, `.` and the digits of the fraction
abbrev pub unsigned_scaled : ℕ → List ℕ
unsigned_scaled n = decimal (n / 65536) ++ 46 ∷ map (λ digit. 48 + digit) (fraction_digits (n % 65536))

-- a scaled number, without a unit: `-` where it is negative, and the text of its absolute value
abbrev pub scaled : ℤ → List ℕ
scaled (pos n) = unsigned_scaled n
scaled (negsuc n) = 45 ∷ unsigned_scaled (suc n)

-- A decimal digit in roman letters, by the letters for one, five and ten of its place. 4 is the letter for one before
-- that for five, and 9 before that for ten.
abbrev pub roman_digit : ℕ → ℕ → ℕ → ℕ → List ℕ
roman_digit one five ten digit =
    if digit == 9 then one ∷ ten ∷ [] else
    (if digit == 4 then one ∷ five ∷ [] else
    (if nat_le 5 digit then five ∷ replicate (digit - 5) one else replicate digit one))

-- the roman numeral of n: an m (109) for each thousand, and the digits of hundreds (c 99, d 100, m), tens (x 120, l 108, c)
-- and ones (i 105, v 118, x)
abbrev pub roman_numeral : ℕ → List ℕ
roman_numeral n =
    replicate (n / 1000) 109 ++ roman_digit 99 100 109 (n / 100 % 10) ++ roman_digit 120 108 99 (n / 10 % 10)
    ++ roman_digit 105 118 120 (n % 10)

-- the same of an integer: no letter for a negative number
abbrev pub roman : ℤ → List ℕ
roman (pos n) = roman_numeral n
roman (negsuc n) = []

-- what a roman letter counts, and 0 for another character
abbrev pub letter_value : ℕ → ℕ
letter_value letter =
    if letter == 105 then 1 else (if letter == 118 then 5 else (if letter == 120 then 10 else (if letter == 108 then 50 else
    (if letter == 99 then 100 else (if letter == 100 then 500 else (if letter == 109 then 1000 else 0))))))

-- what the first letter counts
abbrev pub first_value : List ℕ → ℕ
first_value [] = 0
first_value (letter ∷ letters) = letter_value letter

-- the value that roman letters spell: a letter before one that counts more is taken off
abbrev pub roman_value : List ℕ → ℕ
roman_value [] = 0
roman_value (letter ∷ letters) =
    if nat_lt (letter_value letter) (first_value letters) then roman_value letters - letter_value letter
    else letter_value letter + roman_value letters
