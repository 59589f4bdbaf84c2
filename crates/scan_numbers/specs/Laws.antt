-- Integers spelt in decimal.
use Rattle.std.specs.Prelude.{ℕ, ℤ, ◌+◌, ◌*◌, ◌≤◌, ◌<◌, ◌≡◌, Bool, false, not, List, [], ◌∷◌}
use Rattle.std.specs.Fmt.{signed_decimal}
use Rattle.tex_defs.specs.declared.Token.TheVariants as token
use Rattle.tex_defs.specs.declared.Meaning.TheVariants as means
use Rattle.tex_defs.specs.declared.Seen.{Seen}
use Rattle.tex_syntax.specs.declared.words.Want.TheVariants.{Expanded}
use Rattle.tex_syntax.specs.declared.words.Report.TheVariants.{NumberTooBig}
use Rattle.plain_tokens.specs.Categories.{other}
use Rattle.plain_tokens.specs.Tokens.{is_space}
use Rattle.rows.specs.Readings.{Fed, Tok, Noted}
use Rattle.plain_readings.specs.declared.asks.NumberAsk.TheVariants.{More, Tells}
use Rattle.plain_readings.specs.Integers.{integer, ends_with, signed, is_digit, greatest_integer}
use Rattle.plain_readings.specs.Worked.{others}
use Rattle.scan_numbers.specs.Views.{IsInRange}

-- the digit 0 to 9 as a character of category 12
abbrev pub digit : ℕ → Seen
digit d = record { token = token.Char other (48 + d); meaning = means.Char other (48 + d) }

-- digits, and then this
abbrev pub spelt : List ℕ → List Fed → List Fed
spelt [] fed = fed
spelt (d ∷ ds) fed = Tok (digit d) ∷ spelt ds fed

abbrev pub AreDigits : List ℕ → Type 0
AreDigits [] = Unit {0}
AreDigits (d ∷ ds) = (d ≤ 9) × AreDigits ds

-- the number that digits spell behind those of another
abbrev pub number_behind : ℕ → List ℕ → ℕ
number_behind n [] = n
number_behind n (d ∷ ds) = number_behind (n * 10 + d) ds

abbrev pub number : List ℕ → ℕ
number = number_behind 0

-- Digits spell a number that is not too big.
pub record Spells (ds : List ℕ) (n : ℕ) : Type 0 where
  pub digits : AreDigits ds
  pub number : number ds ≡ n
  pub fits : n ≤ greatest_integer

-- With a digit more the number is too big.
pub record IsTooBig (ds : List ℕ) (n d : ℕ) : Type 0 where
  pub spells : Spells ds n
  pub digit : d ≤ 9
  pub exceeds : greatest_integer < n * 10 + d

-- The value is that number, with the sign; one space behind it goes, another token is given back. The report comes at the digit that
-- makes it too big, and never again: more digits are dropped, and the value is the greatest.
pub record DigitsAreRead : Type 0 where
  pub read :
      (negative : Bool) (d : ℕ) (ds : List ℕ) (n : ℕ) (x : Seen) → Spells (d ∷ ds) n → is_digit 10 x ≡ false →
      integer negative (spelt (d ∷ ds) (Tok x ∷ [])) ≡ ends_with (signed negative n) (not (is_space x))
  pub reported :
      (negative : Bool) (ds : List ℕ) (n d : ℕ) → IsTooBig ds n d → integer negative (spelt ds (Tok (digit d) ∷ [])) ≡ Tells NumberTooBig false
  pub reported_once :
      (negative : Bool) (ds : List ℕ) (n d : ℕ) (more : List ℕ) → IsTooBig ds n d → AreDigits more →
      integer negative (spelt ds (Tok (digit d) ∷ Noted ∷ spelt more [])) ≡ More Expanded
  pub greatest :
      (negative : Bool) (ds : List ℕ) (n d : ℕ) (more : List ℕ) (x : Seen) → IsTooBig ds n d → AreDigits more → is_digit 10 x ≡ false →
      integer negative (spelt ds (Tok (digit d) ∷ Noted ∷ spelt more (Tok x ∷ []))) ≡ ends_with (signed negative greatest_integer) (not (is_space x))

-- The decimal text of an integer, with its sign, is read as that integer again.
abbrev pub TextsAreReadBack : Type 0
TextsAreReadBack =
    (n : ℤ) (x : Seen) → IsInRange n → is_digit 10 x ≡ false → integer false (others (signed_decimal n) (Tok x ∷ [])) ≡ ends_with n (not (is_space x))
