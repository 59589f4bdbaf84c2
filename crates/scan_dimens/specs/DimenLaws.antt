-- Printed dimensions, read back.
use Rattle.std.specs.Prelude.{ℕ, ◌+◌, ℤ, ◌≡◌, Bool, true, false, not, if◌then◌else◌, pos, List, [], ◌∷◌, ◌++◌, map, codes}
use Rattle.std.specs.Fmt.{decimal}
use Rattle.tex_defs.specs.declared.Seen.{Seen}
use Rattle.plain_tokens.specs.Numerals.{scaled}
use Rattle.plain_tokens.specs.Tokens.{is_space}
use Rattle.plain_readings.specs.Dimens.{Fed, Tok, Factored, dimension}
use Rattle.plain_readings.specs.declared.asks.DimenAsk.TheVariants.{Done}
use Rattle.scan_dimens.specs.DimenViews.{IsDimension}
use Rattle.scan_dimens.specs.DimenWorked.{others, a_character, behind, plain}

-- the characters of digits
abbrev pub characters : List ℕ → List ℕ
characters digits = map (λ digit. 48 + digit) digits

abbrev pub sign_text : (negative : Bool) → List ℕ
sign_text negative = if negative then 45 ∷ [] else []

abbrev pub first : List ℕ → ℕ
first [] = 48
first (c ∷ cs) = c

-- The items that this text comes to where a dimension is read: a sign, the decimal digits of an integer, a point, digits and `pt`. The first digit is looked
-- at, and the integer read within begins with it and ends on the point; the `p` is looked at, and three keywords are not there before `pt` is.
abbrev pub items : (negative : Bool) → (whole : ℕ) → (digits : List ℕ) → List Fed → List Fed
items negative n ds fed =
    others (sign_text negative ++ first (decimal n) ∷ []) (Factored (pos n) true ∷ others (46 ∷ characters ds) (a_character 112 (behind 3 fed)))

-- The text that is printed of this value, with `pt` behind, is read as this value; one space behind it goes, another token is given back.
pub record IsReadBack (v : ℤ) : Type 0 where
  pub negative : Bool
  pub whole : ℕ
  pub digits : List ℕ
  pub text : scaled v ++ codes "pt" ≡ sign_text negative ++ decimal whole ++ 46 ∷ characters digits ++ codes "pt"
  pub read : (x : Seen) → dimension plain false (items negative whole digits (Tok x ∷ [])) ≡ Done v 0 (not (is_space x))

abbrev pub PrintedDimensionsAreReadBack : Type 0
PrintedDimensionsAreReadBack = (v : ℤ) → IsDimension v → IsReadBack v
