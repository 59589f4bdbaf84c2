-- Texts read back: the dimension that a printed scaled number spells, and the look of roman numerals.
use Rattle.std.specs.Prelude.{◌≡◌, ℕ, ◌+◌, ◌*◌, ◌≤◌, Bool, true, ℤ, pos, neg_ℤ, List, [], ◌∷◌, ◌++◌, map, All, codes, if◌then◌else◌, ◌==◌, ◌||◌, ◌&&◌, not, nat_eq, replicate}
use Rattle.std.specs.List.{starts_with}
use Rattle.scaled_arith.specs.Scaled.{floor_ratio, spelled_number, fraction_of}

-- the characters of digits
abbrev pub characters : List ℕ → List ℕ
characters digits = map (λ digit. 48 + digit) digits

-- The text spells the dimension of that many sp: `-` or nothing, the digits of i, `.`, the digits of a fraction f and the
-- unit `pt`. Its absolute value is floor(X·1/1) for X = 65536·i + f.
pub record SpellsDimension (text : List ℕ) (value : ℤ) : Type 0 where
  pub negative : Bool
  pub whole : List ℕ
  pub fraction : List ℕ
  pub whole_digits : All (λ digit. digit ≤ 9) whole
  pub fraction_digits : All (λ digit. digit ≤ 9) fraction
  pub text_is : text ≡ (if negative then 45 ∷ [] else []) ++ characters whole ++ 46 ∷ characters fraction ++ codes "pt"
  pub value_is : value ≡ (let x = floor_ratio (pos (65536 * spelled_number whole + fraction_of fraction)) 1 1 in if negative then neg_ℤ x else x)

-- no letter but m (109) stands four times in a row
abbrev pub repeats_little : List ℕ → Bool
repeats_little [] = true
repeats_little (letter ∷ letters) = (letter == 109 || not (starts_with nat_eq letters (replicate 3 letter))) && repeats_little letters
