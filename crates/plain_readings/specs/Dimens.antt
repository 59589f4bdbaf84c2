-- Dimensions: signs, a factor with its fraction, and a unit of measure; or an internal dimension. In glue a stretch or shrink may be infinite, and mu
-- glue has a unit of its own. The TeXbook, chapters 10, 12, 18 and 24; TeX: The Program, part 26 (`scan_dimen`).
use Rattle.std.specs.Prelude.{ℕ, ◌+◌, ◌*◌, ◌/◌, ◌%◌, ◌-◌, ◌==◌, nat_lt, ℤ, pos, negsuc, nat_abs, int_div, ◌+ℤ◌, ◌*ℤ◌, Bool, true, false, not, if◌then◌else◌, List, [], ◌∷◌, ◌++◌, length, Option, Some, None, is_some}
use Rattle.tex_defs.specs.declared.Seen.{Seen}
use Rattle.tex_defs.specs.declared.RegisterKind.TheVariants as register
use Rattle.tex_syntax.specs.declared.words.Want.TheVariants.{Expanded, Nonblank}
use Rattle.tex_syntax.specs.declared.words.Report.TheVariants.{MissingNumber, IncompatibleUnits, DimensionTooLarge, IllegalUnit}
use Rattle.tex_syntax.specs.declared.words.UnitTaken.{UnitTaken}
use Rattle.tex_syntax.specs.declared.words.UnitTaken.TheVariants as taken
use Rattle.plain_tokens.specs.Tokens.{is_space}
use Rattle.scaled_arith.specs.Scaled.{fraction_of}
use Rattle.equivalents.specs.declared.values.Loc.{Loc}
use Rattle.equivalents.specs.declared.values.Loc.TheVariants as loc
use Rattle.equivalents.specs.First.{magnification}
use Rattle.equivalents.specs.Locations.{SeenValue}
use Rattle.rows.specs.declared.words.Keyword.TheVariants.{Fil, L, True, Em, Ex, Pt, In, Pc, Cm, Mm, Bp, Dd, Cc, Sp, Mu}
use Rattle.rows.specs.declared.internal.Bank.{Bank}
use Rattle.rows.specs.declared.internal.Internal.{Internal}
use Rattle.rows.specs.declared.internal.Internal.TheVariants as internal
use Rattle.rows.specs.Tokens.{is_at_most}
use Rattle.rows.specs.Internal.{byte_of, location_in, bad_number, internal_of, list_of, in_bounds, integer_of, with_sign, is_mu}
use Rattle.plain_readings.specs.Integers.{is_minus, is_plus, is_digit, digit_of}
use Rattle.rows.specs.declared.words.DimenKind.{DimenKind}
use Rattle.rows.specs.Arithmetic.{too_large, measured}
use Rattle.plain_readings.specs.Factors.{is_point}
use Rattle.plain_readings.specs.declared.measures.Quantity.{Quantity}
use Rattle.plain_readings.specs.declared.measures.Measure.{Measure}
use Rattle.plain_readings.specs.declared.asks.DimenAsk.{DimenAsk}
use Rattle.plain_readings.specs.declared.asks.DimenAsk.TheVariants.{More, Begins, Fetches, Magnifies, Tells, Done}
use Rattle.plain_readings.specs.declared.asks.DimenInner.TheVariants.{Factor, Number, Key}

-- What a dimension is fed with: a token; what was read within; a note that a report was written, or the magnification checked; what stands at a location.
pub data Fed : Type 0 where
  Tok : Seen → Fed
  Factored : ℤ → (point : Bool) → Fed
  Numbered : ℤ → Fed
  Found : Bool → Fed
  Noted : Fed
  Fetched : SeenValue → Fed

-- the end of a dimension that was fed with what it didn't ask for, to which no run comes
abbrev pub impossible : DimenAsk
impossible = Done (pos 0) 0 false

-- THE END

-- a value that is too large is reported, and the greatest taken, with the sign
abbrev pub too_large_noted : (negative : Bool) → (order : ℕ) → (give_back : Bool) → List Fed → DimenAsk
too_large_noted negative order back [] = Tells DimensionTooLarge back
too_large_noted negative order back (Noted ∷ fed) = Done (with_sign negative (pos (too_large - 1))) order false
too_large_noted negative order back (y ∷ fed) = impossible

abbrev pub finished : (negative : Bool) → Option ℤ → (order : ℕ) → (give_back : Bool) → List Fed → DimenAsk
finished negative (Some n) order back fed = Done (with_sign negative n) order back
finished negative None order back fed = too_large_noted negative order back fed

-- one space behind a unit goes, another token is given back
abbrev pub spaced : (negative : Bool) → Option ℤ → (order : ℕ) → List Fed → DimenAsk
spaced negative v order [] = More Expanded
spaced negative v order (Tok x ∷ fed) = finished negative v order (not (is_space x)) fed
spaced negative v order (y ∷ fed) = impossible

-- another unit is taken
abbrev pub illegal : UnitTaken → (negative : Bool) → Option ℤ → List Fed → DimenAsk
illegal unit negative v [] = Tells (IllegalUnit unit) false
illegal unit negative v (Noted ∷ fed) = spaced negative v 0 fed
illegal unit negative v (y ∷ fed) = impossible

-- UNITS behind a factor

-- in sp, where the unit is a point
abbrev pub in_scaled_points : Quantity → ℕ
in_scaled_points a = 65536 * a.whole + a.fraction

-- and where it is num/den points
abbrev pub in_units : Quantity → Measure → ℕ
in_units a u = in_scaled_points a * u.num / u.den

abbrev pub points : Quantity → Option ℤ
points a = measured (pos (in_scaled_points a))

-- the physical units, each of num/den points
abbrev pub physical : List Measure
physical =
    record { word = Pt; num = 1; den = 1 } ∷ record { word = In; num = 7227; den = 100 } ∷ record { word = Pc; num = 12; den = 1 }
    ∷ record { word = Cm; num = 7227; den = 254 } ∷ record { word = Mm; num = 7227; den = 2540 } ∷ record { word = Bp; num = 7227; den = 7200 }
    ∷ record { word = Dd; num = 1238; den = 1157 } ∷ record { word = Cc; num = 14856; den = 1157 } ∷ []

-- scaled points, of which the fraction is dropped; and points, where there is no unit
abbrev pub scaled_points : (negative : Bool) → Quantity → List Fed → DimenAsk
scaled_points negative a [] = Begins (Key Sp) false
scaled_points negative a (Found true ∷ fed) = spaced negative (measured (pos a.whole)) 0 fed
scaled_points negative a (Found false ∷ fed) = illegal taken.Pt negative (points a) fed
scaled_points negative a (y ∷ fed) = impossible

-- one of these units, in this order
abbrev pub by_unit : (negative : Bool) → Quantity → List Measure → List Fed → DimenAsk
by_unit negative a [] fed = scaled_points negative a fed
by_unit negative a (u ∷ us) [] = Begins (Key u.word) false
by_unit negative a (u ∷ us) (Found true ∷ fed) = spaced negative (measured (pos (in_units a u))) 0 fed
by_unit negative a (u ∷ us) (Found false ∷ fed) = by_unit negative a us fed
by_unit negative a (u ∷ us) (y ∷ fed) = impossible

abbrev pub positive_part : ℤ → ℕ
positive_part (pos n) = n
positive_part (negsuc n) = 0

-- `true`: the factor is divided by the magnification, in thousandths
abbrev pub magnified_points : Quantity → (mag : ℕ) → ℕ
magnified_points a mag = in_scaled_points a * 1000 / mag

abbrev pub magnified_amount : Quantity → (mag : ℕ) → Quantity
magnified_amount a mag =
    if mag == 1000 then a else record { whole = magnified_points a mag / 65536; fraction = magnified_points a mag % 65536 }

-- the magnification as it stands; one that isn't positive, which no check leaves, counts as 0
abbrev pub magnification_in : SeenValue → ℕ
magnification_in v = positive_part (integer_of v)

abbrev pub by_magnification : (negative : Bool) → Quantity → (mag : ℕ) → List Fed → DimenAsk
by_magnification negative a mag fed = if mag == 0 then impossible else by_unit negative (magnified_amount a mag) physical fed

abbrev pub magnification_fetched : (negative : Bool) → Quantity → List Fed → DimenAsk
magnification_fetched negative a [] = Fetches (loc.Integer magnification)
magnification_fetched negative a (Fetched v ∷ fed) = by_magnification negative a (magnification_in v) fed
magnification_fetched negative a (y ∷ fed) = impossible

-- it is checked before it is fetched
abbrev pub magnified : (negative : Bool) → Quantity → List Fed → DimenAsk
magnified negative a [] = Magnifies
magnified negative a (Noted ∷ fed) = magnification_fetched negative a fed
magnified negative a (y ∷ fed) = impossible

abbrev pub true_or_not : (negative : Bool) → Quantity → List Fed → DimenAsk
true_or_not negative a [] = Begins (Key True) false
true_or_not negative a (Found true ∷ fed) = magnified negative a fed
true_or_not negative a (Found false ∷ fed) = by_unit negative a physical fed
true_or_not negative a (y ∷ fed) = impossible

-- `em` and `ex`: there is no font, and both are 0
abbrev pub ex_or_not : (negative : Bool) → Quantity → List Fed → DimenAsk
ex_or_not negative a [] = Begins (Key Ex) false
ex_or_not negative a (Found true ∷ fed) = spaced negative (Some (pos 0)) 0 fed
ex_or_not negative a (Found false ∷ fed) = true_or_not negative a fed
ex_or_not negative a (y ∷ fed) = impossible

-- the first of these begins with the token that was looked at for an internal unit
abbrev pub em_or_not : (negative : Bool) → Quantity → List Fed → DimenAsk
em_or_not negative a [] = Begins (Key Em) true
em_or_not negative a (Found true ∷ fed) = spaced negative (Some (pos 0)) 0 fed
em_or_not negative a (Found false ∷ fed) = ex_or_not negative a fed
em_or_not negative a (y ∷ fed) = impossible

-- so does the only one of mu glue
abbrev pub mu_or_not : (negative : Bool) → Quantity → List Fed → DimenAsk
mu_or_not negative a [] = Begins (Key Mu) true
mu_or_not negative a (Found true ∷ fed) = spaced negative (points a) 0 fed
mu_or_not negative a (Found false ∷ fed) = illegal taken.Mu negative (points a) fed
mu_or_not negative a (y ∷ fed) = impossible

-- INTERNAL VALUES, behind which no space is read

-- glue in mu where it isn't wanted, and what isn't in mu where that is, are reported, and the value taken
abbrev pub incompatible : (negative : Bool) → Option ℤ → List Fed → DimenAsk
incompatible negative v [] = Tells IncompatibleUnits false
incompatible negative v (Noted ∷ fed) = finished negative v 0 false fed
incompatible negative v (y ∷ fed) = impossible

-- a value in mu or not, where that is wanted or not
abbrev pub valued : (wanted mu : Bool) → (negative : Bool) → Option ℤ → List Fed → DimenAsk
valued true true negative v fed = finished negative v 0 false fed
valued false false negative v fed = finished negative v 0 false fed
valued wanted mu negative v fed = incompatible negative v fed

-- a list of tokens is no dimension: it is given back and reported, and 0 taken
abbrev pub no_number : (mu : Bool) → (negative : Bool) → List Fed → DimenAsk
no_number mu negative [] = Tells MissingNumber true
no_number mu negative (Noted ∷ fed) = valued mu false negative (Some (pos 0)) fed
no_number mu negative (y ∷ fed) = impossible

-- what stands at a location, as an integer: a dimension in sp, glue by its width
abbrev pub fetched : (onward : Loc → ℤ → List Fed → DimenAsk) → Loc → List Fed → DimenAsk
fetched onward l [] = Fetches l
fetched onward l (Fetched v ∷ fed) = onward l (integer_of v) fed
fetched onward l (y ∷ fed) = impossible

-- another number than one from 0 to 255 is reported, and the location of number 0 taken
abbrev pub bad_numbered : Bank → ℤ → (onward : Loc → ℤ → List Fed → DimenAsk) → List Fed → DimenAsk
bad_numbered b n onward [] = Tells (bad_number b n) false
bad_numbered b n onward (Noted ∷ fed) = fetched onward (location_in b 0) fed
bad_numbered b n onward (y ∷ fed) = impossible

abbrev pub with_number : Bank → ℤ → (onward : Loc → ℤ → List Fed → DimenAsk) → List Fed → DimenAsk
with_number b n onward fed = if is_at_most 255 n then fetched onward (location_in b (byte_of n)) fed else bad_numbered b n onward fed

-- the number of the register or of the character comes
abbrev pub numbered : Bank → (onward : Loc → ℤ → List Fed → DimenAsk) → List Fed → DimenAsk
numbered b onward [] = Begins Number false
numbered b onward (Numbered n ∷ fed) = with_number b n onward fed
numbered b onward (y ∷ fed) = impossible

-- AN INTERNAL UNIT: the factor times its value, where the fraction's part is cut towards zero

abbrev pub times : Quantity → ℤ → ℤ
times a v = pos a.whole *ℤ v +ℤ int_div (v *ℤ pos a.fraction) (pos 65536)

abbrev pub unit_fetched : DimenKind → (negative : Bool) → Quantity → Loc → ℤ → List Fed → DimenAsk
unit_fetched k negative a l v fed = valued k.mu (is_mu l) negative (measured (times a v)) fed

abbrev pub internal_unit : DimenKind → (negative : Bool) → Quantity → Internal → List Fed → DimenAsk
internal_unit k negative a (internal.Given n) fed = valued k.mu false negative (measured (times a (pos n))) fed
internal_unit k negative a (internal.At l) fed = fetched (unit_fetched k negative a) l fed
internal_unit k negative a (internal.Numbered b) fed = numbered b (unit_fetched k negative a) fed

abbrev pub word_unit : (mu : Bool) → (negative : Bool) → Quantity → List Fed → DimenAsk
word_unit mu negative a fed = if mu then mu_or_not negative a fed else em_or_not negative a fed

abbrev pub internal_or_word : DimenKind → (negative : Bool) → Quantity → Option Internal → List Fed → DimenAsk
internal_or_word k negative a (Some i) fed = internal_unit k negative a i fed
internal_or_word k negative a None fed = word_unit k.mu negative a fed

-- the token that is looked at for a unit
abbrev pub unit_at : DimenKind → (negative : Bool) → Quantity → Seen → List Fed → DimenAsk
unit_at k negative a x fed = if is_some (list_of x.meaning) then no_number k.mu negative fed else internal_or_word k negative a (internal_of x.meaning) fed

abbrev pub unit_sought : DimenKind → (negative : Bool) → Quantity → List Fed → DimenAsk
unit_sought k negative a [] = More Nonblank
unit_sought k negative a (Tok x ∷ fed) = unit_at k negative a x fed
unit_sought k negative a (y ∷ fed) = impossible

-- INFINITE UNITS: `fil`, and then `l` while it follows; a third is reported, and so is each further one
abbrev pub longer : (negative : Bool) → Quantity → (order : ℕ) → (too_long : Bool) → List Fed → DimenAsk
longer negative a order false [] = Begins (Key L) false
longer negative a order false (Found true ∷ fed) = if order == 3 then longer negative a order true fed else longer negative a (order + 1) false fed
longer negative a order false (Found false ∷ fed) = spaced negative (points a) order fed
longer negative a order false (y ∷ fed) = impossible
longer negative a order true [] = Tells (IllegalUnit taken.Filll) false
longer negative a order true (Noted ∷ fed) = longer negative a order false fed
longer negative a order true (y ∷ fed) = impossible

abbrev pub fil_or_not : DimenKind → (negative : Bool) → Quantity → (begins : Bool) → List Fed → DimenAsk
fil_or_not k negative a begins [] = Begins (Key Fil) begins
fil_or_not k negative a begins (Found true ∷ fed) = longer negative a 1 false fed
fil_or_not k negative a begins (Found false ∷ fed) = unit_sought k negative a fed
fil_or_not k negative a begins (y ∷ fed) = impossible

-- the unit behind a factor
abbrev pub unit_behind : DimenKind → (negative : Bool) → Quantity → List Fed → DimenAsk
unit_behind k negative a fed = if k.infinite then fil_or_not k negative a false fed else unit_sought k negative a fed

-- the unit that begins with this token
abbrev pub unit_with : DimenKind → (negative : Bool) → Quantity → Seen → List Fed → DimenAsk
unit_with k negative a x fed = if k.infinite then fil_or_not k negative a true fed else unit_at k negative a x fed

-- FACTORS

abbrev pub amount : (whole : ℕ) → (digits : List ℕ) → Quantity
amount n ds = record { whole = n; fraction = fraction_of ds }

-- the first 17 digits count
abbrev pub with_digit : List ℕ → ℕ → List ℕ
with_digit ds d = if nat_lt (length ds) 17 then ds ++ d ∷ [] else ds

-- one space behind the digits goes, another token begins the unit
abbrev pub behind_digits : DimenKind → (negative : Bool) → Quantity → Seen → List Fed → DimenAsk
behind_digits k negative a x fed = if is_space x then unit_behind k negative a fed else unit_with k negative a x fed

-- the digits behind a point
abbrev pub fraction : DimenKind → (negative : Bool) → (whole : ℕ) → (digits : List ℕ) → List Fed → DimenAsk
fraction k negative n ds [] = More Expanded
fraction k negative n ds (Tok x ∷ fed) =
    if is_digit 10 x then fraction k negative n (with_digit ds (digit_of x.token)) fed else behind_digits k negative (amount n ds) x fed
fraction k negative n ds (y ∷ fed) = impossible

-- a point that was given back is read again
abbrev pub pointed : DimenKind → (negative : Bool) → (whole : ℕ) → List Fed → DimenAsk
pointed k negative n [] = More Expanded
pointed k negative n (Tok x ∷ fed) = fraction k negative n [] fed
pointed k negative n (y ∷ fed) = impossible

-- a number below 0 turns the sign
abbrev pub turned : (negative : Bool) → ℤ → Bool
turned negative (pos n) = negative
turned negative (negsuc n) = not negative

-- an integer without a fraction
abbrev pub with_factor : DimenKind → (negative : Bool) → ℤ → List Fed → DimenAsk
with_factor k negative n fed = unit_behind k (turned negative n) (record { whole = nat_abs n; fraction = 0 }) fed

-- an integer, and whether a point stands directly behind its decimal digits
abbrev pub factor_read : DimenKind → (negative : Bool) → ℤ → (point : Bool) → List Fed → DimenAsk
factor_read k negative n true fed = pointed k (turned negative n) (nat_abs n) fed
factor_read k negative n false fed = with_factor k negative n fed

-- The integer comes that was read within. The least 32-bit integer, to which none comes, counts as the next one.
abbrev pub factored : DimenKind → (negative : Bool) → List Fed → DimenAsk
factored k negative [] = Begins Factor true
factored k negative (Factored n point ∷ fed) = factor_read k negative (in_bounds n) point fed
factored k negative (y ∷ fed) = impossible

-- AN INTERNAL VALUE in place of the factor: an integer is the factor, another value is the dimension

abbrev pub is_integer_at : Loc → Bool
is_integer_at (loc.Code kind c) = true
is_integer_at (loc.Integer i) = true
is_integer_at (loc.Register register.Count n) = true
is_integer_at l = false

abbrev pub value_fetched : DimenKind → (negative : Bool) → Loc → ℤ → List Fed → DimenAsk
value_fetched k negative l v fed = if is_integer_at l then with_factor k negative v fed else valued k.mu (is_mu l) negative (measured v) fed

abbrev pub internal_value : DimenKind → (negative : Bool) → Internal → List Fed → DimenAsk
internal_value k negative (internal.Given n) fed = with_factor k negative (pos n) fed
internal_value k negative (internal.At l) fed = fetched (value_fetched k negative) l fed
internal_value k negative (internal.Numbered b) fed = numbered b (value_fetched k negative) fed

abbrev pub internal_or_factor : DimenKind → (negative : Bool) → Option Internal → List Fed → DimenAsk
internal_or_factor k negative (Some i) fed = internal_value k negative i fed
internal_or_factor k negative None fed = factored k negative fed

-- the first token behind the signs
abbrev pub unsigned : DimenKind → (negative : Bool) → Seen → List Fed → DimenAsk
unsigned k negative x fed =
    if is_point x then fraction k negative 0 [] fed
    else if is_some (list_of x.meaning) then no_number k.mu negative fed
    else internal_or_factor k negative (internal_of x.meaning) fed

-- with the sign so far
abbrev pub dimension : DimenKind → (negative : Bool) → List Fed → DimenAsk
dimension k negative [] = More Nonblank
dimension k negative (Tok x ∷ fed) =
    if is_minus x then dimension k (not negative) fed
    else if is_plus x then dimension k negative fed
    else unsigned k negative x fed
dimension k negative (y ∷ fed) = impossible
