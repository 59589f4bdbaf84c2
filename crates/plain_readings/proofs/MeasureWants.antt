-- Dimensions and glue ask for no token that is copied: by induction over what they were fed with.
use Rattle.std.proofs.Common.{ℕ, ◌+◌, ℤ, pos, nat_abs, Bool, true, false, not, List, [], ◌∷◌, Option, Some, None}
use Rattle.std.specs.Prelude.{if◌then◌else◌, ◌==◌, is_some}
use Rattle.tex_defs.specs.declared.Seen.{Seen}
use Rattle.tex_syntax.specs.declared.words.UnitTaken.{UnitTaken}
use Rattle.tex_syntax.specs.declared.words.UnitTaken.TheVariants as taken
use Rattle.plain_tokens.specs.Tokens.{is_space}
use Rattle.equivalents.specs.declared.values.Glue.{Glue}
use Rattle.equivalents.specs.declared.values.Loc.{Loc}
use Rattle.rows.specs.declared.internal.Bank.{Bank}
use Rattle.rows.specs.declared.internal.Internal.{Internal}
use Rattle.rows.specs.declared.internal.Internal.TheVariants as internal
use Rattle.rows.specs.declared.words.DimenKind.{DimenKind}
use Rattle.rows.specs.Tokens.{is_at_most}
use Rattle.rows.specs.Internal.{byte_of, location_in, internal_of, list_of, integer_of, in_bounds, is_mu, is_glue}
use Rattle.rows.specs.Arithmetic.{measured, glue_at}
use Rattle.plain_readings.specs.Integers.{is_minus, is_plus, is_digit, digit_of}
use Rattle.plain_readings.specs.Factors.{is_point}
use Rattle.plain_readings.specs.declared.measures.Quantity.{Quantity}
use Rattle.plain_readings.specs.declared.measures.Measure.{Measure}
use Rattle.plain_readings.specs.Dimens as dimens
use Rattle.plain_readings.specs.Dimens.{Fed, Tok, Factored, Numbered, Found, Noted, Fetched, in_units, points, physical, magnified_amount, magnification_in, times, amount, with_digit, turned}
use Rattle.plain_readings.specs.declared.asks.DimenAsk.{DimenAsk}
use Rattle.plain_readings.specs.Glues as glues
use Rattle.plain_readings.specs.declared.asks.GlueAsk.{GlueAsk}
use Rattle.plain_readings.specs.Measures.{dimen_ask, glue_ask}
use Rattle.plain_readings.proofs.Wants.{AsksUncopied}

-- DIMENSIONS

abbrev Fits : DimenAsk → Type 0
Fits a = AsksUncopied (dimen_ask a)

either : (c : Bool) (p q : DimenAsk) → Fits p → Fits q → Fits (if c then p else q)
either true p q h i = h
either false p q h i = i

too_large_fits : (negative : Bool) (order : ℕ) (back : Bool) (fed : List Fed) → Fits (dimens.too_large_noted negative order back fed)
too_large_fits negative order back [] = tt
too_large_fits negative order back (Noted ∷ fed) = tt
too_large_fits negative order back (y ∷ fed) = tt

finished_fits : (negative : Bool) (v : Option ℤ) (order : ℕ) (back : Bool) (fed : List Fed) → Fits (dimens.finished negative v order back fed)
finished_fits negative (Some n) order back fed = tt
finished_fits negative None order back fed = too_large_fits negative order back fed

spaced_fits : (negative : Bool) (v : Option ℤ) (order : ℕ) (fed : List Fed) → Fits (dimens.spaced negative v order fed)
spaced_fits negative v order [] = tt
spaced_fits negative v order (Tok x ∷ fed) = finished_fits negative v order (not (is_space x)) fed
spaced_fits negative v order (y ∷ fed) = tt

illegal_fits : (unit : UnitTaken) (negative : Bool) (v : Option ℤ) (fed : List Fed) → Fits (dimens.illegal unit negative v fed)
illegal_fits unit negative v [] = tt
illegal_fits unit negative v (Noted ∷ fed) = spaced_fits negative v 0 fed
illegal_fits unit negative v (y ∷ fed) = tt

scaled_fits : (negative : Bool) (a : Quantity) (fed : List Fed) → Fits (dimens.scaled_points negative a fed)
scaled_fits negative a [] = tt
scaled_fits negative a (Found true ∷ fed) = spaced_fits negative (measured (pos a.whole)) 0 fed
scaled_fits negative a (Found false ∷ fed) = illegal_fits taken.Pt negative (points a) fed
scaled_fits negative a (y ∷ fed) = tt

units_fit : (negative : Bool) (a : Quantity) (us : List Measure) (fed : List Fed) → Fits (dimens.by_unit negative a us fed)
units_fit negative a [] fed = scaled_fits negative a fed
units_fit negative a (u ∷ us) [] = tt
units_fit negative a (u ∷ us) (Found true ∷ fed) = spaced_fits negative (measured (pos (in_units a u))) 0 fed
units_fit negative a (u ∷ us) (Found false ∷ fed) = units_fit negative a us fed
units_fit negative a (u ∷ us) (y ∷ fed) = tt

magnification_fits : (negative : Bool) (a : Quantity) (fed : List Fed) → Fits (dimens.magnification_fetched negative a fed)
magnification_fits negative a [] = tt
magnification_fits negative a (Fetched v ∷ fed) = either (magnification_in v == 0) _ _ tt (units_fit negative (magnified_amount a (magnification_in v)) physical fed)
magnification_fits negative a (y ∷ fed) = tt

magnified_fits : (negative : Bool) (a : Quantity) (fed : List Fed) → Fits (dimens.magnified negative a fed)
magnified_fits negative a [] = tt
magnified_fits negative a (Noted ∷ fed) = magnification_fits negative a fed
magnified_fits negative a (y ∷ fed) = tt

true_fits : (negative : Bool) (a : Quantity) (fed : List Fed) → Fits (dimens.true_or_not negative a fed)
true_fits negative a [] = tt
true_fits negative a (Found true ∷ fed) = magnified_fits negative a fed
true_fits negative a (Found false ∷ fed) = units_fit negative a physical fed
true_fits negative a (y ∷ fed) = tt

ex_fits : (negative : Bool) (a : Quantity) (fed : List Fed) → Fits (dimens.ex_or_not negative a fed)
ex_fits negative a [] = tt
ex_fits negative a (Found true ∷ fed) = spaced_fits negative (Some (pos 0)) 0 fed
ex_fits negative a (Found false ∷ fed) = true_fits negative a fed
ex_fits negative a (y ∷ fed) = tt

em_fits : (negative : Bool) (a : Quantity) (fed : List Fed) → Fits (dimens.em_or_not negative a fed)
em_fits negative a [] = tt
em_fits negative a (Found true ∷ fed) = spaced_fits negative (Some (pos 0)) 0 fed
em_fits negative a (Found false ∷ fed) = ex_fits negative a fed
em_fits negative a (y ∷ fed) = tt

mu_fits : (negative : Bool) (a : Quantity) (fed : List Fed) → Fits (dimens.mu_or_not negative a fed)
mu_fits negative a [] = tt
mu_fits negative a (Found true ∷ fed) = spaced_fits negative (points a) 0 fed
mu_fits negative a (Found false ∷ fed) = illegal_fits taken.Mu negative (points a) fed
mu_fits negative a (y ∷ fed) = tt

incompatible_fits : (negative : Bool) (v : Option ℤ) (fed : List Fed) → Fits (dimens.incompatible negative v fed)
incompatible_fits negative v [] = tt
incompatible_fits negative v (Noted ∷ fed) = finished_fits negative v 0 false fed
incompatible_fits negative v (y ∷ fed) = tt

valued_fits : (wanted mu negative : Bool) (v : Option ℤ) (fed : List Fed) → Fits (dimens.valued wanted mu negative v fed)
valued_fits true true negative v fed = finished_fits negative v 0 false fed
valued_fits false false negative v fed = finished_fits negative v 0 false fed
valued_fits true false negative v fed = incompatible_fits negative v fed
valued_fits false true negative v fed = incompatible_fits negative v fed

no_number_fits : (mu negative : Bool) (fed : List Fed) → Fits (dimens.no_number mu negative fed)
no_number_fits mu negative [] = tt
no_number_fits mu negative (Noted ∷ fed) = valued_fits mu false negative (Some (pos 0)) fed
no_number_fits mu negative (y ∷ fed) = tt

-- what is done with what stands at a location
module _ (onward : Loc → ℤ → List Fed → DimenAsk) (h : (l : Loc) (v : ℤ) (fed : List Fed) → Fits (onward l v fed)) where
  fetched_fits : (l : Loc) (fed : List Fed) → Fits (dimens.fetched onward l fed)
  fetched_fits l [] = tt
  fetched_fits l (Fetched v ∷ fed) = h l (integer_of v) fed
  fetched_fits l (y ∷ fed) = tt

  bad_fits : (b : Bank) (n : ℤ) (fed : List Fed) → Fits (dimens.bad_numbered b n onward fed)
  bad_fits b n [] = tt
  bad_fits b n (Noted ∷ fed) = fetched_fits (location_in b 0) fed
  bad_fits b n (y ∷ fed) = tt

  numbered_fits : (b : Bank) (fed : List Fed) → Fits (dimens.numbered b onward fed)
  numbered_fits b [] = tt
  numbered_fits b (Numbered n ∷ fed) = either (is_at_most 255 n) _ _ (fetched_fits (location_in b (byte_of n)) fed) (bad_fits b n fed)
  numbered_fits b (y ∷ fed) = tt

unit_fetched_fits : (k : DimenKind) (negative : Bool) (a : Quantity) (l : Loc) (v : ℤ) (fed : List Fed) → Fits (dimens.unit_fetched k negative a l v fed)
unit_fetched_fits k negative a l v fed = valued_fits k.mu (is_mu l) negative (measured (times a v)) fed

internal_unit_fits : (k : DimenKind) (negative : Bool) (a : Quantity) (i : Internal) (fed : List Fed) → Fits (dimens.internal_unit k negative a i fed)
internal_unit_fits k negative a (internal.Given n) fed = valued_fits k.mu false negative (measured (times a (pos n))) fed
internal_unit_fits k negative a (internal.At l) fed = fetched_fits (dimens.unit_fetched k negative a) (unit_fetched_fits k negative a) l fed
internal_unit_fits k negative a (internal.Numbered b) fed = numbered_fits (dimens.unit_fetched k negative a) (unit_fetched_fits k negative a) b fed

internal_or_word_fits : (k : DimenKind) (negative : Bool) (a : Quantity) (o : Option Internal) (fed : List Fed) → Fits (dimens.internal_or_word k negative a o fed)
internal_or_word_fits k negative a (Some i) fed = internal_unit_fits k negative a i fed
internal_or_word_fits k negative a None fed = either k.mu _ _ (mu_fits negative a fed) (em_fits negative a fed)

unit_at_fits : (k : DimenKind) (negative : Bool) (a : Quantity) (x : Seen) (fed : List Fed) → Fits (dimens.unit_at k negative a x fed)
unit_at_fits k negative a x fed = either (is_some (list_of x.meaning)) _ _ (no_number_fits k.mu negative fed) (internal_or_word_fits k negative a (internal_of x.meaning) fed)

sought_fits : (k : DimenKind) (negative : Bool) (a : Quantity) (fed : List Fed) → Fits (dimens.unit_sought k negative a fed)
sought_fits k negative a [] = tt
sought_fits k negative a (Tok x ∷ fed) = unit_at_fits k negative a x fed
sought_fits k negative a (y ∷ fed) = tt

longer_fits : (negative : Bool) (a : Quantity) (order : ℕ) (too_long : Bool) (fed : List Fed) → Fits (dimens.longer negative a order too_long fed)
longer_fits negative a order false [] = tt
longer_fits negative a order false (Found true ∷ fed) = either (order == 3) _ _ (longer_fits negative a order true fed) (longer_fits negative a (order + 1) false fed)
longer_fits negative a order false (Found false ∷ fed) = spaced_fits negative (points a) order fed
longer_fits negative a order false (y ∷ fed) = tt
longer_fits negative a order true [] = tt
longer_fits negative a order true (Noted ∷ fed) = longer_fits negative a order false fed
longer_fits negative a order true (y ∷ fed) = tt

fil_fits : (k : DimenKind) (negative : Bool) (a : Quantity) (begins : Bool) (fed : List Fed) → Fits (dimens.fil_or_not k negative a begins fed)
fil_fits k negative a begins [] = tt
fil_fits k negative a begins (Found true ∷ fed) = longer_fits negative a 1 false fed
fil_fits k negative a begins (Found false ∷ fed) = sought_fits k negative a fed
fil_fits k negative a begins (y ∷ fed) = tt

unit_behind_fits : (k : DimenKind) (negative : Bool) (a : Quantity) (fed : List Fed) → Fits (dimens.unit_behind k negative a fed)
unit_behind_fits k negative a fed = either k.infinite _ _ (fil_fits k negative a false fed) (sought_fits k negative a fed)

behind_digits_fits : (k : DimenKind) (negative : Bool) (a : Quantity) (x : Seen) (fed : List Fed) → Fits (dimens.behind_digits k negative a x fed)
behind_digits_fits k negative a x fed =
    either (is_space x) _ _ (unit_behind_fits k negative a fed) (either k.infinite _ _ (fil_fits k negative a true fed) (unit_at_fits k negative a x fed))

fraction_fits : (k : DimenKind) (negative : Bool) (n : ℕ) (ds : List ℕ) (fed : List Fed) → Fits (dimens.fraction k negative n ds fed)
fraction_fits k negative n ds [] = tt
fraction_fits k negative n ds (Tok x ∷ fed) =
    either (is_digit 10 x) _ _ (fraction_fits k negative n (with_digit ds (digit_of x.token)) fed) (behind_digits_fits k negative (amount n ds) x fed)
fraction_fits k negative n ds (y ∷ fed) = tt

pointed_fits : (k : DimenKind) (negative : Bool) (n : ℕ) (fed : List Fed) → Fits (dimens.pointed k negative n fed)
pointed_fits k negative n [] = tt
pointed_fits k negative n (Tok x ∷ fed) = fraction_fits k negative n [] fed
pointed_fits k negative n (y ∷ fed) = tt

with_factor_fits : (k : DimenKind) (negative : Bool) (n : ℤ) (fed : List Fed) → Fits (dimens.with_factor k negative n fed)
with_factor_fits k negative n fed = unit_behind_fits k (turned negative n) (record { whole = nat_abs n; fraction = 0 }) fed

factor_read_fits : (k : DimenKind) (negative : Bool) (n : ℤ) (point : Bool) (fed : List Fed) → Fits (dimens.factor_read k negative n point fed)
factor_read_fits k negative n true fed = pointed_fits k (turned negative n) (nat_abs n) fed
factor_read_fits k negative n false fed = with_factor_fits k negative n fed

factored_fits : (k : DimenKind) (negative : Bool) (fed : List Fed) → Fits (dimens.factored k negative fed)
factored_fits k negative [] = tt
factored_fits k negative (Factored n point ∷ fed) = factor_read_fits k negative (in_bounds n) point fed
factored_fits k negative (y ∷ fed) = tt

value_fetched_fits : (k : DimenKind) (negative : Bool) (l : Loc) (v : ℤ) (fed : List Fed) → Fits (dimens.value_fetched k negative l v fed)
value_fetched_fits k negative l v fed = either (dimens.is_integer_at l) _ _ (with_factor_fits k negative v fed) (valued_fits k.mu (is_mu l) negative (measured v) fed)

internal_value_fits : (k : DimenKind) (negative : Bool) (i : Internal) (fed : List Fed) → Fits (dimens.internal_value k negative i fed)
internal_value_fits k negative (internal.Given n) fed = with_factor_fits k negative (pos n) fed
internal_value_fits k negative (internal.At l) fed = fetched_fits (dimens.value_fetched k negative) (value_fetched_fits k negative) l fed
internal_value_fits k negative (internal.Numbered b) fed = numbered_fits (dimens.value_fetched k negative) (value_fetched_fits k negative) b fed

internal_or_factor_fits : (k : DimenKind) (negative : Bool) (o : Option Internal) (fed : List Fed) → Fits (dimens.internal_or_factor k negative o fed)
internal_or_factor_fits k negative (Some i) fed = internal_value_fits k negative i fed
internal_or_factor_fits k negative None fed = factored_fits k negative fed

unsigned_fits : (k : DimenKind) (negative : Bool) (x : Seen) (fed : List Fed) → Fits (dimens.unsigned k negative x fed)
unsigned_fits k negative x fed =
    either (is_point x) _ _ (fraction_fits k negative 0 [] fed)
    (either (is_some (list_of x.meaning)) _ _ (no_number_fits k.mu negative fed) (internal_or_factor_fits k negative (internal_of x.meaning) fed))

pub dimension_uncopied : (k : DimenKind) (negative : Bool) (fed : List Fed) → Fits (dimens.dimension k negative fed)
dimension_uncopied k negative [] = tt
dimension_uncopied k negative (Tok x ∷ fed) =
    either (is_minus x) _ _ (dimension_uncopied k (not negative) fed) (either (is_plus x) _ _ (dimension_uncopied k negative fed) (unsigned_fits k negative x fed))
dimension_uncopied k negative (y ∷ fed) = tt

-- GLUE

abbrev GlueFits : GlueAsk → Type 0
GlueFits a = AsksUncopied (glue_ask a)

glue_either : (c : Bool) (p q : GlueAsk) → GlueFits p → GlueFits q → GlueFits (if c then p else q)
glue_either true p q h i = h
glue_either false p q h i = i

shrink_fits : (mu : Bool) (g : Glue) (fed : List glues.Fed) → GlueFits (glues.shrink mu g fed)
shrink_fits mu g [] = tt
shrink_fits mu g (glues.Measured n order ∷ fed) = glue_either (glues.is_part n order) _ _ tt tt
shrink_fits mu g (y ∷ fed) = tt

minus_fits : (mu : Bool) (g : Glue) (fed : List glues.Fed) → GlueFits (glues.minus_or_not mu g fed)
minus_fits mu g [] = tt
minus_fits mu g (glues.Found true ∷ fed) = shrink_fits mu g fed
minus_fits mu g (glues.Found false ∷ fed) = tt
minus_fits mu g (y ∷ fed) = tt

stretch_fits : (mu : Bool) (g : Glue) (fed : List glues.Fed) → GlueFits (glues.stretch mu g fed)
stretch_fits mu g [] = tt
stretch_fits mu g (glues.Measured n order ∷ fed) = glue_either (glues.is_part n order) _ _ (minus_fits mu (glues.with_stretch g n order) fed) tt
stretch_fits mu g (y ∷ fed) = tt

plus_fits : (mu : Bool) (g : Glue) (fed : List glues.Fed) → GlueFits (glues.plus_or_not mu g fed)
plus_fits mu g [] = tt
plus_fits mu g (glues.Found true ∷ fed) = stretch_fits mu g fed
plus_fits mu g (glues.Found false ∷ fed) = minus_fits mu g fed
plus_fits mu g (y ∷ fed) = tt

width_fits : (mu negative : Bool) (fed : List glues.Fed) → GlueFits (glues.width mu negative fed)
width_fits mu negative [] = tt
width_fits mu negative (glues.Measured n order ∷ fed) = glue_either (glues.is_part n order) _ _ (plus_fits mu (glues.with_width negative n) fed) tt
width_fits mu negative (y ∷ fed) = tt

glue_incompatible_fits : (g : Glue) (fed : List glues.Fed) → GlueFits (glues.incompatible g fed)
glue_incompatible_fits g [] = tt
glue_incompatible_fits g (glues.Noted ∷ fed) = tt
glue_incompatible_fits g (y ∷ fed) = tt

glue_valued_fits : (wanted mu : Bool) (g : Glue) (fed : List glues.Fed) → GlueFits (glues.valued wanted mu g fed)
glue_valued_fits true true g fed = tt
glue_valued_fits false false g fed = tt
glue_valued_fits true false g fed = glue_incompatible_fits g fed
glue_valued_fits false true g fed = glue_incompatible_fits g fed

glue_fetched_fits : (mu negative : Bool) (l : Loc) (fed : List glues.Fed) → GlueFits (glues.fetched mu negative l fed)
glue_fetched_fits mu negative l [] = tt
glue_fetched_fits mu negative l (glues.Fetched v ∷ fed) = glue_valued_fits mu (is_mu l) (glues.signed_glue negative (glue_at v)) fed
glue_fetched_fits mu negative l (y ∷ fed) = tt

glue_bad_fits : (mu negative : Bool) (b : Bank) (n : ℤ) (fed : List glues.Fed) → GlueFits (glues.bad_numbered mu negative b n fed)
glue_bad_fits mu negative b n [] = tt
glue_bad_fits mu negative b n (glues.Noted ∷ fed) = glue_fetched_fits mu negative (location_in b 0) fed
glue_bad_fits mu negative b n (y ∷ fed) = tt

glue_numbered_fits : (mu negative : Bool) (b : Bank) (fed : List glues.Fed) → GlueFits (glues.numbered mu negative b fed)
glue_numbered_fits mu negative b [] = tt
glue_numbered_fits mu negative b (glues.Numbered n ∷ fed) =
    glue_either (is_at_most 255 n) _ _ (glue_fetched_fits mu negative (location_in b (byte_of n)) fed) (glue_bad_fits mu negative b n fed)
glue_numbered_fits mu negative b (y ∷ fed) = tt

internal_or_width_fits : (mu negative : Bool) (o : Option Internal) (fed : List glues.Fed) → GlueFits (glues.internal_or_width mu negative o fed)
internal_or_width_fits mu negative (Some (internal.At l)) fed = glue_either (is_glue l) _ _ (glue_fetched_fits mu negative l fed) (width_fits mu negative fed)
internal_or_width_fits mu negative (Some (internal.Numbered b)) fed =
    glue_either (is_glue (location_in b 0)) _ _ (glue_numbered_fits mu negative b fed) (width_fits mu negative fed)
internal_or_width_fits mu negative (Some (internal.Given n)) fed = width_fits mu negative fed
internal_or_width_fits mu negative None fed = width_fits mu negative fed

pub glue_uncopied : (mu negative : Bool) (fed : List glues.Fed) → GlueFits (glues.glue mu negative fed)
glue_uncopied mu negative [] = tt
glue_uncopied mu negative (glues.Tok x ∷ fed) =
    glue_either (is_minus x) _ _ (glue_uncopied mu (not negative) fed)
    (glue_either (is_plus x) _ _ (glue_uncopied mu negative fed) (internal_or_width_fits mu negative (internal_of x.meaning) fed))
glue_uncopied mu negative (y ∷ fed) = tt
