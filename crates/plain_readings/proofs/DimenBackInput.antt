-- A dimension gives the last token back only directly behind a token: by induction over what it was fed with. Clauses that name a number say no more
-- than those behind them, but have each value looked at.
use Rattle.std.proofs.Common.{ℕ, ◌+◌, ℤ, pos, nat_abs, Bool, true, false, not, List, [], ◌∷◌, Option, Some, None, refl}
use Rattle.std.specs.Prelude.{if◌then◌else◌, ◌==◌, is_some}
use Rattle.tex_defs.specs.declared.Seen.{Seen}
use Rattle.tex_syntax.specs.declared.words.UnitTaken.{UnitTaken}
use Rattle.tex_syntax.specs.declared.words.UnitTaken.TheVariants as taken
use Rattle.plain_tokens.specs.Tokens.{is_space}
use Rattle.equivalents.specs.declared.values.Loc.{Loc}
use Rattle.rows.specs.declared.words.Datum.TheVariants as datum
use Rattle.rows.specs.declared.words.Value.TheVariants as value
use Rattle.rows.specs.declared.internal.Bank.{Bank}
use Rattle.rows.specs.declared.internal.Internal.{Internal}
use Rattle.rows.specs.declared.internal.Internal.TheVariants as internal
use Rattle.rows.specs.declared.words.DimenKind.{DimenKind}
use Rattle.rows.specs.Tokens.{is_at_most}
use Rattle.rows.specs.Internal.{byte_of, location_in, internal_of, list_of, integer_of, in_bounds, with_sign, is_mu}
use Rattle.rows.specs.Arithmetic.{measured}
use Rattle.rows.specs.Readings.{Fed, Tok, Val, Noted, Fetched, Verbatim, Cut}
use Rattle.plain_readings.specs.Integers.{is_minus, is_plus, is_digit, digit_of}
use Rattle.plain_readings.specs.Factors.{is_point}
use Rattle.plain_readings.specs.declared.measures.Quantity.{Quantity}
use Rattle.plain_readings.specs.declared.measures.Measure.{Measure}
use Rattle.plain_readings.specs.Dimens.{impossible, too_large_noted, finished, spaced, illegal, in_units, points, physical, scaled_points, by_unit, magnified_amount, magnification_in, magnification_fetched, magnified, true_or_not, ex_or_not, em_or_not, mu_or_not, incompatible, valued, no_number, fetched, bad_numbered, with_number, numbered, times, unit_fetched, internal_unit, internal_or_word, unit_at, unit_sought, longer, fil_or_not, unit_behind, unit_with, amount, with_digit, fraction, pointed, turned, with_factor, factor_read, factored, is_integer_at, value_fetched, internal_value, internal_or_factor, unsigned, dimension}
use Rattle.plain_readings.specs.declared.asks.DimenAsk.{DimenAsk}
use Rattle.plain_readings.specs.Dimens as dimens
use Rattle.plain_readings.specs.Measures.{dimen_fed, dimen_ask}
use Rattle.plain_readings.specs.Laws.{Returns}
use Rattle.plain_readings.proofs.BackInput.{Gives, direct, done_gives}

abbrev Fits : Bool → (List Fed → DimenAsk) → List Fed → Type 0
Fits b asks fed = Gives b (λ more. dimen_ask (asks more)) fed

-- by what a definition asks for that was fed with these
abbrev DimenGives : Bool → (List dimens.Fed → DimenAsk) → List Fed → Type 0
DimenGives b asks fed = Fits b (λ more. asks (dimen_fed more)) fed

either : (b c : Bool) (p q : List Fed → DimenAsk) (fed : List Fed) → Fits b p fed → Fits b q fed → Fits b (λ more. if c then p more else q more) fed
either b true p q fed h i = h
either b false p q fed h i = i

-- THE END

too_large_gives : (negative : Bool) (order : ℕ) (back b : Bool) → Returns b back → (fed : List Fed) → DimenGives b (too_large_noted negative order back) fed
too_large_gives negative order back b r [] = λ h. r
too_large_gives negative order back b r (Noted ∷ fed) = λ h. tt
too_large_gives negative order back b r (y ∷ fed) = λ h. absurd h.0

finished_gives : (negative : Bool) (v : Option ℤ) (order : ℕ) (back b : Bool) → Returns b back → (fed : List Fed) → DimenGives b (finished negative v order back) fed
finished_gives negative (Some n) order back b r fed = done_gives (value.Plain (datum.Dimension (with_sign negative n) order)) back b r fed
finished_gives negative None order back b r fed = too_large_gives negative order back b r fed

spaced_gives : (negative : Bool) (v : Option ℤ) (order : ℕ) (b : Bool) (fed : List Fed) → DimenGives b (spaced negative v order) fed
spaced_gives negative v order b [] = λ h. tt
spaced_gives negative v order b (Tok x ∷ fed) = λ h. finished_gives negative v order (not (is_space x)) true (direct (not (is_space x))) fed h.1
spaced_gives negative v order b (Val (value.Plain (datum.Number n)) ts ∷ fed) = λ h. tt
spaced_gives negative v order b (y ∷ fed) = λ h. tt

illegal_gives : (unit : UnitTaken) (negative : Bool) (v : Option ℤ) (b : Bool) (fed : List Fed) → DimenGives b (illegal unit negative v) fed
illegal_gives unit negative v b [] = λ h. tt
illegal_gives unit negative v b (Noted ∷ fed) = λ h. spaced_gives negative v 0 false fed h.1
illegal_gives unit negative v b (y ∷ fed) = λ h. absurd h.0

-- UNITS

scaled_gives : (negative : Bool) (a : Quantity) (b : Bool) (fed : List Fed) → DimenGives b (scaled_points negative a) fed
scaled_gives negative a b [] = λ h. tt
scaled_gives negative a b (Val (value.Plain (datum.Found true)) ts ∷ fed) = λ h. spaced_gives negative (measured (pos a.whole)) 0 false fed h.1
scaled_gives negative a b (Val (value.Plain (datum.Found false)) ts ∷ fed) = λ h. illegal_gives taken.Pt negative (points a) false fed h.1
scaled_gives negative a b (y ∷ fed) = λ h. tt

units_give : (negative : Bool) (a : Quantity) (us : List Measure) (b : Bool) (fed : List Fed) → DimenGives b (by_unit negative a us) fed
units_give negative a [] b fed = scaled_gives negative a b fed
units_give negative a (u ∷ us) b [] = λ h. tt
units_give negative a (u ∷ us) b (Val (value.Plain (datum.Found true)) ts ∷ fed) = λ h. spaced_gives negative (measured (pos (in_units a u))) 0 false fed h.1
units_give negative a (u ∷ us) b (Val (value.Plain (datum.Found false)) ts ∷ fed) = λ h. units_give negative a us false fed h.1
units_give negative a (u ∷ us) b (y ∷ fed) = λ h. tt

magnification_gives : (negative : Bool) (a : Quantity) (b : Bool) (fed : List Fed) → DimenGives b (magnification_fetched negative a) fed
magnification_gives negative a b [] = λ h. tt
magnification_gives negative a b (Fetched v ∷ fed) =
    λ h. either false (magnification_in v == 0) (λ more. impossible) _ fed (λ i. tt) (units_give negative (magnified_amount a (magnification_in v)) physical false fed) h.1
magnification_gives negative a b (Val (value.Plain (datum.Number n)) ts ∷ fed) = λ h. tt
magnification_gives negative a b (y ∷ fed) = λ h. tt

magnified_gives : (negative : Bool) (a : Quantity) (b : Bool) (fed : List Fed) → DimenGives b (magnified negative a) fed
magnified_gives negative a b [] = λ h. tt
magnified_gives negative a b (Noted ∷ fed) = λ h. magnification_gives negative a false fed h.1
magnified_gives negative a b (Val (value.Plain (datum.Number n)) ts ∷ fed) = λ h. tt
magnified_gives negative a b (y ∷ fed) = λ h. tt

true_gives : (negative : Bool) (a : Quantity) (b : Bool) (fed : List Fed) → DimenGives b (true_or_not negative a) fed
true_gives negative a b [] = λ h. tt
true_gives negative a b (Val (value.Plain (datum.Found true)) ts ∷ fed) = λ h. magnified_gives negative a false fed h.1
true_gives negative a b (Val (value.Plain (datum.Found false)) ts ∷ fed) = λ h. units_give negative a physical false fed h.1
true_gives negative a b (y ∷ fed) = λ h. tt

ex_gives : (negative : Bool) (a : Quantity) (b : Bool) (fed : List Fed) → DimenGives b (ex_or_not negative a) fed
ex_gives negative a b [] = λ h. tt
ex_gives negative a b (Val (value.Plain (datum.Found true)) ts ∷ fed) = λ h. spaced_gives negative (Some (pos 0)) 0 false fed h.1
ex_gives negative a b (Val (value.Plain (datum.Found false)) ts ∷ fed) = λ h. true_gives negative a false fed h.1
ex_gives negative a b (y ∷ fed) = λ h. tt

em_gives : (negative : Bool) (a : Quantity) (b : Bool) (fed : List Fed) → DimenGives b (em_or_not negative a) fed
em_gives negative a b [] = λ h. tt
em_gives negative a b (Val (value.Plain (datum.Found true)) ts ∷ fed) = λ h. spaced_gives negative (Some (pos 0)) 0 false fed h.1
em_gives negative a b (Val (value.Plain (datum.Found false)) ts ∷ fed) = λ h. ex_gives negative a false fed h.1
em_gives negative a b (y ∷ fed) = λ h. tt

mu_gives : (negative : Bool) (a : Quantity) (b : Bool) (fed : List Fed) → DimenGives b (mu_or_not negative a) fed
mu_gives negative a b [] = λ h. tt
mu_gives negative a b (Val (value.Plain (datum.Found true)) ts ∷ fed) = λ h. spaced_gives negative (points a) 0 false fed h.1
mu_gives negative a b (Val (value.Plain (datum.Found false)) ts ∷ fed) = λ h. illegal_gives taken.Mu negative (points a) false fed h.1
mu_gives negative a b (y ∷ fed) = λ h. tt

-- INTERNAL VALUES

incompatible_gives : (negative : Bool) (v : Option ℤ) (b : Bool) (fed : List Fed) → DimenGives b (incompatible negative v) fed
incompatible_gives negative v b [] = λ h. tt
incompatible_gives negative v b (Noted ∷ fed) = λ h. finished_gives negative v 0 false false tt fed h.1
incompatible_gives negative v b (y ∷ fed) = λ h. absurd h.0

valued_gives : (wanted mu negative : Bool) (v : Option ℤ) (b : Bool) (fed : List Fed) → DimenGives b (valued wanted mu negative v) fed
valued_gives true true negative v b fed = finished_gives negative v 0 false b tt fed
valued_gives false false negative v b fed = finished_gives negative v 0 false b tt fed
valued_gives true false negative v b fed = incompatible_gives negative v b fed
valued_gives false true negative v b fed = incompatible_gives negative v b fed

no_number_gives : (mu negative : Bool) (fed : List Fed) → DimenGives true (no_number mu negative) fed
no_number_gives mu negative [] = λ h. refl
no_number_gives mu negative (Noted ∷ fed) = λ h. valued_gives mu false negative (Some (pos 0)) false fed h.1
no_number_gives mu negative (y ∷ fed) = λ h. absurd h.0

-- what is done with what stands at a location
module _ (onward : Loc → ℤ → List dimens.Fed → DimenAsk) (gives : (l : Loc) (v : ℤ) (b : Bool) (fed : List Fed) → DimenGives b (onward l v) fed) where
  fetched_gives : (l : Loc) (b : Bool) (fed : List Fed) → DimenGives b (fetched onward l) fed
  fetched_gives l b [] = λ h. tt
  fetched_gives l b (Fetched v ∷ fed) = λ h. gives l (integer_of v) false fed h.1
  fetched_gives l b (Val (value.Plain (datum.Number n)) ts ∷ fed) = λ h. tt
  fetched_gives l b (y ∷ fed) = λ h. tt

  bad_gives : (k : Bank) (n : ℤ) (b : Bool) (fed : List Fed) → DimenGives b (bad_numbered k n onward) fed
  bad_gives k n b [] = λ h. tt
  bad_gives k n b (Noted ∷ fed) = λ h. fetched_gives (location_in k 0) false fed h.1
  bad_gives k n b (y ∷ fed) = λ h. absurd h.0

  with_number_gives : (k : Bank) (n : ℤ) (b : Bool) (fed : List Fed) → DimenGives b (with_number k n onward) fed
  with_number_gives k n b fed = either b (is_at_most 255 n) _ _ fed (fetched_gives (location_in k (byte_of n)) b fed) (bad_gives k n b fed)

  numbered_gives : (k : Bank) (b : Bool) (fed : List Fed) → DimenGives b (numbered k onward) fed
  numbered_gives k b [] = λ h. tt
  numbered_gives k b (Val (value.Plain (datum.Number n)) ts ∷ fed) = λ h. with_number_gives k n false fed h.1
  numbered_gives k b (Val (value.Plain (datum.Factor n point)) ts ∷ fed) = λ h. tt
  numbered_gives k b (Val (value.Plain (datum.Found found)) ts ∷ fed) = λ h. tt
  numbered_gives k b (Val v ts ∷ fed) = λ h. with_number_gives k (pos 0) false fed h.1
  numbered_gives k b (Verbatim t ∷ fed) = λ h. with_number_gives k (pos 0) false fed h.1
  numbered_gives k b (Cut ∷ fed) = λ h. with_number_gives k (pos 0) false fed h.1
  numbered_gives k b (y ∷ fed) = λ h. tt

-- THE UNIT

unit_fetched_gives : (k : DimenKind) (negative : Bool) (a : Quantity) (l : Loc) (v : ℤ) (b : Bool) (fed : List Fed) → DimenGives b (unit_fetched k negative a l v) fed
unit_fetched_gives k negative a l v b fed = valued_gives k.mu (is_mu l) negative (measured (times a v)) b fed

internal_unit_gives : (k : DimenKind) (negative : Bool) (a : Quantity) (i : Internal) (b : Bool) (fed : List Fed) → DimenGives b (internal_unit k negative a i) fed
internal_unit_gives k negative a (internal.Given n) b fed = valued_gives k.mu false negative (measured (times a (pos n))) b fed
internal_unit_gives k negative a (internal.At l) b fed = fetched_gives (unit_fetched k negative a) (unit_fetched_gives k negative a) l b fed
internal_unit_gives k negative a (internal.Numbered bank) b fed = numbered_gives (unit_fetched k negative a) (unit_fetched_gives k negative a) bank b fed

internal_or_word_gives : (k : DimenKind) (negative : Bool) (a : Quantity) (o : Option Internal) (b : Bool) (fed : List Fed) → DimenGives b (internal_or_word k negative a o) fed
internal_or_word_gives k negative a (Some i) b fed = internal_unit_gives k negative a i b fed
internal_or_word_gives k negative a None b fed = either b k.mu _ _ fed (mu_gives negative a b fed) (em_gives negative a b fed)

unit_at_gives : (k : DimenKind) (negative : Bool) (a : Quantity) (x : Seen) (fed : List Fed) → DimenGives true (unit_at k negative a x) fed
unit_at_gives k negative a x fed =
    either true (is_some (list_of x.meaning)) _ _ fed (no_number_gives k.mu negative fed) (internal_or_word_gives k negative a (internal_of x.meaning) true fed)

sought_gives : (k : DimenKind) (negative : Bool) (a : Quantity) (b : Bool) (fed : List Fed) → DimenGives b (unit_sought k negative a) fed
sought_gives k negative a b [] = λ h. tt
sought_gives k negative a b (Tok x ∷ fed) = λ h. unit_at_gives k negative a x fed h.1
sought_gives k negative a b (Val (value.Plain (datum.Number n)) ts ∷ fed) = λ h. tt
sought_gives k negative a b (y ∷ fed) = λ h. tt

longer_gives : (negative : Bool) (a : Quantity) (order : ℕ) (too_long b : Bool) (fed : List Fed) → DimenGives b (longer negative a order too_long) fed
longer_gives negative a order false b [] = λ h. tt
longer_gives negative a order false b (Val (value.Plain (datum.Found true)) ts ∷ fed) =
    λ h. either false (order == 3) _ _ fed (longer_gives negative a order true false fed) (longer_gives negative a (order + 1) false false fed) h.1
longer_gives negative a order false b (Val (value.Plain (datum.Found false)) ts ∷ fed) = λ h. spaced_gives negative (points a) order false fed h.1
longer_gives negative a order false b (y ∷ fed) = λ h. tt
longer_gives negative a order true b [] = λ h. tt
longer_gives negative a order true b (Noted ∷ fed) = λ h. longer_gives negative a order false false fed h.1
longer_gives negative a order true b (y ∷ fed) = λ h. absurd h.0

fil_gives : (k : DimenKind) (negative : Bool) (a : Quantity) (begins b : Bool) (fed : List Fed) → DimenGives b (fil_or_not k negative a begins) fed
fil_gives k negative a begins b [] = λ h. tt
fil_gives k negative a begins b (Val (value.Plain (datum.Found true)) ts ∷ fed) = λ h. longer_gives negative a 1 false false fed h.1
fil_gives k negative a begins b (Val (value.Plain (datum.Found false)) ts ∷ fed) = λ h. sought_gives k negative a false fed h.1
fil_gives k negative a begins b (y ∷ fed) = λ h. tt

unit_behind_gives : (k : DimenKind) (negative : Bool) (a : Quantity) (b : Bool) (fed : List Fed) → DimenGives b (unit_behind k negative a) fed
unit_behind_gives k negative a b fed = either b k.infinite _ _ fed (fil_gives k negative a false b fed) (sought_gives k negative a b fed)

unit_with_gives : (k : DimenKind) (negative : Bool) (a : Quantity) (x : Seen) (fed : List Fed) → DimenGives true (unit_with k negative a x) fed
unit_with_gives k negative a x fed = either true k.infinite _ _ fed (fil_gives k negative a true true fed) (unit_at_gives k negative a x fed)

-- THE FACTOR

fraction_gives : (k : DimenKind) (negative : Bool) (n : ℕ) (ds : List ℕ) (b : Bool) (fed : List Fed) → DimenGives b (fraction k negative n ds) fed
fraction_gives k negative n ds b [] = λ h. tt
fraction_gives k negative n ds b (Tok x ∷ fed) =
    λ h. either true (is_digit 10 x) _ _ fed (fraction_gives k negative n (with_digit ds (digit_of x.token)) true fed)
    (either true (is_space x) _ _ fed (unit_behind_gives k negative (amount n ds) true fed) (unit_with_gives k negative (amount n ds) x fed)) h.1
fraction_gives k negative n ds b (Val (value.Plain (datum.Number m)) ts ∷ fed) = λ h. tt
fraction_gives k negative n ds b (y ∷ fed) = λ h. tt

pointed_gives : (k : DimenKind) (negative : Bool) (n : ℕ) (b : Bool) (fed : List Fed) → DimenGives b (pointed k negative n) fed
pointed_gives k negative n b [] = λ h. tt
pointed_gives k negative n b (Tok x ∷ fed) = λ h. fraction_gives k negative n [] true fed h.1
pointed_gives k negative n b (Val (value.Plain (datum.Number m)) ts ∷ fed) = λ h. tt
pointed_gives k negative n b (y ∷ fed) = λ h. tt

with_factor_gives : (k : DimenKind) (negative : Bool) (n : ℤ) (b : Bool) (fed : List Fed) → DimenGives b (with_factor k negative n) fed
with_factor_gives k negative n b fed = unit_behind_gives k (turned negative n) (record { whole = nat_abs n; fraction = 0 }) b fed

factor_read_gives : (k : DimenKind) (negative : Bool) (n : ℤ) (point b : Bool) (fed : List Fed) → DimenGives b (factor_read k negative n point) fed
factor_read_gives k negative n true b fed = pointed_gives k (turned negative n) (nat_abs n) b fed
factor_read_gives k negative n false b fed = with_factor_gives k negative n b fed

factored_gives : (k : DimenKind) (negative b : Bool) (fed : List Fed) → DimenGives b (factored k negative) fed
factored_gives k negative b [] = λ h. tt
factored_gives k negative b (Val (value.Plain (datum.Factor n point)) ts ∷ fed) = λ h. factor_read_gives k negative (in_bounds n) point false fed h.1
factored_gives k negative b (y ∷ fed) = λ h. tt

value_fetched_gives : (k : DimenKind) (negative : Bool) (l : Loc) (v : ℤ) (b : Bool) (fed : List Fed) → DimenGives b (value_fetched k negative l v) fed
value_fetched_gives k negative l v b fed =
    either b (is_integer_at l) _ _ fed (with_factor_gives k negative v b fed) (valued_gives k.mu (is_mu l) negative (measured v) b fed)

internal_value_gives : (k : DimenKind) (negative : Bool) (i : Internal) (b : Bool) (fed : List Fed) → DimenGives b (internal_value k negative i) fed
internal_value_gives k negative (internal.Given n) b fed = with_factor_gives k negative (pos n) b fed
internal_value_gives k negative (internal.At l) b fed = fetched_gives (value_fetched k negative) (value_fetched_gives k negative) l b fed
internal_value_gives k negative (internal.Numbered bank) b fed = numbered_gives (value_fetched k negative) (value_fetched_gives k negative) bank b fed

internal_or_factor_gives : (k : DimenKind) (negative : Bool) (o : Option Internal) (b : Bool) (fed : List Fed) → DimenGives b (internal_or_factor k negative o) fed
internal_or_factor_gives k negative (Some i) b fed = internal_value_gives k negative i b fed
internal_or_factor_gives k negative None b fed = factored_gives k negative b fed

unsigned_gives : (k : DimenKind) (negative : Bool) (x : Seen) (fed : List Fed) → DimenGives true (unsigned k negative x) fed
unsigned_gives k negative x fed =
    either true (is_point x) _ _ fed (fraction_gives k negative 0 [] true fed)
    (either true (is_some (list_of x.meaning)) _ _ fed (no_number_gives k.mu negative fed) (internal_or_factor_gives k negative (internal_of x.meaning) true fed))

pub dimension_gives : (k : DimenKind) (negative b : Bool) (fed : List Fed) → DimenGives b (dimension k negative) fed
dimension_gives k negative b [] = λ h. tt
dimension_gives k negative b (Tok x ∷ fed) =
    λ h. either true (is_minus x) _ _ fed (dimension_gives k (not negative) true fed) (either true (is_plus x) _ _ fed (dimension_gives k negative true fed) (unsigned_gives k negative x fed)) h.1
dimension_gives k negative b (Val (value.Plain (datum.Number n)) ts ∷ fed) = λ h. tt
dimension_gives k negative b (y ∷ fed) = λ h. tt
