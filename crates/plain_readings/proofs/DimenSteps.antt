-- A dimension that is fed with one item more: what it asks for then follows what it asked for. By induction over what it was fed with.
use Rattle.std.proofs.Common.{◌≤◌, ℕ, ◌+◌, ℤ, pos, nat_abs, Bool, true, false, not, List, [], ◌∷◌, ◌++◌, Option, Some, None, arith}
use Rattle.std.specs.Prelude.{if◌then◌else◌, ◌==◌, is_some}
use Rattle.tex_defs.specs.declared.Seen.{Seen}
use Rattle.tex_syntax.specs.declared.words.UnitTaken.{UnitTaken}
use Rattle.tex_syntax.specs.declared.words.UnitTaken.TheVariants as taken
use Rattle.plain_tokens.specs.Tokens.{is_space}
use Rattle.equivalents.specs.declared.values.Loc.{Loc}
use Rattle.rows.specs.declared.internal.Bank.{Bank}
use Rattle.rows.specs.declared.internal.Bank.TheVariants as bank
use Rattle.rows.specs.declared.internal.Internal.{Internal}
use Rattle.rows.specs.declared.internal.Internal.TheVariants as internal
use Rattle.rows.specs.declared.words.DimenKind.{DimenKind}
use Rattle.rows.specs.Tokens.{is_at_most}
use Rattle.rows.specs.Internal.{byte_of, location_in, internal_of, list_of, integer_of, in_bounds, is_mu}
use Rattle.rows.specs.Arithmetic.{measured}
use Rattle.plain_readings.specs.Integers.{is_minus, is_plus, is_digit, digit_of}
use Rattle.plain_readings.specs.Factors.{is_point}
use Rattle.plain_readings.specs.declared.measures.Quantity.{Quantity}
use Rattle.plain_readings.specs.declared.measures.Measure.{Measure}
use Rattle.plain_readings.specs.Dimens.{Fed, Tok, Factored, Numbered, Found, Noted, Fetched, too_large_noted, finished, spaced, illegal, in_units, points, physical, scaled_points, by_unit, magnified_amount, magnification_in, by_magnification, magnification_fetched, magnified, true_or_not, ex_or_not, em_or_not, mu_or_not, incompatible, valued, no_number, fetched, bad_numbered, with_number, numbered, times, unit_fetched, internal_unit, word_unit, internal_or_word, unit_at, unit_sought, longer, fil_or_not, unit_behind, unit_with, amount, with_digit, behind_digits, fraction, pointed, turned, with_factor, factor_read, factored, is_integer_at, value_fetched, internal_value, internal_or_factor, unsigned, dimension}
use Rattle.plain_readings.specs.declared.asks.DimenAsk.{DimenAsk}
use Rattle.plain_readings.specs.Measures.{dimen_ask}
use Rattle.plain_readings.specs.Weights.{value_weight}
use Rattle.plain_readings.proofs.Follows.{Item, Token, Value, Note, Standing, weighs, Follows, light_follows}

abbrev pub item_of : Fed → Item
item_of (Tok x) = Token
item_of Noted = Note
item_of (Fetched v) = Standing
item_of y = Value

abbrev Steps : Fed → DimenAsk → DimenAsk → Type 0
Steps y a b = Follows (item_of y) (dimen_ask a) (dimen_ask b)

either : (y : Fed) (c : Bool) (p p' q q' : DimenAsk) → Steps y p p' → Steps y q q' → Steps y (if c then p else q) (if c then p' else q')
either y true p p' q q' h i = h
either y false p p' q q' h i = i

light_if : (c : Bool) (p q : DimenAsk) (n : ℕ) → weighs (dimen_ask p) ≤ n → weighs (dimen_ask q) ≤ n → weighs (dimen_ask (if c then p else q)) ≤ n
light_if true p q n h i = h
light_if false p q n h i = i

-- THE END

too_large_light : (y : Fed) (negative : Bool) (order : ℕ) (back : Bool) → weighs (dimen_ask (too_large_noted negative order back (y ∷ []))) ≤ value_weight
too_large_light Noted negative order back = omega arith
too_large_light y negative order back = omega arith

-- at first it weighs no more than one report
finished_light : (negative : Bool) (v : Option ℤ) (order : ℕ) (back : Bool) → weighs (dimen_ask (finished negative v order back [])) ≤ value_weight + 1
finished_light negative (Some n) order back = omega arith
finished_light negative None order back = omega arith

module _ (y : Fed) where
  too_large_steps : (negative : Bool) (order : ℕ) (back : Bool) (fed : List Fed) → Steps y (too_large_noted negative order back fed) (too_large_noted negative order back (fed ++ y ∷ []))
  too_large_steps negative order back [] = light_follows (item_of y) _ _ (too_large_light y negative order back)
  too_large_steps negative order back (Noted ∷ fed) = light_follows (item_of y) _ _ (omega arith)
  too_large_steps negative order back (z ∷ fed) = light_follows (item_of y) _ _ (omega arith)

  finished_steps : (negative : Bool) (v : Option ℤ) (order : ℕ) (back : Bool) (fed : List Fed) → Steps y (finished negative v order back fed) (finished negative v order back (fed ++ y ∷ []))
  finished_steps negative (Some n) order back fed = light_follows (item_of y) _ _ (omega arith)
  finished_steps negative None order back fed = too_large_steps negative order back fed

spaced_ends : (y : Fed) (negative : Bool) (v : Option ℤ) (order : ℕ) → Steps y (spaced negative v order []) (spaced negative v order (y ∷ []))
spaced_ends (Tok x) negative v order = tt
spaced_ends y negative v order = omega arith

illegal_light : (y : Fed) (unit : UnitTaken) (negative : Bool) (v : Option ℤ) → weighs (dimen_ask (illegal unit negative v (y ∷ []))) ≤ value_weight
illegal_light Noted unit negative v = omega arith
illegal_light y unit negative v = omega arith

module _ (y : Fed) where
  spaced_steps : (negative : Bool) (v : Option ℤ) (order : ℕ) (fed : List Fed) → Steps y (spaced negative v order fed) (spaced negative v order (fed ++ y ∷ []))
  spaced_steps negative v order [] = spaced_ends y negative v order
  spaced_steps negative v order (Tok x ∷ fed) = finished_steps y negative v order (not (is_space x)) fed
  spaced_steps negative v order (z ∷ fed) = light_follows (item_of y) _ _ (omega arith)

  illegal_steps : (unit : UnitTaken) (negative : Bool) (v : Option ℤ) (fed : List Fed) → Steps y (illegal unit negative v fed) (illegal unit negative v (fed ++ y ∷ []))
  illegal_steps unit negative v [] = light_follows (item_of y) _ _ (illegal_light y unit negative v)
  illegal_steps unit negative v (Noted ∷ fed) = spaced_steps negative v 0 fed
  illegal_steps unit negative v (z ∷ fed) = light_follows (item_of y) _ _ (omega arith)

-- UNITS

scaled_ends : (y : Fed) (negative : Bool) (a : Quantity) → Steps y (scaled_points negative a []) (scaled_points negative a (y ∷ []))
scaled_ends (Found true) negative a = omega arith
scaled_ends (Found false) negative a = omega arith
scaled_ends (Tok x) negative a = tt
scaled_ends y negative a = omega arith

units_light : (negative : Bool) (a : Quantity) (us : List Measure) → weighs (dimen_ask (by_unit negative a us [])) ≤ value_weight
units_light negative a [] = omega arith
units_light negative a (u ∷ us) = omega arith

unit_light : (y : Fed) (negative : Bool) (a : Quantity) (u : Measure) (us : List Measure) → weighs (dimen_ask (by_unit negative a (u ∷ us) (y ∷ []))) ≤ value_weight
unit_light (Found true) negative a u us = omega arith
unit_light (Found false) negative a u us = units_light negative a us
unit_light y negative a u us = omega arith

module _ (y : Fed) where
  scaled_steps : (negative : Bool) (a : Quantity) (fed : List Fed) → Steps y (scaled_points negative a fed) (scaled_points negative a (fed ++ y ∷ []))
  scaled_steps negative a [] = scaled_ends y negative a
  scaled_steps negative a (Found true ∷ fed) = spaced_steps y negative (measured (pos a.whole)) 0 fed
  scaled_steps negative a (Found false ∷ fed) = illegal_steps y taken.Pt negative (points a) fed
  scaled_steps negative a (z ∷ fed) = light_follows (item_of y) _ _ (omega arith)

  units_step : (negative : Bool) (a : Quantity) (us : List Measure) (fed : List Fed) → Steps y (by_unit negative a us fed) (by_unit negative a us (fed ++ y ∷ []))
  units_step negative a [] fed = scaled_steps negative a fed
  units_step negative a (u ∷ us) [] = light_follows (item_of y) _ _ (unit_light y negative a u us)
  units_step negative a (u ∷ us) (Found true ∷ fed) = spaced_steps y negative (measured (pos (in_units a u))) 0 fed
  units_step negative a (u ∷ us) (Found false ∷ fed) = units_step negative a us fed
  units_step negative a (u ∷ us) (z ∷ fed) = light_follows (item_of y) _ _ (omega arith)

  by_magnification_steps : (negative : Bool) (a : Quantity) (mag : ℕ) (fed : List Fed) → Steps y (by_magnification negative a mag fed) (by_magnification negative a mag (fed ++ y ∷ []))
  by_magnification_steps negative a mag fed = either y (mag == 0) _ _ _ _ (light_follows (item_of y) _ _ (omega arith)) (units_step negative (magnified_amount a mag) physical fed)

magnification_light : (y : Fed) (negative : Bool) (a : Quantity) → weighs (dimen_ask (magnification_fetched negative a (y ∷ []))) ≤ value_weight
magnification_light (Fetched v) negative a = light_if (magnification_in v == 0) _ _ _ (omega arith) (omega arith)
magnification_light y negative a = omega arith

magnified_ends : (y : Fed) (negative : Bool) (a : Quantity) → Steps y (magnified negative a []) (magnified negative a (y ∷ []))
magnified_ends Noted negative a = (omega arith, omega arith)
magnified_ends (Tok x) negative a = tt
magnified_ends y negative a = omega arith

true_ends : (y : Fed) (negative : Bool) (a : Quantity) → Steps y (true_or_not negative a []) (true_or_not negative a (y ∷ []))
true_ends (Found true) negative a = omega arith
true_ends (Found false) negative a = omega arith
true_ends (Tok x) negative a = tt
true_ends y negative a = omega arith

ex_light : (y : Fed) (negative : Bool) (a : Quantity) → weighs (dimen_ask (ex_or_not negative a (y ∷ []))) ≤ value_weight
ex_light (Found true) negative a = omega arith
ex_light (Found false) negative a = omega arith
ex_light y negative a = omega arith

em_light : (y : Fed) (negative : Bool) (a : Quantity) → weighs (dimen_ask (em_or_not negative a (y ∷ []))) ≤ value_weight
em_light (Found true) negative a = omega arith
em_light (Found false) negative a = omega arith
em_light y negative a = omega arith

mu_ends : (y : Fed) (negative : Bool) (a : Quantity) → Steps y (mu_or_not negative a []) (mu_or_not negative a (y ∷ []))
mu_ends (Found true) negative a = omega arith
mu_ends (Found false) negative a = omega arith
mu_ends (Tok x) negative a = tt
mu_ends y negative a = omega arith

module _ (y : Fed) where
  magnification_steps : (negative : Bool) (a : Quantity) (fed : List Fed) → Steps y (magnification_fetched negative a fed) (magnification_fetched negative a (fed ++ y ∷ []))
  magnification_steps negative a [] = light_follows (item_of y) _ _ (magnification_light y negative a)
  magnification_steps negative a (Fetched v ∷ fed) = by_magnification_steps y negative a (magnification_in v) fed
  magnification_steps negative a (z ∷ fed) = light_follows (item_of y) _ _ (omega arith)

  magnified_steps : (negative : Bool) (a : Quantity) (fed : List Fed) → Steps y (magnified negative a fed) (magnified negative a (fed ++ y ∷ []))
  magnified_steps negative a [] = magnified_ends y negative a
  magnified_steps negative a (Noted ∷ fed) = magnification_steps negative a fed
  magnified_steps negative a (z ∷ fed) = light_follows (item_of y) _ _ (omega arith)

  true_steps : (negative : Bool) (a : Quantity) (fed : List Fed) → Steps y (true_or_not negative a fed) (true_or_not negative a (fed ++ y ∷ []))
  true_steps negative a [] = true_ends y negative a
  true_steps negative a (Found true ∷ fed) = magnified_steps negative a fed
  true_steps negative a (Found false ∷ fed) = units_step y negative a physical fed
  true_steps negative a (z ∷ fed) = light_follows (item_of y) _ _ (omega arith)

  ex_steps : (negative : Bool) (a : Quantity) (fed : List Fed) → Steps y (ex_or_not negative a fed) (ex_or_not negative a (fed ++ y ∷ []))
  ex_steps negative a [] = light_follows (item_of y) _ _ (ex_light y negative a)
  ex_steps negative a (Found true ∷ fed) = spaced_steps y negative (Some (pos 0)) 0 fed
  ex_steps negative a (Found false ∷ fed) = true_steps negative a fed
  ex_steps negative a (z ∷ fed) = light_follows (item_of y) _ _ (omega arith)

  em_steps : (negative : Bool) (a : Quantity) (fed : List Fed) → Steps y (em_or_not negative a fed) (em_or_not negative a (fed ++ y ∷ []))
  em_steps negative a [] = light_follows (item_of y) _ _ (em_light y negative a)
  em_steps negative a (Found true ∷ fed) = spaced_steps y negative (Some (pos 0)) 0 fed
  em_steps negative a (Found false ∷ fed) = ex_steps negative a fed
  em_steps negative a (z ∷ fed) = light_follows (item_of y) _ _ (omega arith)

  mu_steps : (negative : Bool) (a : Quantity) (fed : List Fed) → Steps y (mu_or_not negative a fed) (mu_or_not negative a (fed ++ y ∷ []))
  mu_steps negative a [] = mu_ends y negative a
  mu_steps negative a (Found true ∷ fed) = spaced_steps y negative (points a) 0 fed
  mu_steps negative a (Found false ∷ fed) = illegal_steps y taken.Mu negative (points a) fed
  mu_steps negative a (z ∷ fed) = light_follows (item_of y) _ _ (omega arith)

-- INTERNAL VALUES

incompatible_ends : (y : Fed) (negative : Bool) (v : Option ℤ) → Steps y (incompatible negative v []) (incompatible negative v (y ∷ []))
incompatible_ends Noted negative (Some n) = (omega arith, omega arith)
incompatible_ends Noted negative None = (omega arith, omega arith)
incompatible_ends (Tok x) negative v = tt
incompatible_ends y negative v = omega arith

-- at first it weighs no more than the report of what isn't in mu
valued_light : (wanted mu negative : Bool) (v : Option ℤ) → weighs (dimen_ask (valued wanted mu negative v [])) ≤ value_weight + 2
valued_light true true negative v = omega (arith, finished_light negative v 0 false)
valued_light false false negative v = omega (arith, finished_light negative v 0 false)
valued_light true false negative v = omega arith
valued_light false true negative v = omega arith

no_number_ends : (y : Fed) (mu negative : Bool) → Steps y (no_number mu negative []) (no_number mu negative (y ∷ []))
no_number_ends Noted true negative = (omega arith, omega arith)
no_number_ends Noted false negative = (omega arith, omega arith)
no_number_ends (Tok x) mu negative = tt
no_number_ends y mu negative = omega arith

module _ (y : Fed) where
  incompatible_steps : (negative : Bool) (v : Option ℤ) (fed : List Fed) → Steps y (incompatible negative v fed) (incompatible negative v (fed ++ y ∷ []))
  incompatible_steps negative v [] = incompatible_ends y negative v
  incompatible_steps negative v (Noted ∷ fed) = finished_steps y negative v 0 false fed
  incompatible_steps negative v (z ∷ fed) = light_follows (item_of y) _ _ (omega arith)

  valued_steps : (wanted mu negative : Bool) (v : Option ℤ) (fed : List Fed) → Steps y (valued wanted mu negative v fed) (valued wanted mu negative v (fed ++ y ∷ []))
  valued_steps true true negative v fed = finished_steps y negative v 0 false fed
  valued_steps false false negative v fed = finished_steps y negative v 0 false fed
  valued_steps true false negative v fed = incompatible_steps negative v fed
  valued_steps false true negative v fed = incompatible_steps negative v fed

  no_number_steps : (mu negative : Bool) (fed : List Fed) → Steps y (no_number mu negative fed) (no_number mu negative (fed ++ y ∷ []))
  no_number_steps mu negative [] = no_number_ends y mu negative
  no_number_steps mu negative (Noted ∷ fed) = valued_steps mu false negative (Some (pos 0)) fed
  no_number_steps mu negative (z ∷ fed) = light_follows (item_of y) _ _ (omega arith)

-- what is done with what stands at a location
module _ (onward : Loc → ℤ → List Fed → DimenAsk) (light : (l : Loc) (v : ℤ) → weighs (dimen_ask (onward l v [])) ≤ value_weight + 2) where
  fetched_ends : (y : Fed) (l : Loc) → Steps y (fetched onward l []) (fetched onward l (y ∷ []))
  fetched_ends (Fetched v) l = light l (integer_of v)
  fetched_ends (Tok x) l = tt
  fetched_ends y l = omega arith

  bad_ends : (y : Fed) (b : Bank) (n : ℤ) → Steps y (bad_numbered b n onward []) (bad_numbered b n onward (y ∷ []))
  bad_ends Noted (bank.Codes kind) n = (omega arith, omega arith)
  bad_ends Noted (bank.Registers kind) n = (omega arith, omega arith)
  bad_ends (Tok x) b n = tt
  bad_ends y b n = omega arith

  bad_light : (b : Bank) (n : ℤ) → weighs (dimen_ask (bad_numbered b n onward [])) ≤ value_weight + 4
  bad_light (bank.Codes kind) n = omega arith
  bad_light (bank.Registers kind) n = omega arith

  numbered_ends : (y : Fed) (b : Bank) → Steps y (numbered b onward []) (numbered b onward (y ∷ []))
  numbered_ends (Numbered n) b = light_if (is_at_most 255 n) _ _ _ (omega arith) (bad_light b n)
  numbered_ends (Tok x) b = tt
  numbered_ends y b = omega arith

  module _ (y : Fed) (steps : (l : Loc) (v : ℤ) (fed : List Fed) → Steps y (onward l v fed) (onward l v (fed ++ y ∷ []))) where
    fetched_steps : (l : Loc) (fed : List Fed) → Steps y (fetched onward l fed) (fetched onward l (fed ++ y ∷ []))
    fetched_steps l [] = fetched_ends y l
    fetched_steps l (Fetched v ∷ fed) = steps l (integer_of v) fed
    fetched_steps l (z ∷ fed) = light_follows (item_of y) _ _ (omega arith)

    bad_steps : (b : Bank) (n : ℤ) (fed : List Fed) → Steps y (bad_numbered b n onward fed) (bad_numbered b n onward (fed ++ y ∷ []))
    bad_steps b n [] = bad_ends y b n
    bad_steps b n (Noted ∷ fed) = fetched_steps (location_in b 0) fed
    bad_steps b n (z ∷ fed) = light_follows (item_of y) _ _ (omega arith)

    number_steps : (b : Bank) (n : ℤ) (fed : List Fed) → Steps y (with_number b n onward fed) (with_number b n onward (fed ++ y ∷ []))
    number_steps b n fed = either y (is_at_most 255 n) _ _ _ _ (fetched_steps (location_in b (byte_of n)) fed) (bad_steps b n fed)

    numbered_steps : (b : Bank) (fed : List Fed) → Steps y (numbered b onward fed) (numbered b onward (fed ++ y ∷ []))
    numbered_steps b [] = numbered_ends y b
    numbered_steps b (Numbered n ∷ fed) = number_steps b n fed
    numbered_steps b (z ∷ fed) = light_follows (item_of y) _ _ (omega arith)

-- THE UNIT

unit_fetched_light : (k : DimenKind) (negative : Bool) (a : Quantity) (l : Loc) (v : ℤ) → weighs (dimen_ask (unit_fetched k negative a l v [])) ≤ value_weight + 2
unit_fetched_light k negative a l v = valued_light k.mu (is_mu l) negative (measured (times a v))

sought_ends : (y : Fed) (k : DimenKind) (negative : Bool) (a : Quantity) → Steps y (unit_sought k negative a []) (unit_sought k negative a (y ∷ []))
sought_ends (Tok x) k negative a = tt
sought_ends y k negative a = omega arith

longer_ends : (y : Fed) (negative : Bool) (a : Quantity) (order : ℕ) → Steps y (longer negative a order false []) (longer negative a order false (y ∷ []))
longer_ends (Found true) negative a order = light_if (order == 3) _ _ _ (omega arith) (omega arith)
longer_ends (Found false) negative a order = omega arith
longer_ends (Tok x) negative a order = tt
longer_ends y negative a order = omega arith

too_long_light : (y : Fed) (negative : Bool) (a : Quantity) (order : ℕ) → weighs (dimen_ask (longer negative a order true (y ∷ []))) ≤ value_weight
too_long_light Noted negative a order = omega arith
too_long_light y negative a order = omega arith

fil_light : (y : Fed) (k : DimenKind) (negative : Bool) (a : Quantity) (begins : Bool) → weighs (dimen_ask (fil_or_not k negative a begins (y ∷ []))) ≤ value_weight
fil_light (Found true) k negative a begins = omega arith
fil_light (Found false) k negative a begins = omega arith
fil_light y k negative a begins = omega arith

unit_behind_light : (k : DimenKind) (negative : Bool) (a : Quantity) → weighs (dimen_ask (unit_behind k negative a [])) ≤ value_weight
unit_behind_light k negative a = light_if k.infinite _ _ _ (omega arith) (omega arith)

module _ (y : Fed) where
  unit_fetched_steps : (k : DimenKind) (negative : Bool) (a : Quantity) (l : Loc) (v : ℤ) (fed : List Fed) → Steps y (unit_fetched k negative a l v fed) (unit_fetched k negative a l v (fed ++ y ∷ []))
  unit_fetched_steps k negative a l v fed = valued_steps y k.mu (is_mu l) negative (measured (times a v)) fed

  internal_unit_steps : (k : DimenKind) (negative : Bool) (a : Quantity) (i : Internal) (fed : List Fed) → Steps y (internal_unit k negative a i fed) (internal_unit k negative a i (fed ++ y ∷ []))
  internal_unit_steps k negative a (internal.Given n) fed = valued_steps y k.mu false negative (measured (times a (pos n))) fed
  internal_unit_steps k negative a (internal.At l) fed = fetched_steps (unit_fetched k negative a) (unit_fetched_light k negative a) y (unit_fetched_steps k negative a) l fed
  internal_unit_steps k negative a (internal.Numbered b) fed = numbered_steps (unit_fetched k negative a) (unit_fetched_light k negative a) y (unit_fetched_steps k negative a) b fed

  word_steps : (mu negative : Bool) (a : Quantity) (fed : List Fed) → Steps y (word_unit mu negative a fed) (word_unit mu negative a (fed ++ y ∷ []))
  word_steps mu negative a fed = either y mu _ _ _ _ (mu_steps y negative a fed) (em_steps y negative a fed)

  internal_or_word_steps : (k : DimenKind) (negative : Bool) (a : Quantity) (o : Option Internal) (fed : List Fed) → Steps y (internal_or_word k negative a o fed) (internal_or_word k negative a o (fed ++ y ∷ []))
  internal_or_word_steps k negative a (Some i) fed = internal_unit_steps k negative a i fed
  internal_or_word_steps k negative a None fed = word_steps k.mu negative a fed

  unit_at_steps : (k : DimenKind) (negative : Bool) (a : Quantity) (x : Seen) (fed : List Fed) → Steps y (unit_at k negative a x fed) (unit_at k negative a x (fed ++ y ∷ []))
  unit_at_steps k negative a x fed = either y (is_some (list_of x.meaning)) _ _ _ _ (no_number_steps y k.mu negative fed) (internal_or_word_steps k negative a (internal_of x.meaning) fed)

  sought_steps : (k : DimenKind) (negative : Bool) (a : Quantity) (fed : List Fed) → Steps y (unit_sought k negative a fed) (unit_sought k negative a (fed ++ y ∷ []))
  sought_steps k negative a [] = sought_ends y k negative a
  sought_steps k negative a (Tok x ∷ fed) = unit_at_steps k negative a x fed
  sought_steps k negative a (z ∷ fed) = light_follows (item_of y) _ _ (omega arith)

  longer_steps : (negative : Bool) (a : Quantity) (order : ℕ) (too_long : Bool) (fed : List Fed) → Steps y (longer negative a order too_long fed) (longer negative a order too_long (fed ++ y ∷ []))
  longer_steps negative a order false [] = longer_ends y negative a order
  longer_steps negative a order false (Found true ∷ fed) = either y (order == 3) _ _ _ _ (longer_steps negative a order true fed) (longer_steps negative a (order + 1) false fed)
  longer_steps negative a order false (Found false ∷ fed) = spaced_steps y negative (points a) order fed
  longer_steps negative a order false (z ∷ fed) = light_follows (item_of y) _ _ (omega arith)
  longer_steps negative a order true [] = light_follows (item_of y) _ _ (too_long_light y negative a order)
  longer_steps negative a order true (Noted ∷ fed) = longer_steps negative a order false fed
  longer_steps negative a order true (z ∷ fed) = light_follows (item_of y) _ _ (omega arith)

  fil_steps : (k : DimenKind) (negative : Bool) (a : Quantity) (begins : Bool) (fed : List Fed) → Steps y (fil_or_not k negative a begins fed) (fil_or_not k negative a begins (fed ++ y ∷ []))
  fil_steps k negative a begins [] = light_follows (item_of y) _ _ (fil_light y k negative a begins)
  fil_steps k negative a begins (Found true ∷ fed) = longer_steps negative a 1 false fed
  fil_steps k negative a begins (Found false ∷ fed) = sought_steps k negative a fed
  fil_steps k negative a begins (z ∷ fed) = light_follows (item_of y) _ _ (omega arith)

  unit_behind_steps : (k : DimenKind) (negative : Bool) (a : Quantity) (fed : List Fed) → Steps y (unit_behind k negative a fed) (unit_behind k negative a (fed ++ y ∷ []))
  unit_behind_steps k negative a fed = either y k.infinite _ _ _ _ (fil_steps k negative a false fed) (sought_steps k negative a fed)

  unit_with_steps : (k : DimenKind) (negative : Bool) (a : Quantity) (x : Seen) (fed : List Fed) → Steps y (unit_with k negative a x fed) (unit_with k negative a x (fed ++ y ∷ []))
  unit_with_steps k negative a x fed = either y k.infinite _ _ _ _ (fil_steps k negative a true fed) (unit_at_steps k negative a x fed)

-- THE FACTOR

fraction_ends : (y : Fed) (k : DimenKind) (negative : Bool) (n : ℕ) (ds : List ℕ) → Steps y (fraction k negative n ds []) (fraction k negative n ds (y ∷ []))
fraction_ends (Tok x) k negative n ds = tt
fraction_ends y k negative n ds = omega arith

pointed_ends : (y : Fed) (k : DimenKind) (negative : Bool) (n : ℕ) → Steps y (pointed k negative n []) (pointed k negative n (y ∷ []))
pointed_ends (Tok x) k negative n = tt
pointed_ends y k negative n = omega arith

factor_read_light : (k : DimenKind) (negative : Bool) (n : ℤ) (point : Bool) → weighs (dimen_ask (factor_read k negative n point [])) ≤ value_weight
factor_read_light k negative n true = omega arith
factor_read_light k negative n false = unit_behind_light k (turned negative n) (record { whole = nat_abs n; fraction = 0 })

factored_light : (y : Fed) (k : DimenKind) (negative : Bool) → weighs (dimen_ask (factored k negative (y ∷ []))) ≤ value_weight
factored_light (Factored n point) k negative = factor_read_light k negative (in_bounds n) point
factored_light y k negative = omega arith

value_fetched_light : (k : DimenKind) (negative : Bool) (l : Loc) (v : ℤ) → weighs (dimen_ask (value_fetched k negative l v [])) ≤ value_weight + 2
value_fetched_light k negative l v =
    light_if (is_integer_at l) _ _ _ (omega (arith, unit_behind_light k (turned negative v) (record { whole = nat_abs v; fraction = 0 })))
    (valued_light k.mu (is_mu l) negative (measured v))

dimension_ends : (y : Fed) (k : DimenKind) (negative : Bool) → Steps y (dimension k negative []) (dimension k negative (y ∷ []))
dimension_ends (Tok x) k negative = tt
dimension_ends y k negative = omega arith

module _ (y : Fed) where
  behind_digits_steps : (k : DimenKind) (negative : Bool) (a : Quantity) (x : Seen) (fed : List Fed) → Steps y (behind_digits k negative a x fed) (behind_digits k negative a x (fed ++ y ∷ []))
  behind_digits_steps k negative a x fed = either y (is_space x) _ _ _ _ (unit_behind_steps y k negative a fed) (unit_with_steps y k negative a x fed)

  fraction_steps : (k : DimenKind) (negative : Bool) (n : ℕ) (ds : List ℕ) (fed : List Fed) → Steps y (fraction k negative n ds fed) (fraction k negative n ds (fed ++ y ∷ []))
  fraction_steps k negative n ds [] = fraction_ends y k negative n ds
  fraction_steps k negative n ds (Tok x ∷ fed) =
      either y (is_digit 10 x) _ _ _ _ (fraction_steps k negative n (with_digit ds (digit_of x.token)) fed) (behind_digits_steps k negative (amount n ds) x fed)
  fraction_steps k negative n ds (z ∷ fed) = light_follows (item_of y) _ _ (omega arith)

  pointed_steps : (k : DimenKind) (negative : Bool) (n : ℕ) (fed : List Fed) → Steps y (pointed k negative n fed) (pointed k negative n (fed ++ y ∷ []))
  pointed_steps k negative n [] = pointed_ends y k negative n
  pointed_steps k negative n (Tok x ∷ fed) = fraction_steps k negative n [] fed
  pointed_steps k negative n (z ∷ fed) = light_follows (item_of y) _ _ (omega arith)

  with_factor_steps : (k : DimenKind) (negative : Bool) (n : ℤ) (fed : List Fed) → Steps y (with_factor k negative n fed) (with_factor k negative n (fed ++ y ∷ []))
  with_factor_steps k negative n fed = unit_behind_steps y k (turned negative n) (record { whole = nat_abs n; fraction = 0 }) fed

  factor_read_steps : (k : DimenKind) (negative : Bool) (n : ℤ) (point : Bool) (fed : List Fed) → Steps y (factor_read k negative n point fed) (factor_read k negative n point (fed ++ y ∷ []))
  factor_read_steps k negative n true fed = pointed_steps k (turned negative n) (nat_abs n) fed
  factor_read_steps k negative n false fed = with_factor_steps k negative n fed

  factored_steps : (k : DimenKind) (negative : Bool) (fed : List Fed) → Steps y (factored k negative fed) (factored k negative (fed ++ y ∷ []))
  factored_steps k negative [] = light_follows (item_of y) _ _ (factored_light y k negative)
  factored_steps k negative (Factored n point ∷ fed) = factor_read_steps k negative (in_bounds n) point fed
  factored_steps k negative (z ∷ fed) = light_follows (item_of y) _ _ (omega arith)

  value_fetched_steps : (k : DimenKind) (negative : Bool) (l : Loc) (v : ℤ) (fed : List Fed) → Steps y (value_fetched k negative l v fed) (value_fetched k negative l v (fed ++ y ∷ []))
  value_fetched_steps k negative l v fed =
      either y (is_integer_at l) _ _ _ _ (with_factor_steps k negative v fed) (valued_steps y k.mu (is_mu l) negative (measured v) fed)

  internal_value_steps : (k : DimenKind) (negative : Bool) (i : Internal) (fed : List Fed) → Steps y (internal_value k negative i fed) (internal_value k negative i (fed ++ y ∷ []))
  internal_value_steps k negative (internal.Given n) fed = with_factor_steps k negative (pos n) fed
  internal_value_steps k negative (internal.At l) fed = fetched_steps (value_fetched k negative) (value_fetched_light k negative) y (value_fetched_steps k negative) l fed
  internal_value_steps k negative (internal.Numbered b) fed = numbered_steps (value_fetched k negative) (value_fetched_light k negative) y (value_fetched_steps k negative) b fed

  internal_or_factor_steps : (k : DimenKind) (negative : Bool) (o : Option Internal) (fed : List Fed) → Steps y (internal_or_factor k negative o fed) (internal_or_factor k negative o (fed ++ y ∷ []))
  internal_or_factor_steps k negative (Some i) fed = internal_value_steps k negative i fed
  internal_or_factor_steps k negative None fed = factored_steps k negative fed

  unsigned_steps : (k : DimenKind) (negative : Bool) (x : Seen) (fed : List Fed) → Steps y (unsigned k negative x fed) (unsigned k negative x (fed ++ y ∷ []))
  unsigned_steps k negative x fed =
      either y (is_point x) _ _ _ _ (fraction_steps k negative 0 [] fed)
      (either y (is_some (list_of x.meaning)) _ _ _ _ (no_number_steps y k.mu negative fed) (internal_or_factor_steps k negative (internal_of x.meaning) fed))

  pub dimension_steps : (k : DimenKind) (negative : Bool) (fed : List Fed) → Steps y (dimension k negative fed) (dimension k negative (fed ++ y ∷ []))
  dimension_steps k negative [] = dimension_ends y k negative
  dimension_steps k negative (Tok x ∷ fed) =
      either y (is_minus x) _ _ _ _ (dimension_steps k (not negative) fed) (either y (is_plus x) _ _ _ _ (dimension_steps k negative fed) (unsigned_steps k negative x fed))
  dimension_steps k negative (z ∷ fed) = light_follows (item_of y) _ _ (omega arith)
