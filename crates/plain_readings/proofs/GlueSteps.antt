-- Glue that is fed with one item more: what it asks for then follows what it asked for. By induction over what it was fed with.
use Rattle.std.proofs.Common.{◌≤◌, ℕ, ◌+◌, ℤ, Bool, true, false, not, List, [], ◌∷◌, ◌++◌, Option, Some, None, arith}
use Rattle.std.specs.Prelude.{if◌then◌else◌}
use Rattle.equivalents.specs.declared.values.Glue.{Glue}
use Rattle.equivalents.specs.declared.values.Loc.{Loc}
use Rattle.rows.specs.declared.internal.Bank.{Bank}
use Rattle.rows.specs.declared.internal.Bank.TheVariants as bank
use Rattle.rows.specs.declared.internal.Internal.{Internal}
use Rattle.rows.specs.declared.internal.Internal.TheVariants as internal
use Rattle.rows.specs.Tokens.{is_at_most}
use Rattle.rows.specs.Internal.{byte_of, location_in, internal_of, is_mu, is_glue}
use Rattle.rows.specs.Arithmetic.{glue_at}
use Rattle.plain_readings.specs.Integers.{is_minus, is_plus}
use Rattle.plain_readings.specs.Glues.{Fed, Tok, Measured, Numbered, Found, Noted, Fetched, is_part, with_width, with_stretch, shrink, minus_or_not, stretch, plus_or_not, width, signed_glue, incompatible, valued, fetched, bad_numbered, with_number, numbered, internal_or_width, glue}
use Rattle.plain_readings.specs.declared.asks.GlueAsk.{GlueAsk}
use Rattle.plain_readings.specs.Measures.{glue_ask}
use Rattle.plain_readings.specs.Weights.{value_weight}
use Rattle.plain_readings.proofs.Follows.{Item, Token, Value, Note, Standing, weighs, Follows, light_follows}

abbrev pub item_of : Fed → Item
item_of (Tok x) = Token
item_of Noted = Note
item_of (Fetched v) = Standing
item_of y = Value

abbrev Steps : Fed → GlueAsk → GlueAsk → Type 0
Steps y a b = Follows (item_of y) (glue_ask a) (glue_ask b)

either : (y : Fed) (c : Bool) (p p' q q' : GlueAsk) → Steps y p p' → Steps y q q' → Steps y (if c then p else q) (if c then p' else q')
either y true p p' q q' h i = h
either y false p p' q q' h i = i

light_if : (c : Bool) (p q : GlueAsk) (n : ℕ) → weighs (glue_ask p) ≤ n → weighs (glue_ask q) ≤ n → weighs (glue_ask (if c then p else q)) ≤ n
light_if true p q n h i = h
light_if false p q n h i = i

-- PARTS

shrink_light : (y : Fed) (mu : Bool) (g : Glue) → weighs (glue_ask (shrink mu g (y ∷ []))) ≤ value_weight
shrink_light (Measured n order) mu g = light_if (is_part n order) _ _ _ (omega arith) (omega arith)
shrink_light y mu g = omega arith

minus_light : (y : Fed) (mu : Bool) (g : Glue) → weighs (glue_ask (minus_or_not mu g (y ∷ []))) ≤ value_weight
minus_light (Found true) mu g = omega arith
minus_light (Found false) mu g = omega arith
minus_light y mu g = omega arith

stretch_light : (y : Fed) (mu : Bool) (g : Glue) → weighs (glue_ask (stretch mu g (y ∷ []))) ≤ value_weight
stretch_light (Measured n order) mu g = light_if (is_part n order) _ _ _ (omega arith) (omega arith)
stretch_light y mu g = omega arith

plus_light : (y : Fed) (mu : Bool) (g : Glue) → weighs (glue_ask (plus_or_not mu g (y ∷ []))) ≤ value_weight
plus_light (Found true) mu g = omega arith
plus_light (Found false) mu g = omega arith
plus_light y mu g = omega arith

width_light : (y : Fed) (mu negative : Bool) → weighs (glue_ask (width mu negative (y ∷ []))) ≤ value_weight
width_light (Measured n order) mu negative = light_if (is_part n order) _ _ _ (omega arith) (omega arith)
width_light y mu negative = omega arith

module _ (y : Fed) where
  shrink_steps : (mu : Bool) (g : Glue) (fed : List Fed) → Steps y (shrink mu g fed) (shrink mu g (fed ++ y ∷ []))
  shrink_steps mu g [] = light_follows (item_of y) _ _ (shrink_light y mu g)
  shrink_steps mu g (Measured n order ∷ fed) = either y (is_part n order) _ _ _ _ (light_follows (item_of y) _ _ (omega arith)) (light_follows (item_of y) _ _ (omega arith))
  shrink_steps mu g (z ∷ fed) = light_follows (item_of y) _ _ (omega arith)

  minus_steps : (mu : Bool) (g : Glue) (fed : List Fed) → Steps y (minus_or_not mu g fed) (minus_or_not mu g (fed ++ y ∷ []))
  minus_steps mu g [] = light_follows (item_of y) _ _ (minus_light y mu g)
  minus_steps mu g (Found true ∷ fed) = shrink_steps mu g fed
  minus_steps mu g (Found false ∷ fed) = light_follows (item_of y) _ _ (omega arith)
  minus_steps mu g (z ∷ fed) = light_follows (item_of y) _ _ (omega arith)

  stretch_steps : (mu : Bool) (g : Glue) (fed : List Fed) → Steps y (stretch mu g fed) (stretch mu g (fed ++ y ∷ []))
  stretch_steps mu g [] = light_follows (item_of y) _ _ (stretch_light y mu g)
  stretch_steps mu g (Measured n order ∷ fed) = either y (is_part n order) _ _ _ _ (minus_steps mu (with_stretch g n order) fed) (light_follows (item_of y) _ _ (omega arith))
  stretch_steps mu g (z ∷ fed) = light_follows (item_of y) _ _ (omega arith)

  plus_steps : (mu : Bool) (g : Glue) (fed : List Fed) → Steps y (plus_or_not mu g fed) (plus_or_not mu g (fed ++ y ∷ []))
  plus_steps mu g [] = light_follows (item_of y) _ _ (plus_light y mu g)
  plus_steps mu g (Found true ∷ fed) = stretch_steps mu g fed
  plus_steps mu g (Found false ∷ fed) = minus_steps mu g fed
  plus_steps mu g (z ∷ fed) = light_follows (item_of y) _ _ (omega arith)

  width_steps : (mu negative : Bool) (fed : List Fed) → Steps y (width mu negative fed) (width mu negative (fed ++ y ∷ []))
  width_steps mu negative [] = light_follows (item_of y) _ _ (width_light y mu negative)
  width_steps mu negative (Measured n order ∷ fed) = either y (is_part n order) _ _ _ _ (plus_steps mu (with_width negative n) fed) (light_follows (item_of y) _ _ (omega arith))
  width_steps mu negative (z ∷ fed) = light_follows (item_of y) _ _ (omega arith)

-- INTERNAL GLUE

incompatible_light : (y : Fed) (g : Glue) → weighs (glue_ask (incompatible g (y ∷ []))) ≤ value_weight
incompatible_light Noted g = omega arith
incompatible_light y g = omega arith

-- at first it weighs no more than the report of what isn't in mu
valued_light : (wanted mu : Bool) (g : Glue) → weighs (glue_ask (valued wanted mu g [])) ≤ value_weight + 2
valued_light true true g = omega arith
valued_light false false g = omega arith
valued_light true false g = omega arith
valued_light false true g = omega arith

fetched_ends : (y : Fed) (mu negative : Bool) (l : Loc) → Steps y (fetched mu negative l []) (fetched mu negative l (y ∷ []))
fetched_ends (Fetched v) mu negative l = valued_light mu (is_mu l) (signed_glue negative (glue_at v))
fetched_ends (Tok x) mu negative l = tt
fetched_ends y mu negative l = omega arith

bad_ends : (y : Fed) (mu negative : Bool) (b : Bank) (n : ℤ) → Steps y (bad_numbered mu negative b n []) (bad_numbered mu negative b n (y ∷ []))
bad_ends Noted mu negative (bank.Codes kind) n = (omega arith, omega arith)
bad_ends Noted mu negative (bank.Registers kind) n = (omega arith, omega arith)
bad_ends (Tok x) mu negative b n = tt
bad_ends y mu negative b n = omega arith

bad_light : (mu negative : Bool) (b : Bank) (n : ℤ) → weighs (glue_ask (bad_numbered mu negative b n [])) ≤ value_weight + 4
bad_light mu negative (bank.Codes kind) n = omega arith
bad_light mu negative (bank.Registers kind) n = omega arith

numbered_ends : (y : Fed) (mu negative : Bool) (b : Bank) → Steps y (numbered mu negative b []) (numbered mu negative b (y ∷ []))
numbered_ends (Numbered n) mu negative b = light_if (is_at_most 255 n) _ _ _ (omega arith) (bad_light mu negative b n)
numbered_ends (Tok x) mu negative b = tt
numbered_ends y mu negative b = omega arith

glue_ends : (y : Fed) (mu negative : Bool) → Steps y (glue mu negative []) (glue mu negative (y ∷ []))
glue_ends (Tok x) mu negative = tt
glue_ends y mu negative = omega arith

module _ (y : Fed) where
  incompatible_steps : (g : Glue) (fed : List Fed) → Steps y (incompatible g fed) (incompatible g (fed ++ y ∷ []))
  incompatible_steps g [] = light_follows (item_of y) _ _ (incompatible_light y g)
  incompatible_steps g (Noted ∷ fed) = light_follows (item_of y) _ _ (omega arith)
  incompatible_steps g (z ∷ fed) = light_follows (item_of y) _ _ (omega arith)

  valued_steps : (wanted mu : Bool) (g : Glue) (fed : List Fed) → Steps y (valued wanted mu g fed) (valued wanted mu g (fed ++ y ∷ []))
  valued_steps true true g fed = light_follows (item_of y) _ _ (omega arith)
  valued_steps false false g fed = light_follows (item_of y) _ _ (omega arith)
  valued_steps true false g fed = incompatible_steps g fed
  valued_steps false true g fed = incompatible_steps g fed

  fetched_steps : (mu negative : Bool) (l : Loc) (fed : List Fed) → Steps y (fetched mu negative l fed) (fetched mu negative l (fed ++ y ∷ []))
  fetched_steps mu negative l [] = fetched_ends y mu negative l
  fetched_steps mu negative l (Fetched v ∷ fed) = valued_steps mu (is_mu l) (signed_glue negative (glue_at v)) fed
  fetched_steps mu negative l (z ∷ fed) = light_follows (item_of y) _ _ (omega arith)

  bad_steps : (mu negative : Bool) (b : Bank) (n : ℤ) (fed : List Fed) → Steps y (bad_numbered mu negative b n fed) (bad_numbered mu negative b n (fed ++ y ∷ []))
  bad_steps mu negative b n [] = bad_ends y mu negative b n
  bad_steps mu negative b n (Noted ∷ fed) = fetched_steps mu negative (location_in b 0) fed
  bad_steps mu negative b n (z ∷ fed) = light_follows (item_of y) _ _ (omega arith)

  number_steps : (mu negative : Bool) (b : Bank) (n : ℤ) (fed : List Fed) → Steps y (with_number mu negative b n fed) (with_number mu negative b n (fed ++ y ∷ []))
  number_steps mu negative b n fed = either y (is_at_most 255 n) _ _ _ _ (fetched_steps mu negative (location_in b (byte_of n)) fed) (bad_steps mu negative b n fed)

  numbered_steps : (mu negative : Bool) (b : Bank) (fed : List Fed) → Steps y (numbered mu negative b fed) (numbered mu negative b (fed ++ y ∷ []))
  numbered_steps mu negative b [] = numbered_ends y mu negative b
  numbered_steps mu negative b (Numbered n ∷ fed) = number_steps mu negative b n fed
  numbered_steps mu negative b (z ∷ fed) = light_follows (item_of y) _ _ (omega arith)

  internal_steps : (mu negative : Bool) (o : Option Internal) (fed : List Fed) → Steps y (internal_or_width mu negative o fed) (internal_or_width mu negative o (fed ++ y ∷ []))
  internal_steps mu negative (Some (internal.At l)) fed = either y (is_glue l) _ _ _ _ (fetched_steps mu negative l fed) (width_steps y mu negative fed)
  internal_steps mu negative (Some (internal.Numbered b)) fed = either y (is_glue (location_in b 0)) _ _ _ _ (numbered_steps mu negative b fed) (width_steps y mu negative fed)
  internal_steps mu negative (Some (internal.Given n)) fed = width_steps y mu negative fed
  internal_steps mu negative None fed = width_steps y mu negative fed

  pub glue_steps : (mu negative : Bool) (fed : List Fed) → Steps y (glue mu negative fed) (glue mu negative (fed ++ y ∷ []))
  glue_steps mu negative [] = glue_ends y mu negative
  glue_steps mu negative (Tok x ∷ fed) =
      either y (is_minus x) _ _ _ _ (glue_steps mu (not negative) fed) (either y (is_plus x) _ _ _ _ (glue_steps mu negative fed) (internal_steps mu negative (internal_of x.meaning) fed))
  glue_steps mu negative (z ∷ fed) = light_follows (item_of y) _ _ (omega arith)
