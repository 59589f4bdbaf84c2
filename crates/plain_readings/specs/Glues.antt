-- Glue: signs and an internal glue, which is all of it; or a width, and then perhaps `plus` and a stretch, and `minus` and a shrink. The TeXbook,
-- chapters 12, 18 and 24; TeX: The Program, part 26 (`scan_glue`).
use Rattle.std.specs.Prelude.{ℕ, ℤ, pos, nat_abs, nat_le, nat_lt, ◌&&◌, Bool, true, false, not, if◌then◌else◌, List, [], ◌∷◌, Option, Some}
use Rattle.tex_defs.specs.declared.Seen.{Seen}
use Rattle.tex_syntax.specs.declared.words.Want.TheVariants.{Nonblank}
use Rattle.tex_syntax.specs.declared.words.Report.TheVariants.{IncompatibleUnits}
use Rattle.equivalents.specs.declared.values.Glue.{Glue}
use Rattle.equivalents.specs.declared.values.Loc.{Loc}
use Rattle.equivalents.specs.Locations.{SeenValue, zero_glue}
use Rattle.rows.specs.declared.words.Keyword.TheVariants.{Plus, Minus}
use Rattle.rows.specs.declared.internal.Bank.{Bank}
use Rattle.rows.specs.declared.internal.Internal.{Internal}
use Rattle.rows.specs.declared.internal.Internal.TheVariants as internal
use Rattle.rows.specs.Tokens.{is_at_most}
use Rattle.rows.specs.Internal.{byte_of, location_in, bad_number, internal_of, in_bounds, with_sign, is_mu, is_glue}
use Rattle.plain_readings.specs.Integers.{is_minus, is_plus}
use Rattle.rows.specs.Arithmetic.{too_large, glue_at}
use Rattle.rows.specs.declared.words.DimenKind.{DimenKind}
use Rattle.plain_readings.specs.declared.asks.GlueAsk.{GlueAsk}
use Rattle.plain_readings.specs.declared.asks.GlueAsk.TheVariants.{More, Begins, Fetches, Tells, Done}
use Rattle.plain_readings.specs.declared.asks.GlueInner.TheVariants.{Dimension, Number, Key}

-- What glue is fed with: a token; what was read within, a dimension with its order of infinity; a note that a report was written; what stands at a
-- location.
pub data Fed : Type 0 where
  Tok : Seen → Fed
  Measured : ℤ → (order : ℕ) → Fed
  Numbered : ℤ → Fed
  Found : Bool → Fed
  Noted : Fed
  Fetched : SeenValue → Fed

-- the end of glue that was fed with what it didn't ask for, to which no run comes
abbrev pub impossible : GlueAsk
impossible = Done zero_glue

-- PARTS

-- a dimension, as readings within come to: below 2^30 in absolute value, at an order of infinity of 0 to 3
abbrev pub is_part : ℤ → (order : ℕ) → Bool
is_part n order = nat_lt (nat_abs n) too_large && nat_le order 3

-- a width, and a stretch or a shrink, which may be infinite
abbrev pub finite : (mu : Bool) → DimenKind
finite mu = record { mu = mu; infinite = false }

abbrev pub infinite : (mu : Bool) → DimenKind
infinite mu = record { mu = mu; infinite = true }

-- the signs before the width are its alone
abbrev pub with_width : (negative : Bool) → ℤ → Glue
with_width negative n = record { width = with_sign negative n; stretch = pos 0; stretch_order = 0; shrink = pos 0; shrink_order = 0 }

abbrev pub with_stretch : Glue → ℤ → (order : ℕ) → Glue
with_stretch g n order = record { width = g.width; stretch = n; stretch_order = order; shrink = g.shrink; shrink_order = g.shrink_order }

abbrev pub with_shrink : Glue → ℤ → (order : ℕ) → Glue
with_shrink g n order = record { width = g.width; stretch = g.stretch; stretch_order = g.stretch_order; shrink = n; shrink_order = order }

-- the shrink comes, behind the glue so far
abbrev pub shrink : (mu : Bool) → Glue → List Fed → GlueAsk
shrink mu g [] = Begins (Dimension (infinite mu)) false
shrink mu g (Measured n order ∷ fed) = if is_part n order then Done (with_shrink g n order) else impossible
shrink mu g (y ∷ fed) = impossible

abbrev pub minus_or_not : (mu : Bool) → Glue → List Fed → GlueAsk
minus_or_not mu g [] = Begins (Key Minus) false
minus_or_not mu g (Found true ∷ fed) = shrink mu g fed
minus_or_not mu g (Found false ∷ fed) = Done g
minus_or_not mu g (y ∷ fed) = impossible

abbrev pub stretch : (mu : Bool) → Glue → List Fed → GlueAsk
stretch mu g [] = Begins (Dimension (infinite mu)) false
stretch mu g (Measured n order ∷ fed) = if is_part n order then minus_or_not mu (with_stretch g n order) fed else impossible
stretch mu g (y ∷ fed) = impossible

abbrev pub plus_or_not : (mu : Bool) → Glue → List Fed → GlueAsk
plus_or_not mu g [] = Begins (Key Plus) false
plus_or_not mu g (Found true ∷ fed) = stretch mu g fed
plus_or_not mu g (Found false ∷ fed) = minus_or_not mu g fed
plus_or_not mu g (y ∷ fed) = impossible

-- the reading of the width begins with the token behind the signs
abbrev pub width : (mu negative : Bool) → List Fed → GlueAsk
width mu negative [] = Begins (Dimension (finite mu)) true
width mu negative (Measured n order ∷ fed) = if is_part n order then plus_or_not mu (with_width negative n) fed else impossible
width mu negative (y ∷ fed) = impossible

-- INTERNAL GLUE, behind which nothing is read

-- the least 32-bit integer, which no assignment gives, counts as the next one
abbrev pub negated : ℤ → ℤ
negated n = with_sign true (in_bounds n)

-- the signs before it are those of all its parts
abbrev pub signed_glue : (negative : Bool) → Glue → Glue
signed_glue negative g =
    if negative then record { width = negated g.width; stretch = negated g.stretch; stretch_order = g.stretch_order; shrink = negated g.shrink; shrink_order = g.shrink_order }
    else g

-- glue in mu where it isn't wanted, and other glue where that is, are reported, and the glue taken
abbrev pub incompatible : Glue → List Fed → GlueAsk
incompatible g [] = Tells IncompatibleUnits
incompatible g (Noted ∷ fed) = Done g
incompatible g (y ∷ fed) = impossible

-- in mu or not, where that is wanted or not
abbrev pub valued : (wanted mu : Bool) → Glue → List Fed → GlueAsk
valued true true g fed = Done g
valued false false g fed = Done g
valued wanted mu g fed = incompatible g fed

abbrev pub fetched : (mu negative : Bool) → Loc → List Fed → GlueAsk
fetched mu negative l [] = Fetches l
fetched mu negative l (Fetched v ∷ fed) = valued mu (is_mu l) (signed_glue negative (glue_at v)) fed
fetched mu negative l (y ∷ fed) = impossible

-- another number than one from 0 to 255 is reported, and the register of number 0 taken
abbrev pub bad_numbered : (mu negative : Bool) → Bank → ℤ → List Fed → GlueAsk
bad_numbered mu negative b n [] = Tells (bad_number b n)
bad_numbered mu negative b n (Noted ∷ fed) = fetched mu negative (location_in b 0) fed
bad_numbered mu negative b n (y ∷ fed) = impossible

abbrev pub with_number : (mu negative : Bool) → Bank → ℤ → List Fed → GlueAsk
with_number mu negative b n fed = if is_at_most 255 n then fetched mu negative (location_in b (byte_of n)) fed else bad_numbered mu negative b n fed

-- the number of the register comes
abbrev pub numbered : (mu negative : Bool) → Bank → List Fed → GlueAsk
numbered mu negative b [] = Begins Number false
numbered mu negative b (Numbered n ∷ fed) = with_number mu negative b n fed
numbered mu negative b (y ∷ fed) = impossible

-- another internal value is the width's
abbrev pub internal_or_width : (mu negative : Bool) → Option Internal → List Fed → GlueAsk
internal_or_width mu negative (Some (internal.At l)) fed = if is_glue l then fetched mu negative l fed else width mu negative fed
internal_or_width mu negative (Some (internal.Numbered b)) fed = if is_glue (location_in b 0) then numbered mu negative b fed else width mu negative fed
internal_or_width mu negative o fed = width mu negative fed

-- with the sign so far
abbrev pub glue : (mu negative : Bool) → List Fed → GlueAsk
glue mu negative [] = More Nonblank
glue mu negative (Tok x ∷ fed) =
    if is_minus x then glue mu (not negative) fed
    else if is_plus x then glue mu negative fed
    else internal_or_width mu negative (internal_of x.meaning) fed
glue mu negative (y ∷ fed) = impossible
