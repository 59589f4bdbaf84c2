-- Arithmetic: `\advance`, `\multiply` and `\divide` (The TeXbook, chapter 24; TeX: The Program, parts 7 and 49).
use Rattle.std.specs.Prelude.{ℕ, zero, ℤ, pos, ◌+ℤ◌, ◌*ℤ◌, ◌==◌, unsigned_abs, nat_abs, int_div, nat_le, nat_lt, Bool, true, Option, Some, None, if◌then◌else◌}
use Rattle.equivalents.specs.declared.values.Glue.{Glue}
use Rattle.equivalents.specs.declared.values.Loc.{Loc}
use Rattle.equivalents.specs.declared.values.Val.TheVariants as val
use Rattle.equivalents.specs.Locations.{SeenValue, zero_glue}
use Rattle.rows.specs.Internal.{is_glue, is_dimension, integer_of}
use Rattle.rows.specs.declared.words.Datum.{Datum}
use Rattle.rows.specs.declared.words.Datum.TheVariants as datum
use Rattle.rows.specs.declared.arithmetic.Operation.{Operation}
use Rattle.rows.specs.declared.arithmetic.Operation.TheVariants.{Advance, Multiply, Divide}

-- WHAT WAS READ, as a number and as glue: a dimension counts in sp

abbrev pub number_in : Datum → ℤ
number_in (datum.Number n) = n
number_in (datum.Dimension n order) = n
number_in d = pos 0

abbrev pub glue_in : Datum → Glue
glue_in (datum.Glue g) = g
glue_in d = zero_glue

-- INTEGERS AND DIMENSIONS

-- a result is from -2147483647 to 2147483647
abbrev pub within_bounds : ℤ → Option ℤ
within_bounds n = if nat_le (unsigned_abs n) 2147483647 then Some n else None

-- a quotient is cut towards zero; there is none by 0
abbrev pub computed : Operation → (value number : ℤ) → Option ℤ
computed Advance x y = within_bounds (x +ℤ y)
computed Multiply x y = within_bounds (x *ℤ y)
computed Divide x y = if unsigned_abs y == 0 then None else within_bounds (int_div x y)

-- the least that is no dimension, in sp
abbrev pub too_large : ℕ
too_large = 1073741824

-- a value in sp, where it isn't too large
abbrev pub measured : ℤ → Option ℤ
measured n = if nat_le too_large (nat_abs n) then None else Some n

-- a product of a dimension is one; its sums and quotients have the bounds of integers
abbrev pub number_computed : Operation → (dimension : Bool) → (value number : ℤ) → Option ℤ
number_computed Multiply true x y = measured (x *ℤ y)
number_computed operation dimension x y = computed operation x y

-- GLUE

-- glue of these parts, where each of them is there
abbrev pub glue_of : (width stretch : Option ℤ) → (stretch_order : ℕ) → (shrink : Option ℤ) → (shrink_order : ℕ) → Option Glue
glue_of (Some w) (Some s) o (Some t) p = Some (record { width = w; stretch = s; stretch_order = o; shrink = t; shrink_order = p })
glue_of w s o t p = None

-- Sums, where each sum is at most 2^31 - 1 in absolute value, as one of integers

-- the order of infinity of a part, which is 0 where the part is 0
abbrev pub order_of : ℤ → (order : ℕ) → ℕ
order_of (pos zero) order = 0
order_of n order = order

-- two parts of these orders: of equal ones they add up, else that of the higher order is the sum
abbrev pub added : (n m : ℤ) → (order other : ℕ) → Option ℤ
added n m order other = if order == other then computed Advance n m else if nat_lt order other then Some m else Some n

abbrev pub higher : (order other : ℕ) → ℕ
higher order other = if nat_lt order other then other else order

abbrev pub sum : Glue → Glue → Option Glue
sum g h =
    glue_of (computed Advance g.width h.width)
    (added g.stretch h.stretch (order_of g.stretch g.stretch_order) (order_of h.stretch h.stretch_order))
    (higher (order_of g.stretch g.stretch_order) (order_of h.stretch h.stretch_order))
    (added g.shrink h.shrink (order_of g.shrink g.shrink_order) (order_of h.shrink h.shrink_order))
    (higher (order_of g.shrink g.shrink_order) (order_of h.shrink h.shrink_order))

-- Products and quotients of each part, whose order stays

-- each product is below 2^30 in absolute value, as a dimension
abbrev pub product : Glue → ℤ → Option Glue
product g n = glue_of (measured (g.width *ℤ n)) (measured (g.stretch *ℤ n)) g.stretch_order (measured (g.shrink *ℤ n)) g.shrink_order

-- a quotient is cut towards zero, and at most 2^31 - 1 in absolute value; there is none by 0
abbrev pub quotient : Glue → ℤ → Option Glue
quotient g n = glue_of (computed Divide g.width n) (computed Divide g.stretch n) g.stretch_order (computed Divide g.shrink n) g.shrink_order

abbrev pub glue_computed : Operation → Glue → Datum → Option Glue
glue_computed Advance g d = sum g (glue_in d)
glue_computed Multiply g d = product g (number_in d)
glue_computed Divide g d = quotient g (number_in d)

-- WHAT STANDS AT A LOCATION, changed by what was read; `None` where a result is out of bounds

abbrev pub glue_at : SeenValue → Glue
glue_at (val.Skip g) = g
glue_at v = zero_glue

abbrev pub as_number : Option ℤ → Option SeenValue
as_number None = None
as_number (Some n) = Some (val.Number n)

abbrev pub as_glue : Option Glue → Option SeenValue
as_glue None = None
as_glue (Some g) = Some (val.Skip g)

abbrev pub value_computed : Operation → Loc → SeenValue → Datum → Option SeenValue
value_computed operation l v d =
    if is_glue l then as_glue (glue_computed operation (glue_at v) d)
    else as_number (number_computed operation (is_dimension l) (integer_of v) (number_in d))
