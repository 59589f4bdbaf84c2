-- What a token stands for where a number is read (The TeXbook, chapter 24; TeX: The Program, sections 208, 209 and 413 to 427).
use Rattle.std.specs.Prelude.{◌≡◌, ℕ, zero, ◌-◌, ◌==◌, min, ℤ, pos, negsuc, ◌-ℤ◌, Bool, true, false, nat_le, nat_lt, if◌then◌else◌, Option, Some, None, List, [], ◌++◌, codes}
use Rattle.tex_defs.specs.declared.Meaning.{Meaning}
use Rattle.tex_defs.specs.declared.Meaning.TheVariants as means
use Rattle.tex_defs.specs.declared.RegisterKind.TheVariants as register
use Rattle.tex_syntax.specs.declared.words.Report.{Report}
use Rattle.tex_syntax.specs.declared.words.Report.TheVariants as report
use Rattle.prim_table.specs.declared.Class.TheVariants as class
use Rattle.prim_table.specs.Primitives.{first_number, last_number, row_size}
use Rattle.plain_tokens.specs.Categories.{is_between}
use Rattle.plain_tokens.specs.Numerals.{whole_number, scaled}
use Rattle.equivalents.specs.declared.values.CodeKind.TheVariants as code
use Rattle.equivalents.specs.declared.values.Glue.{Glue}
use Rattle.equivalents.specs.declared.values.Loc.{Loc}
use Rattle.equivalents.specs.declared.values.Loc.TheVariants as loc
use Rattle.equivalents.specs.declared.values.Val.TheVariants as val
use Rattle.equivalents.specs.Locations.{SeenValue}
use Rattle.rows.specs.declared.internal.Bank.{Bank}
use Rattle.rows.specs.declared.internal.Bank.TheVariants as bank
use Rattle.rows.specs.declared.internal.Internal.{Internal}
use Rattle.rows.specs.declared.internal.Internal.TheVariants as internal

-- a number from 0 to 255; another counts as 0
abbrev pub byte_of : ℤ → ℕ
byte_of (pos n) = if nat_le n 255 then n else 0
byte_of (negsuc n) = 0

-- the locations of a bank, by their numbers
abbrev pub location_in : Bank → ℕ → Loc
location_in (bank.Codes kind) n = loc.Code kind n
location_in (bank.Registers kind) n = loc.Register kind n

-- another number than one from 0 to 255
abbrev pub bad_number : Bank → ℤ → Report
bad_number (bank.Codes kind) n = report.BadCharacterCode n
bad_number (bank.Registers kind) n = report.BadRegisterCode n

-- the first and the last of the parameters that are integers, and the first and the last of those that are dimensions and glue
abbrev pub first_integer : ℕ
first_integer = first_number class.IntegerParameter

abbrev pub last_integer : ℕ
last_integer = last_number class.IntegerParameter

abbrev pub first_dimension : ℕ
first_dimension = first_number class.DimensionParameter

abbrev pub last_dimension : ℕ
last_dimension = last_number class.DimensionParameter

abbrev pub first_glue : ℕ
first_glue = first_number class.GlueParameter

abbrev pub last_glue : ℕ
last_glue = last_number class.GlueParameter

abbrev pub internal_parameter : ℕ → Option Internal
internal_parameter n =
    if is_between first_integer last_integer n then Some (internal.At (loc.Integer (n - first_integer)))
    else if is_between first_dimension last_dimension n then Some (internal.At (loc.Dimension (n - first_dimension)))
    else if is_between first_glue last_glue n then Some (internal.At (loc.Glue (n - first_glue)))
    else None

-- `\catcode`, `\lccode`, `\uccode`, `\sfcode`, `\mathcode` and `\delcode`; `\count`, `\dimen`, `\skip` and `\muskip`; the parameters
abbrev pub internal_primitive : ℕ → Option Internal
internal_primitive n =
    if n == 35 then Some (internal.Numbered (bank.Codes code.Category))
    else if n == 36 then Some (internal.Numbered (bank.Codes code.Lowercase))
    else if n == 37 then Some (internal.Numbered (bank.Codes code.Uppercase))
    else if n == 38 then Some (internal.Numbered (bank.Codes code.SpaceFactor))
    else if n == 39 then Some (internal.Numbered (bank.Codes code.Math))
    else if n == 40 then Some (internal.Numbered (bank.Codes code.Delimiter))
    else if n == 41 then Some (internal.Numbered (bank.Registers register.Count))
    else if n == 42 then Some (internal.Numbered (bank.Registers register.Dimen))
    else if n == 43 then Some (internal.Numbered (bank.Registers register.Skip))
    else if n == 44 then Some (internal.Numbered (bank.Registers register.Muskip))
    else internal_parameter n

-- Names of `\chardef` and `\mathchardef` stand for numbers, those of `\countdef` and its like for registers; a list of tokens is no number.
abbrev pub internal_of : Meaning Unit → Option Internal
internal_of (means.CharGiven c) = Some (internal.Given c)
internal_of (means.MathGiven c) = Some (internal.Given c)
internal_of (means.Register register.Toks n) = None
internal_of (means.Register kind n) = Some (internal.At (loc.Register kind n))
internal_of (means.Prim n) = internal_primitive n
internal_of m = None

-- LISTS OF TOKENS: the registers of `\toks` and the last eight parameters

abbrev pub first_list : ℕ
first_list = first_number class.TokenParameter

abbrev pub last_list : ℕ
last_list = last_number class.TokenParameter

abbrev pub list_parameter : ℕ → Option Internal
list_parameter n = if is_between first_list last_list n then Some (internal.At (loc.Tokens (n - first_list))) else None

abbrev pub list_primitive : ℕ → Option Internal
list_primitive n = if n == 45 then Some (internal.Numbered (bank.Registers register.Toks)) else list_parameter n

abbrev pub list_of : Meaning Unit → Option Internal
list_of (means.Register register.Toks n) = Some (internal.At (loc.Register register.Toks n))
list_of (means.Prim n) = list_primitive n
list_of m = None

-- the first of the two that is there
abbrev pub or_else : Option Internal → Option Internal → Option Internal
or_else None found = found
or_else (Some i) found = Some i

-- what stands behind `\the`
abbrev pub value_of : Meaning Unit → Option Internal
value_of m = or_else (internal_of m) (list_of m)

abbrev pub is_list : Loc → Bool
is_list (loc.Register register.Toks n) = true
is_list (loc.Tokens i) = true
is_list l = false

-- What arithmetic changes: the registers and parameters that are integers, dimensions or glue.
abbrev pub variable_primitive : ℕ → Option Internal
variable_primitive n = if is_between 41 44 n then internal_primitive n else internal_parameter n

abbrev pub variable_of : Meaning Unit → Option Internal
variable_of (means.Register kind n) = internal_of (means.Register kind n)
variable_of (means.Prim n) = variable_primitive n
variable_of m = None

-- AS INTEGERS: a dimension counts in sp, glue by its width. The least 32-bit integer, which no assignment gives, counts as the next one.

abbrev pub in_bounds : ℤ → ℤ
in_bounds (pos n) = pos n
in_bounds (negsuc n) = negsuc (min n 2147483646)

abbrev pub integer_of : SeenValue → ℤ
integer_of (val.Number n) = in_bounds n
integer_of (val.Skip g) = in_bounds g.width
integer_of v = pos 0

-- behind signs
abbrev pub with_sign : (negative : Bool) → ℤ → ℤ
with_sign negative n = if negative then (pos 0 -ℤ n) else n

-- a location that is there, and no name's
abbrev pub is_fetchable : Loc → Bool
is_fetchable (loc.Code kind c) = nat_lt c 256
is_fetchable (loc.Integer i) = nat_lt i (row_size class.IntegerParameter)
is_fetchable (loc.Dimension i) = nat_lt i (row_size class.DimensionParameter)
is_fetchable (loc.Glue i) = nat_lt i (row_size class.GlueParameter)
is_fetchable (loc.Register kind n) = nat_lt n 256
is_fetchable (loc.Tokens i) = nat_lt i (row_size class.TokenParameter)
is_fetchable (loc.Means n) = false

abbrev pub IsFetchable : Loc → Type 0
IsFetchable l = is_fetchable l ≡ true

abbrev pub IsFound : Option Internal → Type 0
IsFound (Some (internal.At l)) = IsFetchable l
IsFound o = Unit {0}

-- glue in mu: the registers of `\muskip`, and the last three parameters
abbrev pub is_mu : Loc → Bool
is_mu (loc.Register register.Muskip n) = true
is_mu (loc.Glue i) = nat_le 15 i
is_mu l = false

-- the glue parameters, and the registers of `\skip` and `\muskip`
abbrev pub is_glue : Loc → Bool
is_glue (loc.Glue i) = true
is_glue (loc.Register register.Skip n) = true
is_glue (loc.Register register.Muskip n) = true
is_glue l = false

-- AS TEXTS: an integer in decimal; a dimension in points; glue by its width and by its stretch and shrink, where these aren't 0

abbrev pub is_dimension : Loc → Bool
is_dimension (loc.Register register.Dimen n) = true
is_dimension (loc.Dimension i) = true
is_dimension l = false

abbrev pub finite_unit : (mu : Bool) → List ℕ
finite_unit mu = if mu then codes "mu" else codes "pt"

-- the unit of stretch and shrink, by the order of infinity
abbrev pub unit_of : (mu : Bool) → (order : ℕ) → List ℕ
unit_of mu order =
    if order == 0 then finite_unit mu else if order == 1 then codes "fil" else if order == 2 then codes "fill" else codes "filll"

abbrev pub glue_part : (word : List ℕ) → (mu : Bool) → ℤ → (order : ℕ) → List ℕ
glue_part word mu (pos zero) order = []
glue_part word mu n order = word ++ (scaled n ++ unit_of mu order)

abbrev pub glue_text : (mu : Bool) → Glue → List ℕ
glue_text mu g =
    scaled g.width ++ (finite_unit mu ++ (glue_part (codes " plus ") mu g.stretch g.stretch_order ++ glue_part (codes " minus ") mu g.shrink g.shrink_order))

abbrev pub number_text : (dimension : Bool) → ℤ → List ℕ
number_text dimension n = if dimension then scaled n ++ codes "pt" else whole_number n

abbrev pub value_text : Loc → SeenValue → List ℕ
value_text l (val.Number n) = number_text (is_dimension l) n
value_text l (val.Skip g) = glue_text (is_mu l) g
value_text l v = []
