-- The numbers of locations (TeX: The Program, part 17), and what values are.
use Rattle.std.specs.Prelude.{ℕ, ◌+◌, ◌<◌, ℤ, pos, negsuc, Option, None, nat_lt, if◌then◌else◌}
use Rattle.tex_defs.specs.declared.Meaning.{Meaning}
use Rattle.tex_defs.specs.declared.Meaning.TheVariants as means
use Rattle.tex_defs.specs.declared.RegisterKind.{RegisterKind}
use Rattle.tex_defs.specs.declared.RegisterKind.TheVariants as register
use Rattle.plain_tokens.specs.Meanings.{seen_as}
use Rattle.equivalents.specs.declared.values.CodeKind.{CodeKind}
use Rattle.equivalents.specs.declared.values.CodeKind.TheVariants as code
use Rattle.equivalents.specs.declared.values.Glue.{Glue}
use Rattle.equivalents.specs.declared.values.Loc.{Loc}
use Rattle.equivalents.specs.declared.values.Loc.TheVariants as loc
use Rattle.equivalents.specs.declared.values.Val.{Val}
use Rattle.equivalents.specs.declared.values.Val.TheVariants as val

-- a value, with the number of its list
abbrev pub V : Type 0
V = Val (Option ℕ)

abbrev pub first_code : CodeKind → ℕ
first_code code.Category = 0
first_code code.Lowercase = 256
first_code code.Uppercase = 512
first_code code.SpaceFactor = 768
first_code code.Math = 1024
first_code code.Delimiter = 1280

abbrev pub first_register : RegisterKind → ℕ
first_register register.Count = 1630
first_register register.Dimen = 1886
first_register register.Skip = 2142
first_register register.Muskip = 2398
first_register register.Toks = 2654

-- how many locations stand before those of the names
abbrev pub locations_without_names : ℕ
locations_without_names = 2918

-- Six tables of codes of 256 characters, 55 integers, 21 dimensions, 18 glue parameters, five kinds of 256 registers, 8 token parameters; then
-- what the names mean, of which there may be more and more.
abbrev pub index : Loc → ℕ
index (loc.Code kind c) = first_code kind + c
index (loc.Integer i) = 1536 + i
index (loc.Dimension i) = 1591 + i
index (loc.Glue i) = 1612 + i
index (loc.Register kind n) = first_register kind + n
index (loc.Tokens i) = 2910 + i
index (loc.Means n) = locations_without_names + n

-- the location is one of its kind's
abbrev pub IsInRow : Loc → Type 0
IsInRow (loc.Code kind c) = c < 256
IsInRow (loc.Integer i) = i < 55
IsInRow (loc.Dimension i) = i < 21
IsInRow (loc.Glue i) = i < 18
IsInRow (loc.Register kind n) = n < 256
IsInRow (loc.Tokens i) = i < 8
IsInRow (loc.Means n) = Unit {0}

-- VALUES

abbrev pub zero_glue : Glue
zero_glue = record { width = pos 0; stretch = pos 0; stretch_order = 0; shrink = pos 0; shrink_order = 0 }

-- what is read where there is no location
abbrev pub zero_value : V
zero_value = val.Number (pos 0)

-- what a value is as a category code, as a number, as glue, as a token list and as a meaning
abbrev pub small : ℤ → ℕ
small (pos n) = if nat_lt n 16 then n else 0
small (negsuc n) = 0

abbrev pub category_of : V → ℕ
category_of (val.Number n) = small n
category_of v = 0

abbrev pub number_value : V → ℤ
number_value (val.Number n) = n
number_value v = pos 0

abbrev pub glue_of : V → Glue
glue_of (val.Skip g) = g
glue_of v = zero_glue

abbrev pub tokens_of : V → Option ℕ
tokens_of (val.Tokens list) = list
tokens_of v = None

abbrev pub meaning_of : V → Meaning (Option ℕ)
meaning_of (val.Meant m) = m
meaning_of v = means.Undefined

-- a value as readings see it: without its list
abbrev pub SeenValue : Type 0
SeenValue = Val Unit

abbrev pub value_seen : V → SeenValue
value_seen (val.Number n) = val.Number n
value_seen (val.Skip g) = val.Skip g
value_seen (val.Meant m) = val.Meant (seen_as m)
value_seen (val.Tokens list) = val.Tokens tt

-- the value is of the kind that its location has
abbrev pub IsCategory : ℤ → Type 0
IsCategory (pos n) = n < 16
IsCategory (negsuc n) = ⊥

abbrev pub IsNumber : V → Type 0
IsNumber (val.Number n) = Unit {0}
IsNumber v = ⊥

abbrev pub IsCategoryCode : V → Type 0
IsCategoryCode (val.Number n) = IsCategory n
IsCategoryCode v = ⊥

abbrev pub IsGlue : V → Type 0
IsGlue (val.Skip g) = Unit {0}
IsGlue v = ⊥

abbrev pub IsTokens : V → Type 0
IsTokens (val.Tokens list) = Unit {0}
IsTokens v = ⊥

abbrev pub IsMeaning : V → Type 0
IsMeaning (val.Meant m) = Unit {0}
IsMeaning v = ⊥

abbrev pub Suits : Loc → V → Type 0
Suits (loc.Code code.Category c) v = IsCategoryCode v
Suits (loc.Code kind c) v = IsNumber v
Suits (loc.Integer i) v = IsNumber v
Suits (loc.Dimension i) v = IsNumber v
Suits (loc.Glue i) v = IsGlue v
Suits (loc.Register register.Count n) v = IsNumber v
Suits (loc.Register register.Dimen n) v = IsNumber v
Suits (loc.Register register.Skip n) v = IsGlue v
Suits (loc.Register register.Muskip n) v = IsGlue v
Suits (loc.Register register.Toks n) v = IsTokens v
Suits (loc.Tokens i) v = IsTokens v
Suits (loc.Means n) v = IsMeaning v
