-- What stands at all locations: a list for each kind, of its own type, so that a reader takes a list as it stands.
use Rattle.std.specs.Prelude.{ℕ, ◌++◌, ℤ, pos, List, [], ◌∷◌, Option, None, slice_set, slice_index_or}
use Rattle.tex_defs.specs.declared.Meaning.{Meaning}
use Rattle.tex_defs.specs.declared.Meaning.TheVariants as means
use Rattle.tex_defs.specs.declared.RegisterKind.TheVariants as register
use Rattle.equivalents.specs.declared.values.CodeKind.TheVariants as code
use Rattle.equivalents.specs.declared.values.Glue.{Glue}
use Rattle.equivalents.specs.declared.values.Loc.{Loc}
use Rattle.equivalents.specs.declared.values.Loc.TheVariants as loc
use Rattle.equivalents.specs.declared.values.Val.TheVariants as val
use Rattle.equivalents.specs.Locations.{V, zero_glue, category_of, number_value, glue_of, tokens_of, meaning_of}

-- A macro and a token list have the numbers of their lists; what names mean stands by the names' locations.
pub record Tables : Type 0 where
  -- the codes of the characters 0 to 255
  pub categories : List ℕ
  pub lowercase : List ℤ
  pub uppercase : List ℤ
  pub space_factors : List ℤ
  pub math_codes : List ℤ
  pub delimiters : List ℤ
  -- the parameters
  pub integers : List ℤ
  pub dimensions : List ℤ
  pub glues : List Glue
  -- the registers 0 to 255
  pub counts : List ℤ
  pub dimens : List ℤ
  pub skips : List Glue
  pub muskips : List Glue
  pub toks : List (Option ℕ)
  -- the token parameters
  pub parameters : List (Option ℕ)
  pub meanings : List (Meaning (Option ℕ))

-- one location gets this value
abbrev pub put : Tables → Loc → V → Tables
put m (loc.Code code.Category c) v = record m { categories = slice_set m.categories c (category_of v) }
put m (loc.Code code.Lowercase c) v = record m { lowercase = slice_set m.lowercase c (number_value v) }
put m (loc.Code code.Uppercase c) v = record m { uppercase = slice_set m.uppercase c (number_value v) }
put m (loc.Code code.SpaceFactor c) v = record m { space_factors = slice_set m.space_factors c (number_value v) }
put m (loc.Code code.Math c) v = record m { math_codes = slice_set m.math_codes c (number_value v) }
put m (loc.Code code.Delimiter c) v = record m { delimiters = slice_set m.delimiters c (number_value v) }
put m (loc.Integer i) v = record m { integers = slice_set m.integers i (number_value v) }
put m (loc.Dimension i) v = record m { dimensions = slice_set m.dimensions i (number_value v) }
put m (loc.Glue i) v = record m { glues = slice_set m.glues i (glue_of v) }
put m (loc.Register register.Count n) v = record m { counts = slice_set m.counts n (number_value v) }
put m (loc.Register register.Dimen n) v = record m { dimens = slice_set m.dimens n (number_value v) }
put m (loc.Register register.Skip n) v = record m { skips = slice_set m.skips n (glue_of v) }
put m (loc.Register register.Muskip n) v = record m { muskips = slice_set m.muskips n (glue_of v) }
put m (loc.Register register.Toks n) v = record m { toks = slice_set m.toks n (tokens_of v) }
put m (loc.Tokens i) v = record m { parameters = slice_set m.parameters i (tokens_of v) }
put m (loc.Means n) v = record m { meanings = slice_set m.meanings n (meaning_of v) }

-- what stands at a location
abbrev pub get : Tables → Loc → V
get m (loc.Code code.Category c) = val.Number (pos (slice_index_or m.categories c 0))
get m (loc.Code code.Lowercase c) = val.Number (slice_index_or m.lowercase c (pos 0))
get m (loc.Code code.Uppercase c) = val.Number (slice_index_or m.uppercase c (pos 0))
get m (loc.Code code.SpaceFactor c) = val.Number (slice_index_or m.space_factors c (pos 0))
get m (loc.Code code.Math c) = val.Number (slice_index_or m.math_codes c (pos 0))
get m (loc.Code code.Delimiter c) = val.Number (slice_index_or m.delimiters c (pos 0))
get m (loc.Integer i) = val.Number (slice_index_or m.integers i (pos 0))
get m (loc.Dimension i) = val.Number (slice_index_or m.dimensions i (pos 0))
get m (loc.Glue i) = val.Skip (slice_index_or m.glues i zero_glue)
get m (loc.Register register.Count n) = val.Number (slice_index_or m.counts n (pos 0))
get m (loc.Register register.Dimen n) = val.Number (slice_index_or m.dimens n (pos 0))
get m (loc.Register register.Skip n) = val.Skip (slice_index_or m.skips n zero_glue)
get m (loc.Register register.Muskip n) = val.Skip (slice_index_or m.muskips n zero_glue)
get m (loc.Register register.Toks n) = val.Tokens (slice_index_or m.toks n None)
get m (loc.Tokens i) = val.Tokens (slice_index_or m.parameters i None)
get m (loc.Means n) = val.Meant (slice_index_or m.meanings n means.Undefined)

-- one name more, which is undefined
abbrev pub longer : Tables → Tables
longer m = record m { meanings = m.meanings ++ means.Undefined ∷ [] }
