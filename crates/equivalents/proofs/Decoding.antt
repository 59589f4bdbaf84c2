-- One list of all values and the lists of the kinds go together.
use Rattle.std.proofs.Common.{◌≡◌, ◌≤◌, List, [], ◌∷◌, ◌++◌, set, arith, length}
use Rattle.tex_defs.specs.declared.Meaning.TheVariants as means
use Rattle.tex_defs.specs.declared.RegisterKind.TheVariants as register
use Rattle.equivalents.specs.declared.values.CodeKind.TheVariants as code
use Rattle.equivalents.specs.declared.values.Loc.{Loc}
use Rattle.equivalents.specs.declared.values.Loc.TheVariants as loc
use Rattle.equivalents.specs.declared.values.Val.TheVariants as val
use Rattle.equivalents.specs.Locations.{V, IsInRow, index}
use Rattle.equivalents.specs.Tables.{Tables, put, longer}
use Rattle.equivalents.specs.Flat.{tables_of}
use Rattle.equivalents.proofs.Rows.{here, last, before, before_last, behind, row_push, last_push}

-- tables whose lists are the same
record AreSame (m n : Tables) : Type 0 where
  categories : m.categories ≡ n.categories
  lowercase : m.lowercase ≡ n.lowercase
  uppercase : m.uppercase ≡ n.uppercase
  space_factors : m.space_factors ≡ n.space_factors
  math_codes : m.math_codes ≡ n.math_codes
  delimiters : m.delimiters ≡ n.delimiters
  integers : m.integers ≡ n.integers
  dimensions : m.dimensions ≡ n.dimensions
  glues : m.glues ≡ n.glues
  counts : m.counts ≡ n.counts
  dimens : m.dimens ≡ n.dimens
  skips : m.skips ≡ n.skips
  muskips : m.muskips ≡ n.muskips
  toks : m.toks ≡ n.toks
  parameters : m.parameters ≡ n.parameters
  meanings : m.meanings ≡ n.meanings

same_tables : {m n : Tables} → AreSame m n → m ≡ n
same_tables s = λ i. record {
  categories = s.categories i;
  lowercase = s.lowercase i;
  uppercase = s.uppercase i;
  space_factors = s.space_factors i;
  math_codes = s.math_codes i;
  delimiters = s.delimiters i;
  integers = s.integers i;
  dimensions = s.dimensions i;
  glues = s.glues i;
  counts = s.counts i;
  dimens = s.dimens i;
  skips = s.skips i;
  muskips = s.muskips i;
  toks = s.toks i;
  parameters = s.parameters i;
  meanings = s.meanings i;
}

-- the location is in one row, and in no other
lists_set : (cells : List V) (l : Loc) (v : V) → IsInRow l → AreSame (tables_of (set cells (index l) v)) (put (tables_of cells) l v)
lists_set cells (loc.Code code.Category c) v within = search (here, before 0 256 c within, before_last 0 256 c within)
lists_set cells (loc.Code code.Lowercase c) v within = search (behind, here, before 256 256 c within, before_last 256 256 c within)
lists_set cells (loc.Code code.Uppercase c) v within = search (behind, here, before 512 256 c within, before_last 512 256 c within)
lists_set cells (loc.Code code.SpaceFactor c) v within = search (behind, here, before 768 256 c within, before_last 768 256 c within)
lists_set cells (loc.Code code.Math c) v within = search (behind, here, before 1024 256 c within, before_last 1024 256 c within)
lists_set cells (loc.Code code.Delimiter c) v within = search (behind, here, before 1280 256 c within, before_last 1280 256 c within)
lists_set cells (loc.Integer i) v within = search (behind, here, before 1536 55 i within, before_last 1536 55 i within)
lists_set cells (loc.Dimension i) v within = search (behind, here, before 1591 21 i within, before_last 1591 21 i within)
lists_set cells (loc.Glue i) v within = search (behind, here, before 1612 18 i within, before_last 1612 18 i within)
lists_set cells (loc.Register register.Count n) v within = search (behind, here, before 1630 256 n within, before_last 1630 256 n within)
lists_set cells (loc.Register register.Dimen n) v within = search (behind, here, before 1886 256 n within, before_last 1886 256 n within)
lists_set cells (loc.Register register.Skip n) v within = search (behind, here, before 2142 256 n within, before_last 2142 256 n within)
lists_set cells (loc.Register register.Muskip n) v within = search (behind, here, before 2398 256 n within, before_last 2398 256 n within)
lists_set cells (loc.Register register.Toks n) v within = search (behind, here, before 2654 256 n within, before_last 2654 256 n within)
lists_set cells (loc.Tokens i) v within = search (behind, here, before_last 2910 8 i within)
lists_set cells (loc.Means n) v within = search (behind, last)

pub decodes : (cells : List V) (l : Loc) (v : V) → IsInRow l → tables_of (set cells (index l) v) ≡ put (tables_of cells) l v
decodes cells l v within = same_tables (lists_set cells l v within)

lists_pushed : (cells : List V) → 2918 ≤ length cells → AreSame (tables_of (cells ++ val.Meant means.Undefined ∷ [])) (longer (tables_of cells))
lists_pushed cells long = search (arith, row_push, last_push)

pub lengthens : (cells : List V) → 2918 ≤ length cells → tables_of (cells ++ val.Meant means.Undefined ∷ []) ≡ longer (tables_of cells)
lengthens cells long = same_tables (lists_pushed cells long)
