-- A value's kind, by its location and by the location's number.
use Rattle.std.proofs.Common.{◌≡◌, ℕ, refl, arith}
use Rattle.std.specs.Prelude.{nat_lt, if◌then◌else◌}
use Rattle.tex_defs.specs.declared.RegisterKind.TheVariants as register
use Rattle.equivalents.specs.declared.values.CodeKind.TheVariants as code
use Rattle.equivalents.specs.declared.values.Loc.{Loc}
use Rattle.equivalents.specs.declared.values.Loc.TheVariants as loc
use Rattle.equivalents.specs.Locations.{V, IsInRow, index, Suits, IsCategoryCode, IsNumber, IsGlue, IsTokens, IsMeaning}

pub data Sort : Type 0 where
  category : Sort
  number : Sort
  glue : Sort
  tokens : Sort
  meaning : Sort

abbrev pub IsOf : Sort → V → Type 0
IsOf category v = IsCategoryCode v
IsOf number v = IsNumber v
IsOf glue v = IsGlue v
IsOf tokens v = IsTokens v
IsOf meaning v = IsMeaning v

abbrev pub sort_of : Loc → Sort
sort_of (loc.Code code.Category c) = category
sort_of (loc.Code kind c) = number
sort_of (loc.Integer i) = number
sort_of (loc.Dimension i) = number
sort_of (loc.Glue i) = glue
sort_of (loc.Register register.Count n) = number
sort_of (loc.Register register.Dimen n) = number
sort_of (loc.Register register.Skip n) = glue
sort_of (loc.Register register.Muskip n) = glue
sort_of (loc.Register register.Toks n) = tokens
sort_of (loc.Tokens i) = tokens
sort_of (loc.Means n) = meaning

abbrev pub sort_at : ℕ → Sort
sort_at k =
    if nat_lt k 256 then category
    else if nat_lt k 1612 then number
    else if nat_lt k 1630 then glue
    else if nat_lt k 2142 then number
    else if nat_lt k 2654 then glue
    else if nat_lt k 2918 then tokens
    else meaning

pub same_sort : (l : Loc) → IsInRow l → sort_of l ≡ sort_at (index l)
same_sort (loc.Code code.Category c) within = grind arith
same_sort (loc.Code code.Lowercase c) within = grind arith
same_sort (loc.Code code.Uppercase c) within = grind arith
same_sort (loc.Code code.SpaceFactor c) within = grind arith
same_sort (loc.Code code.Math c) within = grind arith
same_sort (loc.Code code.Delimiter c) within = grind arith
same_sort (loc.Integer i) within = grind arith
same_sort (loc.Dimension i) within = grind arith
same_sort (loc.Glue i) within = grind arith
same_sort (loc.Register register.Count n) within = grind arith
same_sort (loc.Register register.Dimen n) within = grind arith
same_sort (loc.Register register.Skip n) within = grind arith
same_sort (loc.Register register.Muskip n) within = grind arith
same_sort (loc.Register register.Toks n) within = grind arith
same_sort (loc.Tokens i) within = grind arith
same_sort (loc.Means n) within = grind arith

pub suits_sort : (l : Loc) (v : V) → Suits l v ≡ IsOf (sort_of l) v
suits_sort (loc.Code code.Category c) v = refl
suits_sort (loc.Code code.Lowercase c) v = refl
suits_sort (loc.Code code.Uppercase c) v = refl
suits_sort (loc.Code code.SpaceFactor c) v = refl
suits_sort (loc.Code code.Math c) v = refl
suits_sort (loc.Code code.Delimiter c) v = refl
suits_sort (loc.Integer i) v = refl
suits_sort (loc.Dimension i) v = refl
suits_sort (loc.Glue i) v = refl
suits_sort (loc.Register register.Count n) v = refl
suits_sort (loc.Register register.Dimen n) v = refl
suits_sort (loc.Register register.Skip n) v = refl
suits_sort (loc.Register register.Muskip n) v = refl
suits_sort (loc.Register register.Toks n) v = refl
suits_sort (loc.Tokens i) v = refl
suits_sort (loc.Means n) v = refl
