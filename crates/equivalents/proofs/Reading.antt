-- What stands at a location of the one list is what the tables have there.
use Rattle.std.proofs.Common.{◌≡◌, ℕ, ◌+◌, ◌<◌, List, length, set, get_or, refl, sym, ap, subst, ◌∙◌, arith}
use Rattle.std.specs.Prelude.{map, None, pos, negsuc}
use Rattle.std.proofs.lemmas.List.{get_or-set_same, length-set, get_or_default}
use Rattle.tex_defs.specs.declared.Meaning.TheVariants as means
use Rattle.tex_defs.specs.declared.RegisterKind.TheVariants as register
use Rattle.equivalents.specs.declared.values.CodeKind.TheVariants as code
use Rattle.equivalents.specs.declared.values.Loc.{Loc}
use Rattle.equivalents.specs.declared.values.Loc.TheVariants as loc
use Rattle.equivalents.specs.declared.values.Val.TheVariants as val
use Rattle.equivalents.specs.Locations.{V, IsInRow, index, Suits, category_of, number_value, glue_of, tokens_of, meaning_of, zero_value, zero_glue}
use Rattle.equivalents.specs.Tables.{get}
use Rattle.equivalents.specs.Flat.{row, tables_of, AreSuited}
use Rattle.equivalents.proofs.Rows.{row_at, last_at}
use Rattle.equivalents.proofs.Sorts.{Sort, category, number, glue, tokens, meaning, sort_of, IsOf, suits_sort}

-- a value as its kind
abbrev seen : Sort → V → V
seen category v = val.Number (pos (category_of v))
seen number v = val.Number (number_value v)
seen glue v = val.Skip (glue_of v)
seen tokens v = val.Tokens (tokens_of v)
seen meaning v = val.Meant (meaning_of v)

kept : (s : Sort) (v : V) → IsOf s v → seen s v ≡ v
kept category (val.Number (pos n)) is = ap (λ (k : ℕ). val.Number (pos k)) (grind arith)
kept category (val.Number (negsuc n)) is = absurd is
kept category (val.Skip g) is = absurd is
kept category (val.Meant m) is = absurd is
kept category (val.Tokens t) is = absurd is
kept number (val.Number n) is = refl
kept number (val.Skip g) is = absurd is
kept number (val.Meant m) is = absurd is
kept number (val.Tokens t) is = absurd is
kept glue (val.Number n) is = absurd is
kept glue (val.Skip g) is = refl
kept glue (val.Meant m) is = absurd is
kept glue (val.Tokens t) is = absurd is
kept tokens (val.Number n) is = absurd is
kept tokens (val.Skip g) is = absurd is
kept tokens (val.Meant m) is = absurd is
kept tokens (val.Tokens t) is = refl
kept meaning (val.Number n) is = absurd is
kept meaning (val.Skip g) is = absurd is
kept meaning (val.Meant m) is = refl
kept meaning (val.Tokens t) is = absurd is

module _ (cells : List V) (d : V) where
  numbers_at : (a n i : ℕ) → i < n → a + i < length cells → ◌≡◌ {A = V} (val.Number (get_or (map number_value (row a n cells)) i (pos 0))) (val.Number (number_value (get_or cells (a + i) d)))
  numbers_at a n i within placed = ap val.Number (row_at number_value cells a n i (pos 0) d within placed)

  glues_at : (a n i : ℕ) → i < n → a + i < length cells → ◌≡◌ {A = V} (val.Skip (get_or (map glue_of (row a n cells)) i zero_glue)) (val.Skip (glue_of (get_or cells (a + i) d)))
  glues_at a n i within placed = ap val.Skip (row_at glue_of cells a n i zero_glue d within placed)

  tokens_at : (a n i : ℕ) → i < n → a + i < length cells → ◌≡◌ {A = V} (val.Tokens (get_or (map tokens_of (row a n cells)) i None)) (val.Tokens (tokens_of (get_or cells (a + i) d)))
  tokens_at a n i within placed = ap val.Tokens (row_at tokens_of cells a n i None d within placed)

  read : (l : Loc) → IsInRow l → index l < length cells → get (tables_of cells) l ≡ seen (sort_of l) (get_or cells (index l) d)
  read (loc.Code code.Category c) within placed = ap (λ (n : ℕ). val.Number (pos n)) (row_at category_of cells 0 256 c 0 d within placed)
  read (loc.Code code.Lowercase c) within placed = numbers_at 256 256 c within placed
  read (loc.Code code.Uppercase c) within placed = numbers_at 512 256 c within placed
  read (loc.Code code.SpaceFactor c) within placed = numbers_at 768 256 c within placed
  read (loc.Code code.Math c) within placed = numbers_at 1024 256 c within placed
  read (loc.Code code.Delimiter c) within placed = numbers_at 1280 256 c within placed
  read (loc.Integer i) within placed = numbers_at 1536 55 i within placed
  read (loc.Dimension i) within placed = numbers_at 1591 21 i within placed
  read (loc.Glue i) within placed = glues_at 1612 18 i within placed
  read (loc.Register register.Count n) within placed = numbers_at 1630 256 n within placed
  read (loc.Register register.Dimen n) within placed = numbers_at 1886 256 n within placed
  read (loc.Register register.Skip n) within placed = glues_at 2142 256 n within placed
  read (loc.Register register.Muskip n) within placed = glues_at 2398 256 n within placed
  read (loc.Register register.Toks n) within placed = tokens_at 2654 256 n within placed
  read (loc.Tokens i) within placed = tokens_at 2910 8 i within placed
  read (loc.Means n) within placed = ap val.Meant (last_at meaning_of cells 2918 n means.Undefined d placed)

  read_suited : (l : Loc) → IsInRow l → index l < length cells → Suits l (get_or cells (index l) d) → get (tables_of cells) l ≡ get_or cells (index l) d
  read_suited l within placed suits =
      let x = get_or cells (index l) d in
      read l within placed ∙ kept (sort_of l) x (subst (λ (A : Type 0). A) (suits_sort l x) suits)

-- what suits its location is read as it stands
pub reads : (cells : List V) (l : Loc) (d : V) → AreSuited cells → IsInRow l → index l < length cells → get (tables_of cells) l ≡ get_or cells (index l) d
reads cells l d suited within placed =
    let same : get_or cells (index l) zero_value ≡ get_or cells (index l) d = get_or_default cells (index l) zero_value d placed in
    read_suited cells d l within placed (subst (λ (x : V). Suits l x) same (suited.suits l within placed))

pub finds : (cells : List V) (l : Loc) (v : V) → IsInRow l → index l < length cells → Suits l v → get (tables_of (set cells (index l) v)) l ≡ v
finds cells l v within placed suits =
    let new = set cells (index l) v in
    let is : get_or new (index l) v ≡ v = get_or-set_same cells (index l) v v placed in
    read_suited new v l within (omega (arith, length-set cells (index l) v, placed)) (subst (λ (x : V). Suits l x) (sym is) suits) ∙ is
