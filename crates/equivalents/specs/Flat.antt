-- One list of all values by the locations' numbers, as an engine keeps them, and the tables and groups that it stands for.
use Rattle.std.specs.Prelude.{◌≡◌, ℕ, ◌<◌, ◌≤◌, List, [], ◌∷◌, length, map, take, drop, slice_index_or}
use Rattle.save_stack.specs.Groups.{Stack, top, below}
use Rattle.equivalents.specs.declared.values.Loc.{Loc}
use Rattle.equivalents.specs.Locations.{V, index, IsInRow, Suits, locations_without_names, zero_value, category_of, number_value, glue_of, tokens_of, meaning_of}
use Rattle.equivalents.specs.Tables.{Tables}
use Rattle.equivalents.specs.Groups.{Groups}

abbrev pub row : (start count : ℕ) → List V → List V
row start count cells = take count (drop start cells)

abbrev pub tables_of : List V → Tables
tables_of cells = record {
  categories = map category_of (row 0 256 cells);
  lowercase = map number_value (row 256 256 cells);
  uppercase = map number_value (row 512 256 cells);
  space_factors = map number_value (row 768 256 cells);
  math_codes = map number_value (row 1024 256 cells);
  delimiters = map number_value (row 1280 256 cells);
  integers = map number_value (row 1536 55 cells);
  dimensions = map number_value (row 1591 21 cells);
  glues = map glue_of (row 1612 18 cells);
  counts = map number_value (row 1630 256 cells);
  dimens = map number_value (row 1886 256 cells);
  skips = map glue_of (row 2142 256 cells);
  muskips = map glue_of (row 2398 256 cells);
  toks = map tokens_of (row 2654 256 cells);
  parameters = map tokens_of (row 2910 8 cells);
  meanings = map meaning_of (drop locations_without_names cells);
}

abbrev pub groups_of : Stack V → Groups
groups_of s = record {
  now = tables_of (top s.maps);
  outer = map tables_of (below s.maps);
  levels = s.levels;
  entries = s.entries;
  tokens = s.tokens;
  kinds = s.kinds;
}

-- each location has a value of its kind, and no location but a name's is missing
pub record AreSuited (cells : List V) : Type 0 where
  pub suits : (l : Loc) → IsInRow l → index l < length cells → Suits l (slice_index_or cells (index l) zero_value)
  pub long : locations_without_names ≤ length cells

abbrev pub EachIsSuited : List (List V) → Type 0
EachIsSuited [] = Unit {0}
EachIsSuited (m ∷ ms) = AreSuited m × EachIsSuited ms

-- each map has so many locations
abbrev pub EachHas : ℕ → List (List V) → Type 0
EachHas n [] = Unit {0}
EachHas n (m ∷ ms) = (length m ≡ n) × EachHas n ms
