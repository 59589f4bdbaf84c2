-- INITEX's first values (The TeXbook, chapters 7, 8, 12 and 24; TeX: The Program, sections 222, 228, 232, 240, 241 and 250).
use Rattle.std.specs.Prelude.{ℕ, ◌+◌, ◌-◌, ◌==◌, ◌||◌, Bool, ℤ, pos, negsuc, None, map, replicate, if◌then◌else◌}
use Rattle.std.specs.List.{range_with_len}
use Rattle.plain_tokens.specs.Categories.{is_between, initial_categories}
use Rattle.plain_tokens.specs.Meanings.{first_meanings}
use Rattle.equivalents.specs.Locations.{zero_glue}
use Rattle.equivalents.specs.Tables.{Tables}

abbrev pub is_capital : ℕ → Bool
is_capital c = is_between 65 90 c

abbrev pub is_small_letter : ℕ → Bool
is_small_letter c = is_between 97 122 c

-- each letter's small letter and its capital, and 0 for what is no letter
abbrev pub first_lowercase : ℕ → ℤ
first_lowercase c = if is_capital c then pos (c + 32) else if is_small_letter c then pos c else pos 0

abbrev pub first_uppercase : ℕ → ℤ
first_uppercase c = if is_capital c then pos c else if is_small_letter c then pos (c - 32) else pos 0

abbrev pub first_space_factor : ℕ → ℤ
first_space_factor c = if is_capital c then pos 999 else pos 1000

-- digits and letters are of the variable family, the letters in family 1
abbrev pub first_math_code : ℕ → ℤ
first_math_code c =
    if is_between 48 57 c then pos (c + 28672)
    else if is_capital c || is_small_letter c then pos (c + 28928)
    else pos c

-- -1, but that of the period 0
abbrev pub first_delimiter : ℕ → ℤ
first_delimiter c = if c == 46 then pos 0 else negsuc 0

-- the places of integer parameters
abbrev pub tolerance : ℕ
tolerance = 1

abbrev pub magnification : ℕ
magnification = 17

abbrev pub time : ℕ
time = 20

abbrev pub day : ℕ
day = 21

abbrev pub month : ℕ
month = 22

abbrev pub year : ℕ
year = 23

abbrev pub max_dead_cycles : ℕ
max_dead_cycles = 40

abbrev pub hang_after : ℕ
hang_after = 41

abbrev pub global_definitions : ℕ
global_definitions = 43

abbrev pub escape_character : ℕ
escape_character = 45

abbrev pub end_line_character : ℕ
end_line_character = 48

abbrev pub new_line_character : ℕ
new_line_character = 49

-- `\tolerance`, `\mag`, `\time`, `\day`, `\month`, `\year`, `\maxdeadcycles`, `\hangafter`, `\escapechar` and `\endlinechar`
abbrev pub first_integer : ℕ → ℤ
first_integer i =
    if i == tolerance then pos 10000
    else if i == magnification then pos 1000
    else if i == time then pos 720
    else if i == day then pos 4
    else if i == month then pos 7
    else if i == year then pos 1776
    else if i == max_dead_cycles then pos 25
    else if i == hang_after then pos 1
    else if i == escape_character then pos 92
    else if i == end_line_character then pos 13
    else pos 0

-- the values of all locations, where these primitives mean something
unfoldable pub first_tables : (knows : ℕ → Bool) → Tables
first_tables knows = record {
  categories = initial_categories;
  lowercase = map first_lowercase (range_with_len 0 256);
  uppercase = map first_uppercase (range_with_len 0 256);
  space_factors = map first_space_factor (range_with_len 0 256);
  math_codes = map first_math_code (range_with_len 0 256);
  delimiters = map first_delimiter (range_with_len 0 256);
  integers = map first_integer (range_with_len 0 55);
  dimensions = replicate 21 (pos 0);
  glues = replicate 18 zero_glue;
  counts = replicate 256 (pos 0);
  dimens = replicate 256 (pos 0);
  skips = replicate 256 zero_glue;
  muskips = replicate 256 zero_glue;
  toks = replicate 256 None;
  parameters = replicate 8 None;
  meanings = first_meanings knows;
}
