-- What integer parameters say of lines and of texts.
use Rattle.std.specs.Prelude.{ℕ, ℤ, pos, List, slice_index_or}
use Rattle.plain_tokens.specs.Printed.{Style}
use Rattle.equivalents.specs.First.{escape_character, end_line_character, new_line_character}
use Rattle.equivalents.specs.Tables.{Tables}

-- the value of an integer parameter
abbrev pub integer_in : Tables → ℕ → ℤ
integer_in m i = slice_index_or m.integers i (pos 0)

-- the value of `\endlinechar`, by which a line that is taken gets its end character
abbrev pub end_of_line : Tables → ℤ
end_of_line m = integer_in m end_line_character

-- how texts are printed, where these names are entered
abbrev pub style_in : Tables → List (List ℕ) → Style
style_in m names = record { escape = integer_in m escape_character; newline = integer_in m new_line_character; categories = m.categories; names = names }
