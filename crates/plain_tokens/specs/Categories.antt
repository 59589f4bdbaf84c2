-- The sixteen category codes (The TeXbook, chapter 7), and those of INITEX's first state.
use Rattle.std.specs.Prelude.{ℕ, zero, suc, ◌+◌, ◌==◌, Bool, List, [], ◌∷◌, ◌&&◌, ◌||◌, nat_le, if◌then◌else◌}

abbrev pub escape : ℕ
escape = 0

abbrev pub begin_group : ℕ
begin_group = 1

abbrev pub end_group : ℕ
end_group = 2

abbrev pub math_shift : ℕ
math_shift = 3

abbrev pub alignment_tab : ℕ
alignment_tab = 4

abbrev pub end_of_line : ℕ
end_of_line = 5

abbrev pub parameter : ℕ
parameter = 6

abbrev pub superscript : ℕ
superscript = 7

abbrev pub subscript : ℕ
subscript = 8

abbrev pub ignored : ℕ
ignored = 9

abbrev pub space : ℕ
space = 10

abbrev pub letter : ℕ
letter = 11

abbrev pub other : ℕ
other = 12

abbrev pub active : ℕ
active = 13

abbrev pub comment : ℕ
comment = 14

abbrev pub invalid : ℕ
invalid = 15

abbrev pub is_between : ℕ → ℕ → ℕ → Bool
is_between low high c = nat_le low c && nat_le c high

-- `\` is an escape character, character 0 is ignored, 13 ends a line, 32 is a space, `%` begins a comment,
-- 127 is invalid, A to Z and a to z are letters, and all else is other.
abbrev pub initial_category : ℕ → ℕ
initial_category c =
    if c == 92 then escape
    else if c == 0 then ignored
    else if c == 13 then end_of_line
    else if c == 32 then space
    else if c == 37 then comment
    else if c == 127 then invalid
    else if is_between 65 90 c || is_between 97 122 c then letter
    else other

abbrev pub categories_from : ℕ → ℕ → List ℕ
categories_from zero c = []
categories_from (suc n) c = initial_category c ∷ categories_from n (c + 1)

-- of the characters 0 to 255
unfoldable pub initial_categories : List ℕ
initial_categories = categories_from 256 0
