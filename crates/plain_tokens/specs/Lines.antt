-- The lines of a file. A line feed ends a line; one carriage return before it goes; a last line counts where it
-- isn't empty; trailing characters 32 go.
use Rattle.std.specs.Prelude.{ℕ, ◌==◌, Bool, true, false, List, [], ◌∷◌, if◌then◌else◌}

abbrev pub line_feed : ℕ
line_feed = 10

-- the bytes before the first line feed
abbrev pub before_feed : List ℕ → List ℕ
before_feed [] = []
before_feed (c ∷ cs) = if c == line_feed then [] else c ∷ before_feed cs

-- the bytes behind the first line feed
abbrev pub behind_feed : List ℕ → List ℕ
behind_feed [] = []
behind_feed (c ∷ cs) = if c == line_feed then cs else behind_feed cs

abbrev pub has_feed : List ℕ → Bool
has_feed [] = false
has_feed (c ∷ cs) = if c == line_feed then true else has_feed cs

-- without a last character of this code
abbrev pub without_last : ℕ → List ℕ → List ℕ
without_last d [] = []
without_last d (c ∷ []) = if c == d then [] else c ∷ []
without_last d (c ∷ e ∷ cs) = c ∷ without_last d (e ∷ cs)

-- one character more in front, unless nothing but spaces follows
abbrev pub trimmed_on : ℕ → List ℕ → List ℕ
trimmed_on c [] = if c == 32 then [] else c ∷ []
trimmed_on c (e ∷ cs) = c ∷ e ∷ cs

-- without its trailing characters 32
abbrev pub trimmed : List ℕ → List ℕ
trimmed [] = []
trimmed (c ∷ cs) = trimmed_on c (trimmed cs)

-- The bytes of the first line, a carriage return gone that stands before the line feed.
abbrev pub first_bytes : List ℕ → List ℕ
first_bytes bytes = if has_feed bytes then without_last 13 (before_feed bytes) else before_feed bytes

-- the first line
abbrev pub first_line : List ℕ → List ℕ
first_line bytes = trimmed (first_bytes bytes)

-- a byte goes onto the first line
abbrev pub onto_first : ℕ → List (List ℕ) → List (List ℕ)
onto_first c [] = (c ∷ []) ∷ []
onto_first c (line ∷ lines) = (c ∷ line) ∷ lines

-- the bytes of a file, cut behind each line feed
abbrev pub cut_lines : List ℕ → List (List ℕ)
cut_lines [] = []
cut_lines (c ∷ cs) = if c == line_feed then (c ∷ []) ∷ cut_lines cs else onto_first c (cut_lines cs)

abbrev pub first_lines : List (List ℕ) → List (List ℕ)
first_lines [] = []
first_lines (piece ∷ pieces) = first_line piece ∷ first_lines pieces

-- all lines of a file
abbrev pub lines : List ℕ → List (List ℕ)
lines bytes = first_lines (cut_lines bytes)
