-- What counts as used of each table, what is asked of it, and where there is no room.
use Rattle.std.specs.Prelude.{ℕ, ◌+◌, ◌==◌, ◌||◌, Bool, false, List, [], ◌∷◌, ◌++◌, length, sum_by, nat_le, Option, Some, None, if◌then◌else◌}
use Rattle.tex_defs.specs.declared.Token.{Token}
use Rattle.tex_defs.specs.declared.Table.{Table}
use Rattle.tex_defs.specs.declared.Table.TheVariants.{PoolSize, NumberOfStrings, HashSize, MainMemorySize, InputStackSize, ParameterStackSize, TextInputLevels, BufferSize}
use Rattle.tex_defs.specs.declared.Full.{Full}
use Rattle.tex_defs.specs.declared.Sizes.{Sizes}
use Rattle.tex_defs.specs.Sizes.{size_of}
use Rattle.plain_tokens.specs.Lines.{first_bytes}
use Rattle.plain_tokens.specs.Puts.{Item, First, Put as PutList, Whole, Own, Macro, put_levels, put_parameters, list_of_tokens}
use Rattle.plain_tokens.specs.Pending.{Pending, Progress, Source, Begun as BegunFile, Closed as ClosedFile, all_puts}

-- MAIN MEMORY: each list that is held takes one word, and one for each of its tokens.

abbrev pub list_words : List Token → ℕ
list_words ts = 1 + length ts

abbrev pub lists_words : List (List Token) → ℕ
lists_words lists = sum_by list_words lists

-- a list in front that is its own; a macro's list is counted once, whoever holds it
abbrev pub whole_words : Whole → ℕ
whole_words (Own ts) = list_words ts
whole_words (Macro number) = 0

-- the arguments of a call; one without tokens is no list
abbrev pub argument_words : List (List Token) → ℕ
argument_words arguments = sum_by (λ a. lists_words (list_of_tokens a)) arguments

-- the lists in front
abbrev pub put_words : List PutList → ℕ
put_words puts = sum_by (λ p. whole_words p.list + argument_words p.arguments) puts

-- the list that is being made
abbrev pub made_words : Option (List Token) → ℕ
made_words None = 0
made_words (Some ts) = list_words ts

-- the words of the lists that are held in front, being made and gathered
abbrev pub held_words : List PutList → Option (List Token) → List (List Token) → ℕ
held_words puts making lists = put_words puts + (made_words making + lists_words lists)

-- a list that has a number is held by each list in front that is its
abbrev pub is_whole : ℕ → Whole → Bool
is_whole n (Own ts) = false
is_whole n (Macro number) = number == n

abbrev pub is_put : ℕ → List PutList → Bool
is_put n [] = false
is_put n (p ∷ ps) = is_whole n p.list || is_put n ps

-- THE INPUT STACK: a level for each list in front with an item left, one for the argument within which such a list
-- stands, and one for each file that is begun.

abbrev pub file_levels : Progress → ℕ
file_levels BegunFile = 1
file_levels ClosedFile = 0

-- the files beneath the innermost one
abbrev pub outer_levels : List Source → ℕ
outer_levels outer = sum_by (λ s. file_levels s.file) outer

abbrev pub begun_files : Pending → ℕ
begun_files p = file_levels p.file + outer_levels p.outer

abbrev pub levels : Pending → ℕ
levels p = put_levels (all_puts p) + begun_files p

-- TEXT INPUT LEVELS: the files that are open, also one that isn't begun.

abbrev pub opened_files : Option (List ℕ) → ℕ
opened_files None = 0
opened_files (Some bytes) = 1

abbrev pub open_files : Pending → ℕ
open_files p = opened_files p.next + begun_files p

-- STRINGS: names and other strings, and their bytes.

abbrev pub bytes_of : List (List ℕ) → ℕ
bytes_of strings = sum_by length strings

-- THE BUFFER: each open line, and 1. The next line of a file takes the place of the one before it.

abbrev pub line_room : Progress → ℕ → ℕ
line_room BegunFile whole = 1 + whole
line_room ClosedFile whole = 0

abbrev pub lines_beneath : List Source → ℕ
lines_beneath outer = sum_by (λ s. line_room s.file s.whole) outer

abbrev pub open_lines : Pending → ℕ
open_lines p = line_room p.file p.whole + lines_beneath p.outer

-- a line's bytes before its trailing spaces are cut, and 1
abbrev pub line_need : List ℕ → ℕ
line_need rest = 1 + length (first_bytes rest)

-- DEMANDS

-- what a move needs of a table of which so much is used
pub record Demand : Type 0 where
  pub table : Table
  pub used : ℕ
  pub need : ℕ

-- words of main memory, of which so many are used
abbrev pub memory : (need used : ℕ) → Demand
memory need used = record { table = MainMemorySize; used = used; need = need }

abbrev pub level : Pending → Demand
level p = record { table = InputStackSize; used = levels p; need = 1 }

-- an argument's level opens with its first token
abbrev pub opened_level : Option Item → Pending → List Demand
opened_level (Some (First t)) p = level p ∷ []
opened_level x p = []

-- the arguments of a call
abbrev pub parameters : PutList → Pending → Demand
parameters x p = record { table = ParameterStackSize; used = put_parameters (all_puts p); need = length x.arguments }

-- a string more, beside names and other strings
abbrev pub string : List ℕ → (names strings : List (List ℕ)) → List Demand
string bytes names strings =
    record { table = PoolSize; used = bytes_of names + bytes_of strings; need = length bytes }
    ∷ record { table = NumberOfStrings; used = length names + length strings; need = 1 } ∷ []

abbrev pub hash : (names : List (List ℕ)) → Demand
hash names = record { table = HashSize; used = length names; need = 1 }

abbrev pub new_name : List ℕ → (names strings : List (List ℕ)) → List Demand
new_name name names strings = string name names strings ++ hash names ∷ []

-- bytes behind lines of which so much of the buffer is used
abbrev pub buffer : (need used : ℕ) → Demand
buffer need used = record { table = BufferSize; used = used; need = need }

abbrev pub next_line : Pending → List Demand
next_line p = buffer (line_need p.rest) (lines_beneath p.outer) ∷ []

-- of a file that was opened: the first line, and the file's level
abbrev pub first_line_of : Option (List ℕ) → Pending → List Demand
first_line_of None p = []
first_line_of (Some bytes) p = buffer (line_need bytes) (open_lines p) ∷ level p ∷ []

abbrev pub next_file : Pending → List Demand
next_file p = first_line_of p.next p

-- a file more
abbrev pub text_level : Pending → Demand
text_level p = record { table = TextInputLevels; used = open_files p; need = 1 }

-- a name that is spelt behind the open lines
abbrev pub spelt_name : List ℕ → Pending → Demand
spelt_name name p = buffer (length name) (open_lines p)

-- one more of what the table holds would pass its size
abbrev pub full : Sizes → Demand → Full
full sizes d = record { table = d.table; used = d.used; size = size_of sizes d.table }

-- the first demand that has no room
abbrev pub refused : Sizes → List Demand → Option Full
refused sizes [] = None
refused sizes (d ∷ ds) = if nat_le (d.used + d.need) (size_of sizes d.table) then refused sizes ds else Some (full sizes d)
