-- What is still to be read: files beneath files, each with its line, its rest, and the lists that were put in front of it.
use Rattle.std.specs.Prelude.{ℕ, ◌+◌, ℤ, Bool, true, false, List, [], ◌∷◌, ◌++◌, length, nat_lt, if◌then◌else◌, Option, Some, None}
use Rattle.tex_defs.specs.declared.Token.{Token}
use Rattle.plain_tokens.specs.Lines.{first_line, behind_feed}
use Rattle.plain_tokens.specs.Printed.{character_of}
use Rattle.plain_tokens.specs.Puts.{Item, Put, without_ended, passed, with_put, item_token}
use Rattle.plain_tokens.specs.declared.line_state.LineState.{LineState}
use Rattle.plain_tokens.specs.declared.line_state.LineState.TheVariants.{NewLine}
use Rattle.plain_tokens.specs.Lex.{Lexeme, Lexed, Gives, Invalid, UsedUp, lexed}

-- A file is begun once its first line was taken. Beneath all files stands what is none: nothing but lists that were put in front.
pub data Progress : Type 0 where
  Begun : Progress
  Closed : Progress

-- A file beneath the innermost one, or what stands beneath all files.
pub record Source : Type 0 where
  -- the lists in front, innermost first
  pub puts : List Put
  -- the rest of the line, with its state, and the line's length as it was taken, without its end character
  pub line : List ℕ
  pub lex : LineState
  pub whole : ℕ
  -- the rest of the file
  pub rest : List ℕ
  pub file : Progress
  -- the number of the line in its file, 0 where none is
  pub number : ℕ
  -- whether the file ends behind this line: `\endinput`
  pub ends : Bool

-- The innermost file, the others beneath it, and at most one that was opened and isn't begun.
pub record Pending : Type 0 where
  -- innermost first; a list whose last item was read stays until the next reading or the next push begins
  pub puts : List Put
  pub line : List ℕ
  pub lex : LineState
  pub whole : ℕ
  pub rest : List ℕ
  pub file : Progress
  pub number : ℕ
  pub ends : Bool
  -- the innermost first; the last of them is what stands beneath all files
  pub outer : List Source
  -- all bytes of the file that was opened: its first line is the next step
  pub next : Option (List ℕ)

-- What the next reading from pending gives, and what is pending then: a token of a list, a character or a name of the line,
-- or the next line, as yet without its end character.
pub data Pulled : Type 0 where
  TokenFrom : Token → Pending → Pulled
  LexemeFrom : Lexeme → Pending → Pulled
  LineTaken : List ℕ → Pending → Pulled
  InvalidMet : Pending → Pulled
  FileOver : Pending → Pulled
  NothingLeft : Pulled

-- THE LISTS IN FRONT

abbrev pub with_puts : List Put → Pending → Pending
with_puts ps p = record p { puts = ps }

abbrev pub end_token_lists : Pending → Pending
end_token_lists p = with_puts (without_ended p.puts) p

-- a list in front of all that is pending; one without items is none
abbrev pub put_front : Put → Pending → Pending
put_front x p = with_puts (with_put x p.puts) p

-- THE LINE AND THE FILE

-- A line is taken with its end character: that of the value of `\endlinechar`, if it is a character's code.
abbrev pub line_ended : ℤ → List ℕ → List ℕ
line_ended end line = line ++ character_of end

abbrev pub with_end : ℤ → Pending → Pending
with_end end p = record p { line = line_ended end p.line }

-- A line's number stands still at 2^64 - 1. A line is a step, so a run of fewer than 2^64 steps never gets there.
abbrev pub next_number : ℕ → ℕ
next_number n = if nat_lt n 18446744073709551615 then n + 1 else n

-- the file's next line is taken, the first one of these bytes
abbrev pub on_next_line : List ℕ → Pending → Pending
on_next_line bytes p = record p { puts = []; line = first_line bytes; lex = NewLine; whole = length (first_line bytes); rest = behind_feed bytes; number = next_number p.number }

abbrev pub line_taken : Pending → List ℕ → Pulled
line_taken p bytes = LineTaken (first_line bytes) (on_next_line bytes p)

-- nothing is open, and nothing stands in front
abbrev pub bottom : Pending
bottom = record { puts = []; line = []; lex = NewLine; whole = 0; rest = []; file = Closed; number = 0; ends = false; outer = []; next = None }

-- a source is the innermost, above these
abbrev pub above : Source → List Source → Pending
above s outer = record { puts = s.puts; line = s.line; lex = s.lex; whole = s.whole; rest = s.rest; file = s.file; number = s.number; ends = s.ends; outer = outer; next = None }

abbrev pub beneath : List Source → Pending
beneath [] = bottom
beneath (s ∷ outer) = above s outer

-- The innermost file goes, and what stands beneath it goes on.
abbrev pub file_over : Pending → Pulled
file_over p = FileOver (beneath p.outer)

-- A file that is to end, or that has nothing left, is over.
abbrev pub from_begun : Pending → (ends : Bool) → (rest : List ℕ) → Pulled
from_begun p true rest = file_over p
from_begun p false [] = file_over p
from_begun p false (c ∷ cs) = line_taken p (c ∷ cs)

abbrev pub from_file : Pending → Progress → Pulled
from_file p Begun = from_begun p p.ends p.rest
from_file p Closed = NothingLeft

abbrev pub on_line : List ℕ → LineState → Pending → Pending
on_line line lex p = record p { puts = []; line = line; lex = lex }

abbrev pub from_line : Pending → Lexed → Pulled
from_line p (Gives x state line) = LexemeFrom x (on_line line state p)
from_line p (Invalid state line) = InvalidMet (on_line line state p)
from_line p UsedUp = from_file p p.file

-- THE NEXT READING

abbrev pub read_on : Put → List Item → Put
read_on p xs = record { list = p.list; arguments = p.arguments; items = xs }

abbrev pub from_list : List ℕ → Pending → Put → List Put → List Item → Pulled
from_list categories p x ps [] = from_line p (lexed categories p.lex p.line)
from_list categories p x ps (i ∷ is) = TokenFrom (item_token i) (with_puts (read_on x is ∷ ps) p)

-- lists in front come first, then the line, then the file; gaps are passed over
abbrev pub from_front : List ℕ → Pending → List Put → Pulled
from_front categories p [] = from_line p (lexed categories p.lex p.line)
from_front categories p (x ∷ ps) = from_list categories p x ps x.items

abbrev pub pulled : List ℕ → Pending → Pulled
pulled categories p = from_front categories p (passed p.puts)

-- what is pending after it
abbrev pub after_pull : Pending → Pulled → Pending
after_pull p (TokenFrom t next) = next
after_pull p (LexemeFrom x next) = next
after_pull p (LineTaken line next) = next
after_pull p (InvalidMet next) = next
after_pull p (FileOver next) = next
after_pull p NothingLeft = p

-- nothing is left in front of the file
abbrev pub takes_file : Pulled → Bool
takes_file (LineTaken line next) = true
takes_file (FileOver next) = true
takes_file NothingLeft = true
takes_file r = false

-- FILES BENEATH FILES

-- the innermost source as one beneath another
abbrev pub source_of : Pending → Source
source_of p = record { puts = p.puts; line = p.line; lex = p.lex; whole = p.whole; rest = p.rest; file = p.file; number = p.number; ends = p.ends }

-- A file is opened, if there is one, and not begun.
abbrev pub with_next : Option (List ℕ) → Pending → Pending
with_next bytes p = record p { next = bytes }

-- The file that was opened is begun with its first line, an empty one where it has none: it is the innermost.
abbrev pub on_first_line : List ℕ → Pending → Pending
on_first_line bytes p = record { puts = []; line = first_line bytes; lex = NewLine; whole = length (first_line bytes); rest = behind_feed bytes; file = Begun; number = 1; ends = false; outer = source_of p ∷ p.outer; next = None }

abbrev pub begun_by : Option (List ℕ) → Pending → Pending
begun_by None p = p
begun_by (Some bytes) p = on_first_line bytes p

abbrev pub with_begun : Pending → Pending
with_begun p = begun_by p.next p

-- `\endinput`: the innermost file ends behind its present line.
abbrev pub ends_by : Progress → Bool → Bool
ends_by Begun ends = true
ends_by Closed ends = ends

abbrev pub ending : Pending → Pending
ending p = record p { ends = ends_by p.file p.ends }

-- all lists in front, the innermost source's first
abbrev pub outer_puts : List Source → List Put
outer_puts [] = []
outer_puts (s ∷ outer) = s.puts ++ outer_puts outer

abbrev pub all_puts : Pending → List Put
all_puts p = p.puts ++ outer_puts p.outer
