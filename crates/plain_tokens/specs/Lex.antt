-- What a line gives next, by the category of its head (The TeXbook, chapter 8).
use Rattle.std.specs.Prelude.{ℕ, zero, suc, ◌+◌, ◌-◌, ◌*◌, Bool, true, false, List, [], ◌∷◌, ◌==◌, ◌&&◌, ◌||◌, nat_lt, nat_le, length, slice_index, if◌then◌else◌}
use Rattle.plain_tokens.specs.declared.line_state.LineState.{LineState}
use Rattle.plain_tokens.specs.declared.line_state.LineState.TheVariants.{NewLine, Middle, SkipBlanks}
use Rattle.plain_tokens.specs.Categories.{escape, end_of_line, superscript, ignored, space, letter, active, comment, invalid, is_between}

-- A character with its category, or a name: an active character, a name of one character, of two and more,
-- without any, and `\par` at an empty line.
pub data Lexeme : Type 0 where
  Character : (category code : ℕ) → Lexeme
  ActiveName : ℕ → Lexeme
  SingleName : ℕ → Lexeme
  WordName : List ℕ → Lexeme
  EmptyName : Lexeme
  ParName : Lexeme

-- What the rest of a line gives: a character or a name, an invalid character, or nothing more; then the state
-- and the rest behind it.
pub data Lexed : Type 0 where
  Gives : Lexeme → LineState → List ℕ → Lexed
  Invalid : LineState → List ℕ → Lexed
  UsedUp : Lexed

-- THE HEAD OF A LINE. A superscript character twice and a code below 128 stand for one character.

-- 0 to 9 and a to f, small letters
abbrev pub is_hexadecimal : ℕ → Bool
is_hexadecimal c = is_between 48 57 c || is_between 97 102 c

abbrev pub hexadecimal_value : ℕ → ℕ
hexadecimal_value c = if nat_le 97 c then c - 87 else c - 48

-- the code of two digits
abbrev pub hexadecimal_code : ℕ → ℕ → ℕ
hexadecimal_code c d = 16 * hexadecimal_value c + hexadecimal_value d

-- the code 64 away, below 128
abbrev pub shifted : ℕ → ℕ
shifted c = if nat_lt c 64 then c + 64 else c - 64

-- the line is a superscript character, the same again, and a code below 128
abbrev pub has_hats : List ℕ → List ℕ → Bool
has_hats categories (a ∷ b ∷ c ∷ line) = (slice_index categories a == superscript) && ((b == a) && nat_lt c 128)
has_hats categories line = false

-- A code behind `^^`: with the next one two hexadecimal digits of a character, else that of another character.
abbrev pub behind_hats : ℕ → List ℕ → List ℕ
behind_hats c [] = shifted c ∷ []
behind_hats c (d ∷ line) =
    if is_hexadecimal c && is_hexadecimal d then hexadecimal_code c d ∷ line
    else shifted c ∷ d ∷ line

-- the line with that one character in place of `^^` and its codes
abbrev pub without_hats : List ℕ → List ℕ
without_hats (a ∷ b ∷ c ∷ line) = behind_hats c line
without_hats line = line

abbrev pub headed_within : ℕ → List ℕ → List ℕ → List ℕ
headed_within zero categories line = line
headed_within (suc n) categories line = if has_hats categories line then headed_within n categories (without_hats line) else line

-- The line, shortened while `^^` stands in front: its first character now is its head, and then comes the rest.
unfoldable pub headed : List ℕ → List ℕ → List ℕ
headed categories line = headed_within (length line) categories line

-- NAMES

abbrev pub is_letter : List ℕ → ℕ → Bool
is_letter categories c = slice_index categories c == letter

abbrev pub letter_and : List ℕ → (List ℕ → List ℕ) → List ℕ → List ℕ
letter_and categories more [] = []
letter_and categories more (c ∷ cs) = if is_letter categories c then c ∷ more cs else []

abbrev pub letters_within : ℕ → List ℕ → List ℕ → List ℕ
letters_within zero categories line = []
letters_within (suc n) categories line = letter_and categories (letters_within n categories) (headed categories line)

-- the longest run of heads that are letters
unfoldable pub letters : List ℕ → List ℕ → List ℕ
letters categories line = letters_within (length line) categories line

abbrev pub behind_letter : List ℕ → (List ℕ → List ℕ) → List ℕ → List ℕ
behind_letter categories more [] = []
behind_letter categories more (c ∷ cs) = if is_letter categories c then more cs else c ∷ cs

abbrev pub behind_letters_within : ℕ → List ℕ → List ℕ → List ℕ
behind_letters_within zero categories line = line
behind_letters_within (suc n) categories line = behind_letter categories (behind_letters_within n categories) (headed categories line)

-- What is left behind it, with its head as its first character: `^^` is read where the name is looked for.
unfoldable pub behind_letters : List ℕ → List ℕ → List ℕ
behind_letters categories line = behind_letters_within (length line) categories line

-- a name of letters: of one, or of two and more
abbrev pub name_of_letters : List ℕ → Lexeme
name_of_letters (c ∷ []) = SingleName c
name_of_letters cs = WordName cs

-- A name behind an escape character, by the head: of letters, of one other character, or without any at the line's end.
abbrev pub named_by_head : List ℕ → LineState → List ℕ → Lexed
named_by_head categories state [] = Gives EmptyName state []
named_by_head categories state (c ∷ cs) =
    if is_letter categories c then Gives (name_of_letters (c ∷ letters categories cs)) SkipBlanks (behind_letters categories cs)
    else if slice_index categories c == space then Gives (SingleName c) SkipBlanks cs
    else Gives (SingleName c) Middle cs

abbrev pub escaped : List ℕ → LineState → List ℕ → Lexed
escaped categories state line = named_by_head categories state (headed categories line)

-- The end of a line drops what is left of it: `\par` on a new line, a space in the middle, else nothing.
abbrev pub line_ended : LineState → Lexed
line_ended NewLine = Gives ParName NewLine []
line_ended Middle = Gives (Character space 32) Middle []
line_ended SkipBlanks = UsedUp

abbrev pub is_middle : LineState → Bool
is_middle NewLine = false
is_middle Middle = true
is_middle SkipBlanks = false

-- The cases by the category of the head. Where it is skipped, what the rest gives comes.
abbrev pub by_head : List ℕ → LineState → (List ℕ → Lexed) → List ℕ → Lexed
by_head categories state rest_gives [] = UsedUp
by_head categories state rest_gives (c ∷ cs) =
    if slice_index categories c == escape then escaped categories state cs
    else if slice_index categories c == end_of_line then line_ended state
    else if slice_index categories c == ignored then rest_gives cs
    else if slice_index categories c == space then (if is_middle state then Gives (Character space 32) SkipBlanks cs else rest_gives cs)
    else if slice_index categories c == active then Gives (ActiveName c) Middle cs
    else if slice_index categories c == comment then UsedUp
    else if slice_index categories c == invalid then Invalid state cs
    else Gives (Character (slice_index categories c) c) Middle cs

abbrev pub lexed_within : ℕ → List ℕ → LineState → List ℕ → Lexed
lexed_within zero categories state line = UsedUp
lexed_within (suc n) categories state line = by_head categories state (lexed_within n categories state) (headed categories line)

-- What the rest of a line gives in this state.
unfoldable pub lexed : List ℕ → LineState → List ℕ → Lexed
lexed categories state line = lexed_within (length line) categories state line
