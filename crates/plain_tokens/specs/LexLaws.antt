-- What the lexer gives, said without its states.
use Rattle.std.specs.Prelude.{◌≡◌, ◌↔◌, ℕ, ◌+◌, ◌-◌, ◌*◌, ◌<◌, ◌≤◌, true, false, List, [], ◌∷◌, ◌&&◌, length, slice_index}
use Rattle.plain_tokens.specs.Categories.{escape, superscript}
use Rattle.plain_tokens.specs.declared.line_state.LineState.{LineState}
use Rattle.plain_tokens.specs.declared.line_state.LineState.TheVariants.{SkipBlanks}
use Rattle.plain_tokens.specs.Lex.{Lexed, Gives, Invalid, UsedUp, is_hexadecimal, hexadecimal_value, has_hats, without_hats, headed, is_letter, letters, behind_letters, name_of_letters, by_head, lexed}

-- The head of a line is that of the shorter line where `^^` stands in front, else its first character.
pub record HeadsAreRead : Type 0 where
  pub shortened : (categories line : List ℕ) → has_hats categories line ≡ true → headed categories line ≡ headed categories (without_hats line)
  pub first : (categories line : List ℕ) → has_hats categories line ≡ false → headed categories line ≡ line

-- A line gives what the category of its head says, and where the head is skipped, what the rest gives.
abbrev pub LinesGiveByHead : Type 0
LinesGiveByHead = (categories : List ℕ) (state : LineState) (line : List ℕ) →
    lexed categories state line ≡ by_head categories state (lexed categories state) (headed categories line)

-- the code and the next one aren't two hexadecimal digits
abbrev pub NoDigits : ℕ → List ℕ → Type 0
NoDigits c [] = Unit {0}
NoDigits c (d ∷ line) = (is_hexadecimal c && is_hexadecimal d) ≡ false

-- Behind two equal superscript characters: two hexadecimal digits are the code of a character, before all
-- else; another code below 64 stands for the one 64 above, and one from 64 to 127 for the one 64 below.
pub record HatsAreReplaced (categories : List ℕ) (state : LineState) (hat : ℕ) : Type 0 where
  pub hexadecimal : (c d : ℕ) (line : List ℕ) → is_hexadecimal c ≡ true → is_hexadecimal d ≡ true →
      lexed categories state (hat ∷ hat ∷ c ∷ d ∷ line) ≡ lexed categories state ((16 * hexadecimal_value c + hexadecimal_value d) ∷ line)
  pub above : (c : ℕ) (line : List ℕ) → c < 64 → NoDigits c line → lexed categories state (hat ∷ hat ∷ c ∷ line) ≡ lexed categories state ((c + 64) ∷ line)
  pub below : (c : ℕ) (line : List ℕ) → 64 ≤ c → c < 128 → NoDigits c line → lexed categories state (hat ∷ hat ∷ c ∷ line) ≡ lexed categories state ((c - 64) ∷ line)

abbrev pub DoubleHats : Type 0
DoubleHats = (categories : List ℕ) (state : LineState) (hat : ℕ) → slice_index categories hat ≡ superscript → HatsAreReplaced categories state hat

-- no letter comes next
abbrev pub NoLetterNext : List ℕ → List ℕ → Type 0
NoLetterNext categories [] = Unit {0}
NoLetterNext categories (c ∷ cs) = is_letter categories c ≡ false

-- the line begins with this letter, and then come these bytes
pub record BeginsWith (categories line : List ℕ) (c : ℕ) (cs : List ℕ) : Type 0 where
  pub bytes : headed categories line ≡ c ∷ cs
  pub letter : is_letter categories c ≡ true

-- the line is these letters, head by head, and then this rest, whose head is no letter
abbrev pub IsLongestRun : List ℕ → List ℕ → List ℕ → List ℕ → Type 0
IsLongestRun categories line [] rest = (rest ≡ headed categories line) × NoLetterNext categories rest
IsLongestRun categories line (c ∷ name) rest = (cs : List ℕ) × (BeginsWith categories line c cs × IsLongestRun categories cs name rest)

-- A line has exactly one longest run of letters in front, and it is the name's.
abbrev pub NamesAreLongestRuns : Type 0
NamesAreLongestRuns = (categories line name rest : List ℕ) →
    IsLongestRun categories line name rest ↔ ((name ≡ letters categories line) × (rest ≡ behind_letters categories line))

-- An escape character, letters and no letter next are read as the name of these letters, in every state.
abbrev pub NamesAreRead : Type 0
NamesAreRead = (categories : List ℕ) (state : LineState) (e c : ℕ) (line behind name rest : List ℕ) →
    headed categories line ≡ e ∷ behind → slice_index categories e ≡ escape → IsLongestRun categories behind (c ∷ name) rest →
    lexed categories state line ≡ Gives (name_of_letters (c ∷ name)) SkipBlanks rest

-- the line is this rest once `^^` in front was replaced, and first characters were taken, some times
pub data ComesTo (categories rest : List ℕ) : List ℕ → Type 0 where
  Here : ComesTo categories rest rest
  Replaced : (line : List ℕ) → has_hats categories line ≡ true → ComesTo categories rest (without_hats line) → ComesTo categories rest line
  Taken : (c : ℕ) (line : List ℕ) → ComesTo categories rest line → ComesTo categories rest (c ∷ line)

-- the rest is a shorter end of the line, but for `^^` in front that was replaced
pub record IsProperRest (categories rest line : List ℕ) : Type 0 where
  pub shorter : length rest < length line
  pub from_line : ComesTo categories rest line

abbrev pub LeavesLess : List ℕ → Lexed → List ℕ → Type 0
LeavesLess categories (Gives x state rest) line = IsProperRest categories rest line
LeavesLess categories (Invalid state rest) line = IsProperRest categories rest line
LeavesLess categories UsedUp line = Unit {0}

-- A character, a name and an invalid character take at least a character from the line.
abbrev pub LexingConsumes : Type 0
LexingConsumes = (categories : List ℕ) (state : LineState) (line : List ℕ) → LeavesLess categories (lexed categories state line) line
