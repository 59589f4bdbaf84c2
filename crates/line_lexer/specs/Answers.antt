-- What the answers of the lexer stand for.
use Rattle.std.specs.Prelude.{◌≡◌, ℕ, ◌+◌, ◌-◌, max, ◌<◌, ◌≤◌, List, take, drop}
use Rattle.plain_tokens.specs.Lex as plain
use Rattle.line_lexer.specs.declared.Line.{Line}
use Rattle.plain_tokens.specs.declared.line_state.LineState.{LineState}
use Rattle.line_lexer.specs.declared.Lexed.{Lexed}
use Rattle.line_lexer.specs.declared.Lexed.TheVariants.{Char, Active, Single, Word, Empty, Par, Invalid, End}
use Rattle.line_lexer.specs.declared.Ahead.{Ahead}
use Rattle.line_lexer.specs.declared.Ahead.TheVariants as ahead

-- the bytes from one place to before another
abbrev pub span : List ℕ → ℕ → ℕ → List ℕ
span bytes from to = take (to - from) (drop from bytes)

-- the rest of a line in a buffer of these bytes
abbrev pub rest_of : List ℕ → Line → List ℕ
rest_of bytes line = span bytes line.at line.end

-- What an answer says, with the state and the rest of the line behind it, where a name stands in these bytes.
abbrev pub given : List ℕ → LineState → List ℕ → Lexed → plain.Lexed
given bytes state rest (Char category code) = plain.Gives (plain.Character category code) state rest
given bytes state rest (Active code) = plain.Gives (plain.ActiveName code) state rest
given bytes state rest (Single code) = plain.Gives (plain.SingleName code) state rest
given bytes state rest (Word from to) = plain.Gives (plain.WordName (span bytes from to)) state rest
given bytes state rest Empty = plain.Gives plain.EmptyName state rest
given bytes state rest Par = plain.Gives plain.ParName state rest
given bytes state rest Invalid = plain.Invalid state rest
given bytes state rest End = plain.UsedUp

-- A word stands in what was taken from a line between two places; all but the end takes something.
abbrev pub Takes : ℕ → ℕ → Lexed → Type 0
Takes at next (Word from to) = (at ≤ from) × ((from < to) × (to ≤ next))
Takes at next End = Unit {0}
Takes at next x = at < next

-- At the end the line is used up, and its state stays.
abbrev pub Ends : Line → Line → Lexed → Type 0
Ends old new End = new ≡ record old { at = old.end }
Ends old new x = Unit {0}

-- what an answer makes of the line's place
pub record GoesOn (old new : Line) (answer : Lexed) : Type 0 where
  pub same_end : new.end ≡ old.end
  pub forward : old.at ≤ new.at
  pub in_order : new.at ≤ new.end
  pub takes : Takes old.at new.at answer
  pub ends : Ends old new answer

-- the kind of what a line gives
abbrev pub looks_of : plain.Lexed → Ahead
looks_of (plain.Gives x state rest) = ahead.Token
looks_of (plain.Invalid state rest) = ahead.Invalid
looks_of plain.UsedUp = ahead.End

-- the last place that an answer names
abbrev pub last_place : Lexed → ℕ
last_place (Word from to) = max from to
last_place x = 0

-- the answer on a line that stands from `start` on
abbrev pub moved_by : ℕ → Lexed → Lexed
moved_by start (Word from to) = Word (start + from) (start + to)
moved_by start x = x
