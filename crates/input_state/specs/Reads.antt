-- What a reading answers, and what is pending then.
use Rattle.std.specs.Prelude.{◌≡◌, ℕ, ◌<◌, ◌≤◌, ℤ, List, [], length, Option, None, Some, Bool, true, false, Result, Ok, Err}
use Rattle.tex_defs.specs.declared.Full.{Full}
use Rattle.tex_defs.specs.declared.Sizes.{Sizes}
use Rattle.plain_tokens.specs.Lex as plain
use Rattle.plain_tokens.specs.Puts.{next_item}
use Rattle.plain_tokens.specs.Lines.{first_line}
use Rattle.plain_tokens.specs.Pending.{Pending, Pulled, TokenFrom, LexemeFrom, LineTaken, InvalidMet, FileOver, NothingLeft, pulled, from_file, with_end, end_token_lists}
use Rattle.plain_tokens.specs.Tables.{Demand, refused, opened_level, next_line}
use Rattle.equivalents.specs.Parameters.{end_of_line}
use Rattle.line_lexer.specs.Answers.{span}
use Rattle.line_lexer.specs.declared.Lexed.{Lexed}
use Rattle.line_lexer.specs.declared.Lexed.TheVariants.{Char, Active, Single, Word, Empty, Par, Invalid, End}
use Rattle.input_state.specs.Stored.{Stored}
use Rattle.input_state.specs.declared.answer.Pulled as answers
use Rattle.input_state.specs.declared.answer.Pulled.TheVariants as answer

-- A character or a name, whose letters stand in the buffer between two places.
abbrev pub IsLexeme : List ℕ → Lexed → plain.Lexeme → Type 0
IsLexeme buffer (Char category code) x = x ≡ plain.Character category code
IsLexeme buffer (Active code) x = x ≡ plain.ActiveName code
IsLexeme buffer (Single code) x = x ≡ plain.SingleName code
IsLexeme buffer (Word from to) x = (x ≡ plain.WordName (span buffer from to)) × (from < to) × (to ≤ length buffer)
IsLexeme buffer Empty x = x ≡ plain.EmptyName
IsLexeme buffer Par x = x ≡ plain.ParName
IsLexeme buffer Invalid x = ⊥
IsLexeme buffer End x = ⊥

pub record ReadsLexeme (p : Pulled) (lexed : Lexed) (next : Pending) (buffer : List ℕ) : Type 0 where
  pub lexeme : plain.Lexeme
  pub is : IsLexeme buffer lexed lexeme
  pub pulls : p ≡ LexemeFrom lexeme next

-- A line of the file is taken, and gets its end character.
pub record TakesLine (p : Pulled) (end : ℤ) (old new : Pending) : Type 0 where
  pub next : Pending
  pub is : p ≡ LineTaken (first_line old.rest) next
  pub ended : new ≡ with_end end next

-- The answer on a reading from what is pending, before and after it; no line is taken in front of the file.
abbrev pub Gives : Pulled → answers.Pulled → Pending → Pending → List ℕ → Type 0
Gives p (answer.Token t) old new buffer = p ≡ TokenFrom t new
Gives p (answer.Lexeme l) old new buffer = ReadsLexeme p l new buffer
Gives p answer.Taken old new buffer = p ≡ LineTaken (first_line old.rest) new
Gives p answer.Invalid old new buffer = p ≡ InvalidMet new
Gives p answer.FileOver old new buffer = p ≡ FileOver new
Gives p answer.Nothing old new buffer = (p ≡ NothingLeft) × (new ≡ end_token_lists old)

-- the same, where it isn't refused
abbrev pub GivesTo : Pulled → Result answers.Pulled Full → Pending → Pending → List ℕ → Type 0
GivesTo p (Ok a) old new buffer = Gives p a old new buffer
GivesTo p (Err f) old new buffer = Unit {0}

-- The same, where the step of a list's token or of a line fits, by the value of `\endlinechar`.
abbrev pub Reads : Pulled → answers.Pulled → Sizes → (end : ℤ) → Pending → Pending → List ℕ → Type 0
Reads p (answer.Token t) sizes end old new buffer = (p ≡ TokenFrom t new) × (refused sizes (opened_level (next_item old.puts) old) ≡ None)
Reads p (answer.Lexeme l) sizes end old new buffer = ReadsLexeme p l new buffer
Reads p answer.Taken sizes end old new buffer = TakesLine p end old new × (refused sizes (next_line old) ≡ None)
Reads p answer.Invalid sizes end old new buffer = p ≡ InvalidMet new
Reads p answer.FileOver sizes end old new buffer = p ≡ FileOver new
Reads p answer.Nothing sizes end old new buffer = (p ≡ NothingLeft) × (new ≡ end_token_lists old)

abbrev pub Pulls : Pulled → answers.Pulled → Stored → Stored → Type 0
Pulls p result old new = Reads p result old.sizes (end_of_line old.groups.now) old.pending new.pending new.buffer

-- What the next step needs: a level for the first token of an argument, and room for a line.
abbrev pub step_demands : Pulled → Pending → List Demand
step_demands (TokenFrom t next) p = opened_level (next_item p.puts) p
step_demands (LineTaken line next) p = next_line p
step_demands q p = []

-- why it isn't made
abbrev pub pull_refusal : Stored → Option Full
pull_refusal s = refused s.sizes (step_demands (pulled s.groups.now.categories s.pending) s.pending)

-- A line would be taken and has no room: it is not taken.
pub record RefusesTaken (q : Pulled) (full : Full) (old new : Stored) : Type 0 where
  pub line : List ℕ
  pub next : Pending
  pub takes : q ≡ LineTaken line next
  pub refused : refused old.sizes (next_line old.pending) ≡ Some full
  pub stays : new.pending ≡ end_token_lists old.pending

-- it would be the file's
abbrev pub RefusesLine : Full → Stored → Stored → Type 0
RefusesLine full old new = RefusesTaken (from_file old.pending old.pending.file) full old new

-- a token, a character, a name or a line
abbrev pub gives_step : Pulled → Bool
gives_step (TokenFrom t next) = true
gives_step (LexemeFrom x next) = true
gives_step (LineTaken line next) = true
gives_step (InvalidMet next) = false
gives_step (FileOver next) = false
gives_step NothingLeft = false
