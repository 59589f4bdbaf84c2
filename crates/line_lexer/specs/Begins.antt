-- What begins a rest of a line.
use Rattle.std.specs.Prelude.{◌≡◌, ℕ, ◌<◌, ◌≤◌, List, ◌∷◌, drop, length, slice_index}
use Rattle.plain_tokens.specs.Categories.{end_of_line, ignored, space, comment}
use Rattle.plain_tokens.specs.Lex.{Lexed, Gives, headed, letters, behind_letters, name_of_letters, by_head, lexed}
use Rattle.plain_tokens.specs.declared.line_state.LineState.{LineState}
use Rattle.plain_tokens.specs.declared.line_state.LineState.TheVariants.{Middle, SkipBlanks}
use Rattle.line_lexer.specs.declared.heads.Head.{Head}
use Rattle.line_lexer.specs.declared.names.Answer.{Answer}
use Rattle.line_lexer.specs.declared.Lexed as answers
use Rattle.line_lexer.specs.declared.Lexed.TheVariants.{End}

-- the head of the line from `at` on, and the place behind it
pub record IsHead (categories line : List ℕ) (at : ℕ) (head : Head) : Type 0 where
  pub headed_is : headed categories (drop at line) ≡ head.code ∷ drop head.next line
  pub further : at < head.next
  pub within : head.next ≤ length line

-- this head isn't skipped, and ends no line in which blanks are skipped
pub record IsHere (categories : List ℕ) (state : LineState) (head : Head) : Type 0 where
  pub ignored : slice_index categories head.code ≡ ignored → ⊥
  pub comment : slice_index categories head.code ≡ comment → ⊥
  pub space : slice_index categories head.code ≡ space → state ≡ Middle
  pub line_end : slice_index categories head.code ≡ end_of_line → state ≡ SkipBlanks → ⊥

-- what the line gives begins with this head
pub record Begins (categories line : List ℕ) (state : LineState) (head : Head) : Type 0 where
  pub gives : lexed categories state line ≡ by_head categories state (lexed categories state) (head.code ∷ drop head.next line)
  pub here : IsHere categories state head
  pub further : 0 < head.next
  pub within : head.next ≤ length line

-- the name that this letter begins, before these bytes
abbrev pub named : List ℕ → ℕ → List ℕ → Lexed
named categories c line = Gives (name_of_letters (c ∷ letters categories line)) SkipBlanks (behind_letters categories line)

-- at the end this line is used up, and its state stays
abbrev pub UsesUpAs : ℕ → LineState → LineState → ℕ → answers.Lexed → Type 0
UsesUpAs size state behind next End = (behind ≡ state) × (next ≡ size)
UsesUpAs size state behind next x = Unit {0}

abbrev pub UsesUp : ℕ → LineState → Answer → Type 0
UsesUp size state answer = UsesUpAs size state answer.state answer.next answer.lexed
