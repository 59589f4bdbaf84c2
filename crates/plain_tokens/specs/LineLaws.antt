-- What the lines of a file are, said without a rule of cutting.
use Rattle.std.specs.Prelude.{◌≡◌, ◌↔◌, ℕ, List, [], ◌∷◌, ◌++◌, All}
use Rattle.plain_tokens.specs.Lines.{line_feed, lines, first_line, behind_feed}

-- what ends a line in its file: a line feed, with or without a carriage return before it, or the file's end
pub data Ending : Type 0 where
  Feed : Ending
  ReturnFeed : Ending
  FileEnd : Ending

abbrev pub ending_bytes : Ending → List ℕ
ending_bytes Feed = line_feed ∷ []
ending_bytes ReturnFeed = 13 ∷ line_feed ∷ []
ending_bytes FileEnd = []

abbrev pub EndsWith : ℕ → List ℕ → Type 0
EndsWith d bytes = (front : List ℕ) × (bytes ≡ front ++ d ∷ [])

-- A file begins with this line, and has this rest behind it.
pub record Begins (file line rest : List ℕ) : Type 0 where
  pub spaces : List ℕ
  pub ending : Ending
  pub bytes : file ≡ line ++ spaces ++ ending_bytes ending ++ rest
  pub not_empty : file ≡ [] → ⊥
  pub one_line : All (λ c. c ≡ line_feed → ⊥) line
  pub are_spaces : All (λ c. c ≡ 32) spaces
  pub no_space_left : EndsWith 32 line → ⊥
  -- a carriage return before a line feed belongs to the ending
  pub no_return_left : ending ≡ Feed → EndsWith 13 (line ++ spaces) → ⊥
  pub last : ending ≡ FileEnd → rest ≡ []

-- These lines, each with its spaces and its ending, are the whole file.
abbrev pub AreLines : List ℕ → List (List ℕ) → Type 0
AreLines file [] = file ≡ []
AreLines file (line ∷ others) = (rest : List ℕ) × (Begins file line rest × AreLines rest others)

-- A file has exactly one list of lines, and `lines` gives it.
abbrev pub LinesAreTheFile : Type 0
LinesAreTheFile = (file : List ℕ) (all : List (List ℕ)) → AreLines file all ↔ (all ≡ lines file)

-- Line after line, each from what is behind the one before, they are the lines of the file.
abbrev pub LinesComeInTurn : Type 0
LinesComeInTurn = (file : List ℕ) → (file ≡ [] → ⊥) → lines file ≡ first_line file ∷ lines (behind_feed file)
