-- What is left of the files that are open.
use Rattle.std.specs.Prelude.{ℕ, ◌+◌, List, [], ◌∷◌, ◌++◌, drop, Bool, true, false, ◌&&◌, not, Option, None, Some}
use Rattle.input_state.specs.BytesLeft.{lacks_feed}
use Rattle.plain_tokens.specs.Pending.{Progress, Begun, Closed, next_number}
use Rattle.input_state.specs.declared.file.Step.{Step}
use Rattle.input_state.specs.declared.file.Step.TheVariants as step

-- A file that is begun: its line's length as it was taken, the bytes behind the lines that were taken, the line's number, and
-- whether the file ends behind this line.
pub record FileLeft : Type 0 where
  pub whole : ℕ
  pub rest : List ℕ
  pub number : ℕ
  pub ends : Bool

pub record FilesLeft : Type 0 where
  -- those that are begun, innermost first
  pub files : List FileLeft
  -- the bytes that came of a file that was opened and isn't begun
  pub next : Option (List ℕ)
  -- more bytes than these are too many for a line
  pub buffer_size : ℕ
  -- how many may be open
  pub levels : ℕ

-- THE INNERMOST FILE

abbrev pub no_file : FileLeft
no_file = record { whole = 0; rest = []; number = 0; ends = false }

abbrev pub innermost : List FileLeft → FileLeft
innermost [] = no_file
innermost (f ∷ fs) = f

abbrev pub progress_of : List FileLeft → Progress
progress_of [] = Closed
progress_of (f ∷ fs) = Begun

-- where the rooms of the files' lines end in the buffer: a line has a byte more, for its end character
abbrev pub rooms_end : List FileLeft → ℕ
rooms_end [] = 0
rooms_end (f ∷ fs) = (1 + f.whole) + rooms_end fs

-- what the file gives, where its line is used up
abbrev pub file_step : (ends : Bool) → (rest : List ℕ) → Step
file_step true rest = step.Over
file_step false [] = step.Over
file_step false (c ∷ cs) = step.Line

abbrev pub step_of : List FileLeft → Step
step_of [] = step.Nothing
step_of (f ∷ fs) = file_step f.ends f.rest

-- whether the next line isn't known yet
abbrev pub lacks_next : List FileLeft → (size : ℕ) → Bool
lacks_next [] size = false
lacks_next (f ∷ fs) size = not f.ends && lacks_feed f.rest size

-- whether the first line of the file that was opened isn't
abbrev pub lacks_first : Option (List ℕ) → (size : ℕ) → Bool
lacks_first None size = false
lacks_first (Some bytes) size = lacks_feed bytes size

-- WHAT BECOMES OF IT

abbrev pub add_bytes : List ℕ → List FileLeft → List FileLeft
add_bytes bytes [] = []
add_bytes bytes (f ∷ fs) = record f { rest = f.rest ++ bytes } ∷ fs

-- the next line of this length was taken, with so many bytes
abbrev pub pass_line : (whole used : ℕ) → List FileLeft → List FileLeft
pass_line whole used [] = []
pass_line whole used (f ∷ fs) = record { whole = whole; rest = drop used f.rest; number = next_number f.number; ends = f.ends } ∷ fs

-- the first line of a file of these bytes was taken
abbrev pub begun_file : (whole used : ℕ) → List ℕ → FileLeft
begun_file whole used bytes = record { whole = whole; rest = drop used bytes; number = 1; ends = false }

-- the file ends behind its line
abbrev pub end_input : List FileLeft → List FileLeft
end_input [] = []
end_input (f ∷ fs) = record f { ends = true } ∷ fs

abbrev pub is_line : Step → Bool
is_line step.Nothing = false
is_line step.Over = false
is_line step.Line = true
