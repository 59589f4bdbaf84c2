-- The files that are open, as what is left of them.
use Rattle.std.specs.Prelude.{◌≡◌, ℕ, ◌+◌, ◌≤◌, ◌<◌, ◌^◌, List, [], ◌∷◌, map, reverse, length, All, Option, None, Some, IfSome}
use Rattle.std.specs.Option.{option_map}
use Rattle.input_state.specs.BytesLeft.{BytesLeft}
use Rattle.input_state.specs.FileLeft.{FileLeft, FilesLeft, rooms_end}
use Rattle.input_state.specs.declared.file.OpenFile.{OpenFile}

abbrev pub left_of : OpenFile → FileLeft
left_of f = record { whole = f.whole; rest = f.bytes.rest; number = f.number; ends = f.ends }

-- innermost first
abbrev pub lefts : Option OpenFile → List OpenFile → List FileLeft
lefts None beneath = []
lefts (Some f) beneath = left_of f ∷ map left_of (reverse beneath)

abbrev pub files_left : Option OpenFile → List OpenFile → Option BytesLeft → (size levels : ℕ) → FilesLeft
files_left innermost beneath opened size levels = record { files = lefts innermost beneath; next = option_map (λ b. b.rest) opened; buffer_size = size; levels = levels }

-- 1 where there is one
abbrev pub count_of : {A : Type 0} → Option A → ℕ
count_of None = 0
count_of (Some x) = 1

-- none is beneath no file
abbrev pub HasInnermost : Option OpenFile → List OpenFile → Type 0
HasInnermost None beneath = beneath ≡ []
HasInnermost (Some f) beneath = Unit {0}

abbrev pub IsOfSize : ℕ → BytesLeft → Type 0
IsOfSize size b = b.buffer_size ≡ size

-- no byte of it is left
pub record IsSpare (size : ℕ) (b : BytesLeft) : Type 0 where
  pub sized : IsOfSize size b
  pub empty : b.rest ≡ []

-- The files have their rooms, the lines theirs in the buffer, and as many may be open as there are levels.
pub record AreOpen (innermost : Option OpenFile) (beneath : List OpenFile) (opened : Option BytesLeft) (spare : List BytesLeft) (lines size levels capacity spare_capacity : ℕ) : Type 0 where
  pub has : HasInnermost innermost beneath
  pub sized : IfSome innermost (λ f. IsOfSize size f.bytes)
  pub beneath_sized : All (λ f. IsOfSize size f.bytes) beneath
  pub opened_sized : IfSome opened (IsOfSize size)
  pub spares : All (IsSpare size) spare
  pub count : (count_of innermost + length beneath) + (count_of opened + length spare) ≡ levels
  pub lines_are : lines ≡ rooms_end (map left_of (reverse beneath))
  pub fits : rooms_end (lefts innermost beneath) ≤ size
  pub room : levels ≤ capacity
  pub spare_room : levels ≤ spare_capacity
  pub small : size < 2 ^ 32
  pub few : levels < 2 ^ 32
