-- Files that are opened by `\input`, and files that end.
use Rattle.std.specs.Prelude.{◌≡◌, ℕ, ◌+◌, ◌≤◌, Bool, true, false, List, [], ◌∷◌, ◌++◌, length, Option}
use Rattle.tex_defs.specs.Places.{World}
use Rattle.tex_defs.specs.declared.Sizes.{Sizes}
use Rattle.plain_tokens.specs.Tables.{open_lines}
use Rattle.line_reader.specs.Readers.{told_left}
use Rattle.plain_readings.specs.Readings.{Reading}
use Rattle.plain_machine.specs.declared.broken.Broken.{Broken}
use Rattle.plain_machine.specs.States.{State, Move, Closed, ListsEnded, Spelt, NameInProgress}
use Rattle.plain_machine.specs.Plan.{Page, given_back}
use Rattle.plain_machine.specs.Does.{Did}
use Rattle.plain_machine.specs.Extended.{Rests}
use Rattle.input_state.specs.Stored.{spelt}
use Rattle.engine_state.specs.declared.engine.Engine.{Engine}
use Rattle.engine_state.specs.Book.{Book, with_work}
use Rattle.engine_state.specs.CutReadings.{CutsIn}
use Rattle.engine_state.specs.Stands.{Stands, page_of, state_of}

-- the moves before a file of this name is looked for
abbrev pub input_front : Page → (give_back : Bool) → (name : List ℕ) → List Move
input_front page back name = given_back back page.last ++ (Spelt name ∷ Closed ∷ NameInProgress false ∷ ListsEnded ∷ [])

-- These moves are made, and this name is spelt in the buffer, with so many bytes.
pub record Sought (sizes : Sizes) (s : State) (e' : Engine) (book : Book) (w : World) (front : List Move) (name : List ℕ) (n : ℕ) : Type 0 where
  pub stands : Stands sizes e' book
  pub did : Did sizes s (state_of e' book) w w front
  pub spells : spelt e'.input n ≡ name
  pub room : open_lines e'.input.pending + n ≤ e'.input.sizes.buffer_size

-- The reading of a file's name ends: the token behind the name goes back, if it is to, and the name is spelt, with so many bytes.
abbrev pub SeeksFile : (e e' : Engine) → (give_back : Bool) → (name : List ℕ) → ℕ → Type 0
SeeksFile e e' back name n = (sizes : Sizes) (w : World) (book : Book) (r : Reading) (rs : List Reading) → Stands sizes e (with_work (r ∷ rs) book) →
    Sought sizes (state_of e (with_work (r ∷ rs) book)) e' (with_work rs book) w (input_front (page_of e book) back name) name n

-- It is cut off, whatever more was to come behind it.
abbrev pub CutsSeeking : (e e' : Engine) → (give_back : Bool) → (name : List ℕ) → Broken → Type 0
CutsSeeking e e' back name b = (sizes : Sizes) (w : World) (book : Book) (r : Reading) (rs : List Reading) (more : List Move) → Stands sizes e (with_work (r ∷ rs) book) →
    CutsIn sizes (state_of e (with_work (r ∷ rs) book)) e' w w (input_front (page_of e book) back name ++ more) b

-- a reader was closed that had these bytes left: nothing, where its file's end had come
abbrev pub told_by : (ended : Bool) → Option (List ℕ) → List ℕ
told_by true rest = []
told_by false rest = told_left rest

-- each reader that was closed had some bytes left
pub record AreGone (all left : Rests) (count : ℕ) : Type 0 where
  pub gone : List (List ℕ)
  pub whole : all ≡ record { left = gone ++ left.left; files = left.files }
  pub many : length gone ≡ count
