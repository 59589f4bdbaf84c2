-- What an engine holds of its files, and whether it is enough.
use Rattle.std.specs.Prelude.{◌≡◌, ℕ, ◌+◌, ◌-◌, ◌||◌, Bool, true, false, List, [], ◌∷◌, length, Option, Some, None}
use Rattle.line_reader.specs.Readers.{OpenReader}
use Rattle.plain_tokens.specs.Pending.{Pending}
use Rattle.plain_machine.specs.Extended.{Rests, extended}
use Rattle.input_state.specs.NextBytes.{KnowsNext, NeedsBytes, KnowsFirst, NeedsFirst, with_bytes, with_first_bytes}
use Rattle.engine_state.specs.declared.engine.Engine.{Engine}
use Rattle.engine_state.specs.Book.{Book}
use Rattle.engine_state.specs.Stands.{state_of}
use Rattle.engine_state.specs.Steps.{stepping, asks_now, wants_token}

-- these bytes of the file came that gives the next line
abbrev pub came_in : Option (List ℕ) → List ℕ → Pending → Pending
came_in None bytes p = with_bytes bytes p
came_in (Some more) bytes p = with_first_bytes bytes p

abbrev pub given : List ℕ → Engine → Engine
given bytes e = record e { input = record e.input { pending = came_in e.input.pending.next bytes e.input.pending } }

-- The engine was given these bytes, and with what is left it stands for the same states as before with all.
pub record IsGiven (all left : Rests) (e e' : Engine) : Type 0 where
  pub bytes : List ℕ
  pub after : e' ≡ given bytes e
  pub same : (book : Book) → extended all (state_of e book) ≡ extended left (state_of e' book)

-- What the engine holds is enough for the next rule: its reading, or its first line, is known, the file's end has come, or it wants no token.
pub data Knows (e : Engine) (rs : List OpenReader) : Type 0 where
  IsNext : e.input.pending.next ≡ None → KnowsNext e.input → Knows e rs
  IsFirst : (bytes : List ℕ) → e.input.pending.next ≡ Some bytes → KnowsFirst e.input → Knows e rs
  HasEnded : (r : OpenReader) → (outer : List OpenReader) → rs ≡ r ∷ outer → r.ended ≡ true → Knows e rs
  WantsNone : e.input.pending.next ≡ None → wants_token (asks_now e) ≡ false → Knows e rs

-- bytes are needed: for the next reading, where a token is wanted, or for the first line of a file that was opened
pub data Lacks (e : Engine) : Type 0 where
  LacksLine : e.input.pending.next ≡ None → wants_token (asks_now e) ≡ true → NeedsBytes e.input → Lacks e
  LacksFirst : NeedsFirst e.input → Lacks e

-- and the file's end hasn't come
pub record Needs (e : Engine) (rs : List OpenReader) : Type 0 where
  pub lacks : Lacks e
  pub innermost : OpenReader
  pub outer : List OpenReader
  pub is : rs ≡ innermost ∷ outer
  pub goes_on : innermost.ended ≡ false

abbrev pub end_weight : Bool → ℕ
end_weight true = 0
end_weight false = 1

abbrev pub innermost_weight : List OpenReader → ℕ
innermost_weight [] = 0
innermost_weight (r ∷ rs) = end_weight r.ended

-- the bytes that came of the next line
abbrev pub coming : Option (List ℕ) → List ℕ → List ℕ
coming None rest = rest
coming (Some bytes) rest = bytes

-- how often the file may still be read for one line
abbrev pub read_weight : Engine → List OpenReader → ℕ
read_weight e rs = innermost_weight rs + ((e.input.sizes.buffer_size + 1) - length (coming e.input.pending.next e.input.pending.rest))

-- WHETHER THE NEXT RULE NEEDS A STEP

abbrev pub is_opened : Option (List ℕ) → Bool
is_opened None = false
is_opened (Some bytes) = true

-- the first line of a file is a step, or else what comes next
abbrev pub needs_step : Engine → Bool
needs_step e = is_opened e.input.pending.next || stepping e
