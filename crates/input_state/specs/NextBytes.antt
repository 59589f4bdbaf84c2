-- What the file's bytes that came tell of the next reading.
use Rattle.std.specs.Prelude.{◌≡◌, ◌≢◌, ℕ, ◌<◌, ◌≤◌, true, false, List, ◌++◌, length, None, Some}
use Rattle.std.specs.Option.{option_map}
use Rattle.plain_tokens.specs.Lines.{has_feed}
use Rattle.plain_tokens.specs.Pending.{Pending, Closed, pulled, takes_file}
use Rattle.input_state.specs.Stored.{Stored}

-- The next reading is known, whatever comes of the file: it isn't the file's, no file is open, the file is to end, the file's line
-- is whole, or it has too many bytes for the buffer.
pub data KnowsNext (s : Stored) : Type 0 where
  InFront : takes_file (pulled s.groups.now.categories s.pending) ≡ false → KnowsNext s
  NoFile : s.pending.file ≡ Closed → KnowsNext s
  Ends : s.pending.ends ≡ true → KnowsNext s
  HasLine : has_feed s.pending.rest ≡ true → KnowsNext s
  TooLong : s.sizes.buffer_size < length s.pending.rest → KnowsNext s

-- The next reading is the file's, which is open and goes on, and neither its line's end came nor too many bytes for the buffer.
pub record NeedsBytes (s : Stored) : Type 0 where
  pub at_file : takes_file (pulled s.groups.now.categories s.pending) ≡ true
  pub not_closed : s.pending.file ≢ Closed
  pub goes_on : s.pending.ends ≡ false
  pub no_line : has_feed s.pending.rest ≡ false
  pub few : length s.pending.rest ≤ s.sizes.buffer_size

-- these bytes of the file came
abbrev pub with_bytes : List ℕ → Pending → Pending
with_bytes bytes p = record p { rest = p.rest ++ bytes }

-- THE FIRST LINE OF A FILE THAT WAS OPENED

-- It is known, whatever comes of the file: none was opened, the line is whole, or it has too many bytes for the buffer.
pub data KnowsFirst (s : Stored) : Type 0 where
  NoNext : s.pending.next ≡ None → KnowsFirst s
  HasFirstLine : (bytes : List ℕ) → s.pending.next ≡ Some bytes → has_feed bytes ≡ true → KnowsFirst s
  FirstTooLong : (bytes : List ℕ) → s.pending.next ≡ Some bytes → s.sizes.buffer_size < length bytes → KnowsFirst s

-- A file was opened, and neither its first line's end came nor too many bytes for the buffer.
pub record NeedsFirst (s : Stored) : Type 0 where
  pub bytes : List ℕ
  pub is : s.pending.next ≡ Some bytes
  pub no_line : has_feed bytes ≡ false
  pub few : length bytes ≤ s.sizes.buffer_size

-- these bytes of it came
abbrev pub with_first_bytes : List ℕ → Pending → Pending
with_first_bytes bytes p = record p { next = option_map (λ b. b ++ bytes) p.next }
