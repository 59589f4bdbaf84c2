-- What is left of the bytes of a file, which come by pieces.
use Rattle.std.specs.Prelude.{ℕ, ◌+◌, ◌≤◌, List, length, Bool, ◌&&◌, not, nat_le}
use Rattle.plain_tokens.specs.Lines.{has_feed}

-- the bytes that came and weren't read, and the buffer size
pub record BytesLeft : Type 0 where
  pub rest : List ℕ
  pub buffer_size : ℕ

pub record IsWithin (bytes : List ℕ) (next size room : ℕ) : Type 0 where
  pub inside : next ≤ length bytes
  -- there is room for a window of 256 bytes behind a line
  pub reserved : size + 256 ≤ room

-- whether the first line of these bytes isn't known yet: no line feed came, nor too many bytes for a line
abbrev pub lacks_feed : List ℕ → (size : ℕ) → Bool
lacks_feed bytes size = not (has_feed bytes) && nat_le (length bytes) size
