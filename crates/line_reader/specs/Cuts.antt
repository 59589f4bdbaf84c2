-- How open lines lie in memory: one list of bytes, and where each line begins, innermost first.
use Rattle.std.specs.Prelude.{◌≡◌, ℕ, ◌+◌, ◌-◌, ◌≤◌, ◌<◌, ◌^◌, false, List, [], ◌∷◌, length, take, drop, reverse, Option, Some, None}
use Rattle.plain_tokens.specs.Lines.{has_feed}
use Rattle.line_reader.specs.Ahead.{Ahead}
use Rattle.line_reader.specs.OpenLines.{OpenLines}

-- the lines that begin at these places, the first of which ends at `end`, each other where the one before it begins
unfoldable pub cut : List ℕ → ℕ → List ℕ → List (List ℕ)
cut bytes last [] = []
cut bytes last (start ∷ starts) = take (last - start) (drop start bytes) ∷ cut bytes start starts

-- each line begins where the next outer one ends, and the outermost at 0
unfoldable pub AreCut : ℕ → List ℕ → Type 0
AreCut last [] = last ≡ 0
AreCut last (start ∷ starts) = (start ≤ last) × AreCut start starts

abbrev pub lines_of : List ℕ → List ℕ → ℕ → Option ℕ → List Ahead → ℕ → ℕ → OpenLines
lines_of bytes starts behind part_of ahead size levels = record {
  lines = cut bytes behind (reverse starts);
  tail = drop behind bytes;
  part_of = part_of;
  ahead = ahead;
  buffer_size = size;
  text_input_levels = levels;
}

-- a part of a line has no line feed
abbrev pub HasNoFeed : Option ℕ → List ℕ → Type 0
HasNoFeed None tail = Unit {0}
HasNoFeed (Some reader) tail = has_feed tail ≡ false

pub record IsSound (bytes starts : List ℕ) (behind : ℕ) (part_of : Option ℕ) (ahead : List Ahead) (size levels byte_room start_room window_room : ℕ) : Type 0 where
  pub are_cut : AreCut behind (reverse starts)
  pub within : behind ≤ length bytes
  pub fits : length bytes + length starts ≤ size
  pub no_feed : HasNoFeed part_of (drop behind bytes)
  pub readers_fit : length ahead ≤ levels + 16
  pub small : size < 2 ^ 32
  pub bytes_reserved : size ≤ byte_room
  pub starts_reserved : size ≤ start_room
  pub windows_reserved : levels + 16 ≤ window_room
