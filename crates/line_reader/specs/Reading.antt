-- What a call on a reader's file takes in, and what becomes of the lines.
use Rattle.std.specs.Prelude.{◌≡◌, ◌≢◌, ℕ, ◌+◌, ◌<◌, ◌≤◌, Bool, true, false, List, [], ◌∷◌, ◌++◌, length, Option, Some, option_map, MatchBool, if◌then◌else◌}
use Rattle.tex_defs.specs.Places.{Rose}
use Rattle.tex_defs.specs.declared.Full.{Full as FullTable}
use Rattle.tex_defs.specs.declared.Stop.{Stop}
use Rattle.tex_defs.specs.declared.Stop.TheVariants.{Full, ReadFault, NoMemory}
use Rattle.world_io.specs.Contents.{FilesTold, SoFar, OnlyReads, SameFiles, IsAtEnd}
use Rattle.plain_tokens.specs.Lines.{has_feed, before_feed, behind_feed, without_last, first_bytes, first_line}
use Rattle.line_reader.specs.Ahead.{ahead_of, with_ahead}
use Rattle.line_reader.specs.OpenLines.{OpenLines, held, used, line_opened, read_ahead, part_read, buffer_full}

-- these bytes came from this reader, and nothing else of the files has changed
pub record CameIn (id : ℕ) (got : List ℕ) (f f' : FilesTold) : Type 0 where
  pub so_far : SoFar (f.rest id) got (f'.rest id)
  pub only : OnlyReads id f f'

-- The rest of a file, where it is told: what the buffer holds of it, and then what its reader has left.
abbrev pub rest_of : ℕ → FilesTold → OpenLines → Option (List ℕ)
rest_of id f b = option_map (λ left. held b id ++ left) (f.rest id)

-- The bytes known to be the first line's, of a file that begins with these. A carriage return at the end of them
-- isn't known to be, unless the file ends there.
abbrev pub sure_bytes : Bool → List ℕ → List ℕ
sure_bytes ended bytes = if ended then first_bytes bytes else without_last 13 (before_feed bytes)

-- a line with these bytes has room, before its spaces are cut
abbrev pub HasRoom : OpenLines → List ℕ → Type 0
HasRoom b bytes = used b + (length bytes + 1) ≤ b.buffer_size

abbrev pub LacksRoom : OpenLines → List ℕ → Type 0
LacksRoom b bytes = b.buffer_size < used b + (length bytes + 1)

-- The first line of what is held and what came in has become the innermost line, and what is behind it is read ahead.
pub record TakesLine (id : ℕ) (f : FilesTold) (b : OpenLines) (f' : FilesTold) (b' : OpenLines) : Type 0 where
  pub got : List ℕ
  pub came : CameIn id got f f'
  pub not_empty : held b id ++ got ≢ []
  -- the line ends with a line feed, or else with the file
  pub whole : has_feed (held b id ++ got) ≡ false → IsAtEnd (f'.rest id)
  pub room : HasRoom b (first_bytes (held b id ++ got))
  pub after : b' ≡ line_opened (first_line (held b id ++ got)) (read_ahead id (behind_feed (held b id ++ got)) b)

-- No line is left: nothing is held, nothing came in, and the file is at its end.
pub record FindsEnd (id : ℕ) (f : FilesTold) (b : OpenLines) (f' : FilesTold) (b' : OpenLines) : Type 0 where
  pub came : CameIn id [] f f'
  pub none : held b id ≡ []
  pub ended : IsAtEnd (f'.rest id)
  pub after : b' ≡ read_ahead id [] b

-- why a line isn't taken, where the file begins with these bytes: they are too many for the buffer, or a call on
-- the files failed or wanted memory, and they aren't too many
abbrev pub Cause : Stop → FilesTold → FilesTold → OpenLines → Bool → List ℕ → Type 0
Cause (Full full) f f' b ended bytes = (full ≡ buffer_full b) × LacksRoom b (sure_bytes ended bytes)
Cause ReadFault f f' b ended bytes = Rose f.read_faults f'.read_faults × HasRoom b (sure_bytes false bytes)
Cause NoMemory f f' b ended bytes = Rose f.wants f'.wants × HasRoom b (sure_bytes false bytes)
Cause other f f' b ended bytes = ⊥

-- No line is taken: what came in is held behind what was held, the front of it perhaps in the buffer.
pub record IsRefused (id : ℕ) (stop : Stop) (f : FilesTold) (b : OpenLines) (f' : FilesTold) (b' : OpenLines) : Type 0 where
  pub got : List ℕ
  pub came : CameIn id got f f'
  pub front : List ℕ
  pub bytes : List ℕ
  pub kept : front ++ bytes ≡ held b id ++ got
  pub after : b' ≡ part_read id front bytes b
  -- whether the file is known to end behind them
  pub ended : Bool
  pub at_end : ended ≡ true → IsAtEnd (f'.rest id)
  pub cause : Cause stop f f' b ended (held b id ++ got)

-- What came in is read ahead, and all else is as before; nothing is left exactly where nothing is held then.
pub record LooksAhead (id : ℕ) (none : Bool) (f : FilesTold) (b : OpenLines) (f' : FilesTold) (b' : OpenLines) : Type 0 where
  pub got : List ℕ
  pub came : CameIn id got f f'
  pub after : b' ≡ record b { ahead = with_ahead id (ahead_of id b.ahead ++ got) b.ahead }
  pub answer : MatchBool none ((held b id ++ got ≡ []) × IsAtEnd (f'.rest id)) (held b id ++ got ≢ [])

-- why it isn't known whether a line is left
abbrev pub LookCause : Stop → FilesTold → FilesTold → Type 0
LookCause ReadFault f f' = Rose f.read_faults f'.read_faults
LookCause NoMemory f f' = Rose f.wants f'.wants
LookCause other f f' = ⊥

-- A call on the files failed or wanted memory: the files and all that is held are as before.
pub record FailsToLook (id : ℕ) (stop : Stop) (f : FilesTold) (b : OpenLines) (f' : FilesTold) (b' : OpenLines) : Type 0 where
  pub files : SameFiles f f'
  pub after : b' ≡ record b { ahead = with_ahead id (ahead_of id b.ahead) b.ahead }
  pub cause : LookCause stop f f'

-- Where this is the rest of the file: its first line has become the innermost, and the rest is what is behind it.
pub record TakesFirst (id : ℕ) (rest : List ℕ) (b : OpenLines) (f' : FilesTold) (b' : OpenLines) : Type 0 where
  pub not_empty : rest ≢ []
  pub line : b'.lines ≡ first_line rest ∷ b.lines
  pub room : HasRoom b (first_bytes rest)
  pub behind : rest_of id f' b' ≡ Some (behind_feed rest)

-- Where this is the rest of the file: it is empty, and no line has been taken.
pub record HasNone (id : ℕ) (rest : List ℕ) (b : OpenLines) (f' : FilesTold) (b' : OpenLines) : Type 0 where
  pub empty : rest ≡ []
  pub lines : b'.lines ≡ b.lines
  pub behind : rest_of id f' b' ≡ Some []

-- Where this is the rest of the file: it is as before, no line has been taken, and the buffer size comes only
-- where the first line has no room.
pub record KeepsRest (id : ℕ) (rest : List ℕ) (stop : Stop) (b : OpenLines) (f' : FilesTold) (b' : OpenLines) : Type 0 where
  pub lines : b'.lines ≡ b.lines
  pub behind : rest_of id f' b' ≡ Some rest
  pub full : (full : FullTable) → stop ≡ Full full → LacksRoom b (first_bytes rest)
