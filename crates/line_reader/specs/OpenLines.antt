-- The buffer as callers see it: the open lines, what stands behind them, and what is read ahead of each file.
use Rattle.std.specs.Prelude.{◌≡◌, ℕ, ◌+◌, ◌==◌, nat_lt, List, [], ◌∷◌, ◌++◌, length, Option, Some, None, if◌then◌else◌}
use Rattle.std.specs.List.{sum_by}
use Rattle.tex_defs.specs.declared.Full.{Full}
use Rattle.tex_defs.specs.declared.Table.TheVariants.{BufferSize}
use Rattle.line_reader.specs.Ahead.{Ahead, ahead_of, with_ahead, forgotten}

pub record OpenLines : Type 0 where
  -- the open lines, innermost first, each of the length that it had when it was taken
  pub lines : List (List ℕ)
  -- what stands behind them: a name being spelt, or the part of a line that a refused call has read
  pub tail : List ℕ
  -- the reader of whose line it is a part; none where it is a name
  pub part_of : Option ℕ
  -- for each reader that is begun and not forgotten, what is read ahead of it
  pub ahead : List Ahead
  pub buffer_size : ℕ
  pub text_input_levels : ℕ

abbrev pub no_lines : ℕ → ℕ → OpenLines
no_lines size levels = record { lines = []; tail = []; part_of = None; ahead = []; buffer_size = size; text_input_levels = levels }

-- the buffer size that is used: for each open line its bytes and 1
abbrev pub used : OpenLines → ℕ
used b = sum_by (λ line. length line + 1) b.lines

-- as many readers may be begun
abbrev pub most_readers : OpenLines → ℕ
most_readers b = b.text_input_levels + 16

abbrev pub part_for : Option ℕ → List ℕ → ℕ → List ℕ
part_for None tail id = []
part_for (Some reader) tail id = if reader == id then tail else []

-- the part of this reader's line that the buffer holds
abbrev pub part : OpenLines → ℕ → List ℕ
part b id = part_for b.part_of b.tail id

-- what the buffer holds of this reader's file: the part of a line, and what is read ahead
abbrev pub held : OpenLines → ℕ → List ℕ
held b id = part b id ++ ahead_of id b.ahead

abbrev pub name_in : Option ℕ → List ℕ → List ℕ
name_in None tail = tail
name_in (Some reader) tail = []

-- the name that is being spelt
abbrev pub spelt_name : OpenLines → List ℕ
spelt_name b = name_in b.part_of b.tail

-- Nothing stands behind the open lines but a part of this reader's line, if that.
abbrev pub HoldsNoOther : OpenLines → ℕ → Type 0
HoldsNoOther b id = b.tail ≡ part b id

-- Nothing stands behind the open lines but a name that is being spelt, if that.
abbrev pub HoldsNoPart : OpenLines → Type 0
HoldsNoPart b = b.tail ≡ spelt_name b

-- this line has become the innermost, and nothing stands behind it
abbrev pub line_opened : List ℕ → OpenLines → OpenLines
line_opened line b = record b { lines = line ∷ b.lines; tail = []; part_of = None }

-- nothing stands behind the open lines, and these bytes are read ahead of this reader
abbrev pub read_ahead : ℕ → List ℕ → OpenLines → OpenLines
read_ahead id bytes b = record b { tail = []; part_of = None; ahead = with_ahead id bytes b.ahead }

-- this part of the reader's line stands behind the open lines, and these bytes are read ahead
abbrev pub part_read : ℕ → List ℕ → List ℕ → OpenLines → OpenLines
part_read id front bytes b = record b { tail = front; part_of = Some id; ahead = with_ahead id bytes b.ahead }

abbrev pub others : List (List ℕ) → List (List ℕ)
others [] = []
others (line ∷ lines) = lines

abbrev pub first : List (List ℕ) → List ℕ
first [] = []
first (line ∷ lines) = line

-- the innermost line
abbrev pub innermost : OpenLines → List ℕ
innermost b = first b.lines

-- the innermost line is gone
abbrev pub line_dropped : OpenLines → OpenLines
line_dropped b = record b { lines = others b.lines }

-- the innermost line has these bytes
abbrev pub line_changed : List ℕ → OpenLines → OpenLines
line_changed line b = record b { lines = line ∷ others b.lines }

abbrev pub tail_without : Option ℕ → List ℕ → ℕ → List ℕ
tail_without None tail id = tail
tail_without (Some reader) tail id = if reader == id then [] else tail

abbrev pub part_without : Option ℕ → ℕ → Option ℕ
part_without None id = None
part_without (Some reader) id = if reader == id then None else Some reader

-- the part of this reader's line is gone
abbrev pub part_dropped : ℕ → OpenLines → OpenLines
part_dropped id b = record b { tail = tail_without b.part_of b.tail id; part_of = part_without b.part_of id }

-- nothing is held of this reader's file
abbrev pub reader_forgotten : ℕ → OpenLines → OpenLines
reader_forgotten id b = record (part_dropped id b) { ahead = forgotten id b.ahead }

-- the name that is being spelt has this byte more
abbrev pub byte_spelt : ℕ → OpenLines → OpenLines
byte_spelt byte b = record b { tail = b.tail ++ byte ∷ []; part_of = None }

abbrev pub part_in : Option ℕ → List ℕ → List ℕ
part_in None tail = []
part_in (Some reader) tail = tail

-- no name is being spelt
abbrev pub name_dropped : OpenLines → OpenLines
name_dropped b = record b { tail = part_in b.part_of b.tail }

abbrev pub buffer_full : OpenLines → Full
buffer_full b = record { table = BufferSize; used = used b; size = b.buffer_size }

-- the refusal where as many are needed as these: buffer size, where those that are used and these pass the size
abbrev pub refusal : OpenLines → ℕ → Option Full
refusal b need = if nat_lt b.buffer_size (used b + need) then Some (buffer_full b) else None
