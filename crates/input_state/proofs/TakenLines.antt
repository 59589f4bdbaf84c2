-- A line of a file is taken.
use Rattle.std.proofs.Common.{◌≡◌, ℕ, ◌+◌, ◌-◌, ◌<◌, ◌≤◌, ℤ, pos, negsuc, List, [], ◌∷◌, length, take, drop, Option, None, Bool, true, false, refl, sym, ap, ap₂, ◌∙◌, subst, length-take, length-append, arith}
use Rattle.std.specs.Prelude.{nat_lt, if◌then◌else◌}
use Rattle.plain_tokens.specs.Lines.{first_line, behind_feed}
use Rattle.plain_tokens.specs.Printed.{character_of}
use Rattle.plain_tokens.specs.declared.line_state.LineState.{LineState}
use Rattle.plain_tokens.specs.Puts.{Put}
use Rattle.plain_tokens.specs.Pending.{Pending, Progress, Source, Begun, line_taken, on_next_line, on_first_line, with_end, line_ended, next_number}
use Rattle.line_lexer.specs.declared.Line.{Line}
use Rattle.plain_tokens.specs.declared.line_state.LineState.TheVariants.{NewLine}
use Rattle.line_lexer.specs.Answers.{rest_of}
use Rattle.input_state.specs.FileLeft.{FileLeft, FilesLeft, innermost, progress_of, rooms_end, pass_line, begun_file}
use Rattle.input_state.specs.HeldLists.{HeldLists, Covered, pending_of, outer_in, at_line, opened_over, puts_beneath, AreInBuffer, GoFurther}
use Rattle.input_state.specs.InputViews.{stored_of, AreInRooms, IsTied}
use Rattle.input_state.specs.Stored.{Stored}
use Rattle.input_state.specs.Reads.{TakesLine}
use Rattle.input_state.proofs.Rooms.{beneath_same, rooms_in, rooms_further}

-- a line of this length, whose room begins here
abbrev pub line_at : (start count : ℕ) → Line
line_at start count = record { at = start; end = start + count; state = NewLine }

-- THE LINE IN THE BUFFER

-- a line gets one character at most
by_code : (b : Bool) (n : ℕ) → length (if b then n ∷ [] else []) ≤ 1
by_code true n = omega arith
by_code false n = omega arith

one_at_most : (end : ℤ) → length (character_of end) ≤ 1
one_at_most (pos n) = by_code (nat_lt n 256) n
one_at_most (negsuc n) = omega arith

pub ended_length : (end : ℤ) (line : List ℕ) → length (line_ended end line) ≤ length line + 1
ended_length end line = omega (arith, one_at_most end, length-append line (character_of end))

pub line_stands : (bytes line : List ℕ) (start count : ℕ) → take count (drop start bytes) ≡ line → rest_of bytes (line_at start count) ≡ line
line_stands bytes line start count is =
    let whole : start + count - start ≡ count = omega arith in
    ap (λ (n : ℕ). take n (drop start bytes)) whole ∙ is

-- the length of what is kept is that of the line
pub kept_length : (bytes : List ℕ) (kept whole : ℕ) → kept ≤ whole → whole ≤ length bytes → take kept bytes ≡ first_line bytes → kept ≡ length (first_line bytes)
kept_length bytes kept whole fewer within is = omega (arith, ap length is, length-take kept bytes)

-- PARTS

pub went_on : (whole used : ℕ) (fs : List FileLeft) → 0 < length fs → pass_line whole used fs ≡ record { whole = whole; rest = drop used (innermost fs).rest; number = next_number (innermost fs).number; ends = (innermost fs).ends } ∷ drop 1 fs
went_on whole used [] some = absurd (omega (arith, some))
went_on whole used (f ∷ fs) some = refl

begun_at : (line : Line) (bs : List Covered) → 0 < length bs → at_line line bs ≡ record { line = line; puts = puts_beneath bs } ∷ drop 1 bs
begun_at line [] some = absurd (omega (arith, some))
begun_at line (b ∷ bs) some = refl

pub rooms_tail : (bs : List Covered) (fs : List FileLeft) → AreInRooms bs fs → AreInRooms (drop 1 bs) (drop 1 fs)
rooms_tail [] [] rooms = tt
rooms_tail [] (f ∷ fs) rooms = absurd rooms
rooms_tail (b ∷ bs) [] rooms = absurd rooms
rooms_tail (b ∷ bs) (f ∷ fs) rooms = rooms.3

-- what is beneath a line stays where another line begins
beneath_stays : (m d : List ℕ) (line : Line) (bs : List Covered) (fs : List FileLeft) (n : ℕ) → 0 < length bs → AreInBuffer (drop 1 bs) n → take n d ≡ take n m → outer_in d (record { line = line; puts = puts_beneath bs } ∷ drop 1 bs) fs ≡ outer_in m bs fs
beneath_stays m d line [] fs n some inside e = absurd (omega (arith, some))
beneath_stays m d line (b ∷ bs) fs n some inside e = beneath_same m d (record { line = line; puts = b.puts }) b bs fs n refl inside e

same_pending : (puts : List Put) (lex : LineState) (number : ℕ) (ends : Bool) (next : Option (List ℕ)) (l k : List ℕ) (w v : ℕ) (r s : List ℕ) (f g : Progress) (o p : List Source) → l ≡ k → w ≡ v → r ≡ s → f ≡ g → o ≡ p →
    ◌≡◌ {A = Pending} (record { puts = puts; line = l; lex = lex; whole = w; rest = r; file = f; number = number; ends = ends; outer = o; next = next }) (record { puts = puts; line = k; lex = lex; whole = v; rest = s; file = g; number = number; ends = ends; outer = p; next = next })
same_pending puts lex number ends next l k w v r s f g o p a b c d e = rw (a, b, c, d, e) refl

-- THE NEXT LINE OF THE FILE

module _ (h front now : HeldLists) (b m d : List ℕ) (count kept used : ℕ) (f g : FilesLeft) (front_is : front ≡ record h { puts = []; below = front.below; lists = front.lists }) (now_is : now ≡ record front { below = at_line (line_at (rooms_end (drop 1 f.files)) count) front.below }) (file_is : g ≡ record f { files = pass_line kept used f.files }) (further : GoFurther h.below front.below) (tied : IsTied h b f) (lines : 0 < length front.below) (files : 0 < length f.files) where
  start : ℕ
  start = rooms_end (drop 1 f.files)

  -- the file is at the line
  after_lists : HeldLists
  after_lists = record h { puts = []; below = record { line = line_at (rooms_end (drop 1 f.files)) count; puts = puts_beneath front.below } ∷ drop 1 front.below; lists = front.lists }

  now_at : now ≡ after_lists
  unfolding after_lists
  now_at =
      now_is
      ∙ ap (λ (bs : List Covered). record front { below = bs }) (begun_at (line_at (rooms_end (drop 1 f.files)) count) front.below lines)
      ∙ ap (λ (w : HeldLists). record w { below = record { line = line_at (rooms_end (drop 1 f.files)) count; puts = puts_beneath front.below } ∷ drop 1 front.below }) front_is

  after_files : List FileLeft
  after_files = record { whole = kept; rest = drop used (innermost f.files).rest; number = next_number (innermost f.files).number; ends = (innermost f.files).ends } ∷ drop 1 f.files

  file_at : g ≡ record f { files = after_files }
  unfolding after_files
  file_at = file_is ∙ ap (λ (fs : List FileLeft). record f { files = fs }) (went_on kept used f.files files)

  rooms_now : AreInRooms (drop 1 front.below) (drop 1 f.files)
  rooms_now = rooms_tail front.below f.files (rooms_further h.below front.below f.files further tied.lines)

  pub taken_tied : count ≤ kept + 1 → length d ≡ length b → rooms_end (drop 1 f.files) + (1 + kept) ≤ length b → IsTied now d g
  unfolding after_lists after_files
  taken_tied few same fits =
      let there : IsTied after_lists d (record f { files = after_files }) = record {
        lines = (omega arith, omega arith, omega (arith, few), rooms_now);
        room = omega (arith, same, fits);
        size = same ∙ tied.size;
        file_size = tied.file_size;
        file_levels = tied.file_levels;
      } in
      subst (λ (w : HeldLists). IsTied w d g) (sym now_at) (subst (λ (k : FilesLeft). IsTied after_lists d k) (sym file_at) there)

  pub taken_pending : (end : ℤ) (v : Stored) → stored_of h b f ≡ v → v.pending.file ≡ Begun → rest_of d (line_at (rooms_end (drop 1 f.files)) count) ≡ line_ended end (first_line (innermost f.files).rest) → kept ≡ length (first_line (innermost f.files).rest) → drop used (innermost f.files).rest ≡ behind_feed (innermost f.files).rest →
      take (rooms_end (drop 1 f.files)) d ≡ take (rooms_end (drop 1 f.files)) m → outer_in m front.below (drop 1 f.files) ≡ outer_in b h.below (drop 1 f.files) →
      TakesLine (line_taken v.pending v.pending.rest) end v.pending (pending_of now d g.files g.next)
  unfolding after_lists after_files
  taken_pending end v is begun line whole behind before beneath =
      let p = pending_of h b f.files f.next in
      let outer : outer_in d (record { line = line_at (rooms_end (drop 1 f.files)) count; puts = puts_beneath front.below } ∷ drop 1 front.below) (drop 1 f.files) ≡ outer_in b h.below (drop 1 f.files) =
      beneath_stays m d (line_at (rooms_end (drop 1 f.files)) count) front.below (drop 1 f.files) (rooms_end (drop 1 f.files)) lines (rooms_in (drop 1 front.below) (drop 1 f.files) (rooms_end (drop 1 f.files)) rooms_now (omega arith)) before ∙ beneath in
      let file : Begun ≡ progress_of f.files = sym (ap (λ (w : Stored). w.pending.file) is ∙ begun) in
      let there : pending_of now d g.files g.next ≡ with_end end (on_next_line (innermost f.files).rest p) =
      ap₂ (λ (w : HeldLists) (k : FilesLeft). pending_of w d k.files k.next) now_at file_at
      ∙ same_pending [] NewLine (next_number (innermost f.files).number) (innermost f.files).ends f.next _ _ _ _ _ _ _ _ _ _ line whole behind file outer in
      subst (λ (w : Stored). TakesLine (line_taken w.pending w.pending.rest) end w.pending (pending_of now d g.files g.next)) is
      (record {
        next = on_next_line (innermost f.files).rest p;
        is = refl;
        ended = there;
      })

-- THE FIRST LINE OF A FILE

module _ (h front now : HeldLists) (b d : List ℕ) (count kept used : ℕ) (bytes : List ℕ) (f g : FilesLeft) (front_is : front ≡ record h { lists = front.lists }) (now_is : now ≡ record (opened_over (line_at (rooms_end f.files) count) front) { lists = now.lists }) (file_is : g ≡ record f { files = begun_file kept used bytes ∷ f.files; next = None }) (tied : IsTied h b f) where
  begun_lists : HeldLists
  begun_lists = record h { puts = []; below = record { line = line_at (rooms_end f.files) count; puts = h.puts } ∷ h.below; lists = now.lists }

  over_at : now ≡ begun_lists
  unfolding begun_lists
  over_at =
      let ls = now.lists in
      now_is ∙ ap (λ (w : HeldLists). record (opened_over (line_at (rooms_end f.files) count) w) { lists = ls }) front_is

  pub begun_pending : (end : ℤ) → rest_of d (line_at (rooms_end f.files) count) ≡ line_ended end (first_line bytes) → kept ≡ length (first_line bytes) → drop used bytes ≡ behind_feed bytes → take (rooms_end f.files) d ≡ take (rooms_end f.files) b →
      pending_of now d g.files g.next ≡ with_end end (on_first_line bytes (pending_of h b f.files f.next))
  unfolding begun_lists
  begun_pending end line whole behind before =
      let c : Covered = record { line = line_at (rooms_end f.files) count; puts = h.puts } in
      let outer : outer_in d (c ∷ h.below) f.files ≡ outer_in b (c ∷ h.below) f.files = beneath_same b d c c h.below f.files (rooms_end f.files) refl (rooms_in h.below f.files (rooms_end f.files) tied.lines (omega arith)) before in
      ap₂ (λ (w : HeldLists) (k : FilesLeft). pending_of w d k.files k.next) over_at file_is
      ∙ same_pending [] NewLine 1 false None _ _ _ _ _ _ _ _ _ _ line whole behind refl outer

-- The lists in front and the line were read.
pub read_tied : (h now : HeldLists) (b c : List ℕ) (f : FilesLeft) (puts : List Put) → now ≡ record h { puts = puts; below = now.below; lists = now.lists } → GoFurther h.below now.below → length c ≡ length b → IsTied h b f → IsTied now c f
read_tied h now b c f puts is further same t = record {
  lines = rooms_further h.below now.below f.files further t.lines;
  room = omega (arith, t.room, same);
  size = same ∙ t.size ∙ sym (ap (λ (w : HeldLists). w.sizes.buffer_size) is);
  file_size = t.file_size ∙ sym (ap (λ (w : HeldLists). w.sizes.buffer_size) is);
  file_levels = t.file_levels ∙ sym (ap (λ (w : HeldLists). w.sizes.text_input_levels) is);
}
