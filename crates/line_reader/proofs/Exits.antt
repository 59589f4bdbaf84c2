-- How the reading of a line ends.
use Rattle.std.proofs.Common.{◌≡◌, ◌≢◌, ℕ, ◌+◌, ◌-◌, ◌*◌, ◌<◌, ◌≤◌, Bool, false, true, List, [], ◌∷◌, ◌++◌, length, refl, ap, sym, ◌∙◌, subst, arith}
use Rattle.std.specs.Prelude.{Some, None, if◌then◌else◌, MatchBool}
use Rattle.std.proofs.lemmas.List.{append-nil, length-append}
use Rattle.tex_defs.specs.Places.{Rose}
use Rattle.tex_defs.specs.declared.Full.{Full as FullTable}
use Rattle.tex_defs.specs.declared.Stop.{Stop}
use Rattle.tex_defs.specs.declared.Stop.TheVariants.{Full, ReadFault, NoMemory}
use Rattle.plain_tokens.specs.Lines.{has_feed, before_feed, behind_feed, without_last, first_bytes, first_line, trimmed}
use Rattle.world_io.specs.Contents.{FilesTold, SameFiles, IsAtEnd}
use Rattle.line_reader.specs.Ahead.{ahead_of, with_ahead}
use Rattle.line_reader.specs.OpenLines.{OpenLines, used, held, part_read, line_opened, read_ahead, refusal, buffer_full}
use Rattle.line_reader.specs.Reading.{CameIn, sure_bytes, HasRoom, TakesLine, FindsEnd, Cause, IsRefused}
use Rattle.line_reader.proofs.LineEnds.{without_short}
use Rattle.line_reader.proofs.Parts.{has-append, before-append, behind-append, before-whole, behind-whole, first_with, first_without, came_same}
use Rattle.line_reader.proofs.AheadOf.{ahead-with}
use Rattle.line_reader.proofs.Views.{room}
use Rattle.line_reader.proofs.Going.{Going, tail_is, left_is, used_is, size_is, part_again, refused_is}

free : (b : OpenLines) (need : ℕ) → refusal b need ≡ None → used b + need ≤ b.buffer_size
free b need none = room b need (λ full e. let h : None ≡ Some full = sym none ∙ e in absurd (cc))

some_feed : (xs : List ℕ) → has_feed xs ≡ true → xs ≡ [] → ⊥
some_feed xs h e = let g : false ≡ true = sym (ap has_feed e) ∙ h in absurd (cc)

nothing_first : (xs ys : List ℕ) → xs ++ ys ≡ [] → xs ≡ []
nothing_first [] ys e = refl
nothing_first (x ∷ xs) ys e = absurd (cc)

nothing_second : (xs ys : List ℕ) → xs ++ ys ≡ [] → ys ≡ []
nothing_second [] ys e = e
nothing_second (x ∷ xs) ys e = absurd (cc)

module _ (id : ℕ) (f : FilesTold) (b : OpenLines) (f' : FilesTold) (b' : OpenLines) (g : Going id f b f' b') where
  abbrev Whole : List ℕ
  Whole = held b id ++ g.got

  abbrev Taken : List ℕ
  Taken = b'.tail ++ before_feed (ahead_of id b'.ahead)

  abbrev Left : List ℕ
  Left = behind_feed (ahead_of id b'.ahead)

  abbrev Front : List ℕ
  Front = g.front ++ g.left

  before_is : before_feed Whole ≡ Taken
  before_is =
      let e : before_feed Whole ≡ before_feed Front = ap before_feed (sym g.kept) in
      e ∙ before-append g.front g.left g.no_feed ∙ ap (λ (xs : List ℕ). g.front ++ before_feed xs) (sym (left_is id f b f' b' g)) ∙ ap (λ (xs : List ℕ). xs ++ before_feed (ahead_of id b'.ahead)) (sym (tail_is id f b f' b' g))

  behind_is : behind_feed Whole ≡ Left
  behind_is =
      let e : behind_feed Whole ≡ behind_feed Front = ap behind_feed (sym g.kept) in
      e ∙ behind-append g.front g.left g.no_feed ∙ ap behind_feed (sym (left_is id f b f' b' g))

  feed_is : has_feed Whole ≡ has_feed (ahead_of id b'.ahead)
  feed_is =
      let e : has_feed Whole ≡ has_feed Front = ap has_feed (sym g.kept) in
      e ∙ has-append g.front g.left g.no_feed ∙ ap has_feed (sym (left_is id f b f' b' g))

  -- a line feed ends the line
  pub takes_feed : (b2 b3 : OpenLines) → has_feed (ahead_of id b'.ahead) ≡ true → refusal b' (length (without_last 13 Taken) + 1) ≡ None → b2 ≡ part_read id Taken Left b' → b3 ≡ line_opened (trimmed (without_last 13 b2.tail)) b2 → TakesLine id f b f' b3
  takes_feed b2 b3 feed none after2 after3 =
      let feed' : has_feed Whole ≡ true = feed_is ∙ feed in
      let bytes : first_bytes Whole ≡ without_last 13 Taken = first_with Whole feed' ∙ ap (without_last 13) before_is in
      let fits : used b' + (length (without_last 13 Taken) + 1) ≤ b'.buffer_size = free b' _ none in
      let n : length (first_bytes Whole) ≡ length (without_last 13 Taken) = ap length bytes in
      let e2 : b2 ≡ part_read id Taken Left b = after2 ∙ part_again id f b f' b' g Taken Left in
      let e3 : b3 ≡ line_opened (trimmed (without_last 13 Taken)) (read_ahead id Left b) = after3 ∙ ap (λ (x : OpenLines). line_opened (trimmed (without_last 13 x.tail)) x) e2 in
      record {
        got = g.got;
        came = g.came;
        not_empty = λ e. some_feed Whole feed' e;
        whole = λ e. let h : false ≡ true = sym e ∙ feed' in absurd (cc);
        room = omega (arith, fits, n, used_is id f b f' b' g, size_is id f b f' b' g);
        after = e3 ∙ ap (λ (xs : List ℕ). line_opened (trimmed xs) (read_ahead id Left b)) (sym bytes) ∙ ap (λ (xs : List ℕ). line_opened (first_line Whole) (read_ahead id xs b)) (sym behind_is);
      }

  -- the bytes known to be the line's are too many
  pub refused_full : (b2 : OpenLines) (full : FullTable) → refusal b' (length (without_last 13 Taken) + 1) ≡ Some full → b2 ≡ b' → IsRefused id (Full full) f b f' b2
  refused_full b2 full e same =
      let r : (full ≡ buffer_full b') × (b'.buffer_size < used b' + (length (without_last 13 Taken) + 1)) = refused_is b' _ full e in
      let n : length (without_last 13 (before_feed Whole)) ≡ length (without_last 13 Taken) = ap (λ (xs : List ℕ). length (without_last 13 xs)) before_is in
      record {
        got = g.got;
        came = g.came;
        front = g.front;
        bytes = g.left;
        kept = g.kept;
        after = same ∙ g.after;
        ended = false;
        at_end = λ h. absurd (cc);
        cause = (r.0 ∙ ap buffer_full g.after, omega (arith, r.1, n, used_is id f b f' b' g, size_is id f b f' b' g));
      }

  -- where nothing is ahead, what has come in is the part
  all_is : ahead_of id b'.ahead ≡ [] → Whole ≡ b'.tail
  all_is none = sym g.kept ∙ ap (λ (xs : List ℕ). g.front ++ xs) (sym (left_is id f b f' b' g) ∙ none) ∙ append-nil g.front ∙ sym (tail_is id f b f' b' g)

  no_feed_in : ahead_of id b'.ahead ≡ [] → has_feed Whole ≡ false
  no_feed_in none = feed_is ∙ ap has_feed none

  pub refused_fault : (f2 : FilesTold) (b2 : OpenLines) (stop : Stop) → SameFiles f' f2 → b2 ≡ b' → Cause stop f f2 b false Whole → IsRefused id stop f b f2 b2
  refused_fault f2 b2 stop files same cause = record {
    got = g.got;
    came = came_same id g.got f f' f2 g.came files;
    front = g.front;
    bytes = g.left;
    kept = g.kept;
    after = same ∙ g.after;
    ended = false;
    at_end = λ h. absurd (cc);
    cause = cause;
  }

  sure_room : ahead_of id b'.ahead ≡ [] → used b' + (length (without_last 13 b'.tail) + 1) ≤ b'.buffer_size → HasRoom b (sure_bytes false Whole)
  sure_room none fits =
      let n : length (without_last 13 (before_feed Whole)) ≡ length (without_last 13 b'.tail) = ap (λ (xs : List ℕ). length (without_last 13 xs)) (before-whole Whole (no_feed_in none) ∙ all_is none) in
      omega (arith, n, fits, used_is id f b f' b' g, size_is id f b f' b' g)

  pub refused_read : (f2 : FilesTold) (b2 : OpenLines) → SameFiles f' f2 → b2 ≡ b' → ahead_of id b'.ahead ≡ [] → used b' + (length (without_last 13 b'.tail) + 1) ≤ b'.buffer_size → Rose f'.read_faults f2.read_faults → IsRefused id ReadFault f b f2 b2
  refused_read f2 b2 files same none fits rose = refused_fault f2 b2 ReadFault files same (omega (arith, g.faults, rose), sure_room none fits)

  pub refused_memory : (f2 : FilesTold) (b2 : OpenLines) → SameFiles f' f2 → b2 ≡ b' → ahead_of id b'.ahead ≡ [] → used b' + (length (without_last 13 b'.tail) + 1) ≤ b'.buffer_size → Rose f'.wants f2.wants → IsRefused id NoMemory f b f2 b2
  refused_memory f2 b2 files same none fits rose = refused_fault f2 b2 NoMemory files same (omega (arith, g.wants, rose), sure_room none fits)

  -- the file's end ends the line, or there is none
  pub ended_so : (b2 : OpenLines) (line : Bool) → ahead_of id b'.ahead ≡ [] → IsAtEnd (f'.rest id) → MatchBool line ((b'.tail ≢ []) × (refusal b' (length b'.tail + 1) ≡ None)) (b'.tail ≡ []) →
      b2 ≡ (if line then line_opened (trimmed b'.tail) b' else record b' { tail = []; part_of = None }) → MatchBool line (TakesLine id f b f' b2) (FindsEnd id f b f' b2)
  ended_so b2 true none ended h after =
      let bytes : first_bytes Whole ≡ b'.tail = first_without Whole (no_feed_in none) ∙ all_is none in
      let n : length (first_bytes Whole) ≡ length b'.tail = ap length bytes in
      let fits : used b' + (length b'.tail + 1) ≤ b'.buffer_size = free b' _ h.1 in
      let behind : behind_feed Whole ≡ [] = behind-whole Whole (no_feed_in none) in
      let left : g.left ≡ [] = sym (left_is id f b f' b' g) ∙ none in
      record {
        got = g.got;
        came = g.came;
        not_empty = λ e. h.0 (sym (all_is none) ∙ e);
        whole = λ e. ended;
        room = omega (arith, fits, n, used_is id f b f' b' g, size_is id f b f' b' g);
        after = after ∙ ap (λ (x : OpenLines). line_opened (trimmed b'.tail) x) g.after ∙ ap (λ (xs : List ℕ). line_opened (trimmed xs) (read_ahead id g.left b)) (sym bytes) ∙ ap (λ (xs : List ℕ). line_opened (first_line Whole) (read_ahead id xs b)) (left ∙ sym behind);
      }
  ended_so b2 false none ended h after =
      let nothing : Whole ≡ [] = all_is none ∙ h in
      let left : g.left ≡ [] = sym (left_is id f b f' b' g) ∙ none in
      record {
        came = subst (λ (xs : List ℕ). CameIn id xs f f') (nothing_second (held b id) g.got nothing) g.came;
        none = nothing_first (held b id) g.got nothing;
        ended = ended;
        after = after ∙ ap (λ (x : OpenLines). record x { tail = []; part_of = None }) g.after ∙ ap (λ (xs : List ℕ). read_ahead id xs b) left;
      }

  pub refused_end : (b2 : OpenLines) (full : FullTable) → ahead_of id b'.ahead ≡ [] → IsAtEnd (f'.rest id) → refusal b' (length b'.tail + 1) ≡ Some full → b2 ≡ b' → IsRefused id (Full full) f b f' b2
  refused_end b2 full none ended e same =
      let r : (full ≡ buffer_full b') × (b'.buffer_size < used b' + (length b'.tail + 1)) = refused_is b' _ full e in
      let n : length (first_bytes Whole) ≡ length b'.tail = ap length (first_without Whole (no_feed_in none) ∙ all_is none) in
      record {
        got = g.got;
        came = g.came;
        front = g.front;
        bytes = g.left;
        kept = g.kept;
        after = same ∙ g.after;
        ended = true;
        at_end = λ h. ended;
        cause = (r.0 ∙ ap buffer_full g.after, omega (arith, r.1, n, used_is id f b f' b' g, size_is id f b f' b' g));
      }

  -- the room that is known once the bytes ahead have come into the part
  pub room_on : (b2 : OpenLines) → refusal b' (length (without_last 13 Taken) + 1) ≡ None → b2 ≡ part_read id Taken Left b' → used b2 + (length (without_last 13 b2.tail) + 1) ≤ b2.buffer_size
  room_on b2 none after = subst (λ (x : OpenLines). used x + (length (without_last 13 x.tail) + 1) ≤ x.buffer_size) (sym after) (free b' _ none)

  pub ahead_on : (b2 : OpenLines) → b2 ≡ part_read id Taken Left b' → has_feed (ahead_of id b'.ahead) ≡ false → ahead_of id b2.ahead ≡ []
  ahead_on b2 after none = ap (λ (x : OpenLines). ahead_of id x.ahead) (after ∙ part_again id f b f' b' g Taken Left) ∙ ahead-with id Left b.ahead ∙ behind-whole (ahead_of id b'.ahead) none

  less : (s t l t2 a2 : ℕ) → t2 ≡ t + l → t2 ≤ s → 0 < a2 → 2 * (s - t2) + (1 - a2) < 2 * (s - t) + (1 - l)
  less s t l t2 a2 e le lt = omega arith

  pub smaller : (b2 b3 : OpenLines) → b2 ≡ part_read id Taken Left b' → has_feed (ahead_of id b'.ahead) ≡ false → used b2 + (length (without_last 13 b2.tail) + 1) ≤ b2.buffer_size → b3 ≡ record b2 { ahead = with_ahead id (ahead_of id b3.ahead) b2.ahead } → 0 < length (ahead_of id b3.ahead) →
      2 * (b3.buffer_size - length b3.tail) + (1 - length (ahead_of id b3.ahead)) < 2 * (b'.buffer_size - length b'.tail) + (1 - length (ahead_of id b'.ahead))
  smaller b2 b3 after none fits after3 some =
      let s3 : b3.buffer_size ≡ b'.buffer_size = ap (λ (x : OpenLines). x.buffer_size) after3 ∙ ap (λ (x : OpenLines). x.buffer_size) after in
      let s2 : b2.buffer_size ≡ b'.buffer_size = ap (λ (x : OpenLines). x.buffer_size) after in
      let t2 : b2.tail ≡ Taken = ap (λ (x : OpenLines). x.tail) after in
      let t3 : b3.tail ≡ b2.tail = ap (λ (x : OpenLines). x.tail) after3 in
      let n : length b2.tail ≡ length b'.tail + length (ahead_of id b'.ahead) = ap length (t2 ∙ ap (λ (xs : List ℕ). b'.tail ++ xs) (before-whole (ahead_of id b'.ahead) none)) ∙ length-append b'.tail (ahead_of id b'.ahead) in
      let le : length b2.tail ≤ b'.buffer_size = omega (arith, fits, s2, without_short 13 b2.tail) in
      let l : 2 * (b'.buffer_size - length b2.tail) + (1 - length (ahead_of id b3.ahead)) < 2 * (b'.buffer_size - length b'.tail) + (1 - length (ahead_of id b'.ahead)) = less b'.buffer_size (length b'.tail) (length (ahead_of id b'.ahead)) (length b2.tail) (length (ahead_of id b3.ahead)) n le some in
      rw (s3, t3) l
