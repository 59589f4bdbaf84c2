-- The lines of the files, each in its room of the buffer, and what is pending of them.
use Rattle.std.proofs.Common.{◌≡◌, ℕ, zero, suc, ◌+◌, ◌-◌, ◌<◌, ◌≤◌, List, [], ◌∷◌, ◌++◌, length, take, drop, Option, None, refl, sym, ap, ap₂, ◌∙◌, subst, length-take, arith}
use Rattle.std.proofs.lemmas.List.{drop-take}
use Rattle.std.proofs.lemmas.List.Sums.{sum_by-cons}
use Rattle.plain_tokens.specs.Puts.{Put, put_levels}
use Rattle.plain_tokens.specs.Pending.{Pending, Source, Begun, beneath, outer_puts, all_puts}
use Rattle.plain_tokens.specs.Tables.{Demand, file_levels, outer_levels, begun_files, levels, level, line_room, lines_beneath, open_lines, opened_files, open_files}
use Rattle.tex_defs.specs.declared.Table.TheVariants.{InputStackSize}
use Rattle.line_lexer.specs.declared.Line.{Line}
use Rattle.line_lexer.specs.Answers.{rest_of}
use Rattle.input_state.specs.FileLeft.{FileLeft, FilesLeft, innermost, progress_of, rooms_end}
use Rattle.input_state.specs.HeldLists.{HeldLists, Covered, covered_puts, puts_held, level_held, line_rest, line_state, source_in, outer_in, pending_of, puts_beneath, over_held, AreInBuffer, GoFurther}
use Rattle.input_state.specs.InputViews.{stored_of, AreInRooms, IsTied}
use Rattle.input_state.specs.Stored.{Stored, spelt}

-- BYTES IN FRONT OF A PLACE

take_twice : (k n : ℕ) (bytes : List ℕ) → k ≤ n → take k (take n bytes) ≡ take k bytes
take_twice zero n bytes h = refl
take_twice (suc k) zero bytes h = absurd (omega (arith, h))
take_twice (suc k) (suc n) [] h = refl
take_twice (suc k) (suc n) (x ∷ xs) h = ap (λ (ys : List ℕ). x ∷ ys) (take_twice k n xs (omega (arith, h)))

pub same_front : (b d : List ℕ) (k n : ℕ) → k ≤ n → take n d ≡ take n b → take k d ≡ take k b
same_front b d k n h e = sym (take_twice k n d h) ∙ ap (take k) e ∙ take_twice k n b h

pub rest_same : (b d : List ℕ) (l : Line) (n : ℕ) → l.at ≤ l.end → l.end ≤ n → take n d ≡ take n b → rest_of d l ≡ rest_of b l
rest_same b d l n ordered within e =
    let k = l.end - l.at in
    sym (drop-take l.at k d) ∙ ap (drop l.at) (same_front b d (l.at + k) n (omega (arith, ordered, within)) e) ∙ drop-take l.at k b

take_front : (n : ℕ) (b cs : List ℕ) → n ≤ length b → take n (take n b ++ cs) ≡ take n b
take_front zero b cs within = refl
take_front (suc n) [] cs within = absurd (omega (arith, within))
take_front (suc n) (x ∷ b) cs within = ap (λ (ys : List ℕ). x ∷ ys) (take_front n b cs (omega (arith, within)))

drop_front : (n : ℕ) (b cs : List ℕ) → n ≤ length b → drop n (take n b ++ cs) ≡ cs
drop_front zero b cs within = refl
drop_front (suc n) [] cs within = absurd (omega (arith, within))
drop_front (suc n) (x ∷ b) cs within = drop_front n b cs (omega (arith, within))

-- bytes that were written behind a place
pub cut_front : (n m : ℕ) (b d cs : List ℕ) → n ≤ length b → take (n + m) d ≡ take n b ++ cs → (take n d ≡ take n b) × (take m (drop n d) ≡ cs)
cut_front n m b d cs within e = (
  sym (take_twice n (n + m) d (omega arith)) ∙ ap (take n) e ∙ take_front n b cs within,
  sym (drop-take n m d) ∙ ap (drop n) e ∙ drop_front n b cs within,
)

drop_both : (n : ℕ) (xs ys : List ℕ) → n ≤ length xs → drop n (xs ++ ys) ≡ drop n xs ++ ys
drop_both zero xs ys within = refl
drop_both (suc n) [] ys within = absurd (omega (arith, within))
drop_both (suc n) (x ∷ xs) ys within = drop_both n xs ys (omega (arith, within))

-- bytes that were written behind others
pub grown_behind : (start n k : ℕ) (b d more : List ℕ) → start + n ≤ length b → take (start + n + k) d ≡ take (start + n) b ++ more → take (n + k) (drop start d) ≡ take n (drop start b) ++ more
grown_behind start n k b d more within e =
    let all : start + (n + k) ≡ start + n + k = omega arith in
    sym (drop-take start (n + k) d)
    ∙ ap (λ (m : ℕ). drop start (take m d)) all
    ∙ ap (drop start) e
    ∙ drop_both start (take (start + n) b) more (omega (arith, within, length-take (start + n) b))
    ∙ ap (λ (xs : List ℕ). xs ++ more) (drop-take start n b)

-- bytes that are written back in place of all
take_all : (d more : List ℕ) → take (length d) (d ++ more) ≡ d
take_all [] more = refl
take_all (x ∷ d) more = ap (λ (xs : List ℕ). x ∷ xs) (take_all d more)

pub written : (n : ℕ) (d items : List ℕ) → length d ≡ n → take n (d ++ drop (length d) items) ≡ d
written n d items same = ap (λ (k : ℕ). take k (d ++ drop (length d) items)) (sym same) ∙ take_all d (drop (length d) items)

module _ (b d : List ℕ) where
  pub line_same : (cs : List Covered) (n : ℕ) → AreInBuffer cs n → take n d ≡ take n b → line_rest d cs ≡ line_rest b cs
  line_same [] n inside e = refl
  line_same (c ∷ cs) n inside e = rest_same b d c.line n inside.0 inside.1 e

  source_same : (puts : List Put) (cs : List Covered) (fs : List FileLeft) (n : ℕ) → AreInBuffer cs n → take n d ≡ take n b → source_in d puts cs fs ≡ source_in b puts cs fs
  source_same puts cs fs n inside e = ap (λ (l : List ℕ). record (source_in b puts cs fs) { line = l }) (line_same cs n inside e)

  pub outer_same : (cs : List Covered) (fs : List FileLeft) (n : ℕ) → AreInBuffer cs n → take n d ≡ take n b → outer_in d cs fs ≡ outer_in b cs fs
  outer_same [] fs n inside e = refl
  outer_same (c ∷ cs) fs n inside e =
      let front = same_front b d c.line.at n (omega (arith, inside.0, inside.1)) e in
      ap₂ (λ (x : Source) (xs : List Source). x ∷ xs) (source_same c.puts cs fs c.line.at inside.2 front) (outer_same cs (drop 1 fs) c.line.at inside.2 front)

  -- beneath the innermost line, whatever that is
  pub beneath_same : (c k : Covered) (cs : List Covered) (fs : List FileLeft) (n : ℕ) → c.puts ≡ k.puts → AreInBuffer cs n → take n d ≡ take n b → outer_in d (c ∷ cs) fs ≡ outer_in b (k ∷ cs) fs
  beneath_same c k cs fs n puts inside e =
      ap (λ (ps : List Put). source_in d ps cs fs ∷ outer_in d cs (drop 1 fs)) puts
      ∙ ap₂ (λ (x : Source) (xs : List Source). x ∷ xs) (source_same k.puts cs fs n inside e) (outer_same cs (drop 1 fs) n inside e)

  pub pending_same : (h : HeldLists) (fs : List FileLeft) (next : Option (List ℕ)) (n : ℕ) → AreInBuffer h.below n → take n d ≡ take n b → pending_of h d fs next ≡ pending_of h b fs next
  pending_same h fs next n inside e =
      ap₂ (λ (l : List ℕ) (outer : List Source). record (pending_of h b fs next) { line = l; outer = outer }) (line_same h.below n inside e) (outer_same h.below (drop 1 fs) n inside e)

-- LISTS IN FRONT

pub outer_puts_are : (b : List ℕ) (cs : List Covered) (fs : List FileLeft) → outer_puts (outer_in b cs fs) ≡ covered_puts cs
outer_puts_are b [] fs = refl
outer_puts_are b (c ∷ cs) fs = ap (λ (ps : List Put). c.puts ++ ps) (outer_puts_are b cs (drop 1 fs))

pub all_puts_are : (h : HeldLists) (b : List ℕ) (fs : List FileLeft) (next : Option (List ℕ)) → all_puts (pending_of h b fs next) ≡ puts_held h
all_puts_are h b fs next = ap (λ (ps : List Put). h.puts ++ ps) (outer_puts_are b h.below (drop 1 fs))

-- LEVELS

pub files_counted : (b : List ℕ) (cs : List Covered) (fs : List FileLeft) → length fs ≡ length cs → file_levels (progress_of fs) + outer_levels (outer_in b cs (drop 1 fs)) ≡ length cs
files_counted b [] [] same = refl
files_counted b [] (f ∷ fs) same = absurd (omega (arith, same))
files_counted b (c ∷ cs) [] same = absurd (omega (arith, same))
files_counted b (c ∷ cs) (f ∷ fs) same =
    omega (arith, files_counted b cs fs (omega (arith, same)), sum_by-cons (λ (s : Source). file_levels s.file) (source_in b c.puts cs fs) (outer_in b cs (drop 1 fs)))

pub begun_are : (h : HeldLists) (b : List ℕ) (fs : List FileLeft) (next : Option (List ℕ)) → length fs ≡ length h.below → begun_files (pending_of h b fs next) ≡ length h.below
begun_are h b fs next same = files_counted b h.below fs same

pub levels_are : (h : HeldLists) (b : List ℕ) (fs : List FileLeft) (next : Option (List ℕ)) → length fs ≡ length h.below → levels (pending_of h b fs next) ≡ put_levels (puts_held h) + length h.below
levels_are h b fs next same = omega (arith, ap put_levels (all_puts_are h b fs next), begun_are h b fs next same)

pub level_is : (h : HeldLists) (b : List ℕ) (fs : List FileLeft) (next : Option (List ℕ)) → length fs ≡ length h.below → level (pending_of h b fs next) ≡ level_held h
level_is h b fs next same = ap (λ (n : ℕ). let d : Demand = record { table = InputStackSize; used = n; need = 1 } in d) (levels_are h b fs next same)

-- ROOMS

rooms_counted : (b : List ℕ) (cs : List Covered) (fs : List FileLeft) → length fs ≡ length cs → line_room (progress_of fs) (innermost fs).whole + lines_beneath (outer_in b cs (drop 1 fs)) ≡ rooms_end fs
rooms_counted b [] [] same = refl
rooms_counted b [] (f ∷ fs) same = absurd (omega (arith, same))
rooms_counted b (c ∷ cs) [] same = absurd (omega (arith, same))
rooms_counted b (c ∷ cs) (f ∷ fs) same =
    omega (arith, rooms_counted b cs fs (omega (arith, same)), sum_by-cons (λ (s : Source). line_room s.file s.whole) (source_in b c.puts cs fs) (outer_in b cs (drop 1 fs)))

rooms_beneath : (b : List ℕ) (cs : List Covered) (fs : List FileLeft) → length fs ≡ length cs → lines_beneath (outer_in b cs (drop 1 fs)) ≡ rooms_end (drop 1 fs)
rooms_beneath b [] [] same = refl
rooms_beneath b [] (f ∷ fs) same = absurd (omega (arith, same))
rooms_beneath b (c ∷ cs) [] same = absurd (omega (arith, same))
rooms_beneath b (c ∷ cs) (f ∷ fs) same =
    omega (arith, rooms_counted b cs fs (omega (arith, same)), sum_by-cons (λ (s : Source). line_room s.file s.whole) (source_in b c.puts cs fs) (outer_in b cs (drop 1 fs)))

pub open_lines_are : (h : HeldLists) (b : List ℕ) (fs : List FileLeft) (next : Option (List ℕ)) → length fs ≡ length h.below → open_lines (pending_of h b fs next) ≡ rooms_end fs
open_lines_are h b fs next same = rooms_counted b h.below fs same

pub lines_beneath_are : (h : HeldLists) (b : List ℕ) (fs : List FileLeft) (next : Option (List ℕ)) → length fs ≡ length h.below → lines_beneath (pending_of h b fs next).outer ≡ rooms_end (drop 1 fs)
lines_beneath_are h b fs next same = rooms_beneath b h.below fs same

pub rooms_length : (cs : List Covered) (fs : List FileLeft) → AreInRooms cs fs → length fs ≡ length cs
rooms_length [] [] rooms = refl
rooms_length [] (f ∷ fs) rooms = absurd rooms
rooms_length (c ∷ cs) [] rooms = absurd rooms
rooms_length (c ∷ cs) (f ∷ fs) rooms = omega (arith, rooms_length cs fs rooms.3)

-- lines in their rooms stand one behind another
pub rooms_in : (cs : List Covered) (fs : List FileLeft) (n : ℕ) → AreInRooms cs fs → rooms_end fs ≤ n → AreInBuffer cs n
rooms_in [] [] n rooms within = tt
rooms_in [] (f ∷ fs) n rooms within = absurd rooms
rooms_in (c ∷ cs) [] n rooms within = absurd rooms
rooms_in (c ∷ cs) (f ∷ fs) n rooms within = (rooms.1, omega (arith, rooms.2, within), rooms_in cs fs c.line.at rooms.3 rooms.0)

pub rooms_further : (cs ks : List Covered) (fs : List FileLeft) → GoFurther cs ks → AreInRooms cs fs → AreInRooms ks fs
rooms_further [] ks fs further rooms = subst (λ (xs : List Covered). AreInRooms xs fs) (sym further) rooms
rooms_further (c ∷ cs) ks [] further rooms = absurd rooms
rooms_further (c ∷ cs) ks (f ∷ fs) further rooms =
    subst (λ (xs : List Covered). AreInRooms xs (f ∷ fs)) (sym further.is)
    (omega (arith, rooms.0, further.further.forward), further.further.in_order, omega (arith, rooms.2, further.further.same_end), rooms.3)

-- A FILE GOES

pub begun_some : (fs : List FileLeft) → progress_of fs ≡ Begun → 0 < length fs
begun_some [] is = cc
begun_some (f ∷ fs) is = omega arith

pub rooms_less : (fs : List FileLeft) → rooms_end (drop 1 fs) ≤ rooms_end fs
rooms_less [] = omega arith
rooms_less (f ∷ fs) = omega arith

over_source : (b : List ℕ) (bs : List Covered) (fs : List FileLeft) → 0 < length bs →
    ◌≡◌ {A = Pending} (record {
      puts = puts_beneath bs;
      line = line_rest b (drop 1 bs);
      lex = line_state (drop 1 bs);
      whole = (innermost fs).whole;
      rest = (innermost fs).rest;
      file = progress_of fs;
      number = (innermost fs).number;
      ends = (innermost fs).ends;
      outer = outer_in b (drop 1 bs) (drop 1 fs);
      next = None;
    }) (beneath (outer_in b bs fs))
over_source b [] fs some = absurd (omega (arith, some))
over_source b (c ∷ cs) fs some = refl

-- what is beneath it goes on
pub over_pending : (h : HeldLists) (b : List ℕ) (fs : List FileLeft) → 0 < length h.below → pending_of (over_held h) b (drop 1 fs) None ≡ beneath (outer_in b h.below (drop 1 fs))
over_pending h b fs some = over_source b h.below (drop 1 fs) some

-- BYTES BEHIND THE OPEN LINES

module _ (h : HeldLists) (b d : List ℕ) (f : FilesLeft) (tied : IsTied h b f) where
  -- what is pending is as it was
  pub bytes_pending : take (rooms_end f.files) d ≡ take (rooms_end f.files) b → pending_of h d f.files f.next ≡ pending_of h b f.files f.next
  bytes_pending e = pending_same b d h f.files f.next (rooms_end f.files) (rooms_in h.below f.files (rooms_end f.files) tied.lines (omega arith)) e

  pub bytes_others : (s : Stored) → stored_of h b f ≡ s → take (rooms_end f.files) d ≡ take (rooms_end f.files) b → stored_of h d f ≡ record s { buffer = d }
  bytes_others s is e = ap (λ (p : Pending). record (stored_of h b f) { pending = p; buffer = d }) (bytes_pending e) ∙ ap (λ (v : Stored). record v { buffer = d }) is

  -- where they end
  pub lines_end : (s : Stored) → stored_of h b f ≡ s → open_lines s.pending ≡ rooms_end f.files
  lines_end s is = sym (ap (λ (v : Stored). open_lines v.pending) is) ∙ open_lines_are h b f.files f.next (rooms_length h.below f.files tied.lines)

  -- a name that was spelt
  pub bytes_spelt : (n : ℕ) (name : List ℕ) → take n (drop (rooms_end f.files) d) ≡ name → spelt (stored_of h d f) n ≡ name
  bytes_spelt n name is = ap (λ (k : ℕ). take n (drop k d)) (open_lines_are h d f.files f.next (rooms_length h.below f.files tied.lines)) ∙ is

  -- the files that are open
  pub files_open : (s : Stored) → stored_of h b f ≡ s → opened_files f.next + length f.files ≡ open_files s.pending
  files_open s is =
      let same = rooms_length h.below f.files tied.lines in
      ap (λ (n : ℕ). opened_files f.next + n) (same ∙ sym (begun_are h b f.files f.next same)) ∙ ap (λ (v : Stored). open_files v.pending) is
