-- What is being read at a check, by the frames.
use Rattle.std.proofs.Common.{◌≡◌, ◌<◌, ℕ, ◌+◌, suc, Bool, true, false, List, [], ◌∷◌, length, take, drop, get_or, reverse, Option, Some, None, arith, refl, sym, subst, ap, ◌∙◌}
use Rattle.std.proofs.Math.Seq.{take-suc, take-length}
use Rattle.std.proofs.lemmas.List.{drop-drop, reverse-append}
use Rattle.tex_defs.specs.declared.Token.{Token}
use Rattle.rows.specs.Table.{reads_under_normal}
use Rattle.plain_readings.specs.Readings.{Reading, lists}
use Rattle.plain_readings.specs.Scanning.{Status, Scans, SkipsText, Unguarded, Inherits, command_status, Scanning, list_on_top, scanned_at, innermost_scanned, scanning}
use Rattle.plain_readings.specs.Scanning as machine
use Rattle.reading_frames.specs.Views.{Lists, top_list}
use Rattle.reading_frames.specs.Resumes.{list_count, frame_status, read_at, reads_unguarded}
use Rattle.reading_frames.specs.Frames.{AreFramesOf}
use Rattle.reading_frames.specs.Stack.{found_at, innermost_found, unless_unguarded, found_in, scanning_of}
use Rattle.reading_frames.specs.declared.ask.Found.{Found}
use Rattle.reading_frames.specs.declared.skip.SkipScan.{SkipScan}
use Rattle.reading_frames.specs.declared.text.BuildScan.{BuildScan}
use Rattle.reading_frames.specs.declared.frame.Frame.{Frame}
use Rattle.reading_frames.specs.declared.frame.Frame.TheVariants.{Command, Integer, Factor, Dimension, Glue, Keyword, Build, Spelling, FileName, Behind, Skips, Call as Called}
use Rattle.reading_frames.proofs.Held.{lists_counted}

command_inherits : (b : Bool) (list : List Token) (o : Option Scanning) → scanned_at (command_status b) list o ≡ o
command_inherits true list o = refl
command_inherits false list o = refl

first_list : (held : Lists) → list_on_top 1 held ≡ top_list held
first_list [] = refl
first_list (list ∷ held) = refl

-- what is read itself has its list on top; of what is skipped none counts
on_top : (f : Frame) (held : Lists) (o : Option Scanning) → scanned_at (frame_status f) (list_on_top (list_count f) held) o ≡ scanned_at (frame_status f) (top_list held) o
on_top (Command scan p) held o = command_inherits (reads_under_normal p) _ o ∙ sym (command_inherits (reads_under_normal p) (top_list held) o)
on_top (Integer scan) held o = refl
on_top (Factor scan) held o = refl
on_top (Dimension scan) held o = refl
on_top (Glue scan) held o = refl
on_top (Keyword scan) held o = refl
on_top (Build scan) held o = ap (λ (list : List Token). scanned_at (frame_status (Build scan)) list o) (first_list held)
on_top (Spelling scan) held o = refl
on_top (FileName scan) held o = refl
on_top (Behind c x) held o = refl
on_top (Skips scan) held o = refl
on_top (Called name) held o = refl

found_scanned : (s : Status) (n : ℕ) (held : Lists) (o : Option Found) → scanning_of held (found_at s n o) ≡ scanned_at s (top_list (drop n held)) (scanning_of held o)
found_scanned (Scans what name) n held o = refl
found_scanned (SkipsText line) n held o = refl
found_scanned Unguarded n held o = refl
found_scanned Inherits n held o = refl

among : (fs : List Frame) (n : ℕ) (held : Lists) (work : List Reading) → AreFramesOf None fs (drop n held) work → innermost_scanned work (drop n held) ≡ scanning_of held (innermost_found fs n)
among [] n held [] stands = refl
among [] n held (r ∷ rs) stands = absurd stands
among (f ∷ fs) n held [] stands = absurd stands
among (f ∷ fs) n held (r ∷ rs) stands =
    let dropped : drop (list_count f) (drop n held) ≡ drop (n + list_count f) held = drop-drop (list_count f) n held in
    let beneath : innermost_scanned rs (drop (n + list_count f) held) ≡ scanning_of held (innermost_found fs (n + list_count f)) =
    among fs (n + list_count f) held rs (subst (λ (l : Lists). AreFramesOf None fs l rs) dropped stands.1) in
    ap (λ (s : Status). scanned_at s (list_on_top (length (lists r.kind r.fed)) (drop n held)) (innermost_scanned rs (drop (length (lists r.kind r.fed)) (drop n held)))) stands.0.checks ∙
    ap (λ (m : ℕ). scanned_at (frame_status f) (list_on_top m (drop n held)) (innermost_scanned rs (drop m (drop n held)))) (lists_counted f (drop n held) r stands.0) ∙
    ap (λ (l : Lists). scanned_at (frame_status f) (list_on_top (list_count f) (drop n held)) (innermost_scanned rs l)) dropped ∙
    ap (λ (o : Option Scanning). scanned_at (frame_status f) (list_on_top (list_count f) (drop n held)) o) beneath ∙
    on_top f (drop n held) (scanning_of held (innermost_found fs (n + list_count f))) ∙
    sym (found_scanned (frame_status f) n held (innermost_found fs (n + list_count f)))

guarded : (s : Status) (held : Lists) (o : Option Found) → machine.unless_unguarded s (scanning_of held o) ≡ scanning_of held (unless_unguarded s o)
guarded (Scans what name) held o = refl
guarded (SkipsText line) held o = refl
guarded Unguarded held o = refl
guarded Inherits held o = refl

pub scans : (fs : List Frame) (held : Lists) (work : List Reading) → AreFramesOf None fs held work → scanning work held ≡ scanning_of held (found_in fs)
scans [] held [] stands = refl
scans [] held (r ∷ rs) stands = absurd stands
scans (f ∷ fs) held [] stands = absurd stands
scans (f ∷ fs) held (r ∷ rs) stands =
    ap (λ (s : Status). machine.unless_unguarded s (innermost_scanned (r ∷ rs) held)) stands.0.checks ∙
    ap (λ (o : Option Scanning). machine.unless_unguarded (frame_status f) o) (among (f ∷ fs) 0 held (r ∷ rs) stands) ∙
    guarded (frame_status f) held (innermost_found (f ∷ fs) 0)

-- THE FRAMES ONE BY ONE, the innermost first

-- one that builds nothing and skips nothing
command_unread : (b : Bool) (n : ℕ) → None ≡ read_at (command_status b) n
command_unread true n = refl
command_unread false n = refl

pub unread : (f : Frame) (n : ℕ) → ((s : BuildScan) → f ≡ Build s → ⊥) → ((s : SkipScan) → f ≡ Skips s → ⊥) → None ≡ read_at (frame_status f) n
unread (Command scan head) n builds skips = command_unread (reads_under_normal head) n
unread (Build scan) n builds skips = absurd (builds scan refl)
unread (Skips scan) n builds skips = absurd (skips scan refl)
unread f n builds skips = refl

-- the innermost of so many, and one more
one_more : (fs : List Frame) (i n : ℕ) (f : Frame) → i < length fs → innermost_found (reverse (take (suc i) fs)) n ≡ innermost_found (get_or fs i f ∷ reverse (take i fs)) n
one_more fs i n f h = rw (take-suc fs i f h) (ap (λ (gs : List Frame). innermost_found gs n) (reverse-append (take i fs) (get_or fs i f ∷ [])))

-- one in which nothing is read
around : (s : Status) (n : ℕ) (o : Option Found) → read_at s n ≡ None → found_at s n o ≡ o
around (Scans what name) n o h = absurd cc
around (SkipsText line) n o h = absurd cc
around Unguarded n o h = refl
around Inherits n o h = refl

read_here : (s : Status) (n : ℕ) (o : Option Found) (found : Found) → read_at s n ≡ Some found → found_at s n o ≡ Some found
read_here (Scans what name) n o found h = h
read_here (SkipsText line) n o found h = h
read_here Unguarded n o found h = absurd cc
read_here Inherits n o found h = absurd cc

pub passes : (fs : List Frame) (i j n m : ℕ) (f : Frame) → j ≡ i + 1 → i < length fs → get_or fs i f ≡ f → read_at (frame_status f) n ≡ None → m ≡ n + list_count f →
    innermost_found (reverse (take j fs)) n ≡ innermost_found (reverse (take i fs)) m
passes fs i j n m f e h same none count =
    let g : j ≡ suc i = omega (arith, e) in
    rw g (rw count (one_more fs i n f h ∙ ap (λ (x : Frame). innermost_found (x ∷ reverse (take i fs)) n) same ∙
    around (frame_status f) n (innermost_found (reverse (take i fs)) (n + list_count f)) none))

pub finds : (fs : List Frame) (i j n : ℕ) (f : Frame) (found : Found) → j ≡ i + 1 → i < length fs → get_or fs i f ≡ f → read_at (frame_status f) n ≡ Some found →
    innermost_found (reverse (take j fs)) n ≡ Some found
finds fs i j n f found e h same is =
    let g : j ≡ suc i = omega (arith, e) in
    rw g (one_more fs i n f h ∙ ap (λ (x : Frame). innermost_found (x ∷ reverse (take i fs)) n) same ∙
    read_here (frame_status f) n (innermost_found (reverse (take i fs)) (n + list_count f)) found is)

pub taken_all : (fs : List Frame) (i : ℕ) → i ≡ length fs → take i fs ≡ fs
taken_all fs i e = rw e (take-length fs)

-- the innermost frame by itself
pub unguarded_found : (f : Frame) (fs : List Frame) → reads_unguarded (frame_status f) ≡ true → found_in (f ∷ fs) ≡ None
unguarded_found f fs h = none (frame_status f) (innermost_found (f ∷ fs) 0) h
  where
    none : (s : Status) (o : Option Found) → reads_unguarded s ≡ true → unless_unguarded s o ≡ None
    none (Scans what name) o h = absurd cc
    none (SkipsText line) o h = absurd cc
    none Unguarded o h = refl
    none Inherits o h = absurd cc

guarded_same : (s : Status) (o : Option Found) → reads_unguarded s ≡ false → unless_unguarded s o ≡ o
guarded_same (Scans what name) o h = refl
guarded_same (SkipsText line) o h = refl
guarded_same Unguarded o h = absurd cc
guarded_same Inherits o h = refl

pub first_found : (f : Frame) (fs : List Frame) (found : Found) → reads_unguarded (frame_status f) ≡ false → read_at (frame_status f) 0 ≡ Some found → found_in (f ∷ fs) ≡ Some found
first_found f fs found h is = guarded_same (frame_status f) (innermost_found (f ∷ fs) 0) h ∙ read_here (frame_status f) 0 (innermost_found fs (0 + list_count f)) found is

pub beneath_found : (f : Frame) (fs : List Frame) → reads_unguarded (frame_status f) ≡ false → read_at (frame_status f) 0 ≡ None → found_in (f ∷ fs) ≡ innermost_found fs (list_count f)
beneath_found f fs h none =
    let count : 0 + list_count f ≡ list_count f = omega arith in
    guarded_same (frame_status f) (innermost_found (f ∷ fs) 0) h ∙ around (frame_status f) 0 (innermost_found fs (0 + list_count f)) none ∙
    ap (λ (n : ℕ). innermost_found fs n) count
