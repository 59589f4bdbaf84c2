-- The magnification is checked.
use Rattle.std.proofs.Common.{◌≡◌, ◌≢◌, ℕ, zero, suc, ℤ, pos, List, [], ◌∷◌, ◌++◌, Bool, true, false, refl, ap, ◌∙◌, arith}
use Rattle.std.specs.Ordering.{int_eq}
use Rattle.std.specs.Prelude.{nat_abs, if◌then◌else◌}
use Rattle.std.proofs.lemmas.Bool.Decides.{Decides-int_eq}
use Rattle.tex_syntax.specs.declared.words.Report.{Report}
use Rattle.tex_syntax.specs.declared.words.Report.TheVariants.{IncompatibleMagnification, IllegalMagnification}
use Rattle.tex_defs.specs.Places.{World, Transcript}
use Rattle.tex_defs.specs.declared.Name.TheVariants as name
use Rattle.tex_defs.specs.declared.Sizes.{Sizes}
use Rattle.plain_state.specs.Reports.{report_bytes}
use Rattle.equivalents.specs.First.{magnification}
use Rattle.equivalents.specs.Parameters.{integer_in}
use Rattle.rows.specs.declared.command.Head.TheVariants.{Primitive}
use Rattle.plain_readings.specs.Readings.{Reading}
use Rattle.plain_machine.specs.declared.broken.Broken.{Broken}
use Rattle.plain_machine.specs.States.{State, Move, MagnificationSet, Reported, Written}
use Rattle.plain_machine.specs.Plan.{Page, is_magnification, legal_or_not, magnification_checked, magnification_set, noting, reported, style_of}
use Rattle.plain_machine.specs.Runs.{steps}
use Rattle.plain_machine.specs.Does.{Did}
use Rattle.plain_machine.proofs.Doing.{did_one}
use Rattle.world_io.specs.Contents.{FilesTold, SinkTold}
use Rattle.engine_state.specs.declared.engine.Engine.{Engine}
use Rattle.engine_state.specs.Book.{Book}
use Rattle.engine_state.specs.CutReadings.{CutsIn}
use Rattle.engine_state.specs.Rules.{world_of, Reports, Went}
use Rattle.engine_state.specs.Stands.{Stands, SameFrames, state_of, page_of}
use Rattle.engine_state.proofs.CuttingReadings.{in_by, later_in}
use Rattle.engine_state.proofs.Joining.{quiet_here, went_by, went_on}
use Rattle.stomach.proofs.Telling.{relax_free}

-- IT IS SET FOR GOOD, and all else is as it was

pub mag_stands : (sizes : Sizes) (e : Engine) (book : Book) (n : ℕ) → Stands sizes e book → Stands sizes (record e { mag_set = n }) book
mag_stands sizes e book n st = let sized = st.sound.sized in record {
  sound = record {
    sized = record {
      few_reports = sized.few_reports;
      own = sized.own;
      readings = sized.readings;
      conditionals = sized.conditionals;
      input = sized.input;
      names = sized.names;
      located = sized.located;
    };
    tied = st.sound.tied;
    bodies = st.sound.bodies;
  };
  idle = st.idle;
  readings = record { frames = st.readings.frames; shallow = st.readings.shallow };
  uncalled = st.uncalled;
}

pub mag_did : (sizes : Sizes) (e : Engine) (book : Book) (w : World) (n : ℕ) → Did sizes (state_of e book) (state_of (record e { mag_set = n }) book) w w (MagnificationSet n ∷ [])
mag_did sizes e book w n =
    did_one sizes (MagnificationSet n) (state_of e book) (state_of (record e { mag_set = n }) book) w w refl refl (quiet_here (MagnificationSet n) w tt)

-- its frames are those of another
pub mag_frames : (e e1 : Engine) (n : ℕ) → SameFrames e e1 → SameFrames e (record e1 { mag_set = n })
mag_frames e e1 n same = record { readings = same.readings; lists = same.lists; call = same.call }

-- a note has no step
pub note_free : (s : State) (r : Reading) → steps (noting r) ≡ 0
note_free s r = omega (arith, relax_free s r (record { head = Primitive 0; name = name.Empty; long = false; outer = false; global = false }) name.Empty)

pub set_free : (s : State) (r : Reading) (n : ℕ) → steps (MagnificationSet n ∷ noting r) ≡ 0
set_free s r n = omega (arith, note_free s r)

pub corrected_free : (s : State) (r : Reading) (n : ℕ) → steps (magnification_set n (noting r)) ≡ 0
corrected_free s r n = omega (arith, note_free s r)

-- BEHIND ITS REPORT
module _ (sizes : Sizes) (e e1 e2 : Engine) (book : Book) (f : FilesTold) (s0 s1 s2 : SinkTold) (report : Report) (rest : List Move)
    (h : Reports sizes (state_of e book) (state_of e1 book) (world_of f s0 e) (world_of f s1 e1) (page_of e book) report rest) where
  abbrev written : List Move
  written = Written Transcript (report_bytes (style_of (page_of e book)) e.in_line e.input.pending.number report) ∷ Reported ∷ []

  pub reported_went : Went sizes (state_of e1 book) e2 (world_of f s1 e1) (world_of f s2 e2) rest 0 → Went sizes (state_of e book) e2 (world_of f s0 e) (world_of f s2 e2) (reported (page_of e book) report rest) 0
  reported_went went =
      went_by sizes (state_of e book) e2 (world_of f s0 e) (world_of f s2 e2) (written ++ rest) (reported (page_of e book) report rest) 0 h.moves
      (went_on sizes (state_of e book) (state_of e1 book) e2 (world_of f s0 e) (world_of f s1 e1) (world_of f s2 e2) written rest 0 0 h.did refl went)

  pub reported_in : (b : Broken) → CutsIn sizes (state_of e1 book) e2 (world_of f s1 e1) (world_of f s2 e2) rest b → CutsIn sizes (state_of e book) e2 (world_of f s0 e) (world_of f s2 e2) (reported (page_of e book) report rest) b
  reported_in b cuts =
      in_by sizes (state_of e book) e2 (world_of f s0 e) (world_of f s2 e2) (written ++ rest) (reported (page_of e book) report rest) b h.moves
      (later_in sizes (state_of e book) (state_of e1 book) e2 (world_of f s0 e) (world_of f s1 e1) (world_of f s2 e2) written rest b h.did cuts)

-- WHAT IS CHECKED

unequal : (n m : ℤ) → n ≢ m → int_eq n m ≡ false
unequal n m other = by (int_eq n m) refl where
  by : (b : Bool) → int_eq n m ≡ b → b ≡ false
  by true is = absurd (other ((Decides-int_eq n m).0 is))
  by false is = refl

module _ (page : Page) (rest : List Move) (n : ℤ) (now : integer_in page.now magnification ≡ n) where
  -- before the first check none is set
  first_moves : page.mag_set ≡ 0 → (b : Bool) → is_magnification n ≡ b → magnification_checked page rest ≡ legal_or_not page n b rest
  first_moves none b is = rw (now, none, is) refl

  pub legal_moves : page.mag_set ≡ 0 → is_magnification n ≡ true → (m : ℕ) → nat_abs n ≡ m → magnification_checked page rest ≡ MagnificationSet m ∷ rest
  legal_moves none is m same = first_moves none true is ∙ ap (λ (k : ℕ). MagnificationSet k ∷ rest) same

  pub illegal_moves : page.mag_set ≡ 0 → is_magnification n ≡ false → magnification_checked page rest ≡ reported page (IllegalMagnification n) (magnification_set 1000 rest)
  illegal_moves none is = first_moves none false is

  -- a check behind the first
  later_moves : (m : ℕ) → page.mag_set ≡ suc m → (b : Bool) → int_eq n (pos (suc m)) ≡ b →
      magnification_checked page rest ≡ (if b then rest else reported page (IncompatibleMagnification n (suc m)) (magnification_set (suc m) rest))
  later_moves m is b same = rw (now, is, same) refl

  pub same_moves : (m : ℕ) → page.mag_set ≡ m → m ≢ 0 → n ≡ pos m → magnification_checked page rest ≡ rest
  same_moves zero is some same = absurd (some refl)
  same_moves (suc m) is some same = later_moves m is true ((Decides-int_eq n (pos (suc m))).1 same)

  pub other_moves : (m : ℕ) → page.mag_set ≡ m → m ≢ 0 → n ≢ pos m → magnification_checked page rest ≡ reported page (IncompatibleMagnification n m) (magnification_set m rest)
  other_moves zero is some same = absurd (some refl)
  other_moves (suc m) is some same = later_moves m is false (unequal n (pos (suc m)) same)
