-- Files that are read on, opened and closed, one piece behind another.
use Rattle.std.proofs.Common.{◌≡◌, ◌≤◌, ℕ, List, [], ◌∷◌, refl, ◌∙◌, subst, arith}
use Rattle.tex_defs.specs.Places.{File}
use Rattle.world_io.specs.Contents.{FilesTold}
use Rattle.line_reader.specs.Readers.{OpenReader, AreOpen, MayLeave, KnowEnds, LeftBefore, MightLeave}
use Rattle.plain_machine.specs.States.{no_files}
use Rattle.plain_machine.specs.Extended.{Rests}
use Rattle.plain_machine.specs.Meaning.{AreHeldAs, IsHeldAs}
use Rattle.stomach.specs.Read.{ReadsTo}

-- the same content is held by names that have it
pub held_same : (f f' : FilesTold) (r : Rests) → ((name : List ℕ) → f'.file name ≡ f.file name) → AreHeldAs f'.file r.files → AreHeldAs f.file r.files
held_same f f' r same h k name = subst (λ (x : File). IsHeldAs x (r.files k name)) (same name) (h k name)

module _ (P : (all left : Rests) → Type 0) where
  pub reads_none : (rs : List OpenReader) (f : FilesTold) → ((all : Rests) → P all all) → ReadsTo rs rs f f P
  reads_none rs f h = record {
    before = λ left. left;
    holds = λ left may. h left;
    may = λ left may. may;
    told = λ read left told. told;
    read = λ read. read;
    file = λ name. refl;
    read_faults = omega arith;
    write_faults = refl;
    wants = omega arith;
  }

  -- what was left before may be left too
  pub reads_map : (rs rs' : List OpenReader) (f f' : FilesTold) (Q : (all left : Rests) → Type 0) → ReadsTo rs rs' f f' P →
      ((all left : Rests) → MayLeave rs all.left → MayLeave rs' left.left → P all left → Q all left) → ReadsTo rs rs' f f' Q
  reads_map rs rs' f f' Q a h = record {
    before = a.before;
    holds = λ left may. h (a.before left) left (a.may left may) may (a.holds left may);
    may = a.may;
    told = a.told;
    read = a.read;
    file = a.file;
    read_faults = a.read_faults;
    write_faults = a.write_faults;
    wants = a.wants;
  }

  pub reads_then : (rs rs' rs'' : List OpenReader) (f f' f'' : FilesTold) (Q R : (all left : Rests) → Type 0) → ReadsTo rs rs' f f' P → ReadsTo rs' rs'' f' f'' Q →
      ((all mid left : Rests) → P all mid → Q mid left → R all left) → ReadsTo rs rs'' f f'' R
  reads_then rs rs' rs'' f f' f'' Q R a b h = record {
    before = λ left. a.before (b.before left);
    holds = λ left may. h (a.before (b.before left)) (b.before left) left (a.holds (b.before left) (b.may left may)) (b.holds left may);
    may = λ left may. a.may (b.before left) (b.may left may);
    told = λ read left told. a.told read (b.before left) (b.told (a.read read) left told);
    read = λ read. b.read (a.read read);
    file = λ name. b.file name ∙ a.file name;
    read_faults = omega (arith, a.read_faults, b.read_faults);
    write_faults = b.write_faults ∙ a.write_faults;
    wants = omega (arith, a.wants, b.wants);
  }

-- A call on the innermost file, or one that failed: what the openings to come find is as it was.
module _ (rs rs' : List OpenReader) (f f' : FilesTold) (P : (all left : Rests) → Type 0) (before : List (List ℕ) → List (List ℕ)) where
  abbrev pub before_left : Rests → Rests
  before_left r = record { left = before r.left; files = r.files }

  pub reads_left : ((left : Rests) → P (before_left left) left) → LeftBefore before rs f rs' f' → MightLeave before rs rs' → (AreOpen rs' f') → (KnowEnds rs f → KnowEnds rs' f') →
      ((name : List ℕ) → f'.file name ≡ f.file name) → f.read_faults ≤ f'.read_faults → f'.write_faults ≡ f.write_faults → f.wants ≤ f'.wants → ReadsTo rs rs' f f' P
  reads_left holds told may is_open knows file faults writes wants = record {
    before = before_left;
    holds = λ left may. holds left;
    may = λ left h. may left.left h;
    told = λ read left h. record { left = told left.left h.left; files = held_same f f' left file h.files };
    read = λ read. record { opened = is_open; ends = knows read.ends };
    file = file;
    read_faults = faults;
    write_faults = writes;
    wants = wants;
  }

-- nothing is left, and no file is found
abbrev pub no_left : Rests
no_left = record { left = []; files = no_files }

nothing_may : (rs : List OpenReader) → MayLeave rs []
nothing_may [] = tt
nothing_may (r ∷ rs) = (λ is. refl, nothing_may rs)

-- so something is known of what was left before it
pub reads_holds : (rs rs' : List OpenReader) (f f' : FilesTold) (P : (all left : Rests) → Type 0) → (a : ReadsTo rs rs' f f' P) → P (a.before no_left) no_left
reads_holds rs rs' f f' P a = a.holds no_left (nothing_may rs')
