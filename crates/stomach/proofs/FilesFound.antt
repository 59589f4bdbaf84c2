-- What the opening of a file finds.
use Rattle.std.proofs.Common.{◌≡◌, ℕ, zero, suc, ◌≤◌, Bool, true, false, List, refl, sym, ap, subst}
use Rattle.std.proofs.lemmas.Slice.Eq.{bytes_eq-Decides}
use Rattle.std.specs.Prelude.{Decides, Option, None, Some, bytes_eq, if◌then◌else◌}
use Rattle.tex_defs.specs.Places.{File, Untold, NotHeld, Holds}
use Rattle.world_io.specs.Contents.{FilesTold, NotFound, IsContent}
use Rattle.line_reader.specs.Readers.{OpenReaders, AreOpen, KnowEnds, OpensInnermost, KeepsReaders}
use Rattle.plain_machine.specs.States.{Files}
use Rattle.plain_machine.specs.Extended as plain
use Rattle.plain_machine.specs.Extended.{Rests, found_first, rests_before_opening}
use Rattle.plain_machine.specs.Meaning.{AreHeldAs, IsHeldAs}
use Rattle.stomach.specs.Read.{ReadsTo}
use Rattle.stomach.proofs.Knowing.{first_same}

is_found : (name : List ℕ) → bytes_eq name name ≡ true
is_found name = (bytes_eq-Decides name name).1 refl

-- this opening finds it
pub found_at : (name : List ℕ) (found : Option (List ℕ)) (files : Files) → found_first name found files 0 name ≡ found
found_at name found files = ap (λ (b : Bool). if b then found else files 0 name) (is_found name)

held_at : (name : List ℕ) (found : Option (List ℕ)) (files : Files) (file : List ℕ → File) → IsHeldAs (file name) found → AreHeldAs file files → AreHeldAs file (found_first name found files)
held_at name found files file h others zero other = at (bytes_eq other name) (bytes_eq-Decides other name) where
  at : (b : Bool) → Decides b (other ≡ name) → IsHeldAs (file other) (if b then found else files 0 other)
  at true d = subst (λ (x : List ℕ). IsHeldAs (file x) found) (sym (d.0 refl)) h
  at false d = others 0 other
held_at name found files file h others (suc k) other = others k other

held_same : (file file' : List ℕ → File) (files : Files) → ((name : List ℕ) → file' name ≡ file name) → AreHeldAs file' files → AreHeldAs file files
held_same file file' files same h k name = subst (λ (x : File). IsHeldAs x (files k name)) (same name) (h k name)

content_held : (x : File) (bytes : List ℕ) → IsContent x bytes → IsHeldAs x (Some bytes)
content_held Untold bytes h = tt
content_held NotHeld bytes h = absurd h
content_held (Holds held) bytes h = ap (λ (b : List ℕ). Some b) h

missing_held : (x : File) → NotFound x → IsHeldAs x None
missing_held Untold h = tt
missing_held NotHeld h = refl
missing_held (Holds held) h = absurd h

module _ (name : List ℕ) (rs rs' : OpenReaders) (f f' : FilesTold) (P : (all left : Rests) → Type 0) (is_open : AreOpen rs'.readers f') (knows : KnowEnds rs.readers f → KnowEnds rs'.readers f')
    (file : (n : List ℕ) → f'.file n ≡ f.file n) (faults : f.read_faults ≤ f'.read_faults) (writes : f'.write_faults ≡ f.write_faults) (wants : f.wants ≤ f'.wants) where
  -- it was found
  pub reads_found : OpensInnermost name f rs f' rs' → ((left : Rests) → P (rests_before_opening name true left) left) → ReadsTo rs.readers rs'.readers f f' P
  reads_found opens holds = record {
    before = rests_before_opening name true;
    holds = λ left may. holds left;
    may = λ left may. opens.may left.left may;
    told = λ read left h. record {
      left = opens.told left.left h.left;
      files = held_at name (Some (plain.first_left left.left)) left.files f.file (content_held (f.file name) (plain.first_left left.left) (subst (IsContent (f.file name)) (sym (first_same left.left)) (opens.whole left.left h.left)))
          (held_same f.file f'.file left.files file h.files);
    };
    read = λ read. record { opened = is_open; ends = knows read.ends };
    file = file;
    read_faults = faults;
    write_faults = writes;
    wants = wants;
  }

  -- it wasn't
  pub reads_missing : NotFound (f.file name) → KeepsReaders f rs f' rs' → ((left : Rests) → P (rests_before_opening name false left) left) → ReadsTo rs.readers rs'.readers f f' P
  reads_missing missing keeps holds = record {
    before = rests_before_opening name false;
    holds = λ left may. holds left;
    may = λ left may. keeps.may left.left may;
    told = λ read left h. record {
      left = keeps.told left.left h.left;
      files = held_at name None left.files f.file (missing_held (f.file name) missing) (held_same f.file f'.file left.files file h.files);
    };
    read = λ read. record { opened = is_open; ends = knows read.ends };
    file = file;
    read_faults = faults;
    write_faults = writes;
    wants = wants;
  }
