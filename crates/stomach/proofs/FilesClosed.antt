-- Readers that are closed, one after another.
use Rattle.std.proofs.Common.{◌≡◌, ◌∙◌, ℕ, suc, ◌+◌, ◌<◌, Bool, true, false, List, [], ◌∷◌, ◌++◌, length, refl, sym, ap, subst, append_assoc, arith}
use Rattle.std.proofs.lemmas.List.{length-append}
use Rattle.std.specs.Prelude.{◌≢◌, Option, None, Some}
use Rattle.world_io.specs.Contents.{FilesTold, ClosesReader, SameCounts, IsAtEnd, IsAll}
use Rattle.line_reader.specs.Readers.{OpenReader, AreOpen, KnowEnds, LeftBefore, innermost_of, outer_of, told_left}
use Rattle.plain_machine.specs.Extended.{Rests}
use Rattle.stomach.specs.Files.{AreGone, told_by}
use Rattle.stomach.specs.Read.{ReadsTo}
use Rattle.stomach.proofs.Reading.{held_same}

-- none
pub none_gone : (left : Rests) → AreGone left left 0
none_gone left = record { gone = []; whole = refl; many = refl }

-- and then others
pub more_gone : (all mid left : Rests) (i j : ℕ) → AreGone all mid i → AreGone mid left j → AreGone all left (i + j)
more_gone all mid left i j a b = record {
  gone = a.gone ++ b.gone;
  whole = a.whole ∙ ap (λ (r : Rests). record { left = a.gone ++ r.left; files = r.files }) b.whole ∙ ap (λ (xs : List (List ℕ)). record { left = xs; files = left.files }) (sym (append_assoc a.gone b.gone left.left));
  many = omega (arith, length-append a.gone b.gone, a.many, b.many);
}

pub as_many_gone : (all left : Rests) (i j : ℕ) → i ≡ j → AreGone all left i → AreGone all left j
as_many_gone all left i j is h = subst (λ (n : ℕ). AreGone all left n) is h

-- what a reader had left is told, and nothing where its file's end had come
gone_told : (ended : Bool) (rest : Option (List ℕ)) → (ended ≡ true → IsAtEnd rest) → IsAll rest (told_left rest) → IsAll rest (told_by ended rest)
gone_told true None at_end h = tt
gone_told true (Some bytes) at_end h = sym (at_end refl)
gone_told false rest at_end h = h

gone_none : (ended : Bool) (rest : Option (List ℕ)) → ended ≡ true → told_by ended rest ≡ []
gone_none true rest is = refl
gone_none false rest is = absurd cc

-- one reader
pub one_closed : (rs rs' : List OpenReader) (f f' : FilesTold) → rs ≢ [] → rs' ≡ outer_of rs → ClosesReader (innermost_of rs).id f f' → LeftBefore (λ left. told_left (f.rest (innermost_of rs).id) ∷ left) rs f rs' f' → AreOpen rs' f' → (KnowEnds rs f → KnowEnds rs' f') → SameCounts f f' →
    ReadsTo rs rs' f f' (λ all left. AreGone all left 1)
one_closed [] rs' f f' some after closed told is_open knows counts = absurd (some refl)
one_closed (r ∷ rs) rs' f f' some after closed told is_open knows counts =
    subst (λ (x : List OpenReader). ReadsTo (r ∷ rs) x f f' (λ all left. AreGone all left 1)) (sym after) (record {
      before = λ left. record { left = told_by r.ended (f.rest r.id) ∷ left.left; files = left.files };
      holds = λ left may. record { gone = told_by r.ended (f.rest r.id) ∷ []; whole = refl; many = refl };
      may = λ left may. (gone_none r.ended (f.rest r.id), may);
      told = λ read left h.
          let all = told_now left.left h.left in
          record { left = (gone_told r.ended (f.rest r.id) read.ends.0 all.0, all.1); files = held_same f f' left closed.file h.files };
      read = λ read. record { opened = open_now; ends = knows_now read.ends };
      file = closed.file;
      read_faults = omega (arith, counts.read_faults);
      write_faults = counts.write_faults;
      wants = omega (arith, counts.wants);
    }) where
      told_now : LeftBefore (λ left. told_left (f.rest r.id) ∷ left) (r ∷ rs) f rs f'
      told_now = subst (λ (x : List OpenReader). LeftBefore (λ left. told_left (f.rest r.id) ∷ left) (r ∷ rs) f x f') after told

      open_now : AreOpen rs f'
      open_now = subst (λ (x : List OpenReader). AreOpen x f') after is_open

      knows_now : KnowEnds (r ∷ rs) f → KnowEnds rs f'
      knows_now = subst (λ (x : List OpenReader). KnowEnds (r ∷ rs) f → KnowEnds x f') after knows

pub some_open : (rs : List OpenReader) → 0 < length rs → rs ≢ []
some_open [] h is = omega (arith, h)
some_open (r ∷ rs) h is = absurd cc

pub one_fewer : (rs rs' : List OpenReader) → rs ≢ [] → rs' ≡ outer_of rs → length rs ≡ suc (length rs')
one_fewer [] rs' some is = absurd (some refl)
one_fewer (r ∷ rs) rs' some is = ap (λ (x : List OpenReader). suc (length x)) (sym is)
