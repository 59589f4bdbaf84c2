-- What a call on one file leaves of the others that are open.
use Rattle.std.proofs.Common.{◌≡◌, ℕ, Bool, true, false, List, [], ◌∷◌, ◌++◌, take, drop, nat_eq, refl, ap, sym, ◌∙◌, subst}
use Rattle.std.specs.Prelude.{Option, Some, None, Result, Ok, Err, IfOk, OnErr, IfSome, IfNone, if◌then◌else◌}
use Rattle.std.proofs.lemmas.Bool.{ne_eqb}
use Rattle.tex_defs.specs.Places.{File, Untold, NotHeld, Holds}
use Rattle.world_io.specs.declared.traits.Fault.{Fault}
use Rattle.world_io.specs.Contents.{FilesTold, SameFiles, OnlyReads, OpensReader, ClosesReader, MayHold, IsAtEnd, IsAll, IsContent, SoFar, content}
use Rattle.line_reader.specs.Reading.{CameIn}
use Rattle.line_reader.proofs.AheadOf.{is_same}
use Rattle.line_reader.specs.Readers.{OpenReader, OpenReaders, came_of, KnowsEnd, innermost_of, IsNew, AreOpen, KnowEnds, first_left, AreLeft, MayLeave, came_first, told_left, LeftBefore, OpensInnermost, KeepsReaders}

-- these files are open, and have a rest, as before
abbrev pub Agree : List OpenReader → FilesTold → FilesTold → Type 0
Agree [] f f' = Unit {0}
Agree (r ∷ rs) f f' = (f'.reading r.id ≡ f.reading r.id) × (f'.rest r.id ≡ f.rest r.id) × Agree rs f f'

pub agree_same : (rs : List OpenReader) (f f' : FilesTold) → SameFiles f f' → Agree rs f f'
agree_same [] f f' h = tt
agree_same (r ∷ rs) f f' h = (h.reading r.id, h.rest r.id, agree_same rs f f' h)

pub agree_read : (rs : List OpenReader) (id : ℕ) (f f' : FilesTold) → OnlyReads id f f' → IsNew id rs → Agree rs f f'
agree_read [] id f f' h new = tt
agree_read (r ∷ rs) id f f' h new = (h.reading r.id, h.rest r.id (ne_eqb r.id id new.0), agree_read rs id f f' h new.1)

pub agree_closed : (rs : List OpenReader) (id : ℕ) (f f' : FilesTold) → ClosesReader id f f' → IsNew id rs → Agree rs f f'
agree_closed [] id f f' h new = tt
agree_closed (r ∷ rs) id f f' h new =
    let other : nat_eq r.id id ≡ false = ne_eqb r.id id new.0 in
    (h.reading r.id ∙ ap (λ (b : Bool). if b then false else f.reading r.id) other, h.rest r.id ∙ ap (λ (b : Bool). if b then None else f.rest r.id) other, agree_closed rs id f f' h new.1)

pub agree_opened : (rs : List OpenReader) (id : ℕ) (name : List ℕ) (f f' : FilesTold) → OpensReader id name f f' → IsNew id rs → Agree rs f f'
agree_opened [] id name f f' h new = tt
agree_opened (r ∷ rs) id name f f' h new =
    let other : nat_eq r.id id ≡ false = ne_eqb r.id id new.0 in
    (h.reading r.id ∙ ap (λ (b : Bool). if b then true else f.reading r.id) other, h.rest r.id ∙ ap (λ (b : Bool). if b then content (f.file name) else f.rest r.id) other, agree_opened rs id name f f' h new.1)

-- a reader that isn't open is none of those that are
pub new_of : (rs : List OpenReader) (id : ℕ) (f : FilesTold) → f.reading id ≡ false → AreOpen rs f → IsNew id rs
new_of [] id f closed each_open = tt
new_of (r ∷ rs) id f closed each_open = (λ e. let same : f.reading r.id ≡ f.reading id = ap f.reading e in let h = each_open.0 in cc, new_of rs id f closed each_open.2)

pub still_open : (rs : List OpenReader) (f f' : FilesTold) → Agree rs f f' → AreOpen rs f → AreOpen rs f'
still_open [] f f' a h = tt
still_open (r ∷ rs) f f' a h = (a.0 ∙ h.0, h.1, still_open rs f f' a.2 h.2)

pub still_knows : (rs : List OpenReader) (f f' : FilesTold) → Agree rs f f' → KnowEnds rs f → KnowEnds rs f'
still_knows [] f f' a h = tt
still_knows (r ∷ rs) f f' a h = (λ e. subst IsAtEnd (sym a.1) (h.0 e), still_knows rs f f' a.2 h.1)

pub still_left : (rs : List OpenReader) (f f' : FilesTold) (left : List (List ℕ)) → Agree rs f f' → AreLeft rs f' left → AreLeft rs f left
still_left [] f f' left a h = tt
still_left (r ∷ rs) f f' left a h = (subst (λ (rest : Option (List ℕ)). IsAll rest (first_left left)) a.1 h.0, still_left rs f f' (drop 1 left) a.2 h.1)

-- nothing has changed
pub keeps : (f : FilesTold) (rs : OpenReaders) (f' : FilesTold) (rs' : OpenReaders) → SameFiles f f' → rs' ≡ rs → KeepsReaders f rs f' rs'
keeps f rs f' rs' same after = record {
  files = same;
  after = after;
  told = λ left h. still_left rs.readers f f' left (agree_same rs.readers f f' same) (subst (λ (x : OpenReaders). AreLeft x.readers f' left) after h);
  may = λ left h. subst (λ (x : OpenReaders). MayLeave x.readers left) after h;
}

whole_of : (file : File) (rest : Option (List ℕ)) (bytes : List ℕ) → MayHold file → rest ≡ content file → IsAll rest bytes → IsContent file bytes
whole_of Untold rest bytes held e h = tt
whole_of NotHeld rest bytes held e h = absurd held
whole_of (Holds b) rest bytes held e h = subst (λ (x : Option (List ℕ)). IsAll x bytes) e h

pub some_of : {A : Type 0} (o : Option A) (a : A) (P : A → Type 0) → o ≡ Some a → IfSome o P → P a
some_of {A} o a P e h = subst (λ (x : Option A). IfSome x P) e h

pub none_of : {A : Type 0} (o : Option A) (P : Type 0) → o ≡ None → IfNone o P → P
none_of {A} o P e h = subst (λ (x : Option A). IfNone x P) e h

-- A file was opened.
module _ (name : List ℕ) (f : FilesTold) (rs : OpenReaders) (f' : FilesTold) (rs' : OpenReaders) (id : ℕ) (opened : OpensReader id name f f') (after : rs' ≡ record rs { readers = (record { id = id; ended = false }) ∷ rs.readers }) (each_open : AreOpen rs.readers f) where
  is_now : rs'.readers ≡ (record { id = id; ended = false }) ∷ rs.readers
  is_now = ap (λ (x : OpenReaders). x.readers) after

  is_new : IsNew id rs.readers
  is_new = new_of rs.readers id f opened.was_closed each_open

  agree : Agree rs.readers f f'
  agree = agree_opened rs.readers id name f f' opened is_new

  rest_now : f'.rest id ≡ content (f.file name)
  rest_now = opened.rest id ∙ ap (λ (b : Bool). if b then content (f.file name) else f.rest id) (is_same id id refl)

  left_now : (left : List (List ℕ)) → AreLeft rs'.readers f' left → IsAll (f'.rest id) (first_left left) × AreLeft rs.readers f' (drop 1 left)
  left_now left h = subst (λ (x : List OpenReader). AreLeft x f' left) is_now h

  pub opens : OpensInnermost name f rs f' rs'
  opens = record {
    id = id;
    opened = opened;
    after = after;
    whole = λ left h. whole_of (f.file name) (f'.rest id) (first_left left) opened.held rest_now (left_now left h).0;
    told = λ left h. still_left rs.readers f f' (drop 1 left) agree (left_now left h).1;
    may = λ left h. (subst (λ (x : List OpenReader). MayLeave x left) is_now h).1;
  }

  pub opens_open : AreOpen rs'.readers f'
  opens_open = subst (λ (x : List OpenReader). AreOpen x f') (sym is_now) (opened.reading id ∙ ap (λ (b : Bool). if b then true else f.reading id) (is_same id id refl), is_new, still_open rs.readers f f' agree each_open)

  pub opens_knows : KnowEnds rs.readers f → KnowEnds rs'.readers f'
  opens_knows k = subst (λ (x : List OpenReader). KnowEnds x f') (sym is_now) (λ e. absurd (cc), still_knows rs.readers f f' agree k)

-- A reader was read.
pub record IsRead (r r' : OpenReader) (f f' : FilesTold) (window : List ℕ) (result : Result ℕ Fault) : Type 0 where
  pub came : IfOk result (λ n. CameIn r.id (take n window) f f')
  pub after : IfOk result (λ n. r' ≡ came_of n r)
  pub behind : r.ended ≡ true → (result ≡ Ok 0) × (f' ≡ f)
  pub knows : KnowsEnd r f → KnowsEnd r' f'
  pub err : OnErr result (r' ≡ r)
  pub same : OnErr result (SameFiles f f')

all_before : (rest rest' : Option (List ℕ)) (got left : List ℕ) → SoFar rest got rest' → IsAll rest' left → IsAll rest (got ++ left)
all_before None rest' got left s h = tt
all_before (Some x) None got left s h = absurd s
all_before (Some x) (Some y) got left s h = ap (λ (ys : List ℕ). got ++ ys) h ∙ sym s

module _ (r r' : OpenReader) (f f' : FilesTold) (window : List ℕ) where
  same_id : (result : Result ℕ Fault) → IsRead r r' f f' window result → r'.id ≡ r.id
  same_id (Ok n) h = ap (λ (x : OpenReader). x.id) h.after
  same_id (Err e) h = ap (λ (x : OpenReader). x.id) h.err

  same_reading : (result : Result ℕ Fault) → IsRead r r' f f' window result → f'.reading r.id ≡ f.reading r.id
  same_reading (Ok n) h = h.came.only.reading r.id
  same_reading (Err e) h = h.same.reading r.id

  read_agree : (rs : List OpenReader) (result : Result ℕ Fault) → IsRead r r' f f' window result → IsNew r.id rs → Agree rs f f'
  read_agree rs (Ok n) h new = agree_read rs r.id f f' h.came.only new
  read_agree rs (Err e) h new = agree_same rs f f' h.same

  open_read : (rs : List OpenReader) (result : Result ℕ Fault) → IsRead r r' f f' window result → AreOpen (r ∷ rs) f → AreOpen (r' ∷ rs) f'
  open_read rs result h each_open =
      let i : r.id ≡ r'.id = sym (same_id result h) in
      (subst (λ (id : ℕ). f'.reading id ≡ true) i (same_reading result h ∙ each_open.0), subst (λ (id : ℕ). IsNew id rs) i each_open.1, still_open rs f f' (read_agree rs result h each_open.1) each_open.2)

  knows_read : (rs : List OpenReader) (result : Result ℕ Fault) → IsRead r r' f f' window result → AreOpen (r ∷ rs) f → KnowEnds (r ∷ rs) f → KnowEnds (r' ∷ rs) f'
  knows_read rs result h each_open k = (h.knows k.0, still_knows rs f f' (read_agree rs result h each_open.1) k.1)

  told_read : (rs : List OpenReader) (result : Result ℕ Fault) → IsRead r r' f f' window result → AreOpen (r ∷ rs) f → IfOk result (λ n. LeftBefore (came_first (take n window)) (r ∷ rs) f (r' ∷ rs) f')
  told_read rs (Ok n) h each_open = λ left a. (
    all_before (f.rest r.id) (f'.rest r.id) (take n window) (first_left left) h.came.so_far (subst (λ (id : ℕ). IsAll (f'.rest id) (first_left left)) (same_id (Ok n) h) a.0),
    still_left rs f f' (drop 1 left) (read_agree rs (Ok n) h each_open.1) a.1,
  )
  told_read rs (Err e) h each_open = tt

-- The innermost reader was read: it was taken off, and put back.
module _ (rs mid rs' : OpenReaders) (r r' : OpenReader) (off : rs ≡ record mid { readers = r ∷ mid.readers }) (on : rs' ≡ record mid { readers = r' ∷ mid.readers }) where
  over : (Q : OpenReaders → OpenReaders → Type 0) → Q (record mid { readers = r ∷ mid.readers }) (record mid { readers = r' ∷ mid.readers }) → Q rs rs'
  over Q h = subst (λ (x : OpenReaders). Q x rs') (sym off) (subst (λ (x : OpenReaders). Q (record mid { readers = r ∷ mid.readers }) x) (sym on) h)

  module _ (f f' : FilesTold) (window : List ℕ) (result : Result ℕ Fault) (h : IsRead r r' f f' window result) where
    pub told_reads : AreOpen rs.readers f → IfOk result (λ n. LeftBefore (came_first (take n window)) rs.readers f rs'.readers f')
    told_reads = over (λ x y. AreOpen x.readers f → IfOk result (λ n. LeftBefore (came_first (take n window)) x.readers f y.readers f')) (told_read r r' f f' window mid.readers result h)

    kept_so : (answer : Result ℕ Fault) → IsRead r r' f f' window answer → OnErr answer (KeepsReaders f rs f' rs')
    kept_so (Ok n) k = tt
    kept_so (Err e) k = keeps f rs f' rs' k.same (on ∙ ap (λ (x : OpenReader). record mid { readers = x ∷ mid.readers }) k.err ∙ sym off)

    pub kept_reads : OnErr result (KeepsReaders f rs f' rs')
    kept_reads = kept_so result h

    pub open_reads : AreOpen rs.readers f → AreOpen rs'.readers f'
    open_reads = over (λ x y. AreOpen x.readers f → AreOpen y.readers f') (open_read r r' f f' window mid.readers result h)

    pub knows_reads : AreOpen rs.readers f → KnowEnds rs.readers f → KnowEnds rs'.readers f'
    knows_reads = over (λ x y. AreOpen x.readers f → KnowEnds x.readers f → KnowEnds y.readers f') (knows_read r r' f f' window mid.readers result h)

all_told : (rest : Option (List ℕ)) → IsAll rest (told_left rest)
all_told None = tt
all_told (Some x) = refl

-- The innermost reader was taken off, and closed.
module _ (rs mid : OpenReaders) (r : OpenReader) (off : rs ≡ record mid { readers = r ∷ mid.readers }) where
  from : (Q : OpenReaders → Type 0) → Q (record mid { readers = r ∷ mid.readers }) → Q rs
  from Q h = subst Q (sym off) h

  module _ (f f' : FilesTold) (closed : ClosesReader r.id f f') where
    pub told_closed : AreOpen rs.readers f → LeftBefore (λ left. told_left (f.rest (innermost_of rs.readers).id) ∷ left) rs.readers f mid.readers f'
    told_closed = from (λ x. AreOpen x.readers f → LeftBefore (λ left. told_left (f.rest (innermost_of x.readers).id) ∷ left) x.readers f mid.readers f')
        (λ each_open left a. (all_told (f.rest r.id), still_left mid.readers f f' left (agree_closed mid.readers r.id f f' closed each_open.1) a))

    pub open_closed : AreOpen rs.readers f → AreOpen mid.readers f'
    open_closed = from (λ x. AreOpen x.readers f → AreOpen mid.readers f') (λ each_open. still_open mid.readers f f' (agree_closed mid.readers r.id f f' closed each_open.1) each_open.2)

    pub knows_closed : AreOpen rs.readers f → KnowEnds rs.readers f → KnowEnds mid.readers f'
    knows_closed = from (λ x. AreOpen x.readers f → KnowEnds x.readers f → KnowEnds mid.readers f') (λ each_open knows. still_knows mid.readers f f' (agree_closed mid.readers r.id f f' closed each_open.1) knows.1)
