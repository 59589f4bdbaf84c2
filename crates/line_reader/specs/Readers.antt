-- A reader that is read piece by piece, and the readers of the files that are open.
use Rattle.std.specs.Prelude.{◌≡◌, ◌≢◌, ℕ, ◌==◌, Bool, true, false, ◌||◌, List, [], ◌∷◌, ◌++◌, drop, map, Option, Some, None, nat_eq, if◌then◌else◌}
use Rattle.std.specs.List.{list_any}
use Rattle.world_io.specs.Contents.{FilesTold, SameFiles, OpensReader, IsAtEnd, IsAll, IsContent}

-- a reader's number, and whether its file's end has come
pub record OpenReader : Type 0 where
  pub id : ℕ
  pub ended : Bool

-- so many bytes came of it: its file's end has come where none did
abbrev pub came_of : ℕ → OpenReader → OpenReader
came_of n r = record r { ended = r.ended || n == 0 }

-- the file is at its end where the end has come
abbrev pub KnowsEnd : OpenReader → FilesTold → Type 0
KnowsEnd r f = r.ended ≡ true → IsAtEnd (f.rest r.id)

pub record OpenReaders : Type 0 where
  -- the readers of the open files, innermost first
  pub readers : List OpenReader
  -- as many may be open
  pub most : ℕ

abbrev pub no_readers : ℕ → OpenReaders
no_readers most = record { readers = []; most = most }

-- the innermost reader
abbrev pub innermost_of : List OpenReader → OpenReader
innermost_of [] = record { id = 0; ended = false }
innermost_of (r ∷ rs) = r

-- the readers around the innermost
abbrev pub outer_of : List OpenReader → List OpenReader
outer_of [] = []
outer_of (r ∷ rs) = rs

abbrev pub ids : List OpenReader → List ℕ
ids rs = map (λ r. r.id) rs

-- none of these readers has this number
abbrev pub IsNew : ℕ → List OpenReader → Type 0
IsNew id [] = Unit {0}
IsNew id (r ∷ rs) = (r.id ≢ id) × IsNew id rs

-- each of these readers is open, and no two have one number
abbrev pub AreOpen : List OpenReader → FilesTold → Type 0
AreOpen [] f = Unit {0}
AreOpen (r ∷ rs) f = (f.reading r.id ≡ true) × IsNew r.id rs × AreOpen rs f

-- each file whose end has come is at its end
abbrev pub KnowEnds : List OpenReader → FilesTold → Type 0
KnowEnds [] f = Unit {0}
KnowEnds (r ∷ rs) f = KnowsEnd r f × KnowEnds rs f

-- what is left of the innermost file
abbrev pub first_left : List (List ℕ) → List ℕ
first_left [] = []
first_left (bytes ∷ left) = bytes

-- these are left of the files, innermost first, where it is told
abbrev pub AreLeft : List OpenReader → FilesTold → List (List ℕ) → Type 0
AreLeft [] f left = Unit {0}
AreLeft (r ∷ rs) f left = IsAll (f.rest r.id) (first_left left) × AreLeft rs f (drop 1 left)

-- these may be left of the files, innermost first: nothing of one whose end has come
abbrev pub MayLeave : List OpenReader → List (List ℕ) → Type 0
MayLeave [] left = Unit {0}
MayLeave (r ∷ rs) left = (r.ended ≡ true → first_left left ≡ []) × MayLeave rs (drop 1 left)

-- these bytes of the innermost file before what is left
abbrev pub came_first : List ℕ → List (List ℕ) → List (List ℕ)
came_first got left = (got ++ first_left left) ∷ drop 1 left

-- a rest, where it is told
abbrev pub told_left : Option (List ℕ) → List ℕ
told_left None = []
told_left (Some rest) = rest

-- what is left of the files behind a call tells what was left before it
abbrev pub LeftBefore : (List (List ℕ) → List (List ℕ)) → List OpenReader → FilesTold → List OpenReader → FilesTold → Type 0
LeftBefore before rs f rs' f' = (left : List (List ℕ)) → AreLeft rs' f' left → AreLeft rs f (before left)

-- what may be left of the files behind a call tells what might be left before it
abbrev pub MightLeave : (List (List ℕ) → List (List ℕ)) → List OpenReader → List OpenReader → Type 0
MightLeave before rs rs' = (left : List (List ℕ)) → MayLeave rs' left → MayLeave rs (before left)

-- The file of this name was opened, and its reader is the innermost: all of the file is left.
pub record OpensInnermost (name : List ℕ) (f : FilesTold) (rs : OpenReaders) (f' : FilesTold) (rs' : OpenReaders) : Type 0 where
  pub id : ℕ
  pub opened : OpensReader id name f f'
  pub after : rs' ≡ record rs { readers = (record { id = id; ended = false }) ∷ rs.readers }
  pub whole : (left : List (List ℕ)) → AreLeft rs'.readers f' left → IsContent (f.file name) (first_left left)
  pub told : LeftBefore (drop 1) rs.readers f rs'.readers f'
  pub may : MightLeave (drop 1) rs.readers rs'.readers

-- the files and the readers are as before
pub record KeepsReaders (f : FilesTold) (rs : OpenReaders) (f' : FilesTold) (rs' : OpenReaders) : Type 0 where
  pub files : SameFiles f f'
  pub after : rs' ≡ rs
  pub told : LeftBefore (λ left. left) rs.readers f rs'.readers f'
  pub may : MightLeave (λ left. left) rs.readers rs'.readers

-- one of these readers has this number
abbrev pub is_one_of : ℕ → List OpenReader → Bool
is_one_of id rs = list_any (λ r. nat_eq id r.id) rs

-- these readers were closed, and nothing else has changed
pub record ClosesReaders (rs : List OpenReader) (f f' : FilesTold) : Type 0 where
  pub file : (n : List ℕ) → f'.file n ≡ f.file n
  pub reading : (i : ℕ) → f'.reading i ≡ (if is_one_of i rs then false else f.reading i)
  pub rest : (i : ℕ) → f'.rest i ≡ (if is_one_of i rs then None else f.rest i)
  pub writer : (i : ℕ) → f'.writer i ≡ f.writer i
