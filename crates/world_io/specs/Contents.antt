-- What a sink and files tell of what they hold, and what each call on them changes.
use Rattle.std.specs.Prelude.{◌≡◌, ◌≤◌, ℕ, Bool, true, false, List, [], ◌++◌, drop, take, length, bytes_eq, nat_eq, if◌then◌else◌, Option, Some, None, option_map, Result, IsErrOf}
use Rattle.tex_defs.specs.Places.{World, Rose, Place, Transcript, OfFile, File, Untold, NotHeld, Holds, grown, emptied}
use Rattle.world_io.specs.declared.traits.Fault.{Fault}
use Rattle.world_io.specs.declared.traits.Fault.TheVariants.{Failed, NoMemory}

-- What is told of a sink: its bytes, how often a write has failed and how often memory was wanted.
pub record SinkTold : Type 0 where
  pub bytes : File
  pub faults : ℕ
  pub wants : ℕ

-- What is told of files: what each name holds, which readers are open, an open reader's rest, the name of each
-- open writer, and how often a call has failed or wanted memory. Which readers and writers are open is always told.
pub record FilesTold : Type 0 where
  pub file : List ℕ → File
  pub reading : ℕ → Bool
  pub rest : ℕ → Option (List ℕ)
  pub writer : ℕ → Option (List ℕ)
  pub read_faults : ℕ
  pub write_faults : ℕ
  pub wants : ℕ

abbrev pub content_at : FilesTold → SinkTold → Place → File
content_at f s Transcript = s.bytes
content_at f s (OfFile n) = f.file n

-- the world of these files and this sink
abbrev pub world : FilesTold → SinkTold → Bool → World
world f s in_line = record {
  at = content_at f s;
  in_line = in_line;
  read_faults = f.read_faults;
  file_faults = f.write_faults;
  sink_faults = s.faults;
  file_wants = f.wants;
  sink_wants = s.wants;
}

-- a fault, and a want of memory, is answered only where its count rose; no count falls
pub record HasCause {T : Type 0} (before now wants_before wants_now : ℕ) (result : Result T Fault) : Type 0 where
  pub later : before ≤ now
  pub later_wants : wants_before ≤ wants_now
  pub failed : IsErrOf result Failed → Rose before now
  pub wanted : IsErrOf result NoMemory → Rose wants_before wants_now

-- no file, no open reader, no rest and no open writer has changed
pub record SameFiles (f f' : FilesTold) : Type 0 where
  pub file : (n : List ℕ) → f'.file n ≡ f.file n
  pub reading : (i : ℕ) → f'.reading i ≡ f.reading i
  pub rest : (i : ℕ) → f'.rest i ≡ f.rest i
  pub writer : (i : ℕ) → f'.writer i ≡ f.writer i

-- no count has changed
pub record SameCounts (f f' : FilesTold) : Type 0 where
  pub read_faults : f'.read_faults ≡ f.read_faults
  pub write_faults : f'.write_faults ≡ f.write_faults
  pub wants : f'.wants ≡ f.wants

-- the file of this name has these bytes more, and nothing else has changed
pub record Grew (name bytes : List ℕ) (f f' : FilesTold) : Type 0 where
  pub file : (n : List ℕ) → f'.file n ≡ (if bytes_eq n name then grown (f.file n) bytes else f.file n)
  pub reading : (i : ℕ) → f'.reading i ≡ f.reading i
  pub rest : (i : ℕ) → f'.rest i ≡ f.rest i
  pub writer : (i : ℕ) → f'.writer i ≡ f.writer i

-- these are the bytes of the file of this name, and nothing else has changed
pub record Puts (name bytes : List ℕ) (f f' : FilesTold) : Type 0 where
  pub file : (n : List ℕ) → f'.file n ≡ (if bytes_eq n name then Holds bytes else f.file n)
  pub reading : (i : ℕ) → f'.reading i ≡ f.reading i
  pub rest : (i : ℕ) → f'.rest i ≡ f.rest i
  pub writer : (i : ℕ) → f'.writer i ≡ f.writer i

-- no name is held, nothing is open, and no count has risen
pub record IsEmpty (f : FilesTold) : Type 0 where
  pub file : (n : List ℕ) → f.file n ≡ NotHeld
  pub reading : (i : ℕ) → f.reading i ≡ false
  pub rest : (i : ℕ) → f.rest i ≡ None
  pub writer : (i : ℕ) → f.writer i ≡ None
  pub read_faults : f.read_faults ≡ 0
  pub write_faults : f.write_faults ≡ 0
  pub wants : f.wants ≡ 0

-- no content is told, nothing is open, and no count has risen
pub record IsFresh (f : FilesTold) : Type 0 where
  pub file : (n : List ℕ) → f.file n ≡ Untold
  pub reading : (i : ℕ) → f.reading i ≡ false
  pub rest : (i : ℕ) → f.rest i ≡ None
  pub writer : (i : ℕ) → f.writer i ≡ None
  pub read_faults : f.read_faults ≡ 0
  pub write_faults : f.write_faults ≡ 0
  pub wants : f.wants ≡ 0

-- no file of this name is told to be held
abbrev pub NotFound : File → Type 0
NotFound Untold = Unit {0}
NotFound NotHeld = Unit {0}
NotFound (Holds bytes) = ⊥

-- a file of this name isn't told to be missing
abbrev pub MayHold : File → Type 0
MayHold Untold = Unit {0}
MayHold NotHeld = ⊥
MayHold (Holds bytes) = Unit {0}

-- the bytes, where they are told
abbrev pub content : File → Option (List ℕ)
content Untold = None
content NotHeld = None
content (Holds bytes) = Some bytes

-- this reader, which wasn't open, was opened on the file of this name: its rest is the bytes held now
pub record OpensReader (id : ℕ) (name : List ℕ) (f f' : FilesTold) : Type 0 where
  pub was_closed : f.reading id ≡ false
  pub no_rest : f.rest id ≡ None
  pub held : MayHold (f.file name)
  pub file : (n : List ℕ) → f'.file n ≡ f.file n
  pub reading : (i : ℕ) → f'.reading i ≡ (if nat_eq i id then true else f.reading i)
  pub rest : (i : ℕ) → f'.rest i ≡ (if nat_eq i id then content (f.file name) else f.rest i)
  pub writer : (i : ℕ) → f'.writer i ≡ f.writer i

-- this reader was closed, and nothing else has changed
pub record ClosesReader (id : ℕ) (f f' : FilesTold) : Type 0 where
  pub file : (n : List ℕ) → f'.file n ≡ f.file n
  pub reading : (i : ℕ) → f'.reading i ≡ (if nat_eq i id then false else f.reading i)
  pub rest : (i : ℕ) → f'.rest i ≡ (if nat_eq i id then None else f.rest i)
  pub writer : (i : ℕ) → f'.writer i ≡ f.writer i

-- this writer, which wasn't open, was opened on the file of this name, and that file is empty
pub record OpensWriter (id : ℕ) (name : List ℕ) (f f' : FilesTold) : Type 0 where
  pub was_closed : f.writer id ≡ None
  pub file : (n : List ℕ) → f'.file n ≡ (if bytes_eq n name then emptied (f.file n) else f.file n)
  pub reading : (i : ℕ) → f'.reading i ≡ f.reading i
  pub rest : (i : ℕ) → f'.rest i ≡ f.rest i
  pub writer : (i : ℕ) → f'.writer i ≡ (if nat_eq i id then Some name else f.writer i)

-- this writer was closed, and nothing else has changed
pub record ClosesWriter (id : ℕ) (f f' : FilesTold) : Type 0 where
  pub file : (n : List ℕ) → f'.file n ≡ f.file n
  pub reading : (i : ℕ) → f'.reading i ≡ f.reading i
  pub rest : (i : ℕ) → f'.rest i ≡ f.rest i
  pub writer : (i : ℕ) → f'.writer i ≡ (if nat_eq i id then None else f.writer i)

-- the first n bytes of a told rest stand at the front of the piece
abbrev pub HasFront : Option (List ℕ) → ℕ → List ℕ → Type 0
HasFront None n piece = Unit {0}
HasFront (Some rest) n piece = (n ≤ length rest) × (take n piece ≡ take n rest)

-- a told rest has nothing left
abbrev pub IsAtEnd : Option (List ℕ) → Type 0
IsAtEnd None = Unit {0}
IsAtEnd (Some rest) = rest ≡ []

-- the first n bytes of this reader's rest were moved to the front of the piece, and nothing else has changed
pub record ReadFrom (id n : ℕ) (piece : List ℕ) (f f' : FilesTold) : Type 0 where
  pub moved : HasFront (f.rest id) n piece
  pub file : (name : List ℕ) → f'.file name ≡ f.file name
  pub reading : (i : ℕ) → f'.reading i ≡ f.reading i
  pub rest : (i : ℕ) → f'.rest i ≡ (if nat_eq i id then option_map (drop n) (f.rest i) else f.rest i)
  pub writer : (i : ℕ) → f'.writer i ≡ f.writer i

-- these are the bytes of the file, where they are told
abbrev pub IsContent : File → List ℕ → Type 0
IsContent Untold bytes = Unit {0}
IsContent NotHeld bytes = ⊥
IsContent (Holds held) bytes = bytes ≡ held

-- these are all the bytes of a rest, where it is told
abbrev pub IsAll : Option (List ℕ) → List ℕ → Type 0
IsAll None bytes = Unit {0}
IsAll (Some rest) bytes = bytes ≡ rest

-- these bytes were read of the first rest, and the second is left
abbrev pub SoFar : Option (List ℕ) → List ℕ → Option (List ℕ) → Type 0
SoFar None bytes left = left ≡ None
SoFar (Some rest) bytes None = ⊥
SoFar (Some rest) bytes (Some left) = rest ≡ bytes ++ left

-- nothing but this reader's rest has changed
pub record OnlyReads (id : ℕ) (f f' : FilesTold) : Type 0 where
  pub file : (n : List ℕ) → f'.file n ≡ f.file n
  pub reading : (i : ℕ) → f'.reading i ≡ f.reading i
  pub rest : (i : ℕ) → nat_eq i id ≡ false → f'.rest i ≡ f.rest i
  pub writer : (i : ℕ) → f'.writer i ≡ f.writer i
