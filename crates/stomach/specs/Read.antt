-- What comes in of the files while they are run.
use Rattle.std.specs.Prelude.{◌≡◌, ℕ, ◌≤◌, List, length}
use Rattle.world_io.specs.Contents.{FilesTold}
use Rattle.line_reader.specs.Readers.{OpenReader, OpenReaders, AreOpen, KnowEnds, AreLeft, MayLeave}
use Rattle.plain_tokens.specs.Tables.{open_files}
use Rattle.plain_machine.specs.Extended.{Rests}
use Rattle.plain_machine.specs.Meaning.{AreHeldAs}
use Rattle.engine_state.specs.declared.engine.Engine.{Engine}

-- so much is left of the files, and the openings to come find this, where it is told
pub record AreTold (rs : List OpenReader) (f : FilesTold) (r : Rests) : Type 0 where
  pub left : AreLeft rs f r.left
  pub files : AreHeldAs f.file r.files

-- the readers are open, and know their files' ends
pub record AreRead (rs : List OpenReader) (f : FilesTold) : Type 0 where
  pub opened : AreOpen rs f
  pub ends : KnowEnds rs f

-- The files were read on, opened and closed, and nothing else of them has changed. Whatever they have left now, and whatever the openings to
-- come find, something was left and to be found before: what is told, where it is told. This holds of both.
pub record ReadsTo (rs rs' : List OpenReader) (f f' : FilesTold) (Holds : (all left : Rests) → Type 0) : Type 0 where
  pub before : Rests → Rests
  pub holds : (left : Rests) → MayLeave rs' left.left → Holds (before left) left
  pub may : (left : Rests) → MayLeave rs' left.left → MayLeave rs (before left).left
  pub told : AreRead rs f → (left : Rests) → AreTold rs' f' left → AreTold rs f (before left)
  pub read : AreRead rs f → AreRead rs' f'
  pub file : (name : List ℕ) → f'.file name ≡ f.file name
  pub read_faults : f.read_faults ≤ f'.read_faults
  pub write_faults : f'.write_faults ≡ f.write_faults
  pub wants : f.wants ≤ f'.wants

-- each open file of an engine has its reader, and there may be as many as text input levels
pub record AreTied (rs : OpenReaders) (e : Engine) : Type 0 where
  pub count : length rs.readers ≡ open_files e.input.pending
  pub room : e.input.sizes.text_input_levels ≤ rs.most
