-- What a run of the engine means, by the machine.
use Rattle.std.specs.Prelude.{◌≡◌, ◌≤◌, ℕ, nat_lt, Bool, ◌||◌, List, if◌then◌else◌}
use Rattle.tex_syntax.specs.declared.words.Outcome.{Outcome}
use Rattle.tex_syntax.specs.declared.words.Outcome.TheVariants.{Finished, AtFatal}
use Rattle.tex_defs.specs.Places.{World, Rose}
use Rattle.tex_defs.specs.declared.Sizes.{Sizes}
use Rattle.plain_machine.specs.States.{State}
use Rattle.plain_machine.specs.Meaning.{Status, Says}
use Rattle.world_io.specs.Contents.{FilesTold}
use Rattle.world_io.specs.declared.traits.Fault.TheVariants.{Failed, NoMemory}
use Rattle.stomach.specs.declared.early.Early.{Early}
use Rattle.stomach.specs.declared.early.Early.TheVariants.{Unread}

-- the status is one of a run's, and what it says holds
pub record SaysSo (sizes : Sizes) (s : State) (n : ℕ) (w w' : World) (status : ℕ) : Type 0 where
  pub is : Status status
  pub says : Says sizes s n w w' status is

-- the status of a run that has ended, by its reports and whether it is to be 1 without one
abbrev pub end_status : Outcome → (reports : ℕ) → (flawed : Bool) → ℕ
end_status Finished reports flawed = if flawed || nat_lt 0 reports then 1 else 0
end_status (AtFatal f) reports flawed = 2

-- f was read as a was: nothing was written to it, and its counts of failed reads and of wants rose where those of a did
pub record ReadAlike (a a' f f' : FilesTold) : Type 0 where
  pub file : (name : List ℕ) → f'.file name ≡ f.file name
  pub read_faults : f.read_faults ≤ f'.read_faults
  pub write_faults : f'.write_faults ≡ f.write_faults
  pub wants : f.wants ≤ f'.wants
  pub failed : Rose a.read_faults a'.read_faults → Rose f.read_faults f'.read_faults
  pub wanted : Rose a.wants a'.wants → Rose f.wants f'.wants

-- Where the run stopped because something of the files didn't come, a read or an opening failed or memory was wanted.
pub record HasReadCause (early : Early) (w w' : World) : Type 0 where
  pub failed : early ≡ Unread Failed → Rose w.read_faults w'.read_faults
  pub wanted : early ≡ Unread NoMemory → Rose w.file_wants w'.file_wants
