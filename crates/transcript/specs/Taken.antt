-- What a sink took of a text.
use Rattle.std.specs.Prelude.{◌≡◌, ◌≤◌, ◌<◌, ℕ, Bool, List, take, length}
use Rattle.tex_defs.specs.Places.{Rose, grown}
use Rattle.plain_state.specs.Reports.{in_line_after}
use Rattle.world_io.specs.Contents.{SinkTold}
use Rattle.world_io.specs.declared.traits.Fault.{Fault}
use Rattle.world_io.specs.declared.traits.Fault.TheVariants.{Failed, NoMemory}

-- It took the text: its bytes grew by it, and whether the column isn't 0 went from b to b'. No count fell.
pub record Took (s s' : SinkTold) (b b' : Bool) (text : List ℕ) : Type 0 where
  pub bytes : s'.bytes ≡ grown s.bytes text
  pub column : b' ≡ in_line_after b text
  pub later : s.faults ≤ s'.faults
  pub later_wants : s.wants ≤ s'.wants

-- It took a front of the text, not all of it, and then failed or wanted memory.
pub record TookFront (s s' : SinkTold) (b b' : Bool) (text : List ℕ) (fault : Fault) : Type 0 where
  pub count : ℕ
  pub short : count < length text
  pub took : Took s s' b b' (take count text)
  pub failed : fault ≡ Failed → Rose s.faults s'.faults
  pub wanted : fault ≡ NoMemory → Rose s.wants s'.wants
