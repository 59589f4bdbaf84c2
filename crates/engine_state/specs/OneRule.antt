-- What one rule does, over any files.
use Rattle.std.specs.Prelude.{◌≡◌, Bool, Option}
use Rattle.tex_syntax.specs.declared.words.Want.{Want}
use Rattle.tex_defs.specs.declared.Sizes.{Sizes}
use Rattle.world_io.specs.Contents.{FilesTold, SinkTold}
use Rattle.plain_machine.specs.declared.broken.Broken.{Broken}
use Rattle.engine_state.specs.declared.engine.Engine.{Engine}
use Rattle.engine_state.specs.declared.outcome.Next.{Next}
use Rattle.engine_state.specs.Book.{Book}
use Rattle.engine_state.specs.CutReadings.{CutsIn}
use Rattle.engine_state.specs.Stands.{state_of}
use Rattle.engine_state.specs.Rules.{world_of, enters_of, next_moves, Takes, Nexts}

-- The next reading does this, over any files and for whatever wants a token, and enters names so.
abbrev pub ReadsNext : (enters : Bool) → (e e' : Engine) → (before after : SinkTold) → Next → Type 0
ReadsNext enters e e' before after next = (sizes : Sizes) (f : FilesTold) (book : Book) (want : Option Want) → enters ≡ enters_of want → Takes sizes want e book →
    Nexts sizes want (state_of e book) e' book (world_of f before e) (world_of f after e') (next_moves want e book) next

-- it is cut off
abbrev pub CutsNext : (enters : Bool) → (e e' : Engine) → (before after : SinkTold) → Broken → Type 0
CutsNext enters e e' before after b = (sizes : Sizes) (f : FilesTold) (book : Book) (want : Option Want) → enters ≡ enters_of want → Takes sizes want e book →
    CutsIn sizes (state_of e book) e' (world_of f before e) (world_of f after e') (next_moves want e book) b
