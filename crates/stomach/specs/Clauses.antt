-- What contracts say of what the stomach does, over any sizes, any world, and whatever the engine stands for.
use Rattle.std.specs.Prelude.{List, ◌∷◌, Option, None}
use Rattle.tex_syntax.specs.declared.words.Want.{Want}
use Rattle.tex_defs.specs.Places.{World}
use Rattle.tex_defs.specs.declared.Seen.{Seen}
use Rattle.tex_defs.specs.declared.Sizes.{Sizes}
use Rattle.equivalents.specs.declared.values.Loc.{Loc}
use Rattle.rows.specs.declared.command.Call.{Call}
use Rattle.rows.specs.declared.command.Effect.TheVariants as effects
use Rattle.plain_readings.specs.Readings.{Reading}
use Rattle.plain_machine.specs.States.{State, Move}
use Rattle.plain_machine.specs.Plan.{Page, acts_above, computed_to}
use Rattle.world_io.specs.Contents.{FilesTold, SinkTold}
use Rattle.engine_state.specs.declared.engine.Engine.{Engine}
use Rattle.engine_state.specs.Book.{Book, with_work}
use Rattle.engine_state.specs.Rules.{world_of, onward_of, Takes}
use Rattle.engine_state.specs.Stands.{Stands, page_of, state_of}
use Rattle.gullet.specs.Stepping.{Stays}

-- Where this is so with a reading r open, what is done by moves that depend on r, with nothing written, is as said.
abbrev pub DoesSilentlyIf : {A : Type 0} → (If : Type 0) → (Does : Sizes → State → Engine → World → World → List Move → A → Type 0) →
    (e e' : Engine) → (Page → Reading → List Move) → A → Type 0
DoesSilentlyIf If Does e e' moves a = (sizes : Sizes) (w : World) (book : Book) (r : Reading) (rs : List Reading) → Stands sizes e (with_work (r ∷ rs) book) → If →
    Does sizes (state_of e (with_work (r ∷ rs) book)) e' w w (moves (page_of e book) r) a

-- Where this is so with a reading open above rs, what is done by moves that depend on rs, with this written, is as said.
abbrev pub DoesIf : {A : Type 0} → (If : Type 0) → (Does : Sizes → State → Engine → World → World → List Move → A → Type 0) →
    (e e' : Engine) → (before after : SinkTold) → (Page → (rs : List Reading) → List Move) → A → Type 0
DoesIf If Does e e' before after moves a = (sizes : Sizes) (f : FilesTold) (book : Book) (r : Reading) (rs : List Reading) → Stands sizes e (with_work (r ∷ rs) book) → If →
    Does sizes (state_of e (with_work (r ∷ rs) book)) e' (world_of f before e) (world_of f after e') (moves (page_of e book) rs) a

-- Where a command has no result, as it was out of bounds, what is done for it, with this written, is as said, whatever location l it was for.
abbrev pub Overflows : {A : Type 0} → (Does : Sizes → State → Engine → World → World → List Move → A → Type 0) →
    (e e' : Engine) → (before after : SinkTold) → Call → A → Type 0
Overflows Does e e' before after call a = (sizes : Sizes) (f : FilesTold) (book : Book) (r : Reading) (rs : List Reading) (l : Loc) → Stands sizes e (with_work (r ∷ rs) book) →
    Does sizes (state_of e (with_work (r ∷ rs) book)) e' (world_of f before e) (world_of f after e') (computed_to (page_of e book) call l None) a

-- Where a command, whichever it is, gives the list of this location, what is done, with nothing written, is as said.
abbrev pub GivesList : {A : Type 0} → (Does : Sizes → State → Engine → World → World → List Move → A → Type 0) → (e e' : Engine) → Loc → A → Type 0
GivesList Does e e' l a = (sizes : Sizes) (w : World) (book : Book) (call : Call) (r : Reading) (rs : List Reading) → Stands sizes e (with_work (r ∷ rs) book) →
    Does sizes (state_of e (with_work (r ∷ rs) book)) e' w w (acts_above rs (page_of e book) call (effects.PutList l)) a

-- Where a token that isn't expanded goes to what wants such a token, what is done, with this written, is as said.
abbrev pub HandsToken : {A : Type 0} → (Does : Sizes → State → Engine → Book → World → World → List Move → A → Type 0) →
    (e e' : Engine) → (before after : SinkTold) → Option Want → Seen → A → Type 0
HandsToken Does e e' before after want x a = (sizes : Sizes) (f : FilesTold) (book : Book) → Stays want x → Takes sizes want e book →
    Does sizes (state_of e book) e' book (world_of f before e) (world_of f after e') (onward_of (page_of e book) want book.work x) a
