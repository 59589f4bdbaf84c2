-- What contracts say of expansion and of calls of macros, over any sizes, any world, and whatever the engine stands for.
use Rattle.std.specs.Prelude.{◌≡◌, ℕ, List, ◌∷◌, Option, Some}
use Rattle.tex_defs.specs.Places.{World}
use Rattle.tex_defs.specs.declared.Full.{Full}
use Rattle.tex_defs.specs.declared.Seen.{Seen}
use Rattle.tex_defs.specs.declared.Sizes.{Sizes}
use Rattle.plain_readings.specs.Readings.{Reading}
use Rattle.plain_machine.specs.States.{State, Move}
use Rattle.plain_machine.specs.Demands.{refusal}
use Rattle.plain_machine.specs.Plan.{Page, expanded}
use Rattle.world_io.specs.Contents.{FilesTold, SinkTold}
use Rattle.input_state.specs.Callings.{call_in}
use Rattle.input_state.specs.declared.answer.Call.{Call}
use Rattle.engine_state.specs.declared.engine.Engine.{Engine}
use Rattle.engine_state.specs.declared.outcome.Ruled.{Ruled}
use Rattle.engine_state.specs.Book.{Book, with_work}
use Rattle.engine_state.specs.Calls.{AllStand}
use Rattle.engine_state.specs.Rules.{world_of, DoesRule}
use Rattle.engine_state.specs.Stands.{Counts, Stands, page_of, state_of}

-- What is done for a token by its moves, which are these others where it isn't expanded, with this written, is as said.
abbrev pub ExpandsSo : {A : Type 0} → (Does : Sizes → State → Engine → Book → World → World → (moves others : List Move) → A → Type 0) →
    (e e' : Engine) → (before after : SinkTold) → Seen → A → Type 0
ExpandsSo Does e e' before after x a = (sizes : Sizes) (f : FilesTold) (book : Book) (others : List Move) → Stands sizes e book →
    Does sizes (state_of e book) e' book (world_of f before e) (world_of f after e') (expanded (page_of e book) x others) others a

-- CALLS

-- Why there is no room for this move, whatever number its list has, or that there is.
abbrev pub RefusedAsAny : Engine → (ℕ → Move) → Option Full → Type 0
RefusedAsAny e m o = (sizes : Sizes) (book : Book) (number : ℕ) → Counts sizes e book → refusal sizes (m number) (state_of e book) ≡ o

-- Where the innermost reading is a call's arguments, the rule makes these moves, with this written, and ends so.
abbrev pub DoesRuleAtCall : (e e' : Engine) → (before after : SinkTold) → (Page → List Move) → Ruled → Type 0
DoesRuleAtCall e e' before after moves ruled = (sizes : Sizes) (f : FilesTold) (book : Book) (r : Reading) (rs : List Reading) (call : Call) →
    call_in e.input.call ≡ Some call → AllStand sizes e (with_work (r ∷ rs) book) →
    DoesRule sizes (state_of e (with_work (r ∷ rs) book)) e' (with_work (r ∷ rs) book) (world_of f before e) (world_of f after e') (moves (page_of e book)) ruled
