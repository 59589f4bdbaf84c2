-- What one rule does, where a run may end behind a reading that the rule has closed.
use Rattle.std.specs.Prelude.{ℕ, List, ◌∷◌}
use Rattle.tex_syntax.specs.declared.words.Outcome.{Outcome}
use Rattle.tex_defs.specs.Places.{World}
use Rattle.tex_defs.specs.declared.Sizes.{Sizes}
use Rattle.world_io.specs.Contents.{FilesTold, SinkTold}
use Rattle.plain_readings.specs.Readings.{Reading}
use Rattle.plain_machine.specs.declared.broken.Broken.{Broken}
use Rattle.plain_machine.specs.States.{State, Move}
use Rattle.plain_machine.specs.Plan.{Page}
use Rattle.engine_state.specs.declared.engine.Engine.{Engine}
use Rattle.engine_state.specs.declared.outcome.Ruled.{Ruled}
use Rattle.engine_state.specs.declared.outcome.Ruled.TheVariants.{Step, Free, Halted}
use Rattle.engine_state.specs.Book.{Book, with_work}
use Rattle.engine_state.specs.Calls.{AllStand, FramesOf}
use Rattle.engine_state.specs.CutReadings.{CutsIn}
use Rattle.engine_state.specs.Stands.{Stands, page_of, state_of}
use Rattle.engine_state.specs.Rules.{world_of, plan_of, Halts, Went}

-- The machine has stopped, behind at most k steps: the engine stands for its last state, but for how it stopped, with these open readings.
pub record HaltsIn (sizes : Sizes) (s : State) (e' : Engine) (w w' : World) (moves : List Move) (o : Outcome) (k : ℕ) : Type 0 where
  pub book' : Book
  pub halts : Halts sizes s e' book' w w' moves o k
  pub frames : FramesOf e' book'.work

-- of a rule
abbrev pub DoesRuleIn : Sizes → State → Engine → World → World → List Move → Ruled → Type 0
DoesRuleIn sizes s e' w w' moves Step = Went sizes s e' w w' moves 1
DoesRuleIn sizes s e' w w' moves Free = Went sizes s e' w w' moves 0
DoesRuleIn sizes s e' w w' moves (Halted o) = HaltsIn sizes s e' w w' moves o 1

-- The rule that comes next does this, over any files.
abbrev pub DoesPlanIn : (e e' : Engine) → (before after : SinkTold) → Ruled → Type 0
DoesPlanIn e e' before after ruled = (sizes : Sizes) (f : FilesTold) (book : Book) → AllStand sizes e book →
    DoesRuleIn sizes (state_of e book) e' (world_of f before e) (world_of f after e') (plan_of e book) ruled

-- It is cut off.
abbrev pub CutsPlanIn : (e e' : Engine) → (before after : SinkTold) → Broken → Type 0
CutsPlanIn e e' before after broken = (sizes : Sizes) (f : FilesTold) (book : Book) → AllStand sizes e book →
    CutsIn sizes (state_of e book) e' (world_of f before e) (world_of f after e') (plan_of e book) broken

-- The rule makes these moves, which depend on the innermost reading r, over any files, and ends so.
abbrev pub DoesRuleAtReading : (e e' : Engine) → (before after : SinkTold) → (Page → Reading → List Move) → Ruled → Type 0
DoesRuleAtReading e e' before after moves ruled = (sizes : Sizes) (f : FilesTold) (book : Book) (r : Reading) (rs : List Reading) → Stands sizes e (with_work (r ∷ rs) book) →
    DoesRuleIn sizes (state_of e (with_work (r ∷ rs) book)) e' (world_of f before e) (world_of f after e') (moves (page_of e book) r) ruled

-- They are cut off.
abbrev pub CutsRuleAtReading : (e e' : Engine) → (before after : SinkTold) → (Page → Reading → List Move) → Broken → Type 0
CutsRuleAtReading e e' before after moves broken = (sizes : Sizes) (f : FilesTold) (book : Book) (r : Reading) (rs : List Reading) → Stands sizes e (with_work (r ∷ rs) book) →
    CutsIn sizes (state_of e (with_work (r ∷ rs) book)) e' (world_of f before e) (world_of f after e') (moves (page_of e book) r) broken

-- Where this is so, the rule makes these moves, which depend on the innermost reading r, a call's or another, over any files, and ends so.
abbrev pub DoesRuleIf : (If : Type 0) → (e e' : Engine) → (before after : SinkTold) → (Page → Reading → List Move) → Ruled → Type 0
DoesRuleIf If e e' before after moves ruled = (sizes : Sizes) (f : FilesTold) (book : Book) (r : Reading) (rs : List Reading) → If → AllStand sizes e (with_work (r ∷ rs) book) →
    DoesRuleIn sizes (state_of e (with_work (r ∷ rs) book)) e' (world_of f before e) (world_of f after e') (moves (page_of e book) r) ruled

-- They are cut off.
abbrev pub CutsRuleIf : (If : Type 0) → (e e' : Engine) → (before after : SinkTold) → (Page → Reading → List Move) → Broken → Type 0
CutsRuleIf If e e' before after moves broken = (sizes : Sizes) (f : FilesTold) (book : Book) (r : Reading) (rs : List Reading) → If → AllStand sizes e (with_work (r ∷ rs) book) →
    CutsIn sizes (state_of e (with_work (r ∷ rs) book)) e' (world_of f before e) (world_of f after e') (moves (page_of e book) r) broken
