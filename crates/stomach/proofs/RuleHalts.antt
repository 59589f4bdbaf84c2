-- Where a rule ends the run, the open readings are as they were.
use Rattle.std.proofs.Common.{◌≡◌, ℕ, List, sym, subst, ◌∙◌, ap}
use Rattle.std.specs.Prelude.{Bool}
use Rattle.tex_syntax.specs.declared.words.Outcome.{Outcome}
use Rattle.tex_defs.specs.Places.{World}
use Rattle.tex_defs.specs.declared.Sizes.{Sizes}
use Rattle.plain_machine.specs.States.{State, Move}
use Rattle.input_state.specs.Callings.{call_in}
use Rattle.engine_state.specs.declared.engine.Engine.{Engine}
use Rattle.engine_state.specs.declared.outcome.Ruled.{Ruled}
use Rattle.engine_state.specs.declared.outcome.Ruled.TheVariants.{Step, Free, Halted}
use Rattle.engine_state.specs.Book.{Book}
use Rattle.engine_state.specs.Calls.{AllStand, FramesOf}
use Rattle.engine_state.specs.Rules.{DoesRule, Halts}
use Rattle.engine_state.specs.Stands.{Stands, SameFrames, SameReadings, state_of}
use Rattle.engine_state.specs.Steps.{IsHalted}
use Rattle.engine_state.proofs.Uncalled.{frames_all, frames_none, no_call}
use Rattle.engine_state.proofs.CallKept.{frames_still, readings_still}
use Rattle.engine_state.proofs.Stopping.{noted, noted_same, noted_went, noted_halts}
use Rattle.stomach.specs.Halting.{HaltsIn, DoesRuleIn}

-- THE OPEN READINGS

-- where no call gathers its arguments
bare_frames : (sizes : Sizes) (e e' : Engine) (book : Book) → Stands sizes e book → SameReadings e e' → FramesOf e' book.work
bare_frames sizes e e' book st same = frames_none e' book.work (no_call e'.input.call (same.call ∙ ap call_in st.uncalled)) (readings_still e e' book.work same st.readings)

-- the same moves
pub rules_by : (sizes : Sizes) (s : State) (e' : Engine) (w w' : World) (ms ns : List Move) (ruled : Ruled) → ns ≡ ms → DoesRuleIn sizes s e' w w' ms ruled → DoesRuleIn sizes s e' w w' ns ruled
rules_by sizes s e' w w' ms ns ruled is h = subst (λ (x : List Move). DoesRuleIn sizes s e' w w' x ruled) (sym is) h

-- THE END OF A RUN

pub halts_in : (sizes : Sizes) (e e' : Engine) (book : Book) (w w' : World) (moves : List Move) (o : Outcome) (k : ℕ) → Stands sizes e book → SameReadings e e' → Halts sizes (state_of e book) e' book w w' moves o k → HaltsIn sizes (state_of e book) e' w w' moves o k
halts_in sizes e e' book w w' moves o k st same h = record { book' = book; halts = h; frames = bare_frames sizes e e' book st same }

-- a rule
pub rules_in : (sizes : Sizes) (e e' : Engine) (book : Book) (w w' : World) (moves : List Move) (ruled : Ruled) → AllStand sizes e book → (IsHalted ruled → SameFrames e e') → DoesRule sizes (state_of e book) e' book w w' moves ruled → DoesRuleIn sizes (state_of e book) e' w w' moves ruled
rules_in sizes e e' book w w' moves Step st same h = h
rules_in sizes e e' book w w' moves Free st same h = h
rules_in sizes e e' book w w' moves (Halted o) st same h = record { book' = book; halts = h; frames = frames_still e e' book.work (same tt) (frames_all sizes e book st) }

-- NOTED, WHETHER IT HAS STOPPED

pub noted_rules : (b : Bool) (sizes : Sizes) (s : State) (e : Engine) (w w' : World) (moves : List Move) (ruled : Ruled) → DoesRuleIn sizes s e w w' moves ruled → DoesRuleIn sizes s (noted b e) w w' moves ruled
noted_rules b sizes s e w w' moves Step h = noted_went b sizes s e w w' moves 1 h
noted_rules b sizes s e w w' moves Free h = noted_went b sizes s e w w' moves 0 h
noted_rules b sizes s e w w' moves (Halted o) h = record { book' = h.book'; halts = noted_halts b sizes s e w w' moves h.book' o 1 h.halts; frames = frames_still e (noted b e) h.book'.work (noted_same b e) h.frames }
