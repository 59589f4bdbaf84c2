-- Each rule without a step makes the engine lighter.
use Rattle.std.proofs.Common.{◌≡◌, ◌<◌, ◌+◌, Bool, [], drop, arith, ap}
use Rattle.std.specs.Prelude.{Some}
use Rattle.rows.specs.declared.words.Value.{Value}
use Rattle.rows.specs.Readings.{Ask, Done}
use Rattle.plain_readings.specs.Weights.{value_frame, act_frame, value_weight, act_weight}
use Rattle.reading_frames.specs.Stack.{asks_in}
use Rattle.reading_frames.specs.Frames as frames
use Rattle.reading_frames.specs.Weights.{frames_weight, stack_weight, innermost_weight, IsEnd}
use Rattle.reading_frames.proofs.Rules.{falls}
use Rattle.input_state.specs.Callings.{Calling, NotCalling, call_in}
use Rattle.engine_state.specs.declared.engine.Engine.{Engine}
use Rattle.plain_machine.specs.Weights.{pending_weight}
use Rattle.engine_state.specs.Steps.{weight, readings_weight}

-- where the stack is lighter, and nothing else of the weight has changed
pub lighter : (e e' : Engine) → e.input.call ≡ NotCalling → e'.input.call ≡ NotCalling → e'.input.pending ≡ e.input.pending → stack_weight e'.readings < stack_weight e.readings → weight e' < weight e
lighter e e' none none' same less =
    omega (arith, less, ap pending_weight same, ap (λ (k : Calling). readings_weight (call_in k) e) none, ap (λ (k : Calling). readings_weight (call_in k) e') none')

-- EACH RULE, by what the calls say

module _ (e e' : Engine) (none : e.input.call ≡ NotCalling) (none' : e'.input.call ≡ NotCalling) (same : e'.input.pending ≡ e.input.pending) where
  -- one ends with a value
  pub valued_lighter : (v : Value) (back : Bool) → asks_in e.readings.frames [] ≡ Some (Done v back) → frames_weight e'.readings.frames ≡ frames_weight (drop 1 e.readings.frames) →
      innermost_weight e'.readings.frames < value_frame + value_weight → weight e' < weight e
  valued_lighter v back asks less light = lighter e e' none none' same ((falls e.readings e'.readings).valued v back asks (omega (arith, less)) light)

  -- one acts or ends without a value
  pub acted_lighter : (a : Ask) → asks_in e.readings.frames [] ≡ Some a → IsEnd a → frames_weight e'.readings.frames ≡ frames_weight (drop 1 e.readings.frames) →
      innermost_weight e'.readings.frames < act_frame + act_weight → weight e' < weight e
  acted_lighter a asks end less light = lighter e e' none none' same ((falls e.readings e'.readings).acted a asks end (omega (arith, less)) light)

  -- the note of a report
  pub noted_lighter : innermost_weight e'.readings.frames < innermost_weight e.readings.frames → frames_weight e'.readings.frames ≡ frames_weight e.readings.frames → weight e' < weight e
  noted_lighter light same_frames = lighter e e' none none' same ((falls e.readings e'.readings).noted light (omega (arith, same_frames)))
