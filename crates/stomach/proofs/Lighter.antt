-- What a command makes of the weight that ends and has its token obeyed, or expands the token behind it.
use Rattle.std.proofs.Common.{◌≡◌, ◌<◌, ◌≤◌, ◌+◌, [], ap, sym, subst, ◌∙◌, arith, drop}
use Rattle.std.specs.Prelude.{Option, Some}
use Rattle.tex_defs.specs.declared.Seen.{Seen}
use Rattle.rows.specs.declared.command.Call.{Call as Read}
use Rattle.rows.specs.declared.command.Effect.TheVariants.{ExpandBehind}
use Rattle.rows.specs.Readings.{Ask, Acts}
use Rattle.plain_readings.specs.Weights.{act_frame, act_weight, behind_weight}
use Rattle.reading_frames.specs.Stack.{Stack, asks_in}
use Rattle.reading_frames.specs.Weights.{frames_weight, stack_weight, innermost_weight, innermost_end, asked_weight, IsEnd}
use Rattle.reading_frames.proofs.Rules.{falls, ends_frame}
use Rattle.gullet.specs.declared.expansion.Once.{Once}
use Rattle.gullet.specs.declared.expansion.Once.TheVariants as once
use Rattle.gullet.specs.Stepping.{IsExpanded}
use Rattle.engine_state.specs.declared.engine.Engine.{Engine}
use Rattle.engine_state.specs.Stands.{SameFrames, SameBut}
use Rattle.plain_machine.specs.Weights.{pending_weight}
use Rattle.engine_state.specs.Steps.{weight, readings_weight}
use Rattle.stomach.specs.Obeying.{Obeys}
use Rattle.stomach.specs.Obeying as obeys
use Rattle.stomach.proofs.RuleCloses.{closed_lighter_behind}
use Rattle.input_state.specs.Callings.{NotCalling, Calling, call_in}

-- where no call is open
pub weight_none : (e : Engine) → e.input.call ≡ NotCalling → weight e ≡ stack_weight e.readings + pending_weight e.input.pending
weight_none e none = ap (λ (k : Calling). readings_weight (call_in k) e + pending_weight e.input.pending) none

-- behind what leaves the frames as they were, which an engine n tells
pub closed_lighter_as : (e e1 e' n : Engine) (a : Ask) → e1 ≡ n → e.input.call ≡ NotCalling → asks_in e.readings.frames [] ≡ Some a → IsEnd a → SameFrames e n → pending_weight n.input.pending ≡ pending_weight e.input.pending →
    (e1.input.call ≡ NotCalling → SameBut e1 e') → frames_weight e'.readings.frames ≡ frames_weight (drop 1 e1.readings.frames) → innermost_weight e'.readings.frames < act_frame + act_weight → weight e' < weight e
closed_lighter_as e e1 e' n a is none asks end same left but frames light =
    closed_lighter_behind e e1 e' a none asks end (subst (λ (x : Engine). SameFrames e x) (sym is) same) (ap (λ (x : Engine). pending_weight x.input.pending) is ∙ left) but frames light

-- THE READING ENDS, and then a token is obeyed
module _ (e e1 e2 : Engine) (a : Ask) (none : e.input.call ≡ NotCalling) (asks : asks_in e.readings.frames [] ≡ Some a) (end : IsEnd a) (but : e.input.call ≡ NotCalling → SameBut e e1)
    (frames : frames_weight e1.readings.frames ≡ frames_weight (drop 1 e.readings.frames)) (light : innermost_weight e1.readings.frames < act_frame + act_weight)
    (left : pending_weight e2.input.pending ≡ pending_weight e1.input.pending) (call : e2.input.call ≡ e1.input.call) where
  fewer : stack_weight e2.readings < stack_weight e.readings → weight e2 < weight e
  fewer less =
      omega (arith, less, weight_none e none, weight_none e2 (call ∙ ((but none).call ∙ none)), left, ap pending_weight (but none).pending)

  pub obeyed_lighter : Obeys e1 e2 → weight e2 < weight e
  obeyed_lighter (obeys.HasBegun more small) = fewer ((falls e.readings e2.readings).begun_by_act a asks end (omega (arith, more, frames)) small)
  obeyed_lighter (obeys.HasNotBegun same) =
      fewer ((falls e.readings e2.readings).acted a asks end (omega (arith, frames, ap frames_weight same)) (omega (arith, light, ap innermost_weight same)))

pub once_expanded : (n : Once) → n ≡ once.Expanded → IsExpanded n
once_expanded n is = subst IsExpanded (sym is) tt

-- `\expandafter` ENDS: its token waits, and the one behind it is expanded or put back
module _ (e e1 e2 : Engine) (c : Read) (x y : Seen) (none : e.input.call ≡ NotCalling) (asks : asks_in e.readings.frames [] ≡ Some (Acts c (ExpandBehind x y))) (but : e.input.call ≡ NotCalling → SameBut e e1)
    (frames : frames_weight e1.readings.frames ≡ frames_weight (drop 1 e.readings.frames)) (but2 : SameBut e1 e2)
    (more : frames_weight e2.readings.frames ≡ frames_weight e1.readings.frames + act_frame) (waits : innermost_weight e2.readings.frames ≤ act_weight) where
  asked : innermost_weight e.readings.frames ≡ behind_weight
  asked = ap (λ (o : Option Ask). asked_weight (innermost_end e.readings.frames) o) asks

  own : frames_weight e.readings.frames ≡ act_frame + frames_weight (drop 1 e.readings.frames)
  own = ends_frame e.readings.frames (Acts c (ExpandBehind x y)) asks tt

  heavy : frames_weight e2.readings.frames + act_weight + pending_weight e2.input.pending < weight e
  heavy = omega (arith, asked, own, frames, more, weight_none e none, ap pending_weight (but none).pending, ap pending_weight but2.pending)

  pub expanded_lighter : (e3 : Engine) → weight e3 ≤ frames_weight e2.readings.frames + act_weight + pending_weight e2.input.pending → weight e3 < weight e
  expanded_lighter e3 most = omega (arith, most, heavy)

  pub stayed_lighter : (e3 e4 : Engine) → e3 ≡ e2 → SameFrames e3 e4 → pending_weight e4.input.pending ≡ pending_weight e3.input.pending → weight e4 < weight e
  stayed_lighter e3 e4 is same left =
      omega (
        arith,
        heavy,
        waits,
        weight_none e4 (same.call ∙ (ap (λ (z : Engine). z.input.call) is ∙ (but2.call ∙ ((but none).call ∙ none)))),
        left,
        ap (λ (z : Engine). pending_weight z.input.pending) is,
        ap (λ (s : Stack). stack_weight s) same.readings,
        ap (λ (z : Engine). stack_weight z.readings) is,
      )
