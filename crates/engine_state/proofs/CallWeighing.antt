-- What a rule of a call makes lighter, and whether it has a step.
use Rattle.std.proofs.Common.{◌≡◌, sym, ◌+◌, ◌<◌, ◌≤◌, ap, ◌∙◌, subst, arith, Bool, true, false, List, drop}
use Rattle.std.specs.Prelude.{Option, Some, None, Result, Ok, Err, IfOk, OnErr, ◌&&◌}
use Rattle.tex_defs.specs.declared.Name.{Name}
use Rattle.plain_tokens.specs.Pending.{pulled}
use Rattle.plain_readings.specs.Weights.{act_frame, act_weight, ask_weight, behind_weight}
use Rattle.reading_frames.specs.Stack.{Stack, reading_ended}
use Rattle.reading_frames.specs.Weights.{frames_weight, innermost_weight, stack_weight}
use Rattle.reading_frames.proofs.Weights.{small as weights_small}
use Rattle.input_state.specs.Reads.{gives_step}
use Rattle.input_state.specs.Stored.{Stored}
use Rattle.input_state.specs.declared.answer.Call.{Call}
use Rattle.input_state.specs.Callings.{Calling, NotCalling, call_in}
use Rattle.macro_call.specs.declared.ask.CallAsk.{CallAsk}
use Rattle.macro_call.specs.declared.ask.CallAsk.TheVariants as call
use Rattle.engine_state.specs.declared.engine.Engine.{Engine}
use Rattle.engine_state.specs.declared.outcome.Ruled.{Ruled}
use Rattle.engine_state.specs.declared.outcome.Ruled.TheVariants.{Step, Free, Halted}
use Rattle.engine_state.specs.Calls.{asks_by, asks_of}
use Rattle.engine_state.specs.Stands.{SameFrames}
use Rattle.plain_machine.specs.declared.broken.Broken.{Broken}
use Rattle.plain_machine.specs.Weights.{pending_weight}
use Rattle.engine_state.specs.Steps.{stepping, asked, asks_more, asks_now, readings_weight, weight, IsStep, StepsIf, asked_by, wants_token}
use Rattle.reading_frames.specs.declared.frame.Frame.{Frame}

-- at an error
pub on_err : {T E : Type 0} {P : Type 0} → (r : Result T E) → P → OnErr r P
on_err (Ok x) h = tt
on_err (Err e) h = h

pub on_err_to : {T E : Type 0} {P Q : Type 0} → (r : Result T E) → (P → Q) → OnErr r P → OnErr r Q
on_err_to (Ok x) f h = tt
on_err_to (Err e) f h = f h

-- WHAT THE ENGINE WEIGHS

readings_same : (e e1 : Engine) (c : Option Call) → e1.readings ≡ e.readings → e1.input.call ≡ e.input.call → readings_weight c e1 ≡ readings_weight c e
readings_same e e1 None same call = ap stack_weight same
readings_same e e1 (Some c) same call =
    ap (λ (s : Stack). act_frame + frames_weight (drop 1 s.frames) + ask_weight behind_weight (asks_of c e1.input.call)) same
    ∙ ap (λ (k : Calling). act_frame + frames_weight (drop 1 e.readings.frames) + ask_weight behind_weight (asks_of c k)) call

pub same_weight : (e e1 : Engine) → SameFrames e e1 → pending_weight e1.input.pending ≡ pending_weight e.input.pending → weight e1 ≡ weight e
same_weight e e1 same left =
    let readings : readings_weight (call_in e1.input.call) e1 ≡ readings_weight (call_in e.input.call) e = ap (λ (k : Calling). readings_weight (call_in k) e1) same.call ∙ readings_same e e1 (call_in e.input.call) same.readings same.call in
    omega (arith, readings, left)

pub lighter_by : (e e1 e2 : Engine) → SameFrames e e1 → pending_weight e1.input.pending ≡ pending_weight e.input.pending → weight e2 < weight e1 → weight e2 < weight e
lighter_by e e1 e2 same left h = omega (arith, h, same_weight e e1 same left)

-- one that asks for no token
heavy : (name : Name) (a : CallAsk) (k : Calling) → asks_more (asks_by name a k) ≡ false → act_weight ≤ ask_weight behind_weight (asks_by name a k)
heavy name call.More k is = cc
heavy name call.ExtraBrace k is = omega arith
heavy name call.Gathered k is = omega arith
heavy name call.Mismatch k is = omega arith
heavy name (call.ParEnded false) k is = omega arith
heavy name (call.ParEnded true) k is = omega arith

-- the frames beneath weigh less than these with an end
frames_left : (fs : List Frame) → frames_weight (drop 1 fs) + innermost_weight (drop 1 fs) < act_frame + frames_weight (drop 1 fs) + act_weight
frames_left fs = omega (arith, weights_small (drop 1 fs))

-- the engine without its call
pub closed_light : (e : Engine) (i : Stored) (c : Call) → call_in e.input.call ≡ Some c → wants_token (asks_now e) ≡ false → pending_weight i.pending ≡ pending_weight e.input.pending → i.call ≡ NotCalling → weight (record e { readings = reading_ended e.readings; input = i }) < weight e
closed_light e i c is none left gone =
    let had : readings_weight (call_in e.input.call) e ≡ readings_weight (Some c) e = ap (λ (c : Option Call). readings_weight c e) is in
    let has : readings_weight (call_in i.call) (record e { readings = reading_ended e.readings; input = i }) ≡ stack_weight (reading_ended e.readings) = ap (λ (k : Calling). readings_weight (call_in k) (record e { readings = reading_ended e.readings; input = i })) gone in
    let takes_none : asks_more (asks_of c e.input.call) ≡ false = sym (ap (λ (o : Option Call). wants_token (asked_by o e.input.call (asked e))) is) ∙ none in
    omega (arith, had, has, left, heavy c.name c.ask e.input.call takes_none, frames_left e.readings.frames)

-- the same, where other lists may stand in front
pub closed_within : (e x : Engine) (c : Call) → x ≡ record e { readings = reading_ended e.readings; input = x.input } → x.input.call ≡ NotCalling → pending_weight x.input.pending ≡ pending_weight e.input.pending → call_in e.input.call ≡ Some c → wants_token (asks_now e) ≡ false → weight x < weight e
closed_within e x c now gone left is none =
    let light : weight (record e { readings = reading_ended e.readings; input = x.input }) < weight e = closed_light e x.input c is none left gone in
    omega (arith, light, ap weight now)

-- WHETHER IT HAS A STEP

pub call_steps : (e : Engine) (call : Call) → call_in e.input.call ≡ Some call → stepping e ≡ (wants_token (asked_by (Some call) e.input.call (asked e)) && gives_step (pulled e.input.groups.now.categories e.input.pending))
call_steps e call is = ap (λ (x : Option Call). wants_token (asked_by x e.input.call (asked e)) && gives_step (pulled e.input.groups.now.categories e.input.pending)) is

pub steps_as_one : (r : Result Ruled Broken) (b b' : Bool) → b ≡ b' → IfOk r (λ ruled. StepsIf ruled b) → IfOk r (λ ruled. StepsIf ruled b')
steps_as_one r b b' is h = subst (λ (x : Bool). IfOk r (λ ruled. StepsIf ruled x)) is h

-- nothing that goes on has a step
pub free_steps : (r : Result Ruled Broken) (b : Bool) → b ≡ false → IfOk r (λ ruled. IsStep ruled → ⊥) → IfOk r (λ ruled. StepsIf ruled b)
free_steps (Ok Step) b is h = absurd (h tt)
free_steps (Ok Free) b is h = is
free_steps (Ok (Halted o)) b is h = tt
free_steps (Err x) b is h = tt
