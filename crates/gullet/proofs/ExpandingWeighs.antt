-- What the engine weighs behind an expansion: no more than an act above the readings that were open, where the innermost did.
use Rattle.std.proofs.Common.{◌≡◌, ℕ, ◌+◌, ◌≤◌, List, ap, ◌∙◌, arith}
use Rattle.std.specs.Prelude.{Option, Some}
use Rattle.tex_defs.specs.declared.Name.{Name}
use Rattle.plain_readings.specs.Weights.{act_frame, act_weight}
use Rattle.reading_frames.specs.Stack.{call_begun}
use Rattle.reading_frames.specs.Weights.{frames_weight, opening_frame, innermost_weight, stack_weight}
use Rattle.reading_frames.specs.declared.ask.Opening.{Opening}
use Rattle.reading_frames.proofs.Rules.{openings}
use Rattle.reading_frames.specs.declared.frame.Frame.{Frame}
use Rattle.input_state.specs.Stored.{Stored}
use Rattle.input_state.specs.declared.answer.Call.{Call}
use Rattle.input_state.specs.Callings.{Calling, NotCalling, call_in}
use Rattle.engine_state.specs.declared.engine.Engine.{Engine}
use Rattle.engine_state.proofs.CallsIn.{open_call}
use Rattle.engine_state.specs.Stands.{SameFrames}
use Rattle.plain_machine.specs.Weights.{pending_weight}
use Rattle.engine_state.specs.Steps.{readings_weight, weight}
use Rattle.engine_state.proofs.CallWeighing.{same_weight}

module _ (e : Engine) (none : e.input.call ≡ NotCalling) (light : innermost_weight e.readings.frames ≤ act_weight) where
  abbrev most : ℕ
  most = frames_weight e.readings.frames + act_weight + pending_weight e.input.pending

  weighs : weight e ≤ most
  weighs = let is : readings_weight (call_in e.input.call) e ≡ stack_weight e.readings = ap (λ (k : Calling). readings_weight (call_in k) e) none in omega (arith, is, light)

  -- its readings are as they were
  pub same_light : (e' : Engine) → SameFrames e e' → pending_weight e'.input.pending ≡ pending_weight e.input.pending → weight e' ≤ most
  same_light e' same left = omega (arith, same_weight e e' same left, weighs)

  pub framed_light : (e' : Engine) → e'.input.call ≡ NotCalling → e'.readings.frames ≡ e.readings.frames → pending_weight e'.input.pending ≡ pending_weight e.input.pending → weight e' ≤ most
  framed_light e' call same left =
      let is : readings_weight (call_in e'.input.call) e' ≡ stack_weight e'.readings = ap (λ (k : Calling). readings_weight (call_in k) e') call in
      let frames : stack_weight e'.readings ≡ stack_weight e.readings = ap (λ (fs : List Frame). frames_weight fs + innermost_weight fs) same in
      omega (arith, is, frames, left, light)

  -- a reading more
  pub begun_light : (e' : Engine) (o : Opening) (n : ℕ) → e'.input.call ≡ e.input.call → frames_weight e'.readings.frames ≡ frames_weight e.readings.frames + opening_frame o → innermost_weight e'.readings.frames ≤ n → n ≤ 11 → e'.input.pending ≡ e.input.pending → weight e' ≤ most
  begun_light e' o n call frames begun few same =
      let is : readings_weight (call_in e'.input.call) e' ≡ stack_weight e'.readings = ap (λ (k : Calling). readings_weight (call_in k) e') (call ∙ none) in
      let left : pending_weight e'.input.pending ≡ pending_weight e.input.pending = ap pending_weight same in
      omega (arith, is, left, frames, openings o, begun, few)

  -- a list is put
  pub put_light : (i : Stored) → i.call ≡ e.input.call → pending_weight i.pending ≡ pending_weight e.input.pending → weight (record e { input = i }) ≤ most
  put_light i call left =
      let is : readings_weight (call_in i.call) (record e { input = i }) ≡ stack_weight e.readings = ap (λ (k : Calling). readings_weight (call_in k) (record e { input = i })) (call ∙ none) in
      omega (arith, is, left, light)

  -- a call begins
  pub called_light : (e' : Engine) (name : Name) (i : Stored) → e' ≡ record e { readings = call_begun name e.readings; input = i } → call_in i.call ≡ Some (open_call name) → pending_weight i.pending ≡ pending_weight e.input.pending → weight e' ≤ most
  called_light e' name i is asks left =
      let begun : Engine = record e { readings = call_begun name e.readings; input = i } in
      let now : weight e' ≡ weight begun = ap weight is in
      let readings : readings_weight (call_in i.call) begun ≡ readings_weight (Some (open_call name)) begun = ap (λ (c : Option Call). readings_weight c begun) asks in
      omega (arith, now, readings, left)

-- BEHIND A CONDITIONAL'S CHOICE: no more than this above the readings that were open

module _ (e : Engine) (none : e.input.call ≡ NotCalling) (most : ℕ) where
  abbrev within : ℕ
  within = frames_weight e.readings.frames + most + pending_weight e.input.pending

  -- where the innermost goes on
  pub reads_within : (e' : Engine) → innermost_weight e.readings.frames ≤ most → SameFrames e e' → pending_weight e'.input.pending ≡ pending_weight e.input.pending → weight e' ≤ within
  reads_within e' light same left =
      let is : readings_weight (call_in e.input.call) e ≡ stack_weight e.readings = ap (λ (k : Calling). readings_weight (call_in k) e) none in
      omega (arith, same_weight e e' same left, is, light)

  -- where a reading begins that takes a token
  pub skips_within : (e' : Engine) (n : ℕ) → act_frame ≤ most → e'.input.call ≡ e.input.call → frames_weight e'.readings.frames ≡ frames_weight e.readings.frames + act_frame → innermost_weight e'.readings.frames ≤ n → n ≡ 0 → e'.input.pending ≡ e.input.pending → weight e' ≤ within
  skips_within e' n room call frames begun none_yet same =
      let is : readings_weight (call_in e'.input.call) e' ≡ stack_weight e'.readings = ap (λ (k : Calling). readings_weight (call_in k) e') (call ∙ none) in
      let left : pending_weight e'.input.pending ≡ pending_weight e.input.pending = ap pending_weight same in
      omega (arith, is, left, frames, begun, none_yet, room)

  -- the same readings and lines
  pub from_same : (e1 e' : Engine) → e1.readings.frames ≡ e.readings.frames → e1.input.pending ≡ e.input.pending → weight e' ≤ frames_weight e1.readings.frames + most + pending_weight e1.input.pending → weight e' ≤ within
  from_same e1 e' frames pending h =
      let same : frames_weight e1.readings.frames ≡ frames_weight e.readings.frames = ap frames_weight frames in
      let left : pending_weight e1.input.pending ≡ pending_weight e.input.pending = ap pending_weight pending in
      omega (arith, h, same, left)
