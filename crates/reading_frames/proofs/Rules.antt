-- Each rule without a step makes a stack lighter.
use Rattle.std.proofs.Common.{◌≡◌, ◌≤◌, ◌<◌, ℕ, ◌+◌, true, List, [], ◌∷◌, drop, Option, Some, arith, ap, subst}
use Rattle.rows.specs.declared.words.Phrase.{Phrase}
use Rattle.rows.specs.declared.words.Phrase.TheVariants as phrase
use Rattle.rows.specs.Readings.{Ask, Inner, Done, Acts, ActsOn, Defines, Ends}
use Rattle.plain_readings.specs.Weights.{act_frame, value_frame, act_weight, ask_weight}
use Rattle.plain_readings.proofs.Weights.{heavy}
use Rattle.reading_frames.specs.Resumes.{resume}
use Rattle.reading_frames.specs.Stack.{Stack, asks_in}
use Rattle.reading_frames.specs.Weights.{frames_weight, opening_frame, innermost_weight, innermost_end, asked_weight, begun_weight, begun_with_weight, StacksFall, IsInner, IsEnd}
use Rattle.reading_frames.specs.declared.ask.Opening.{Opening}
use Rattle.reading_frames.specs.declared.ask.Opening.TheVariants.{Reads, Spelling, FileName, Behind, Skips}
use Rattle.reading_frames.specs.declared.frame.Frame.{Frame}
use Rattle.reading_frames.proofs.Weights.{frame_ends, frame_heavy}

-- what the innermost weighs, by what it asks for
weighs : (fs : List Frame) (a : Ask) → asks_in fs [] ≡ Some a → innermost_weight fs ≡ ask_weight (innermost_end fs) a
weighs fs a e = ap (λ (o : Option Ask). asked_weight (innermost_end fs) o) e

-- WHAT BEGINS WITHIN ANOTHER

begun_light : (k : Phrase) → IsInner k → opening_frame (Reads k) + begun_weight (Reads k) < 11
begun_light (phrase.Command c) h = absurd h
begun_light k h = omega arith

with_light : (n : ℕ) (k : Phrase) → IsInner k → opening_frame (Reads k) + begun_with_weight (Reads k) < ask_weight n (Inner k true)
with_light n (phrase.Command c) h = absurd h
with_light n (phrase.Dimension k) h = omega arith
with_light n (phrase.Glue mu) h = omega arith
with_light n k h = omega arith

pub openings : (o : Opening) → opening_frame o ≤ act_frame
openings (Reads (phrase.Command c)) = omega arith
openings (Reads k) = omega arith
openings (Spelling c) = omega arith
openings (FileName c) = omega arith
openings (Behind c x) = omega arith
openings (Skips c aim line) = omega arith

-- WHAT ENDS

end_heavy : (n : ℕ) (a : Ask) → IsEnd a → act_weight ≤ ask_weight n a
end_heavy n (Acts c e) h = heavy e
end_heavy n (ActsOn c e ts) h = omega arith
end_heavy n (Defines c name ts) h = omega arith
end_heavy n Ends h = omega arith
end_heavy n a h = absurd h

pub ends_heavy : (fs : List Frame) (a : Ask) → asks_in fs [] ≡ Some a → IsEnd a → act_weight ≤ innermost_weight fs
ends_heavy fs a asks h = omega (arith, weighs fs a asks, end_heavy (innermost_end fs) a h)

pub ends_frame : (fs : List Frame) (a : Ask) → asks_in fs [] ≡ Some a → IsEnd a → frames_weight fs ≡ act_frame + frames_weight (drop 1 fs)
ends_frame [] a asks h = absurd cc
ends_frame (f ∷ fs) a asks h =
    let is : a ≡ resume f [] [] = cc asks in
    ap (λ (n : ℕ). n + frames_weight fs) (frame_ends f (subst IsEnd is h))

-- the innermost goes with a value at least
valued_frame : (fs : List Frame) (a : Ask) → asks_in fs [] ≡ Some a → value_frame + frames_weight (drop 1 fs) ≤ frames_weight fs
valued_frame [] a asks = absurd cc
valued_frame (f ∷ fs) a asks = omega (arith, frame_heavy f)

pub falls : (old new : Stack) → StacksFall old new
falls old new = record {
  begun = λ k inner asks frames light. let w = weighs old.frames (Inner k _) asks in omega (arith, w, frames, light, begun_light k inner);
  begun_with = λ k inner asks frames light. let w = weighs old.frames (Inner k _) asks in omega (arith, w, frames, light, with_light (innermost_end old.frames) k inner);
  valued = λ v back asks frames light. let w = weighs old.frames (Done v back) asks in omega (arith, w, frames, light, valued_frame old.frames (Done v back) asks);
  acted = λ a asks end frames light. omega (arith, ends_heavy old.frames a asks end, ends_frame old.frames a asks end, frames, light);
  begun_by_act = λ a asks end frames light. omega (arith, ends_heavy old.frames a asks end, ends_frame old.frames a asks end, frames, light);
  waits = λ c x y asks frames light. let w = weighs old.frames _ asks in omega (arith, w, ends_frame old.frames _ asks tt, frames, light);
  expanded_behind = λ c x y asks frames light. let w = weighs old.frames _ asks in omega (arith, w, ends_frame old.frames _ asks tt, frames, light);
  noted = λ light frames. omega (arith, light, frames);
}
