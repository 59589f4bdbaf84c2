-- What a stack weighs, whatever it stands for, by the weights of `plain_readings`: how many rules without a step may follow one another.
use Rattle.std.specs.Prelude.{ℕ, ◌+◌, ◌<◌, ◌≤◌, ◌≡◌, Bool, true, false, List, [], ◌∷◌, Option, Some, None, drop}
use Rattle.tex_defs.specs.declared.Seen.{Seen}
use Rattle.rows.specs.declared.words.Value.{Value}
use Rattle.rows.specs.declared.words.Phrase.{Phrase}
use Rattle.rows.specs.declared.words.Phrase.TheVariants as phrase
use Rattle.rows.specs.declared.command.Call.{Call}
use Rattle.rows.specs.declared.command.Effect.TheVariants.{ExpandBehind}
use Rattle.rows.specs.Readings.{Ask, Inner, Done, Acts, ActsOn, Defines, Ends}
use Rattle.plain_readings.specs.Weights.{frame_weight, value_frame, act_frame, value_weight, act_weight, behind_weight, end_weight, ask_weight, IsNoted}
use Rattle.scan_dimens.specs.Resumes.{kept_in}
use Rattle.reading_frames.specs.Views.{reading_kind}
use Rattle.reading_frames.specs.Resumes.{resume}
use Rattle.reading_frames.specs.Stack.{Stack, asks_in}
use Rattle.reading_frames.specs.declared.ask.Opening.{Opening}
use Rattle.reading_frames.specs.declared.ask.Opening.TheVariants.{Reads, Behind}
use Rattle.reading_frames.specs.declared.frame.Frame.{Frame}
use Rattle.reading_frames.specs.declared.frame.Frame.TheVariants.{Integer, Factor, Dimension, Glue, Keyword, Build}

-- FRAMES: what ends with a value weighs less than what acts

abbrev pub own_weight : Frame → ℕ
own_weight (Integer scan) = value_frame
own_weight (Factor scan) = value_frame
own_weight (Dimension scan) = value_frame
own_weight (Glue scan) = value_frame
own_weight (Keyword scan) = value_frame
own_weight (Build scan) = value_frame
own_weight f = act_frame

-- all that are open
abbrev pub frames_weight : List Frame → ℕ
frames_weight [] = 0
frames_weight (f ∷ fs) = own_weight f + frames_weight fs

-- what begins: as much as the reading of the machine
abbrev pub opening_frame : Opening → ℕ
opening_frame o = frame_weight (reading_kind o)

-- WHAT THE INNERMOST ASKS FOR

-- the most that its end weighs
abbrev pub frame_end : Frame → ℕ
frame_end (Integer scan) = value_weight
frame_end (Factor scan) = value_weight
frame_end (Dimension scan) = value_weight
frame_end (Glue scan) = value_weight
frame_end (Keyword scan) = value_weight
frame_end (Build scan) = value_weight
frame_end f = behind_weight

-- and of what begins: as much as the end of the reading of the machine
abbrev pub opening_end : Opening → ℕ
opening_end o = end_weight (reading_kind o)

abbrev pub innermost_end : List Frame → ℕ
innermost_end [] = 0
innermost_end (f ∷ fs) = frame_end f

abbrev pub asked_weight : (end : ℕ) → Option Ask → ℕ
asked_weight end None = 0
asked_weight end (Some a) = ask_weight end a

-- what it asks for, which weighs the same over all lists
abbrev pub asks_weight : Frame → ℕ
asks_weight f = ask_weight (frame_end f) (resume f [] [])

abbrev pub innermost_weight : List Frame → ℕ
innermost_weight fs = asked_weight (innermost_end fs) (asks_in fs [])

abbrev pub stack_weight : Stack → ℕ
stack_weight s = frames_weight s.frames + innermost_weight s.frames

-- the most that a reading asks for at first weighs, and behind the token with which it begins
abbrev pub begun_weight : Opening → ℕ
begun_weight (Reads (phrase.Command c)) = 11
begun_weight (Behind c x) = act_weight
begun_weight o = 0

abbrev pub begun_with_weight : Opening → ℕ
begun_with_weight (Reads (phrase.Command c)) = 92
begun_with_weight (Reads (phrase.Dimension k)) = 70
begun_with_weight (Reads (phrase.Glue mu)) = 81
begun_with_weight (Reads k) = 59
begun_with_weight o = 92

-- the most that a frame asks for weighs behind a token: a keyword may put that and all that it keeps back
abbrev pub fed_weight : Frame → ℕ
fed_weight (Integer scan) = 59
fed_weight (Factor scan) = 59
fed_weight (Dimension scan) = 70
fed_weight (Glue scan) = 81
fed_weight (Keyword scan) = value_weight + 1 + kept_in scan
fed_weight (Build scan) = 59
fed_weight f = 92

abbrev pub innermost_fed : List Frame → ℕ
innermost_fed [] = 0
innermost_fed (f ∷ fs) = fed_weight f

-- how many tokens a keyword may put back
abbrev pub put_count : Frame → ℕ
put_count (Keyword scan) = kept_in scan
put_count f = 0

abbrev pub innermost_puts : List Frame → ℕ
innermost_puts [] = 0
innermost_puts (f ∷ fs) = put_count f

-- it is fed with a note then
abbrev pub IsReported : Option Ask → Type 0
IsReported None = ⊥
IsReported (Some a) = IsNoted a

-- what another reading begins, and is no command
abbrev pub IsInner : Phrase → Type 0
IsInner (phrase.Command c) = ⊥
IsInner k = Unit {0}

-- an act or another end without a value
abbrev pub IsEnd : Ask → Type 0
IsEnd (Acts c e) = Unit {0}
IsEnd (ActsOn c e ts) = Unit {0}
IsEnd (Defines c n ts) = Unit {0}
IsEnd Ends = Unit {0}
IsEnd a = ⊥

-- EACH RULE WITHOUT A STEP makes a stack lighter, by what the calls say. A reading begins within another, alone or with a token; it ends
-- with a value, with which the one beneath is fed; it acts or ends; it acts and another begins in its place; `\expandafter` ends, and its token
-- waits in its place, perhaps with an expansion above it; a note comes, or what stands at a location.
pub record StacksFall (old new : Stack) : Type 0 where
  pub begun :
      (k : Phrase) → IsInner k → asks_in old.frames [] ≡ Some (Inner k false) → frames_weight new.frames ≤ frames_weight old.frames + opening_frame (Reads k) →
      innermost_weight new.frames ≤ begun_weight (Reads k) → stack_weight new < stack_weight old
  pub begun_with :
      (k : Phrase) → IsInner k → asks_in old.frames [] ≡ Some (Inner k true) → frames_weight new.frames ≤ frames_weight old.frames + opening_frame (Reads k) →
      innermost_weight new.frames ≤ begun_with_weight (Reads k) → stack_weight new < stack_weight old
  pub valued :
      (v : Value) (back : Bool) → asks_in old.frames [] ≡ Some (Done v back) → frames_weight new.frames ≤ frames_weight (drop 1 old.frames) →
      innermost_weight new.frames < value_frame + value_weight → stack_weight new < stack_weight old
  pub acted :
      (a : Ask) → asks_in old.frames [] ≡ Some a → IsEnd a → frames_weight new.frames ≤ frames_weight (drop 1 old.frames) →
      innermost_weight new.frames < act_frame + act_weight → stack_weight new < stack_weight old
  pub begun_by_act :
      (a : Ask) → asks_in old.frames [] ≡ Some a → IsEnd a → frames_weight new.frames ≤ frames_weight (drop 1 old.frames) + act_frame →
      innermost_weight new.frames ≤ 11 → stack_weight new < stack_weight old
  pub waits :
      (c : Call) (x y : Seen) → asks_in old.frames [] ≡ Some (Acts c (ExpandBehind x y)) → frames_weight new.frames ≤ frames_weight (drop 1 old.frames) + act_frame →
      innermost_weight new.frames ≤ act_weight → stack_weight new < stack_weight old
  pub expanded_behind :
      (c : Call) (x y : Seen) → asks_in old.frames [] ≡ Some (Acts c (ExpandBehind x y)) → frames_weight new.frames ≤ frames_weight (drop 1 old.frames) + (act_frame + act_frame) →
      innermost_weight new.frames ≤ 11 → stack_weight new < stack_weight old
  pub noted : innermost_weight new.frames < innermost_weight old.frames → frames_weight new.frames ≤ frames_weight old.frames → stack_weight new < stack_weight old

-- what acts or ends so weighs more, and so does its frame; nothing that begins weighs more than that
pub record RulesAreLight : Type 0 where
  pub falls : (old new : Stack) → StacksFall old new
  pub heavy : (fs : List Frame) (a : Ask) → asks_in fs [] ≡ Some a → IsEnd a → act_weight ≤ innermost_weight fs
  pub ends : (fs : List Frame) (a : Ask) → asks_in fs [] ≡ Some a → IsEnd a → frames_weight fs ≡ act_frame + frames_weight (drop 1 fs)
  pub openings : (o : Opening) → opening_frame o ≤ act_frame

-- whatever is open weighs so much at most
abbrev pub WeightsAreSmall : Type 0
WeightsAreSmall = (fs : List Frame) → innermost_weight fs < act_frame + act_weight
