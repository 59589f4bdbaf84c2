-- Whether the next rule needs a step, and how many rules without a step may follow.
use Rattle.std.specs.Prelude.{◌≡◌, ℕ, ◌+◌, [], drop, Bool, true, false, ◌&&◌, Option, Some, None}
use Rattle.tex_syntax.specs.declared.words.Outcome.TheVariants.{AtFatal}
use Rattle.tex_defs.specs.declared.Fatal.TheVariants.{HundredErrors}
use Rattle.tex_defs.specs.declared.Seen.{Seen}
use Rattle.plain_tokens.specs.Pending.{pulled}
use Rattle.plain_machine.specs.Extended.{starts}
use Rattle.plain_machine.specs.Weights.{pending_weight}
use Rattle.rows.specs.Readings as reading
use Rattle.plain_readings.specs.Weights.{act_frame, ask_weight, behind_weight}
use Rattle.reading_frames.specs.Stack.{asks_in}
use Rattle.reading_frames.specs.Weights.{frames_weight, stack_weight}
use Rattle.input_state.specs.Reads.{gives_step}
use Rattle.input_state.specs.NextBytes.{KnowsNext}
use Rattle.input_state.specs.declared.answer.Call.{Call}
use Rattle.input_state.specs.Callings.{Calling, call_in}
use Rattle.engine_state.specs.declared.engine.Engine.{Engine}
use Rattle.engine_state.specs.Calls.{asks_of}
use Rattle.engine_state.specs.declared.outcome.Ruled.{Ruled}
use Rattle.engine_state.specs.declared.outcome.Ruled.TheVariants.{Step, Free, Halted}
use Rattle.engine_state.specs.declared.outcome.Next.{Next}
use Rattle.engine_state.specs.declared.outcome.Next.TheVariants.{Token, Line, Skipped, Over}

-- WHETHER A TOKEN IS WANTED

abbrev pub asks_more : reading.Ask → Bool
asks_more (reading.More want) = true
asks_more a = false

-- what the innermost frame asks for, over the lists that are gathered
abbrev pub asked : Engine → Option reading.Ask
asked e = asks_in e.readings.frames e.input.builds

-- what the innermost reading asks for: a call, where there is one, and else the innermost frame
abbrev pub asked_by : Option Call → Calling → (frames : Option reading.Ask) → Option reading.Ask
asked_by None k a = a
asked_by (Some c) k a = Some (asks_of c k)

abbrev pub asks_now : Engine → Option reading.Ask
asks_now e = asked_by (call_in e.input.call) e.input.call (asked e)

-- over no lists: of a frame what it asks for but for the lists in it
abbrev pub asks_bare : Engine → Option reading.Ask
asks_bare e = asked_by (call_in e.input.call) e.input.call (asks_in e.readings.frames [])

-- it asks for a token, or no reading is open
abbrev pub wants_token : Option reading.Ask → Bool
wants_token None = true
wants_token (Some a) = asks_more a

-- WHETHER A FILE IS TO BE OPENED

-- `\input` has read its file's name
abbrev pub asks_start : Option reading.Ask → Bool
asks_start None = false
asks_start (Some a) = starts a

-- the next rule has a step
abbrev pub stepping : Engine → Bool
stepping e = wants_token (asks_now e) && gives_step (pulled e.input.groups.now.categories e.input.pending)

-- WEIGHTS

-- the open readings: the frames, and what the innermost asks for; of a call, that stands in the input
abbrev pub readings_weight : Option Call → Engine → ℕ
readings_weight None e = stack_weight e.readings
readings_weight (Some c) e = act_frame + frames_weight (drop 1 e.readings.frames) + ask_weight behind_weight (asks_of c e.input.call)

-- a rule without a step makes the engine lighter
abbrev pub weight : Engine → ℕ
weight e = readings_weight (call_in e.input.call) e + pending_weight e.input.pending

-- a token comes next, by a step, and no byte of a file is needed for it
pub record IsReady (e : Engine) : Type 0 where
  pub knows : KnowsNext e.input
  pub steps : gives_step (pulled e.input.groups.now.categories e.input.pending) ≡ true

-- RULES

abbrev pub IsStep : Ruled → Type 0
IsStep Step = Unit {0}
IsStep Free = ⊥
IsStep (Halted o) = ⊥

abbrev pub IsFree : Ruled → Type 0
IsFree Free = Unit {0}
IsFree r = ⊥

abbrev pub IsHalted : Ruled → Type 0
IsHalted (Halted o) = Unit {0}
IsHalted r = ⊥

-- the run has ended
abbrev pub stops_run : Ruled → Bool
stops_run (Halted o) = true
stops_run r = false

-- a rule that goes on has a step exactly where one comes next
abbrev pub StepsIf : Ruled → Bool → Type 0
StepsIf Step b = b ≡ true
StepsIf Free b = b ≡ false
StepsIf (Halted o) b = Unit {0}

abbrev pub freed : Ruled → Ruled
freed Step = Free
freed r = r

-- THE NEXT READING

-- no step was taken
abbrev pub IsSkipped : Next → Type 0
IsSkipped Skipped = Unit {0}
IsSkipped n = ⊥

abbrev pub IsOver : Next → Type 0
IsOver (Over o) = Unit {0}
IsOver n = ⊥

-- a token was met, or the run has ended at it
abbrev pub IsMet : Next → Type 0
IsMet (Token x) = Unit {0}
IsMet (Over o) = Unit {0}
IsMet n = ⊥

-- the run has ended
abbrev pub ends_run : Next → Bool
ends_run (Over o) = true
ends_run n = false

-- it has a step exactly where one comes next
abbrev pub NextStepsIf : Next → Bool → Type 0
NextStepsIf (Token x) b = b ≡ true
NextStepsIf Line b = b ≡ true
NextStepsIf Skipped b = b ≡ false
NextStepsIf (Over o) b = Unit {0}

-- a token that was met, and moves without a step
abbrev pub next_met : Option Seen → Next
next_met (Some x) = Token x
next_met None = Over (AtFatal HundredErrors)

abbrev pub next_free : Ruled → Next
next_free Step = Skipped
next_free Free = Skipped
next_free (Halted o) = Over o
