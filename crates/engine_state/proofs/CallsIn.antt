-- How a call stands, by what it asks for.
use Rattle.std.proofs.Common.{◌≡◌, refl, sym, ap, subst, List, Bool, true, false}
use Rattle.std.specs.Prelude.{Option, Some}
use Rattle.std.proofs.lemmas.Option.{same_Some}
use Rattle.tex_defs.specs.declared.Name.{Name}
use Rattle.tex_defs.specs.declared.Token.{Token}
use Rattle.plain_tokens.specs.declared.par_mode.ParMode.{ParMode}
use Rattle.plain_tokens.specs.Arguments.{begins_with_place}
use Rattle.rows.specs.Readings as reading
use Rattle.reading_frames.specs.Weights.{IsReported}
use Rattle.macro_call.specs.declared.ask.CallAsk.TheVariants as ask
use Rattle.input_state.specs.declared.answer.Call.{Call}
use Rattle.input_state.specs.declared.answer.CallEnd.{CallEnd}
use Rattle.input_state.specs.declared.answer.CallEnd.TheVariants as end
use Rattle.input_state.specs.CallFeeds.{IsTaking}
use Rattle.input_state.specs.Callings.{Calling, NotCalling, Gathering, Stopped, Gathered, IsComplete, asks_where, asks_as, scan_asks, ended_asks, call_in}
use Rattle.macro_call.specs.PlainScans.{first_by, first_scan}
use Rattle.engine_state.specs.Calls.{asks_by}
use Rattle.engine_state.specs.Steps.{asked_by}

-- the call that asks for a token
abbrev pub open_call : Name → Call
open_call name = record { name = name; ask = ask.More }

-- the call in which an extra right brace came
abbrev pub brace_call : Name → Call
brace_call name = record { name = name; ask = ask.ExtraBrace }

-- one that begins asks for a token
first_settled : (b : Bool) (mode : ParMode) → (first_by b mode).braced ≡ false
first_settled true mode = refl
first_settled false mode = refl

pub first_asks : (name : Name) (text : List Token) (mode : ParMode) → call_in (Gathering name (first_scan text mode)) ≡ Some (open_call name)
first_asks name text mode = ap (λ (b : Bool). asks_as name (asks_where b)) (first_settled (begins_with_place text) mode)

not_gathered : (b : Bool) → asks_where b ≡ ask.Gathered → ⊥
not_gathered true is = cc
not_gathered false is = cc

-- it has its arguments
pub complete_at : (k : Calling) (name : Name) → call_in k ≡ Some (record { name = name; ask = ask.Gathered }) → IsComplete k
complete_at NotCalling name is = absurd cc
complete_at (Gathering n scan) name is = not_gathered scan.braced (ap (λ (c : Call). c.ask) (same_Some (record { name = n; ask = scan_asks scan }) (record { name = name; ask = ask.Gathered }) is))
complete_at (Stopped n why scan) name is = ended_so why (ap (λ (c : Call). c.ask) (same_Some (record { name = n; ask = ended_asks why }) (record { name = name; ask = ask.Gathered }) is)) where
  ended_so : (why : CallEnd) → ended_asks why ≡ ask.Gathered → ⊥
  ended_so end.Mismatch is = cc
  ended_so (end.ParEnded silent) is = cc
  ended_so end.Full is = cc
complete_at (Gathered n args) name is = tt

-- WHERE A REPORT IS ASKED FOR

pub record AsksBrace (k : Calling) : Type 0 where
  pub name : Name
  pub is : call_in k ≡ Some (brace_call name)

brace_asked : (name : Name) (b : Bool) (k : Calling) → IsReported (Some (asks_by name (asks_where b) k)) → asks_as name (asks_where b) ≡ Some (brace_call name)
brace_asked name true k h = refl
brace_asked name false k h = absurd h

-- a call that takes tokens asks for that of an extra brace
pub brace_reported : (k : Calling) (frames : Option reading.Ask) → IsTaking k → IsReported (asked_by (call_in k) k frames) → AsksBrace k
brace_reported NotCalling frames taking h = absurd taking
brace_reported (Gathering n scan) frames taking h = record { name = n; is = brace_asked n scan.braced (Gathering n scan) h }
brace_reported (Stopped n why scan) frames taking h = absurd taking
brace_reported (Gathered n args) frames taking h = absurd taking

none_ended : (name : Name) (why : CallEnd) (k : Calling) → IsReported (Some (asks_by name (ended_asks why) k)) → ⊥
none_ended name end.Mismatch k h = h
none_ended name (end.ParEnded true) k h = h
none_ended name (end.ParEnded false) k h = h
none_ended name end.Full k h = h

-- and one that takes none asks for no report
pub frame_reported : (k : Calling) (frames : Option reading.Ask) → (IsTaking k → ⊥) → IsReported (asked_by (call_in k) k frames) → k ≡ NotCalling
frame_reported NotCalling frames none h = refl
frame_reported (Gathering n scan) frames none h = absurd (none tt)
frame_reported (Stopped n why scan) frames none h = absurd (none_ended n why (Stopped n why scan) h)
frame_reported (Gathered n args) frames none h = absurd h

-- where there is none, the frame does
pub uncalled_reported : (k : Calling) (frames : Option reading.Ask) → k ≡ NotCalling → IsReported frames → IsReported (asked_by (call_in k) k frames)
uncalled_reported k frames none h = subst (λ (x : Calling). IsReported (asked_by (call_in x) x frames)) (sym none) h
