-- Where a rule is cut off within what a token comes to.
use Rattle.std.specs.Prelude.{◌≡◌, List, [], ◌∷◌, ◌++◌, Option, Some, None}
use Rattle.tex_defs.specs.Places.{World}
use Rattle.tex_defs.specs.declared.Full.{Full}
use Rattle.tex_defs.specs.declared.Name.{Name}
use Rattle.tex_defs.specs.declared.Seen.{Seen}
use Rattle.tex_defs.specs.declared.Sizes.{Sizes}
use Rattle.tex_defs.specs.declared.Token.{Token}
use Rattle.rows.specs.Readings as reading
use Rattle.rows.specs.Readings.{Fed}
use Rattle.plain_readings.specs.Readings.{Kind, Reading}
use Rattle.plain_tokens.specs.Arguments.{Tok}
use Rattle.plain_tokens.specs.Puts.{grow_first}
use Rattle.plain_machine.specs.declared.broken.Broken.{Broken}
use Rattle.plain_machine.specs.declared.broken.Broken.TheVariants as broken
use Rattle.plain_machine.specs.States.{State, Move}
use Rattle.macro_call.specs.PlainScans.{Scan, resume_scan}
use Rattle.macro_call.specs.declared.ask.CallAsk.TheVariants as asks
use Rattle.input_state.specs.CallFeeds.{IsCutInGrowth, IsCutBetween}
use Rattle.input_state.specs.declared.answer.CallEnd.TheVariants as end
use Rattle.input_state.specs.Callings.{Calling, Stopped}
use Rattle.reading_frames.specs.Frames as frames
use Rattle.reading_frames.specs.Frames.{OpenCall}
use Rattle.engine_state.specs.Calls.{HasRead, IsAsFar, open_call_of}
use Rattle.engine_state.specs.declared.engine.Engine.{Engine}
use Rattle.engine_state.specs.Book.{Book}
use Rattle.engine_state.specs.Rules.{Cuts}

-- A CALL THAT IS CUT OFF: how its scanner stands, and the call for which its frame stands

-- Its reading isn't fed with the token yet: of the tokens that go into the list in work because of it the first are there.
pub record CutWithin (name : Name) (text : List Token) (next : Scan) (c : OpenCall) : Type 0 where
  pub scan : Scan
  pub seen : Seen
  pub call : c ≡ record { name = name; text = text; answers = resume_scan text scan }
  pub read : HasRead asks.More scan (resume_scan text scan [])
  pub cut : IsCutInGrowth text seen.token scan next

-- Its reading is fed with the token: no list is in work, since that of the place which is reached isn't begun.
pub record CutBehind (name : Name) (text : List Token) (next : Scan) (c : OpenCall) (k : Kind) (fed : List Fed) : Type 0 where
  pub scan : Scan
  pub before : List Fed
  pub seen : Seen
  pub gathers : frames.IsGathered (record { name = name; text = text; answers = resume_scan text scan }) k before
  pub read : HasRead asks.More scan (resume_scan text scan [])
  pub last : fed ≡ before ++ reading.Tok seen ∷ []
  pub call : c ≡ record { name = name; text = text; answers = λ fed. resume_scan text scan (Tok seen.token ∷ fed) }
  pub cut : IsCutBetween text seen.token scan next

pub data CutScan (name : Name) (text : List Token) (next : Scan) (c : OpenCall) (k : Kind) (fed : List Fed) : Type 0 where
  Within : CutWithin name text next c → CutScan name text next c k fed
  Behind : CutBehind name text next c k fed → CutScan name text next c k fed

-- the memory is full within what a token brings
pub record CutFull (b : Broken) (k : Calling) (c : OpenCall) (r : Reading) : Type 0 where
  pub full : Full
  pub is_full : b ≡ broken.Full full
  pub text : List Token
  pub next : Scan
  pub stopped : k ≡ Stopped c.name end.Full next
  pub at : CutScan c.name text next c r.kind r.fed

-- what the frames stand for is the call as it was fed
pub record IsAsFed (k : Calling) (o : Option OpenCall) : Type 0 where
  pub text : List Token
  pub call : o ≡ open_call_of text k
  pub far : IsAsFar text k

-- or cut off
pub data CallAtCut (b : Broken) (k : Calling) : Option OpenCall → List Reading → Type 0 where
  AsFed : {o : Option OpenCall} {work : List Reading} → IsAsFed k o → CallAtCut b k o work
  CutOff : {c : OpenCall} {r : Reading} {rs : List Reading} → CutFull b k c r → CallAtCut b k (Some c) (r ∷ rs)

-- ALL OPEN READINGS

-- the innermost list has one token more, or none
abbrev pub with_token : Option Token → List (List Token) → List (List Token)
with_token None lists = lists
with_token (Some t) lists = grow_first t lists

-- such a token may be there: where a table is full
abbrev pub MayLead : Broken → Option Token → Type 0
MayLead b None = Unit {0}
MayLead (broken.Full full) (Some t) = Unit {0}
MayLead b (Some t) = ⊥

-- The open readings are these. Only where a table is full: of two tokens that one token brings into a list, the first may be
-- there, and a call may be cut off within what a token brings.
pub record FramesAtCut (b : Broken) (e : Engine) (work : List Reading) : Type 0 where
  pub lists : List (List Token)
  pub front : Option Token
  pub grown : e.input.builds ≡ with_token front lists
  pub leads : MayLead b front
  pub call : Option OpenCall
  pub at : CallAtCut b e.input.call call work
  pub stand : frames.AreFramesOf call e.readings.frames lists work

-- The moves are cut off: the engine stands for the moment before the move that wasn't made, with these readings.
pub record CutsIn (sizes : Sizes) (s : State) (e' : Engine) (w w' : World) (moves : List Move) (b : Broken) : Type 0 where
  pub book' : Book
  pub cuts : Cuts sizes s e' book' w w' moves b
  pub near : FramesAtCut b e' book'.work
