-- The open frames stand for the open readings of the machine, one for one.
use Rattle.std.specs.Prelude.{◌≡◌, ℕ, false, ◌≤◌, length, List, [], ◌∷◌, ◌++◌, drop, take, Option, Some, None}
use Rattle.tex_defs.specs.declared.Name.{Name}
use Rattle.tex_defs.specs.declared.Token.{Token}
use Rattle.tex_syntax.specs.declared.words.Scanned.TheVariants as scanned
use Rattle.plain_tokens.specs.Arguments as call
use Rattle.rows.specs.declared.words.Phrase.TheVariants.{Command, Integer, Factor, Dimension, Glue, Keyword}
use Rattle.rows.specs.Readings.{Fed, Ask}
use Rattle.plain_readings.specs.Calls.{call_ask, call_fed, call_lists, gathered}
use Rattle.plain_readings.specs.Readings.{Kind, Arguments, Reading, ask, lists, fed_with, opened}
use Rattle.plain_readings.specs.Scanning.{Status, Scans, status}
use Rattle.reading_frames.specs.Views.{Lists, top_list}
use Rattle.reading_frames.specs.Resumes.{resume, building, list_count, below, frame_status, groups, is_call}
use Rattle.reading_frames.specs.declared.ask.Opening.{Opening}
use Rattle.reading_frames.specs.declared.ask.Opening.TheVariants.{Reads, Behind, Skips}
use Rattle.reading_frames.specs.declared.frame.Frame.{Frame}
use Rattle.reading_frames.specs.declared.frame.Frame.TheVariants.{Call as Called}

-- A call of a macro, of this name, with this list, that gathers its arguments. How far it is stands with the memory; here it is what it answers on what
-- is still to come.
pub record OpenCall : Type 0 where
  pub name : Name
  pub text : List Token
  pub answers : List call.Fed → call.Answer

-- what a frame answers once it is fed with this, a call's or another, over the lists that are held
abbrev pub answers : Option OpenCall → Frame → Lists → List Fed → Ask
answers None f held fed = resume f held fed
answers (Some c) f held fed = call_ask c.name (c.answers (call_fed fed))

-- the lists that it will have built then: a call's stand in front of all that are held
abbrev pub builds : Option OpenCall → Frame → Lists → List Fed → Lists
builds None f held fed = building f held fed
builds (Some c) f held fed = call_lists (c.answers (call_fed fed))

-- how many of those that are held are its own, and those of the frames beneath
abbrev pub own_count : Option OpenCall → Frame → ℕ
own_count None f = list_count f
own_count (Some c) f = 0

abbrev pub lists_below : Option OpenCall → Frame → Lists → Lists
lists_below None f held = below f held
lists_below (Some c) f held = held

-- what it is at a check
abbrev pub status_of : Option OpenCall → Frame → Status
status_of None f = frame_status f
status_of (Some c) f = Scans scanned.Use c.name

-- not the arguments of a call
abbrev pub IsOther : Kind → Type 0
IsOther (Arguments name long number text) = ⊥
IsOther k = Unit {0}

-- A call gathers the arguments of its macro as the reading does that was fed with this; no other frame does.
abbrev pub IsGathered : OpenCall → Kind → List Fed → Type 0
IsGathered c (Arguments name long number text) fed = (name ≡ c.name) × (text ≡ c.text) × ((more : List Fed) → gathered long text (fed ++ more) ≡ c.answers (call_fed more))
IsGathered c k fed = ⊥

abbrev pub IsFramed : Option OpenCall → Kind → List Fed → Type 0
IsFramed None k fed = IsOther k
IsFramed (Some c) k fed = IsGathered c k fed

-- it has a frame of its own
abbrev pub HasFrame : Option OpenCall → Frame → Type 0
HasFrame None f = is_call f ≡ false
HasFrame (Some c) f = f ≡ Called c.name

-- The frame will answer what the reading will, and build the lists that it builds; its lists are held, and at a check it is what the reading is.
pub record IsFrameOf (c : Option OpenCall) (f : Frame) (held : Lists) (r : Reading) : Type 0 where
  pub goes_on : (fed : List Fed) → ask r.kind (r.fed ++ fed) ≡ answers c f held fed
  pub builds_on : (fed : List Fed) → lists r.kind (r.fed ++ fed) ≡ builds c f held fed
  pub holds : own_count c f ≤ length held
  pub checks : status r.kind ≡ status_of c f
  pub framed : IsFramed c r.kind r.fed
  pub apart : HasFrame c f

-- none is open, and no list is held
abbrev pub IsBare : Option OpenCall → Lists → Type 0
IsBare None held = held ≡ []
IsBare (Some c) held = ⊥

-- THE STACK, innermost first, each frame with its own lists and those beneath; where none is open, no list is held. Only the innermost may be a call.
abbrev pub AreFramesOf : Option OpenCall → List Frame → Lists → List Reading → Type 0
AreFramesOf c [] held [] = IsBare c held
AreFramesOf c (f ∷ fs) held (r ∷ rs) = IsFrameOf c f held r × AreFramesOf None fs (lists_below c f held) rs
AreFramesOf c [] held (r ∷ rs) = ⊥
AreFramesOf c (f ∷ fs) held [] = ⊥

-- each group that is open in a list has its brace there
abbrev pub AreShallow : List Frame → Lists → Type 0
AreShallow [] held = Unit {0}
AreShallow (f ∷ fs) held = (groups f ≤ length (top_list held)) × AreShallow fs (below f held)

-- the lists over which a reading begins: what builds one has one of no token
abbrev pub opened_lists : Opening → Lists → Lists
opened_lists (Reads (Command c)) held = held
opened_lists (Reads Integer) held = held
opened_lists (Reads Factor) held = held
opened_lists (Reads (Dimension k)) held = held
opened_lists (Reads (Glue mu)) held = held
opened_lists (Reads (Keyword w)) held = held
opened_lists (Behind c x) held = held
opened_lists (Skips c aim line) held = held
opened_lists o held = [] ∷ held

-- A reading begins: over the lists as they become, its frame answers what the reading does that was fed with nothing.
pub record Begins (c : Option OpenCall) (k : Kind) (f : Frame) (held new : Lists) : Type 0 where
  pub asks : (fed : List Fed) → ask k fed ≡ answers c f new fed
  pub lists_are : (fed : List Fed) → lists k fed ≡ builds c f new fed
  pub holds : own_count c f ≤ length new
  pub beneath : lists_below c f new ≡ held
  pub checks : status k ≡ status_of c f
  pub framed : IsFramed c k []
  pub apart : HasFrame c f

-- A frame that is fed with this becomes another, and the lists become others.
pub record GoesOn (c c' : Option OpenCall) (old new : Frame) (held held' : Lists) (y : Fed) : Type 0 where
  pub asks : (fed : List Fed) → answers c old held (y ∷ fed) ≡ answers c' new held' fed
  pub lists_are : (fed : List Fed) → builds c old held (y ∷ fed) ≡ builds c' new held' fed
  pub holds : own_count c old ≤ length held → own_count c' new ≤ length held'
  pub beneath : lists_below c' new held' ≡ lists_below c old held
  pub checks : status_of c' new ≡ status_of c old
  pub framed : (k : Kind) (fed : List Fed) → IsFramed c k fed → IsFramed c' k (fed ++ y ∷ [])
  pub apart : HasFrame c old → HasFrame c' new

-- WHAT A STACK DOES

abbrev pub ReadingsBegin : Type 0
ReadingsBegin =
    (c : Option OpenCall) (k : Kind) (f : Frame) (fs : List Frame) (held new : Lists) (work : List Reading) →
    Begins c k f held new → AreFramesOf None fs held work → AreFramesOf c (f ∷ fs) new (opened k work)

abbrev pub ReadingsAreFed : Type 0
ReadingsAreFed =
    (c c' : Option OpenCall) (old new : Frame) (fs : List Frame) (held held' : Lists) (y : Fed) (work : List Reading) →
    GoesOn c c' old new held held' y → AreFramesOf c (old ∷ fs) held work → AreFramesOf c' (new ∷ fs) held' (fed_with y work)

abbrev pub ReadingsEnd : Type 0
ReadingsEnd =
    (c : Option OpenCall) (f : Frame) (fs : List Frame) (held : Lists) (r : Reading) (work : List Reading) →
    AreFramesOf c (f ∷ fs) held (r ∷ work) → AreFramesOf None fs (lists_below c f held) work

-- WHAT IS HELD: the lists of the machine's innermost reading come first, and behind them those of the frames beneath.
pub record AreHeld (f : Frame) (held : Lists) (r : Reading) : Type 0 where
  pub first : lists r.kind r.fed ≡ take (length (lists r.kind r.fed)) held
  pub beneath : below f held ≡ drop (length (lists r.kind r.fed)) held

abbrev pub ListsAreHeld : Type 0
ListsAreHeld =
    (f : Frame) (fs : List Frame) (held : Lists) (r : Reading) (work : List Reading) →
    AreFramesOf None (f ∷ fs) held (r ∷ work) → AreHeld f held r
