-- The stack of all open readings, the innermost first.
use Rattle.std.specs.Prelude.{◌≡◌, ℕ, ◌+◌, ◌≤◌, ◌<◌, ◌^◌, List, [], ◌∷◌, Option, Some, None, length, drop}
use Rattle.tex_defs.specs.declared.Full.{Full}
use Rattle.tex_defs.specs.declared.Table.TheVariants.{ExpansionDepth}
use Rattle.tex_defs.specs.declared.Name.{Name}
use Rattle.tex_defs.specs.declared.Token.{Token}
use Rattle.tex_syntax.specs.declared.words.Want.{Want}
use Rattle.tex_syntax.specs.declared.words.Want.TheVariants.{Copied}
use Rattle.plain_tokens.specs.Puts.{grow_first}
use Rattle.rows.specs.Readings as reading
use Rattle.rows.specs.Readings.{Fed, More, Verbatim}
use Rattle.plain_readings.specs.Readings.{Reading, ask, fed_with}
use Rattle.plain_readings.specs.Scanning.{Status, Scans, SkipsText, Unguarded, Scanning}
use Rattle.plain_readings.specs.Scanning as machine
use Rattle.reading_frames.specs.Views.{Lists, top_list, ask_of}
use Rattle.reading_frames.specs.Resumes.{resume, building, list_count, frame_status, groups, next_in_body}
use Rattle.reading_frames.specs.Frames.{AreFramesOf, AreShallow}
use Rattle.reading_frames.specs.declared.ask.Ask.{Ask}
use Rattle.reading_frames.specs.declared.ask.Found.{Found}
use Rattle.reading_frames.specs.declared.ask.Found.TheVariants.{Builds, SkippedText}
use Rattle.reading_frames.specs.declared.frame.Frame.{Frame}
use Rattle.reading_frames.specs.declared.frame.Frame.TheVariants.{Build, Call}

pub record Stack : Type 0 where
  pub frames : List Frame
  -- how many there may be
  pub size : ℕ

abbrev pub frames_of : (innermost : Option Frame) → (beneath : List Frame) → List Frame
frames_of None fs = []
frames_of (Some f) fs = f ∷ fs

-- there is room for all that there may be, and none is beneath where none is open
pub record IsRoomy (innermost : Option Frame) (beneath : List Frame) (size capacity : ℕ) : Type 0 where
  pub within : length (frames_of innermost beneath) ≤ size
  pub room : size ≤ capacity
  pub small : size < 2 ^ 32
  pub whole : innermost ≡ None → beneath ≡ []

-- no reading more may be open
abbrev pub depth_full : Stack → Full
depth_full s = record { table = ExpansionDepth; used = length s.frames; size = s.size }

-- what the innermost frame asks for, whatever the call does that it may stand for, and the innermost reading of the machine
abbrev pub asks_in : List Frame → Lists → Option reading.Ask
asks_in [] held = None
asks_in (f ∷ fs) held = Some (resume f held [])

abbrev pub asked_in : List Reading → Option reading.Ask
asked_in [] = None
asked_in (r ∷ work) = Some (ask r.kind r.fed)

abbrev pub asked_of : Lists → Option Ask → Option reading.Ask
asked_of held None = None
asked_of held (Some a) = Some (ask_of held a)

-- what the innermost wants, where the next token of the body itself is wanted
abbrev pub frame_body : Frame → Option Want
frame_body (Build scan) = next_in_body scan
frame_body f = None

abbrev pub innermost_body : List Frame → Option Want
innermost_body [] = None
innermost_body (f ∷ fs) = frame_body f

-- the groups that are open in the list of the innermost
abbrev pub innermost_groups : List Frame → ℕ
innermost_groups [] = 0
innermost_groups (f ∷ fs) = groups f

-- how many lists of its own the innermost has, and the lists beneath those
abbrev pub innermost_count : List Frame → ℕ
innermost_count [] = 0
innermost_count (f ∷ fs) = list_count f

abbrev pub lists_beneath : List Frame → Lists → Lists
lists_beneath fs held = drop (innermost_count fs) held

-- the lists that the innermost will have built
abbrev pub innermost_lists : List Frame → Lists → List Fed → Lists
innermost_lists [] held fed = []
innermost_lists (f ∷ fs) held fed = building f held fed

-- the innermost, and all with this one in its place
abbrev pub innermost_of : List Frame → Option Frame
innermost_of [] = None
innermost_of (f ∷ fs) = Some f

abbrev pub in_place : Frame → List Frame → List Frame
in_place f [] = []
in_place f (g ∷ fs) = f ∷ fs

abbrev pub with_innermost : Option Frame → List Frame → List Frame
with_innermost None fs = fs
with_innermost (Some f) fs = in_place f fs

-- CALLS OF MACROS

-- the stack with a call of the macro of this name above all
abbrev pub call_begun : Name → Stack → Stack
call_begun name s = record { frames = Call name ∷ s.frames; size = s.size }

-- without the innermost
abbrev pub reading_ended : Stack → Stack
reading_ended s = record { frames = drop 1 s.frames; size = s.size }

-- WHAT IS READ AT A CHECK. What is read itself has the list of this number among those that are held, the innermost being number 0.
abbrev pub found_at : Status → ℕ → (around : Option Found) → Option Found
found_at (Scans what name) n around = Some (Builds what name n)
found_at (SkipsText line) n around = Some (SkippedText line)
found_at s n around = around

-- the innermost of these, over so many lists of those within
abbrev pub innermost_found : List Frame → ℕ → Option Found
innermost_found [] n = None
innermost_found (f ∷ fs) n = found_at (frame_status f) n (innermost_found fs (n + list_count f))

abbrev pub unless_unguarded : Status → Option Found → Option Found
unless_unguarded Unguarded o = None
unless_unguarded s o = o

abbrev pub found_in : List Frame → Option Found
found_in [] = None
found_in (f ∷ fs) = unless_unguarded (frame_status f) (innermost_found (f ∷ fs) 0)

-- over the lists that are held
abbrev pub scanning_of : Lists → Option Found → Option Scanning
scanning_of held None = None
scanning_of held (Some (Builds what name n)) = Some (machine.Builds what name (top_list (drop n held)))
scanning_of held (Some (SkippedText line)) = Some (machine.SkippedText line)

-- A TOKEN OF A LIST enters an expanded text as it stands: the innermost frame, which asks for a token that is copied, stands as it is for its reading
-- that is fed with that token too, whose list has it, and asks for another so.
abbrev pub AsksCopied : Option reading.Ask → Type 0
AsksCopied o = o ≡ Some (More Copied)

pub record Enters (fs : List Frame) (held : Lists) (work : List Reading) (t : Token) : Type 0 where
  pub stands : AreFramesOf None fs (grow_first t held) (fed_with (Verbatim t) work)
  pub copies : AsksCopied (asks_in fs (grow_first t held))
  pub beneath : lists_beneath fs (grow_first t held) ≡ lists_beneath fs held
  pub shallow : AreShallow fs held → AreShallow fs (grow_first t held)

abbrev pub TokensEnter : Type 0
TokensEnter = (fs : List Frame) (held : Lists) (work : List Reading) (t : Token) → AreFramesOf None fs held work → AsksCopied (asks_in fs held) → Enters fs held work t

-- THE BRACES: where each group has its brace in its list, no more groups are open than the list on top has tokens.
abbrev pub GroupsHaveBraces : Type 0
GroupsHaveBraces = (fs : List Frame) (held : Lists) → AreShallow fs held → innermost_groups fs ≤ length (top_list held)
