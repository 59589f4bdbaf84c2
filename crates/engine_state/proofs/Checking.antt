-- What is scanned where a check comes.
use Rattle.std.proofs.Common.{◌≡◌, ◌≤◌, ◌<◌, ◌+◌, ℕ, List, [], ◌∷◌, length, drop, refl, sym, ap, subst, ◌∙◌, Bool, true, false, arith}
use Rattle.std.proofs.lemmas.List.{drop-drop, length-drop}
use Rattle.std.specs.Prelude.{Option, Some, None, IsSome, IfSome}
use Rattle.tex_syntax.specs.declared.words.Scanned.{Scanned}
use Rattle.tex_syntax.specs.declared.words.Want.{Want}
use Rattle.tex_syntax.specs.declared.words.Scanned.TheVariants as scanned
use Rattle.tex_defs.specs.declared.Sizes.{Sizes}
use Rattle.tex_defs.specs.declared.Token.{Token}
use Rattle.rows.specs.Table.{reads_under_normal}
use Rattle.plain_readings.specs.Readings.{Reading, lists}
use Rattle.plain_readings.specs.Scanning.{Status, Scans as ScansAs, SkipsText, Unguarded, Inherits, command_status, Builds, scanning}
use Rattle.reading_frames.specs.declared.ask.Found.{Found}
use Rattle.reading_frames.specs.declared.ask.Found.TheVariants as found
use Rattle.reading_frames.specs.declared.frame.Frame.{Frame}
use Rattle.reading_frames.specs.declared.frame.Frame.TheVariants as frame
use Rattle.reading_frames.specs.Resumes.{list_count, frame_status, built_as}
use Rattle.reading_frames.specs.Views.{Lists, top_list}
use Rattle.reading_frames.specs.Stack.{found_at, innermost_found, found_in, asks_in, scanning_of as scanning_found, unless_unguarded as unless_found}
use Rattle.reading_frames.specs.Frames as frames
use Rattle.reading_frames.proofs.Scanning.{scans}
use Rattle.plain_machine.specs.Plan.{first_list}
use Rattle.input_state.specs.Callings.{NotCalling, call_in, Calling}
use Rattle.input_state.specs.declared.answer.Call.{Call}
use Rattle.macro_call.specs.declared.ask.CallAsk.{CallAsk}
use Rattle.engine_state.specs.declared.engine.Engine.{Engine}
use Rattle.engine_state.specs.Book.{Book}
use Rattle.engine_state.specs.Calls.{asks_by, asks_of}
use Rattle.engine_state.proofs.CallsIn.{open_call}
use Rattle.engine_state.proofs.CallsKnown.{ReadingsBy, split, taking_scanned}
use Rattle.engine_state.specs.Stands.{Stands}
use Rattle.engine_state.specs.Rules.{IsScanned, IsFound, IsListed, Finds, Takes, WantsHere, scanned_as, scanning_of}
use Rattle.engine_state.proofs.Uncalled.{framed}
use Rattle.engine_state.proofs.FramesHeld.{gathered_is}
use Rattle.engine_state.specs.Steps.{asked_by, asked}
use Rattle.rows.specs.Readings.{More}
use Rattle.tex_defs.specs.declared.Name.{Name}
use Rattle.macro_call.specs.declared.ask.CallAsk.TheVariants as call
use Rattle.std.proofs.lemmas.Option.{none-some}

-- FRAMES

-- what is found among them is a text or a definition, or text that is skipped
abbrev pub IsBuilt : Found → Type 0
IsBuilt (found.Builds what name k) = what ≡ scanned.Use → ⊥
IsBuilt (found.SkippedText line) = Unit {0}

built_other : (b : Bool) → built_as b ≡ scanned.Use → ⊥
built_other true = λ e. cc
built_other false = λ e. cc

command_passes : (b : Bool) (n : ℕ) (o : Option Found) (P : Found → Type 0) → IfSome o P → IfSome (found_at (command_status b) n o) P
command_passes true n o P h = h
command_passes false n o P h = h

frame_built : (f : Frame) (n : ℕ) (o : Option Found) → IfSome o IsBuilt → IfSome (found_at (frame_status f) n o) IsBuilt
frame_built (frame.Command scan head) n o h = command_passes (reads_under_normal head) n o IsBuilt h
frame_built (frame.Integer scan) n o h = h
frame_built (frame.Factor scan) n o h = h
frame_built (frame.Dimension scan) n o h = h
frame_built (frame.Glue scan) n o h = h
frame_built (frame.Keyword scan) n o h = h
frame_built (frame.Build scan) n o h = built_other scan.defines
frame_built (frame.Spelling scan) n o h = h
frame_built (frame.FileName scan) n o h = h
frame_built (frame.Behind c x) n o h = h
frame_built (frame.Skips scan) n o h = tt
frame_built (frame.Call name) n o h = h

all_built : (fs : List Frame) (n : ℕ) → IfSome (innermost_found fs n) IsBuilt
all_built [] n = tt
all_built (f ∷ fs) n = frame_built f n (innermost_found fs (n + list_count f)) (all_built fs (n + list_count f))

guarded : (s : Status) (o : Option Found) (P : Found → Type 0) → IfSome o P → IfSome (unless_found s o) P
guarded (ScansAs what name) o P h = h
guarded (SkipsText line) o P h = h
guarded Unguarded o P h = tt
guarded Inherits o P h = h

found_built : (fs : List Frame) → IfSome (found_in fs) IsBuilt
found_built [] = tt
found_built (f ∷ fs) = guarded (frame_status f) (innermost_found (f ∷ fs) 0) IsBuilt (all_built (f ∷ fs) 0)

-- and its list is held
abbrev IsBelow : ℕ → Found → Type 0
IsBelow m (found.Builds what name n) = n < m
IsBelow m (found.SkippedText line) = Unit {0}

frame_held : (f : Frame) (n m : ℕ) (o : Option Found) → n + list_count f ≤ m → IfSome o (IsBelow m) → IfSome (found_at (frame_status f) n o) (IsBelow m)
frame_held (frame.Command scan head) n m o le h = command_passes (reads_under_normal head) n o (IsBelow m) h
frame_held (frame.Integer scan) n m o le h = h
frame_held (frame.Factor scan) n m o le h = h
frame_held (frame.Dimension scan) n m o le h = h
frame_held (frame.Glue scan) n m o le h = h
frame_held (frame.Keyword scan) n m o le h = h
frame_held (frame.Build scan) n m o le h = omega (arith, le)
frame_held (frame.Spelling scan) n m o le h = h
frame_held (frame.FileName scan) n m o le h = h
frame_held (frame.Behind c x) n m o le h = h
frame_held (frame.Skips scan) n m o le h = tt
frame_held (frame.Call name) n m o le h = h

all_held : (fs : List Frame) (n : ℕ) (held : Lists) (work : List Reading) → n ≤ length held → frames.AreFramesOf None fs (drop n held) work → IfSome (innermost_found fs n) (IsBelow (length held))
all_held [] n held work le h = tt
all_held (f ∷ fs) n held [] le h = absurd h
all_held (f ∷ fs) n held (r ∷ rs) le h =
    let room : n + list_count f ≤ length held = omega (arith, le, h.0.holds, length-drop n held) in
    frame_held f n (length held) (innermost_found fs (n + list_count f)) room
    (all_held fs (n + list_count f) held rs room (subst (λ (l : Lists). frames.AreFramesOf None fs l rs) (drop-drop (list_count f) n held) h.1))

found_held : (fs : List Frame) (held : Lists) (work : List Reading) → frames.AreFramesOf None fs held work → IfSome (found_in fs) (IsBelow (length held))
found_held [] held work h = tt
found_held (f ∷ fs) held work h = guarded (frame_status f) (innermost_found (f ∷ fs) 0) (IsBelow (length held)) (all_held (f ∷ fs) 0 held work (omega arith) h)

top_is : (lists : Lists) → top_list lists ≡ first_list lists
top_is [] = refl
top_is (ts ∷ lists) = refl

none_found : (fs : List Frame) (held : Lists) → asks_in fs held ≡ None → found_in fs ≡ None
none_found [] held h = refl
none_found (f ∷ fs) held h = absurd cc

-- THE ENGINE

module _ (e : Engine) where
  asked_as : (s : Scanned) (k : ℕ) → (s ≡ scanned.Use → ⊥) → k < length e.input.builds → IsScanned s k e
  asked_as scanned.Use k other some = absurd (other refl)
  asked_as scanned.Text k other some = some
  asked_as scanned.Definition k other some = some

  built_here : (x : Found) → Some x ≡ found_in e.readings.frames → IsBuilt x
  built_here x is = subst (λ (o : Option Found). IfSome o IsBuilt) (sym is) (found_built e.readings.frames)

  found_as : (x : Found) → IsBuilt x → IsListed x e → IsFound x e
  found_as (found.Builds what name k) other some = asked_as what k other some
  found_as (found.SkippedText line) other some = tt

  -- what was found is built, and its list there
  pub frame_asked : (x : Found) → Some x ≡ found_in e.readings.frames → IsListed x e → IsFound x e
  frame_asked x is some = found_as x (built_here x is) some

  scan_as : (x : Found) → IsBuilt x → scanning_found e.input.builds (Some x) ≡ Some (scanned_as x e)
  scan_as (found.Builds scanned.Use name k) other = absurd (other refl)
  scan_as (found.Builds scanned.Text name k) other = ap (λ (ts : List Token). Some (Builds scanned.Text name ts)) (top_is (drop k e.input.builds))
  scan_as (found.Builds scanned.Definition name k) other = ap (λ (ts : List Token). Some (Builds scanned.Definition name ts)) (top_is (drop k e.input.builds))
  scan_as (found.SkippedText line) other = refl

  below_listed : (x : Found) → IsBelow (length e.input.builds) x → IsListed x e
  below_listed (found.Builds what name k) h = h
  below_listed (found.SkippedText line) h = tt

  -- without a call
  module _ (sizes : Sizes) (book : Book) (uncalled : e.input.call ≡ NotCalling) where
    here : (want : Option Want) → Takes sizes want e book → WantsHere (asked e) want
    here want t = subst (λ (k : Calling). WantsHere (asked_by (call_in k) k (asked e)) want) uncalled t.0

    stood : (want : Option Want) → Takes sizes want e book → Stands sizes e book
    stood want t = framed sizes e book uncalled t.1

    scanned_here : (want : Option Want) → Takes sizes want e book → scanning_of e book.work ≡ scanning_found e.input.builds (found_in e.readings.frames)
    scanned_here want t =
        let st : Stands sizes e book = stood want t in
        ap (scanning book.work) (gathered_is e.input st.uncalled) ∙ scans e.readings.frames e.input.builds book.work st.readings.frames

    wanted_some : (x : Found) → Some x ≡ found_in e.readings.frames → (want : Option Want) → Takes sizes want e book → IsSome want
    wanted_some x is None t = absurd (subst (λ (o : Option Found). IfSome o (λ y. ⊥)) (sym (is ∙ none_found e.readings.frames e.input.builds (here None t))) tt)
    wanted_some x is (Some want) t = refl

    pub frame_scan : (x : Found) → Some x ≡ found_in e.readings.frames → (want : Option Want) → Takes sizes want e book → Finds x e book × IsSome want
    frame_scan x is want t = (scanned_here want t ∙ ap (scanning_found e.input.builds) (sym is) ∙ scan_as x (built_here x is), wanted_some x is want t)

    -- its list is always there
    pub list_there : (x : Found) → Some x ≡ found_in e.readings.frames → (want : Option Want) → Takes sizes want e book → IsListed x e
    list_there x is want t =
        below_listed x (subst (λ (o : Option Found). IfSome o (IsBelow (length e.input.builds))) (sym is) (found_held e.readings.frames e.input.builds book.work (stood want t).readings.frames))

-- A CALL

pub more_asked : (name : Name) (a : CallAsk) (k : Calling) (want : Want) → Some (asks_by name a k) ≡ Some (More want) → a ≡ call.More
more_asked name call.More k want is = refl
more_asked name call.ExtraBrace k want is = cc
more_asked name call.Gathered k want is = cc
more_asked name call.Mismatch k want is = cc
more_asked name (call.ParEnded false) k want is = cc
more_asked name (call.ParEnded true) k want is = cc

-- a call that takes tokens is the innermost reading
pub record Using (sizes : Sizes) (e : Engine) (c : Call) (want : Option Want) (book : Book) : Type 0 where
  pub r : Reading
  pub rs : List Reading
  pub work : book.work ≡ r ∷ rs
  pub opened : call_in e.input.call ≡ Some (open_call c.name)
  pub readings : ReadingsBy (Some (open_call c.name)) e book.number (r ∷ rs)
  pub wants : IsSome want

pub using : (sizes : Sizes) (e : Engine) (c : Call) (want : Option Want) (book : Book) → call_in e.input.call ≡ Some c → Takes sizes want e book → Using sizes e c want book
using sizes e c None book is t = absurd (none-some (asks_of c e.input.call) (sym (sym (ap (λ (o : Option Call). asked_by o e.input.call (asked e)) is) ∙ t.0)))
using sizes e c (Some want) book is t = by_work book.work refl where
  wants : Some (asks_of c e.input.call) ≡ Some (More want)
  wants = sym (ap (λ (o : Option Call). asked_by o e.input.call (asked e)) is) ∙ t.0

  opened : call_in e.input.call ≡ Some (open_call c.name)
  opened = is ∙ ap (λ (a : CallAsk). Some (record { name = c.name; ask = a })) (more_asked c.name c.ask e.input.call want wants)

  all : ReadingsBy (Some (open_call c.name)) e book.number book.work
  all = subst (λ (o : Option Call). ReadingsBy o e book.number book.work) opened (split e book.number book.work t.1.all)

  by_work : (work : List Reading) → book.work ≡ work → Using sizes e c (Some want) book
  by_work [] none = absurd (subst (λ (rs : List Reading). ReadingsBy (Some (open_call c.name)) e book.number rs) none all)
  by_work (r ∷ rs) is = record { r = r; rs = rs; work = is; opened = opened; readings = subst (λ (rs : List Reading). ReadingsBy (Some (open_call c.name)) e book.number rs) is all; wants = refl }

-- it is what is scanned
pub call_finds : (e : Engine) (c : Call) → call_in e.input.call ≡ Some c → (sizes : Sizes) (book : Book) (want : Option Want) → Takes sizes want e book → Finds (found.Builds scanned.Use c.name 0) e book × IsSome want
call_finds e c is sizes book want t =
    let u : Using sizes e c want book = using sizes e c want book is t in
    (ap (λ (work : List Reading). scanning_of e work) u.work ∙ taking_scanned e book.number c.name u.r u.rs u.readings, u.wants)
