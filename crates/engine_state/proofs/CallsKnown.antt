-- What is known of a call that is the innermost reading, by what it asks for: the relation, case by case.
use Rattle.std.proofs.Common.{◌≡◌, ℕ, List, [], ◌∷◌, ◌++◌, drop, length, refl, sym, ap, subst, ◌∙◌, Bool, true, false, append_assoc}
use Rattle.std.proofs.lemmas.List.{append-nil}
use Rattle.std.specs.Prelude.{Option, Some, None, option_to_list}
use Rattle.tex_defs.specs.declared.Meaning.TheVariants.{Macro}
use Rattle.tex_defs.specs.declared.Name.{Name}
use Rattle.tex_defs.specs.declared.Token.{Token}
use Rattle.plain_tokens.specs.Arguments as plain
use Rattle.plain_tokens.specs.Arguments.{Answer, arguments_in, work_in, has_parameters}
use Rattle.plain_tokens.specs.Meanings.{name_meaning}
use Rattle.plain_tokens.specs.Puts.{list_of_tokens}
use Rattle.rows.specs.Readings.{Fed}
use Rattle.plain_readings.specs.Calls as calls
use Rattle.plain_readings.specs.Calls.{gathered, call_fed, call_ask}
use Rattle.plain_readings.specs.Readings.{Kind, Reading, Arguments, ask, lists}
use Rattle.tex_syntax.specs.declared.words.Scanned.TheVariants as scanned
use Rattle.plain_readings.specs.Scanning.{Builds, innermost_scanned, list_on_top, scanned_at, scanning, status, unless_unguarded}
use Rattle.macro_call.specs.PlainScans.{Scan, resume_scan, scan_work}
use Rattle.macro_call.specs.Scans.{answer_of}
use Rattle.macro_call.specs.declared.ask.CallAsk.{CallAsk}
use Rattle.macro_call.specs.declared.ask.CallAsk.TheVariants as call
use Rattle.reading_frames.specs.Views.{Lists}
use Rattle.reading_frames.specs.Frames as frames
use Rattle.reading_frames.specs.Frames.{OpenCall, IsGathered as Gathering_as}
use Rattle.reading_frames.specs.declared.frame.Frame.{Frame}
use Rattle.input_state.specs.Callings.{Calling, NotCalling, Gathering, Stopped, Gathered, call_lists, last_first, scan_lists, call_in, asks_where, scan_asks, ended_asks}
use Rattle.input_state.specs.CallFeeds.{call_work}
use Rattle.input_state.specs.Macros.{list_at}
use Rattle.input_state.specs.Stored.{gathered as gathered_of}
use Rattle.input_state.specs.declared.answer.Call.{Call}
use Rattle.input_state.specs.declared.answer.CallEnd.{CallEnd}
use Rattle.input_state.specs.declared.answer.CallEnd.TheVariants as end
use Rattle.engine_state.specs.declared.engine.Engine.{Engine}
use Rattle.engine_state.specs.Calls.{asks_by, asks_of, work_or_none, ReadingsStand, MacroStands, IsMacroOf, IsAsFar, IsEnded, HasRead, HasWork, ended_answer, open_call_of}
use Rattle.engine_state.proofs.CallsIn.{open_call}
use Rattle.engine_state.specs.Stands.{OpenFrames, FramesStand}

-- THE LISTS

-- a list in work and the arguments, the last first
abbrev pub lists_of : (args : List (List Token)) → (work : Option (List Token)) → List (List Token)
lists_of args work = option_to_list work ++ last_first args []

-- by an answer
abbrev pub lists_by : Answer → List (List Token)
lists_by a = lists_of (arguments_in a) (work_in a)

arguments_first : (args others : List (List Token)) → calls.argument_lists args ++ others ≡ last_first args others
arguments_first [] others = refl
arguments_first (a ∷ args) others = append_assoc (calls.argument_lists args) (list_of_tokens a) others ∙ arguments_first args (list_of_tokens a ++ others)

nothing_more : (ts : List (List Token)) → ts ++ [] ≡ ts
nothing_more [] = refl
nothing_more (t ∷ ts) = ap (λ (l : List (List Token)). t ∷ l) (nothing_more ts)

arguments_are : (args : List (List Token)) → calls.argument_lists args ≡ last_first args []
arguments_are args = sym (nothing_more (calls.argument_lists args)) ∙ arguments_first args []

lists_are : (args : List (List Token)) (work : Option (List Token)) → calls.work_list work ++ calls.argument_lists args ≡ lists_of args work
lists_are args None = arguments_are args
lists_are args (Some ts) = ap (λ (l : List (List Token)). ts ∷ l) (arguments_are args)

-- those of an answer
pub answer_lists : (a : Answer) → calls.call_lists a ≡ lists_by a
answer_lists a = lists_are (arguments_in a) (work_in a)

read_lists : (asked : CallAsk) (scan : Scan) (a : Answer) → HasRead asked scan a → calls.call_lists a ≡ scan_lists scan
read_lists asked scan a h =
    answer_lists a
    ∙ ap (λ (args : List (List Token)). lists_of args (work_in a)) h.args
    ∙ ap (lists_of scan.args) h.work

-- HOW FAR IT IS

-- The scanner has the arguments and the list in work of the reading, and goes on as it.
pub record Gathers (long : Bool) (text : List Token) (scan : Scan) (fed : List Fed) : Type 0 where
  pub args : arguments_in (gathered long text fed) ≡ scan.args
  pub work : work_in (gathered long text fed) ≡ scan_work scan
  pub goes_on : (more : List Fed) → gathered long text (fed ++ more) ≡ resume_scan text scan (call_fed more)

-- the call of this name takes tokens
pub record Taking (name : Name) (long : Bool) (text : List Token) (fed : List Fed) (k : Calling) : Type 0 where
  pub scan : Scan
  pub is : k ≡ Gathering name scan
  pub has_work : HasWork scan
  pub gathers : Gathers long text scan fed

-- it takes none, and its arguments aren't there
abbrev pub IsStopped : Calling → Type 0
IsStopped NotCalling = ⊥
IsStopped (Gathering n scan) = ⊥
IsStopped (Stopped n why scan) = HasWork scan
IsStopped (Gathered n args) = ⊥

-- the arguments of the call of this name are there
abbrev pub IsGathered : Name → Calling → Type 0
IsGathered name NotCalling = ⊥
IsGathered name (Gathering n scan) = ⊥
IsGathered name (Stopped n why scan) = ⊥
IsGathered name (Gathered n args) = n ≡ name

-- where it stands, by what it asks for
abbrev pub CallAt : CallAsk → Name → (long : Bool) → (text : List Token) → Calling → List Fed → Type 0
CallAt call.More name long text k fed = Taking name long text fed k
CallAt call.ExtraBrace name long text k fed = Taking name long text fed k
CallAt call.Gathered name long text k fed = IsGathered name k
CallAt call.Mismatch name long text k fed = IsStopped k
CallAt (call.ParEnded silent) name long text k fed = IsStopped k

-- The call is this reading: that of a macro with a list that has a parameter text.
pub record CallKnown (e : Engine) (number : ℕ → ℕ) (k : Calling) (c : Call) (r : Reading) : Type 0 where
  pub long : Bool
  pub outer : Bool
  pub id : ℕ
  pub meaning : name_meaning e.input.groups.now.meanings c.name ≡ Macro long outer (Some id)
  pub kind : r.kind ≡ Arguments c.name long (number id) (list_at e.input.lists id)
  pub places : has_parameters (list_at e.input.lists id) ≡ true
  pub asked : asks_of c k ≡ ask r.kind r.fed
  pub at : CallAt c.ask c.name long (list_at e.input.lists id) k r.fed
  pub holds : lists r.kind r.fed ≡ call_lists k

abbrev pub CallStands : Engine → (number : ℕ → ℕ) → Call → Reading → Type 0
CallStands e number c r = CallKnown e number e.input.call c r

-- the open readings, by what a call asks for that is the innermost
abbrev pub ReadingsAs : Calling → Option Call → Engine → (number : ℕ → ℕ) → List Reading → Type 0
ReadingsAs k None e number work = FramesStand e work
ReadingsAs k (Some c) e number [] = ⊥
ReadingsAs k (Some c) e number (r ∷ rs) = CallKnown e number k c r

abbrev pub ReadingsBy : Option Call → Engine → (number : ℕ → ℕ) → List Reading → Type 0
ReadingsBy c e number work = ReadingsAs e.input.call c e number work

-- WHAT IS ASKED, by an answer

pub where_braced : (b : Bool) (name : Name) (args : List (List Token)) (work : Option (List Token)) (k : Calling) → asks_by name (asks_where b) k ≡ call_ask name (answer_of (asks_where b) args work)
where_braced true name args work k = refl
where_braced false name args work k = refl

pub where_ended : (why : CallEnd) (name : Name) (scan : Scan) (k : Calling) → asks_by name (ended_asks why) k ≡ call_ask name (ended_answer why scan)
where_ended end.Mismatch name scan k = refl
where_ended (end.ParEnded false) name scan k = refl
where_ended (end.ParEnded true) name scan k = refl
where_ended end.Full name scan k = refl

-- FROM THE RELATION

-- the frame of a call
record Over (c : OpenCall) (r : Reading) : Type 0 where
  pub goes_on : (fed : List Fed) → ask r.kind (r.fed ++ fed) ≡ call_ask c.name (c.answers (call_fed fed))
  pub builds_on : (fed : List Fed) → lists r.kind (r.fed ++ fed) ≡ calls.call_lists (c.answers (call_fed fed))
  pub gathers : Gathering_as c r.kind r.fed

over : (c : OpenCall) (fs : List Frame) (held : Lists) (r : Reading) (rs : List Reading) → frames.AreFramesOf (Some c) fs held (r ∷ rs) → Over c r
over c [] held r rs h = absurd h
over c (f ∷ fs) held r rs h = record { goes_on = h.0.goes_on; builds_on = h.0.builds_on; gathers = h.0.framed }

-- what its reading answers, by its kind
goes : (c : OpenCall) (name : Name) (long : Bool) (number : ℕ) (text : List Token) (k : Kind) (fed : List Fed) → k ≡ Arguments name long number text → Gathering_as c k fed → (more : List Fed) → gathered long text (fed ++ more) ≡ c.answers (call_fed more)
goes c name long number text k fed is h = (subst (λ (x : Kind). Gathering_as c x fed) is h).2

module _ (e : Engine) (number : ℕ → ℕ) (name : Name) (text : List Token) (r : Reading) (m : IsMacroOf e number text name r.kind) where
  abbrev list : List Token
  list = list_at e.input.lists m.id

  -- the reading so far, by the answer to nothing more
  module _ (c : OpenCall) (o : Over c r) where
    on : (more : List Fed) → gathered m.long text (r.fed ++ more) ≡ c.answers (call_fed more)
    on = goes c name m.long (number m.id) text r.kind r.fed m.kind o.gathers

    here : gathered m.long text r.fed ≡ c.answers []
    here = ap (gathered m.long text) (sym (append-nil r.fed)) ∙ on []

    asks_here : call_ask c.name (c.answers []) ≡ ask r.kind r.fed
    asks_here = sym (o.goes_on []) ∙ ap (ask r.kind) (append-nil r.fed)

    holds_here : lists r.kind r.fed ≡ calls.call_lists (c.answers [])
    holds_here = ap (lists r.kind) (sym (append-nil r.fed)) ∙ o.builds_on []

    known : (k : Calling) (a : CallAsk) → asks_by name a k ≡ ask r.kind r.fed → lists r.kind r.fed ≡ call_lists k → CallAt a name m.long text k r.fed → CallKnown e number k (record { name = name; ask = a }) r
    known k a asked holds at = record {
      long = m.long;
      outer = m.outer;
      id = m.id;
      meaning = m.meaning;
      kind = m.kind ∙ ap (Arguments name m.long (number m.id)) m.list;
      places = ap has_parameters (sym m.list) ∙ m.places;
      asked = asked;
      at = subst (λ (ts : List Token). CallAt a name m.long ts k r.fed) m.list at;
      holds = holds;
    }

  taken_at : (b : Bool) (scan : Scan) → Taking name m.long text r.fed (Gathering name scan) → CallAt (asks_where b) name m.long text (Gathering name scan) r.fed
  taken_at true scan h = h
  taken_at false scan h = h

  gathering_known : (scan : Scan) → HasRead (scan_asks scan) scan (resume_scan text scan []) → Over (record { name = name; text = text; answers = resume_scan text scan }) r →
      CallKnown e number (Gathering name scan) (record { name = name; ask = scan_asks scan }) r
  gathering_known scan far o =
      let c : OpenCall = record { name = name; text = text; answers = resume_scan text scan } in
      let g : Gathers m.long text scan r.fed = record { args = ap arguments_in (here c o) ∙ far.args; work = ap work_in (here c o) ∙ far.work; goes_on = on c o } in
      known c o (Gathering name scan) (scan_asks scan)
      (where_braced scan.braced name scan.args (scan_work scan) (Gathering name scan) ∙ ap (call_ask name) (sym far.says) ∙ asks_here c o)
      (holds_here c o ∙ read_lists (scan_asks scan) scan (resume_scan text scan []) far)
      (taken_at scan.braced scan (record { scan = scan; is = refl; has_work = far.bare; gathers = g }))

  stopped_at : (why : CallEnd) (scan : Scan) → IsEnded why → HasWork scan → CallAt (ended_asks why) name m.long text (Stopped name why scan) r.fed
  stopped_at end.Mismatch scan ended h = h
  stopped_at (end.ParEnded silent) scan ended h = h
  stopped_at end.Full scan ended h = absurd ended

  stopped_known : (why : CallEnd) (scan : Scan) → IsEnded why → HasRead (ended_asks why) scan (ended_answer why scan) → Over (record { name = name; text = text; answers = λ fed. ended_answer why scan }) r →
      CallKnown e number (Stopped name why scan) (record { name = name; ask = ended_asks why }) r
  stopped_known why scan ended far o =
      let c : OpenCall = record { name = name; text = text; answers = λ fed. ended_answer why scan } in
      known c o (Stopped name why scan) (ended_asks why)
      (where_ended why name scan (Stopped name why scan) ∙ asks_here c o)
      (holds_here c o ∙ read_lists (ended_asks why) scan (ended_answer why scan) far)
      (stopped_at why scan ended far.bare)

  gathered_known : (args : List (List Token)) → Over (record { name = name; text = text; answers = λ fed. plain.Called args }) r →
      CallKnown e number (Gathered name args) (record { name = name; ask = call.Gathered }) r
  gathered_known args o =
      let c : OpenCall = record { name = name; text = text; answers = λ fed. plain.Called args } in
      known c o (Gathered name args) call.Gathered (asks_here c o) (holds_here c o ∙ answer_lists (plain.Called args)) refl

split_by : (e : Engine) (number : ℕ → ℕ) (text : List Token) (k : Calling) (work : List Reading) → OpenFrames (open_call_of text k) e work → MacroStands (call_in k) e number text work → IsAsFar text k → ReadingsAs k (call_in k) e number work
split_by e number text NotCalling work h m far = h
split_by e number text (Gathering n scan) [] h m far = absurd m
split_by e number text (Gathering n scan) (r ∷ rs) h m far =
    gathering_known e number n text r m scan far (over (record { name = n; text = text; answers = resume_scan text scan }) e.readings.frames e.input.builds r rs h.frames)
split_by e number text (Stopped n why scan) [] h m far = absurd m
split_by e number text (Stopped n why scan) (r ∷ rs) h m far =
    stopped_known e number n text r m why scan far.0 far.1 (over (record { name = n; text = text; answers = λ fed. ended_answer why scan }) e.readings.frames e.input.builds r rs h.frames)
split_by e number text (Gathered n args) [] h m far = absurd m
split_by e number text (Gathered n args) (r ∷ rs) h m far =
    gathered_known e number n text r m args (over (record { name = n; text = text; answers = λ fed. plain.Called args }) e.readings.frames e.input.builds r rs h.frames)

pub split : (e : Engine) (number : ℕ → ℕ) (work : List Reading) → ReadingsStand e number work → ReadingsBy (call_in e.input.call) e number work
split e number work h = split_by e number h.readings.text e.input.call work h.readings.frames h.macro h.readings.far

-- WHAT IS SCANNED

pub first_work : (o : Option (List Token)) (rest builds : List (List Token)) (n : ℕ) → n ≡ length (option_to_list o ++ rest) → (o ≡ None → rest ≡ []) → list_on_top n ((option_to_list o ++ rest) ++ builds) ≡ work_or_none o
first_work (Some work) rest builds n is none = ap (λ (k : ℕ). list_on_top k (work ∷ (rest ++ builds))) is
first_work None rest builds n is none = ap (λ (k : ℕ). list_on_top k (rest ++ builds)) (is ∙ ap (length {A = List Token}) (none refl))

pub no_args : (scan : Scan) → HasWork scan → scan_work scan ≡ None → last_first scan.args [] ≡ []
no_args scan h none = ap (λ (args : List (List Token)). last_first args []) (h none)

taking_list : (name : Name) (long : Bool) (text : List Token) (fed : List Fed) (k : Calling) (builds : List (List Token)) → Taking name long text fed k → list_on_top (length (call_lists k)) (call_lists k ++ builds) ≡ work_or_none (call_work k)
taking_list name long text fed k builds t =
    subst (λ (x : Calling). list_on_top (length (call_lists x)) (call_lists x ++ builds) ≡ work_or_none (call_work x)) (sym t.is)
    (first_work (scan_work t.scan) (last_first t.scan.args []) builds (length (scan_lists t.scan)) refl (no_args t.scan t.has_work))

-- the call is what is read
pub call_scanned : (e : Engine) (number : ℕ → ℕ) (c : Call) (r : Reading) (rs : List Reading) (shown : List Token) → CallStands e number c r → list_on_top (length (call_lists e.input.call)) (gathered_of e.input) ≡ shown →
    scanning (r ∷ rs) (gathered_of e.input) ≡ Some (Builds scanned.Use c.name shown)
call_scanned e number c r rs shown h is =
    ap (λ (k : Kind). unless_unguarded (status k) (scanned_at (status k) (list_on_top (length (lists r.kind r.fed)) (gathered_of e.input)) (innermost_scanned rs (drop (length (lists r.kind r.fed)) (gathered_of e.input))))) h.kind
    ∙ ap (λ (l : List (List Token)). Some (Builds scanned.Use c.name (list_on_top (length l) (gathered_of e.input)))) h.holds
    ∙ ap (λ (l : List Token). Some (Builds scanned.Use c.name l)) is

-- that of a call that asks for a token
pub taking_scanned : (e : Engine) (number : ℕ → ℕ) (name : Name) (r : Reading) (rs : List Reading) → CallStands e number (open_call name) r → scanning (r ∷ rs) (gathered_of e.input) ≡ Some (Builds scanned.Use name (work_or_none (call_work e.input.call)))
taking_scanned e number name r rs h = call_scanned e number (open_call name) r rs (work_or_none (call_work e.input.call)) h (taking_list name h.long (list_at e.input.lists h.id) r.fed e.input.call e.input.builds h.at)
