-- A call that is fed goes on, by the law of the open readings.
use Rattle.std.proofs.Common.{◌≡◌, ℕ, List, [], ◌∷◌, ◌++◌, drop, refl, sym, ap, append_assoc, subst, ◌∙◌, Bool, true, false, arith}
use Rattle.std.specs.Prelude.{Option, Some, None, option_map}
use Rattle.tex_defs.specs.declared.Name.{Name}
use Rattle.tex_defs.specs.declared.Token.{Token}
use Rattle.plain_tokens.specs.Arguments as plain
use Rattle.plain_tokens.specs.declared.par_mode.ParMode.{ParMode}
use Rattle.plain_tokens.specs.Arguments.{Answer, arguments_in, work_in, start_of, places_of, in_work}
use Rattle.rows.specs.Readings.{Fed}
use Rattle.plain_readings.specs.Calls.{call_ask, call_fed, call_lists, gathered}
use Rattle.plain_readings.specs.Readings.{Kind, Reading, Arguments, fed_with}
use Rattle.macro_call.specs.PlainScans.{Scan, resume_scan, scan_work}
use Rattle.macro_call.specs.Scans.{answer_of}
use Rattle.macro_call.specs.Stages.{Stage, kept_in, read_in}
use Rattle.macro_call.specs.declared.ask.CallAsk.{CallAsk}
use Rattle.macro_call.specs.declared.ask.CallAsk.TheVariants as ask
use Rattle.macro_call.proofs.Growths.{work-sought}
use Rattle.reading_frames.specs.Frames.{OpenCall, AreFramesOf, GoesOn, IsGathered}
use Rattle.reading_frames.specs.Views.{Lists}
use Rattle.reading_frames.specs.declared.frame.Frame.{Frame}
use Rattle.reading_frames.proofs.Feeding.{fed_on}
use Rattle.input_state.specs.Callings.{Calling, Gathering, asks_as, asks_where, scan_asks, call_in}
use Rattle.input_state.specs.declared.answer.Call.{Call}
use Rattle.engine_state.specs.declared.engine.Engine.{Engine}
use Rattle.engine_state.specs.Calls.{HasRead, IsAsFar, IsMacroOf, MacroStands, ReadingsStand, open_call_of}
use Rattle.engine_state.specs.Stands.{OpenFrames, SameStore}
use Rattle.engine_state.proofs.CallKept.{macro_kept, open_still}

-- THE LAW, for the frame of a call

module _ (name : Name) (text : List Token) (a a' : List plain.Fed → Answer) (y : Fed) (on : (fed : List Fed) → a (call_fed (y ∷ fed)) ≡ a' (call_fed fed)) where
  abbrev old : OpenCall
  old = record { name = name; text = text; answers = a }

  abbrev new : OpenCall
  new = record { name = name; text = text; answers = a' }

  gathers_on : (k : Kind) (fed : List Fed) → IsGathered old k fed → IsGathered new k (fed ++ y ∷ [])
  gathers_on (Arguments n long number ts) fed h = (h.0, h.1, λ more. ap (gathered long ts) (append_assoc fed (y ∷ []) more) ∙ h.2 (y ∷ more) ∙ on more)
  gathers_on k fed h = absurd h

  call_goes_on : (f : Frame) (held : Lists) → GoesOn (Some old) (Some new) f f held held y
  call_goes_on f held = record {
    asks = λ fed. ap (call_ask name) (on fed);
    lists_are = λ fed. ap call_lists (on fed);
    holds = λ h. omega arith;
    beneath = refl;
    checks = refl;
    framed = gathers_on;
    apart = λ h. h;
  }

  call_fed_on : (fs : List Frame) (held : Lists) (r : Reading) (rs : List Reading) → AreFramesOf (Some old) fs held (r ∷ rs) → AreFramesOf (Some new) fs held (fed_with y (r ∷ rs))
  call_fed_on [] held r rs h = absurd h
  call_fed_on (f ∷ fs) held r rs h = fed_on (Some old) (Some new) f f fs held held y (r ∷ rs) (call_goes_on f held) h

  pub frames_fed : (e : Engine) (r : Reading) (rs : List Reading) → OpenFrames (Some old) e (r ∷ rs) → OpenFrames (Some new) e (fed_with y (r ∷ rs))
  frames_fed e r rs h = record { frames = call_fed_on e.readings.frames e.input.builds r rs h.frames; shallow = h.shallow }

-- A CHECK, OR THE REPORT OF AN EXTRA BRACE: the scanner takes tokens as before

-- of which nothing more was read, it is the same in each way to take a `\par`
arguments_begin : (m n : ParMode) (args places : List (List Token)) → plain.arguments m args places [] ≡ plain.arguments n args places []
arguments_begin m n args [] = refl
arguments_begin m n args (ds ∷ places) = refl

call_begins : (m n : ParMode) (start : List Token) (places : List (List Token)) → plain.call m start places [] ≡ plain.call n start places []
call_begins m n [] places = arguments_begin m n [] places
call_begins m n (d ∷ ds) places = refl

abbrev pub unbraced : ParMode → Scan → Scan
unbraced mode scan = record { at = scan.at; mode = mode; braced = false; present = scan.present; args = scan.args }

-- where no list is in work no extra brace came
none_braced : (b : Bool) (args : List (List Token)) (work : Option (List Token)) (a : Answer) → a ≡ answer_of (asks_where b) args work → work_in a ≡ work → work ≡ None → a ≡ plain.More args work
none_braced true args work a says is none = cc (says, is, none)
none_braced false args work a says is none = says

-- it asks for more
unbraced_more : (text : List Token) (mode : ParMode) (scan : Scan) (o : Option Stage) → scan.present ≡ o → HasRead (scan_asks scan) scan (resume_scan text scan []) → resume_scan text (unbraced mode scan) [] ≡ plain.More scan.args (scan_work scan)
unbraced_more text mode scan None is far =
    let rest : List Token = drop scan.at text in
    let begins : resume_scan text (unbraced mode scan) [] ≡ resume_scan text scan [] = rw is (call_begins mode scan.mode (start_of rest) (places_of rest)) in
    begins ∙ none_braced scan.braced scan.args (scan_work scan) (resume_scan text scan []) far.says far.work (ap (option_map (λ (s : Stage). s.list)) is)
unbraced_more text mode scan (Some s) is far =
    let start : List Token = start_of (drop scan.at text) in
    let so_far : List Token = in_work start (kept_in s) (read_in start s) in
    let now : work_in (resume_scan text scan []) ≡ Some so_far = rw is (work-sought scan.args scan.braced so_far) in
    let more : resume_scan text (unbraced mode scan) [] ≡ plain.More scan.args (Some so_far) = rw is refl in
    more ∙ ap (plain.More scan.args) (sym now ∙ far.work)

-- THE CALL THAT TAKES TOKENS, as the relation has it

pub record ScanStands (e : Engine) (number : ℕ → ℕ) (name : Name) (text : List Token) (scan : Scan) (r : Reading) (rs : List Reading) : Type 0 where
  pub frames : OpenFrames (Some (record { name = name; text = text; answers = resume_scan text scan })) e (r ∷ rs)
  pub far : HasRead (scan_asks scan) scan (resume_scan text scan [])
  pub macro : IsMacroOf e number text name r.kind

pub scan_stands : (e : Engine) (number : ℕ → ℕ) (name : Name) (scan : Scan) (r : Reading) (rs : List Reading) → e.input.call ≡ Gathering name scan → (h : ReadingsStand e number (r ∷ rs)) → ScanStands e number name h.readings.text scan r rs
scan_stands e number name scan r rs now h = record {
  frames = subst (λ (k : Calling). OpenFrames (open_call_of h.readings.text k) e (r ∷ rs)) now h.readings.frames;
  far = subst (IsAsFar h.readings.text) now h.readings.far;
  macro = subst (λ (k : Calling). MacroStands (call_in k) e number h.readings.text (r ∷ rs)) now h.macro;
}

module _ (e e2 : Engine) (number : ℕ → ℕ) (name : Name) (text : List Token) (scan : Scan) (r : Reading) (rs : List Reading) (y : Fed) (h : ScanStands e number name text scan r rs)
    (readings : e2.readings ≡ e.readings) (lists : e2.input.builds ≡ e.input.builds) (store : SameStore e.input e2.input) where
  -- it is fed, and is this call then
  pub fed_stand : (k : Calling) (a : List plain.Fed → Answer) (asked : CallAsk) → e2.input.call ≡ k → open_call_of text k ≡ Some (record { name = name; text = text; answers = a }) → call_in k ≡ asks_as name asked →
      ((fed : List Fed) → resume_scan text scan (call_fed (y ∷ fed)) ≡ a (call_fed fed)) → IsAsFar text k → ReadingsStand e2 number (fed_with y (r ∷ rs))
  fed_stand k a asked now opens asks on far =
      let o : OpenCall = record { name = name; text = text; answers = a } in
      record {
        readings = record {
          text = text;
          frames = subst (λ (c : Option OpenCall). OpenFrames c e2 (fed_with y (r ∷ rs))) (sym (ap (open_call_of text) now ∙ opens)) (open_still (Some o) e e2 (fed_with y (r ∷ rs)) readings lists (frames_fed name text (resume_scan text scan) a y on e r rs h.frames));
          far = subst (IsAsFar text) (sym now) far;
        };
        macro = subst (λ (c : Option Call). MacroStands c e2 number text (fed_with y (r ∷ rs))) (sym (ap call_in now ∙ asks)) (macro_kept e e2 number text name r.kind store h.macro);
      }

  -- behind a check, or the report of an extra brace
  pub unbraced_stand : (mode : ParMode) → e2.input.call ≡ Gathering name (unbraced mode scan) → ((fed : List Fed) → resume_scan text scan (call_fed (y ∷ fed)) ≡ resume_scan text (unbraced mode scan) (call_fed fed)) → ReadingsStand e2 number (fed_with y (r ∷ rs))
  unbraced_stand mode now on =
      let is : resume_scan text (unbraced mode scan) [] ≡ plain.More scan.args (scan_work scan) = unbraced_more text mode scan scan.present refl h.far in
      fed_stand (Gathering name (unbraced mode scan)) (resume_scan text (unbraced mode scan)) ask.More now refl refl on
      (record { says = is; args = ap arguments_in is; work = ap work_in is; bare = h.far.bare })
