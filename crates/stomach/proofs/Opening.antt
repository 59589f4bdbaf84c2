-- A file that `\input` opens, over the whole states.
use Rattle.std.proofs.Common.{◌≡◌, ◌∙◌, ℕ, suc, ◌+◌, ◌≤◌, ◌<◌, Bool, true, false, List, [], ◌∷◌, ◌++◌, length, refl, sym, ap, subst, append_assoc, arith}
use Rattle.std.proofs.lemmas.Bool.{false≢true, true≢false, leb-true}
use Rattle.std.proofs.lemmas.List.{append-nil}
use Rattle.std.specs.Prelude.{MatchBool, Option, None, Some, drop, nat_lt, nat_le, if◌then◌else◌}
use Rattle.tex_syntax.specs.declared.words.Outcome.{Outcome}
use Rattle.tex_syntax.specs.declared.words.Outcome.TheVariants.{Finished, AtFatal}
use Rattle.tex_defs.specs.declared.Fatal.TheVariants.{HundredErrors, NoFile}
use Rattle.tex_defs.specs.Places.{World, Transcript}
use Rattle.plain_tokens.specs.Printed.{Style}
use Rattle.plain_state.specs.Reports.{hundred_line, emergency, no_file_line}
use Rattle.tex_defs.specs.declared.Sizes.{Sizes}
use Rattle.tex_defs.specs.declared.Full.{Full}
use Rattle.tex_defs.specs.declared.Token.{Token}
use Rattle.plain_tokens.specs.Pending.{Pending, with_next}
use Rattle.plain_tokens.specs.Tables.{Demand, full, open_files, opened_files, refused, text_level}
use Rattle.plain_tokens.specs.Tokens.{character_codes}
use Rattle.command_words.specs.Words.{file_name}
use Rattle.rows.specs.declared.command.Call.{Call}
use Rattle.rows.specs.declared.command.Effect.TheVariants as effect
use Rattle.rows.specs.Readings as reading
use Rattle.plain_readings.specs.Readings.{Reading, ask}
use Rattle.reading_frames.specs.Views.{Lists, ask_of}
use Rattle.reading_frames.specs.Stack.{asked_in, asked_of}
use Rattle.reading_frames.specs.Frames as frames
use Rattle.reading_frames.specs.declared.ask.Ask.{Ask}
use Rattle.plain_machine.specs.declared.broken.Broken.{Broken}
use Rattle.plain_machine.specs.declared.broken.Broken.TheVariants as broken
use Rattle.plain_machine.specs.States.{State, Move, FileOpened, Written, Stopped, later, made}
use Rattle.plain_machine.specs.Plan.{Page, plan, ruled, answered, page_of, input_begun, unless_found, given_back, reports_room, style_of}
use Rattle.plain_machine.specs.Runs.{made_all, steps}
use Rattle.plain_machine.specs.Does.{Did, Cut, ToOpen, but_due}
use Rattle.plain_machine.specs.Demands.{refusal}
use Rattle.plain_machine.specs.Extended as plain
use Rattle.plain_machine.specs.Extended.{Rests, AreStill, extended, extended_pending, next_extended, rests_before_opening}
use Rattle.plain_machine.specs.Numbers.{pending_of}
use Rattle.plain_machine.proofs.Ahead.{text_level_same}
use Rattle.plain_machine.proofs.Doing.{cut_first, cut_full, cut_later, did_join, did_silent, plan_cut, plan_did, same_later, CutOff}
use Rattle.plain_machine.proofs.Extending.{moves_did, moves_cut}
use Rattle.plain_machine.proofs.Joins.{Moment, plan_moment, steps_join, stopped_ends}
use Rattle.plain_machine.proofs.Pulls.{begun_reads, pulls, steps_read}
use Rattle.plain_machine.proofs.Renumbering.{text_level_of}
use Rattle.engine_state.specs.declared.engine.Engine.{Engine}
use Rattle.engine_state.specs.Book.{Book, with_work}
use Rattle.engine_state.specs.Calls.{AllStand, FramesOf}
use Rattle.engine_state.specs.CutReadings.{CutsIn, FramesAtCut}
use Rattle.engine_state.specs.Rules.{Halts, Cuts, CountsReports}
use Rattle.engine_state.specs.Stands.{Stands, state_of}
use Rattle.engine_state.proofs.CuttingReadings.{near_all, near_none, near_still}
use Rattle.engine_state.proofs.Uncalled.{all_of, framed, frames_none, no_call}
use Rattle.stomach.specs.Files.{Sought, input_front}
use Rattle.stomach.specs.Ran.{Came, CutBy, Stops, UnreadBy, ForFile, whole_state}
use Rattle.input_state.specs.declared.answer.Call.{Call as EngineCall}
use Rattle.engine_state.specs.Stands.{SameFrames, SameStore}
use Rattle.engine_state.specs.Steps.{asked_by, asks_start}
use Rattle.engine_state.proofs.CallKept.{all_still, frames_kept}
use Rattle.engine_state.proofs.Storing.{sound_still}
use Rattle.line_reader.specs.Readers.{OpenReader, OpenReaders}
use Rattle.stomach.proofs.FilesKept.{count, keeps_all}
use Rattle.stomach.proofs.OneRule.{count_of}
use Rattle.stomach.specs.Read.{AreTied}
use Rattle.stomach.proofs.FilesFound.{found_at}
use Rattle.stomach.proofs.Running.{same_moment, whole_moment}
use Rattle.input_state.specs.Callings.{NotCalling, call_in, Calling}
use Rattle.stomach.proofs.Unread.{call_starts}

-- THE READING that has a file's name

module _ (sizes : Sizes) (e : Engine) (a : Ask) (asks : (held : Lists) (work : List Reading) → frames.AreFramesOf None e.readings.frames held work → asked_of held (Some a) ≡ asked_in work) (P : Book → Type 0)
    (h : (book : Book) (r : Reading) (rs : List Reading) → ask r.kind r.fed ≡ ask_of e.input.builds a → Stands sizes e (with_work (r ∷ rs) book) → P (with_work (r ∷ rs) book)) where
  work_named : (book : Book) (work : List Reading) → Stands sizes e (with_work work book) → Some (ask_of e.input.builds a) ≡ asked_in work → P (with_work work book)
  work_named book [] st now = absurd cc
  work_named book (r ∷ rs) st now = h book r rs (sym (cc now)) st

  pub by_name : (book : Book) → e.input.call ≡ NotCalling → AllStand sizes e book → P book
  by_name book none stands =
      let st : Stands sizes e book = framed sizes e book none stands in
      work_named book book.work st (asks e.input.builds book.work st.readings.frames)

-- ITS MOVES

front_still : (page : Page) (back : Bool) (name : List ℕ) → AreStill (input_front page back name)
front_still page true name = (tt, (tt, (tt, (tt, (tt, (tt, (tt, (tt, tt))))))))
front_still page false name = (tt, (tt, (tt, (tt, tt))))

module _ (sizes : Sizes) (e : Engine) (c : Call) (back : Bool) (ts : List Token) (unopened : e.input.pending.next ≡ None) (book : Book) (r : Reading) (rs : List Reading) (asked : ask r.kind r.fed ≡ reading.ActsOn c (effect.StartInput back) ts) (all : Rests) where
  abbrev pub named : List ℕ
  named = file_name (character_codes ts)

  abbrev at : Book
  at = with_work (r ∷ rs) book

  abbrev s : State
  s = whole_state all e at

  abbrev page : Page
  page = page_of (state_of e at)

  abbrev front : List Move
  front = input_front page back named

  abbrev behind : List Move
  behind = FileOpened named ∷ unless_found page named (all.files 0 named)

  pub opening : plan s s.stopped ≡ front ++ behind
  opening = ap (λ (o : Option (List ℕ)). ruled s (next_extended all.left o)) unopened ∙ ap (answered s (r ∷ rs) r) asked ∙ sym (append_assoc (given_back back page.last) _ behind)

  -- it has no step
  opening_free : steps (front ++ behind) ≡ 0
  opening_free = ap steps (append_assoc (given_back back page.last) _ behind) ∙ free where
    free : steps (input_begun all.files page back named) ≡ 0
    free = omega (arith, steps_read (input_begun all.files page back named), begun_reads all.files page back named)

  -- what comes before is cut off
  pub sought_cut : (e' : Engine) (left : Rests) (w w' : World) (n : ℕ) (b : Broken) → all ≡ left → CutsIn sizes (state_of e at) e' w w' (front ++ []) b → CutBy sizes s n e' left w w' b
  sought_cut e' left w w' n b is h = subst (λ (x : Rests). CutBy sizes s n e' x w w' b) is (cut_all (subst (λ (ms : List Move). CutsIn sizes (state_of e at) e' w w' ms b) (append-nil front) h)) where
    cut_all : CutsIn sizes (state_of e at) e' w w' front b → CutBy sizes s n e' all w w' b
    cut_all k =
        let cut = cut_first sizes s (extended all k.cuts.at) w w' front behind b (moves_cut sizes (state_of e at) k.cuts.at all front b (front_still page back named) w w' k.cuts.cut) in
        let off : CutOff sizes s (extended all k.cuts.at) n w w' b = plan_cut sizes s (extended all k.cuts.at) n w w' (front ++ behind) b cut (omega (arith, opening_free)) refl opening in
        record { t = off.t; cut = off.cut; book' = k.book'; frames = k.near; same = same_moment b off.t (extended all k.cuts.at) (whole_state all e' k.book') off.same (whole_moment b all k.cuts.at (state_of e' k.book') k.cuts.same) }

  module _ (e' : Engine) (w : World) (n : ℕ) (sought : Sought sizes (state_of e at) e' (with_work rs book) w front named n) where
    abbrev sought_at : State
    sought_at = whole_state all e' (with_work rs book)

    pub sought_did : Did sizes s sought_at w w front
    sought_did = moves_did sizes (state_of e at) (state_of e' (with_work rs book)) all front (front_still page back named) w w sought.did

    opens_if : refusal sizes (FileOpened named) sought_at ≡ refused e'.input.sizes (text_level e'.input.pending ∷ [])
    opens_if = ap (λ (d : Demand). refused sizes (d ∷ [])) (text_level_same all.left (pending_of book.number e'.input.pending) ∙ text_level_of book.number e'.input.pending)
        ∙ ap (λ (x : Sizes). refused x (text_level e'.input.pending ∷ [])) (sym sought.stands.sound.sized.input)

    -- a file more has no room
    pub levels_cut : (left : Rests) (full : Full) (j : ℕ) → all ≡ left → refused e'.input.sizes (text_level e'.input.pending ∷ []) ≡ Some full → CutBy sizes s j e' left w w (broken.Full full)
    levels_cut left full j is h =
        let cut = cut_later sizes s sought_at sought_at w w w front behind (broken.Full full) sought_did (cut_full sizes (FileOpened named) (unless_found page named (all.files 0 named)) sought_at w full (opens_if ∙ h)) in
        let off : CutOff sizes s sought_at j w w (broken.Full full) = plan_cut sizes s sought_at j w w (front ++ behind) (broken.Full full) cut (omega (arith, opening_free)) refl opening in
        subst (λ (x : Rests). CutBy sizes s j e' x w w (broken.Full full)) is
        (record { t = off.t; cut = off.cut; book' = with_work rs book; frames = near_all sizes (broken.Full full) e' (with_work rs book) (all_of sizes e' (with_work rs book) sought.stands); same = off.same })

    -- it can't be opened
    pub open_unread : (left : Rests) (j : ℕ) → all ≡ left → refused e'.input.sizes (text_level e'.input.pending ∷ []) ≡ None → UnreadBy sizes s j e' left w w
    open_unread left j is h = subst (λ (x : Rests). UnreadBy sizes s j e' x w w) is (at_moment (plan_moment sizes s front (FileOpened named) (unless_found page named (all.files 0 named)) refl opening sought_did.fits)) where
      at_moment : Moment sizes s front (FileOpened named) → UnreadBy sizes s j e' all w w
      at_moment here =
          let same : but_due here.t ≡ but_due sought_at = here.same ∙ ap but_due sought_did.state in
          record {
            t = here.t;
            read = record {
              ms = front;
              moves = here.moves;
              within = omega (arith, opening_free, steps_join front behind);
              needs = ToOpen named here.u here.goes (ap (refusal sizes (FileOpened named)) same ∙ (opens_if ∙ h));
              written = sought_did.written;
            };
            at = record { book' = with_work rs book; stands = all_of sizes e' (with_work rs book) sought.stands; same = same };
            unread = ForFile named here.u here.goes;
          }

    -- THE FILE IS LOOKED FOR

    module _ (unopened' : e'.input.pending.next ≡ None) (room : refused e'.input.sizes (text_level e'.input.pending ∷ []) ≡ None) where
      -- what is pending behind it
      next_is : (found : Option (List ℕ)) → all.files 0 named ≡ found → made (FileOpened named) sought_at ≡ record sought_at { pending = with_next found sought_at.pending; files = later all.files }
      next_is found is = ap (λ (o : Option (List ℕ)). record sought_at { pending = with_next o sought_at.pending; files = later all.files }) is

      looked : (t : State) → made (FileOpened named) sought_at ≡ t → Did sizes s t w w (front ++ FileOpened named ∷ [])
      looked t is = did_join sizes s sought_at t w w w front (FileOpened named ∷ []) sought_did (did_silent sizes (FileOpened named) sought_at t w (opens_if ∙ room) is (record { told = λ p. refl; column = refl; later = same_later w }))

module _ (sizes : Sizes) (e : Engine) (c : Call) (back : Bool) (ts : List Token) (unopened : e.input.pending.next ≡ None) (book : Book) (r : Reading) (rs : List Reading) (asked : ask r.kind r.fed ≡ reading.ActsOn c (effect.StartInput back) ts) (left : Rests)
    (e' : Engine) (w : World) (n : ℕ) (unopened' : e'.input.pending.next ≡ None) (room : refused e'.input.sizes (text_level e'.input.pending ∷ []) ≡ None) where
  abbrev name : List ℕ
  name = file_name (character_codes ts)

  abbrev here : Book
  here = with_work (r ∷ rs) book

  abbrev front_moves : List Move
  front_moves = input_front (page_of (state_of e here)) back name

  abbrev IsFound : Pending → Type 0
  IsFound p = with_next (Some (plain.first_left left.left)) (extended_pending (drop 1 left.left) (pending_of book.number p)) ≡ extended_pending left.left (pending_of book.number (with_next (Some []) p))

  found_same : (p : Pending) → p.next ≡ None → IsFound p
  found_same p none = subst IsFound (ap (λ (o : Option (List ℕ)). record p { next = o }) (sym none)) refl

  found_state : (bytes : List ℕ) → record (whole_state (rests_before_opening name true left) e' (with_work rs book)) { pending = with_next (Some (plain.first_left left.left)) (whole_state (rests_before_opening name true left) e' (with_work rs book)).pending; files = left.files }
      ≡ whole_state left (record e' { input = record e'.input { pending = with_next (Some []) e'.input.pending } }) (with_work rs book)
  found_state bytes = ap (λ (p : Pending). record (whole_state left e' (with_work rs book)) { pending = p }) (found_same e'.input.pending unopened')

  -- it is found
  pub found : Sought sizes (state_of e here) e' (with_work rs book) w front_moves name n → (e2 : Engine) → e2 ≡ record e' { input = record e'.input { pending = with_next (Some []) e'.input.pending } } → AllStand sizes e2 (with_work rs book) →
      Came sizes (whole_state (rests_before_opening name true left) e here) e2 left w w 0
  found sought e2 is stands =
      let all : Rests = rests_before_opening name true left in
      let bytes = plain.first_left left.left in
      let s : State = whole_state all e here in
      let t : State = whole_state left e2 (with_work rs book) in
      let at : all.files 0 name ≡ Some bytes = found_at name (Some bytes) left.files in
      let plans : plan s s.stopped ≡ front_moves ++ FileOpened name ∷ [] =
      opening sizes e c back ts unopened book r rs asked all ∙ ap (λ (o : Option (List ℕ)). front_moves ++ FileOpened name ∷ unless_found (page_of (state_of e here)) name o) at in
      let did : Did sizes s t w w (front_moves ++ FileOpened name ∷ []) =
      looked sizes e c back ts unopened book r rs asked all e' w n sought unopened' room t (next_is sizes e c back ts unopened book r rs asked all e' w n sought unopened' room (Some bytes) at ∙ found_state bytes ∙ ap (λ (x : Engine). whole_state left x (with_work rs book)) (sym is)) in
      record {
        ms = front_moves ++ FileOpened name ∷ [];
        book' = with_work rs book;
        stands = stands;
        moves = plan_did sizes s t w w (front_moves ++ FileOpened name ∷ []) refl plans did;
        count = ap steps (sym plans ∙ opening sizes e c back ts unopened book r rs asked all) ∙ opening_free sizes e c back ts unopened book r rs asked all;
        written = did.written;
      }

  -- it isn't held
  module _ (sought : Sought sizes (state_of e here) e' (with_work rs book) w front_moves name n) where
    abbrev s0 : State
    s0 = whole_state (rests_before_opening name false left) e here

    abbrev missed : List Move
    missed = unless_found (page_of (state_of e here)) name None

    missing_plans : plan s0 s0.stopped ≡ front_moves ++ FileOpened name ∷ missed
    missing_plans = opening sizes e c back ts unopened book r rs asked (rests_before_opening name false left) ∙ ap (λ (o : Option (List ℕ)). front_moves ++ FileOpened name ∷ unless_found (page_of (state_of e here)) name o) (found_at name None left.files)

    missing_free : steps (front_moves ++ FileOpened name ∷ missed) ≡ 0
    missing_free = ap steps (sym missing_plans ∙ opening sizes e c back ts unopened book r rs asked (rests_before_opening name false left)) ∙ opening_free sizes e c back ts unopened book r rs asked (rests_before_opening name false left)

    abbrev IsStill : Pending → Type 0
    IsStill p = with_next None (extended_pending left.left (pending_of book.number p)) ≡ extended_pending left.left (pending_of book.number p)

    stays : (p : Pending) → p.next ≡ None → IsStill p
    stays p none = subst IsStill (ap (λ (o : Option (List ℕ)). record p { next = o }) (sym none)) refl

    missing_did : Did sizes s0 (whole_state left e' (with_work rs book)) w w (front_moves ++ FileOpened name ∷ [])
    missing_did = looked sizes e c back ts unopened book r rs asked (rests_before_opening name false left) e' w n sought unopened' room (whole_state left e' (with_work rs book))
        (next_is sizes e c back ts unopened book r rs asked (rests_before_opening name false left) e' w n sought unopened' room None (found_at name None left.files)
        ∙ ap (λ (p : Pending). record (whole_state left e' (with_work rs book)) { pending = p }) (stays e'.input.pending unopened'))

    -- the report has the same page
    page_kept : (b : Bool) → made_all (input_front (page_of (state_of e here)) b name) (state_of e here) ≡ state_of e' (with_work rs book) → unless_found (page_of (state_of e' (with_work rs book))) name None ≡ missed
    page_kept true is = ap (λ (x : State). unless_found (page_of x) name None) (sym is)
    page_kept false is = ap (λ (x : State). unless_found (page_of x) name None) (sym is)

    hundred_still : (b : Bool) (style : Style) (ms : List Move) → AreStill ms → AreStill (if b then ms else Written Transcript (hundred_line style) ∷ Stopped (AtFatal HundredErrors) ∷ [])
    hundred_still true style ms h = h
    hundred_still false style ms h = (tt, (tt, tt))

    missed_still : AreStill missed
    missed_still =
        let p : Page = page_of (state_of e here) in
        (tt, (tt, hundred_still (nat_lt p.reports reports_room) (style_of p) (Written Transcript (emergency (style_of p) ++ no_file_line (style_of p)) ∷ Stopped (AtFatal NoFile) ∷ []) (tt, (tt, tt))))

    split : (ms : List Move) → (front_moves ++ FileOpened name ∷ []) ++ ms ≡ front_moves ++ FileOpened name ∷ ms
    split ms = append_assoc front_moves (FileOpened name ∷ []) ms

    pub missing_halts : (e2 : Engine) (w' : World) (o : Outcome) (j : ℕ) → Halts sizes (state_of e' (with_work rs book)) e2 (with_work rs book) w w' (unless_found (page_of (state_of e' (with_work rs book))) name None) o 0 → FramesOf e2 rs → Stops sizes s0 e2 left w w' j o
    missing_halts e2 w' o j halts frames =
        let d : Did sizes (state_of e' (with_work rs book)) halts.t w w' missed = subst (λ (ms : List Move). Did sizes (state_of e' (with_work rs book)) halts.t w w' ms) (page_kept back sought.did.state) halts.did in
        let more : Did sizes (whole_state left e' (with_work rs book)) (extended left halts.t) w w' missed = moves_did sizes (state_of e' (with_work rs book)) halts.t left missed missed_still w w' d in
        let did : Did sizes s0 (extended left halts.t) w w' (front_moves ++ FileOpened name ∷ missed) =
        subst (λ (ms : List Move). Did sizes s0 (extended left halts.t) w w' ms) (split missed) (did_join sizes s0 (whole_state left e' (with_work rs book)) (extended left halts.t) w w w' (front_moves ++ FileOpened name ∷ []) missed missing_did more) in
        record {
          ms = front_moves ++ FileOpened name ∷ missed;
          t = extended left halts.t;
          moves = plan_did sizes s0 (extended left halts.t) w w' (front_moves ++ FileOpened name ∷ missed) refl missing_plans did;
          within = omega (arith, missing_free);
          ends = stopped_ends (extended left halts.t) o halts.due halts.stopped;
          stopped = halts.stopped;
          reports = counts_on o halts.t halts.reports;
          stands = record { book' = with_work rs book; frames = frames; same = ap (extended left) (halts.same sought.stands.sound.sized.few_reports) };
          written = did.written;
        } where
          counts_on : (x : Outcome) (t : State) → CountsReports x t e2 → CountsReports x (extended left t) e2
          counts_on Finished t h = h
          counts_on (AtFatal f) t h = h

    pub missing_cut : (e2 : Engine) (w' : World) (b : Broken) (j : ℕ) → Cuts sizes (state_of e' (with_work rs book)) e2 (with_work rs book) w w' (unless_found (page_of (state_of e' (with_work rs book))) name None) b → FramesAtCut b e2 rs → CutBy sizes s0 j e2 left w w' b
    missing_cut e2 w' b j h frames =
        let k : Cut sizes (state_of e' (with_work rs book)) h.at w w' missed b = subst (λ (ms : List Move). Cut sizes (state_of e' (with_work rs book)) h.at w w' ms b) (page_kept back sought.did.state) h.cut in
        let more = moves_cut sizes (state_of e' (with_work rs book)) h.at left missed b missed_still w w' k in
        let cut : Cut sizes s0 (extended left h.at) w w' (front_moves ++ FileOpened name ∷ missed) b =
        subst (λ (ms : List Move). Cut sizes s0 (extended left h.at) w w' ms b) (split missed) (cut_later sizes s0 (whole_state left e' (with_work rs book)) (extended left h.at) w w w' (front_moves ++ FileOpened name ∷ []) missed b missing_did more) in
        let off : CutOff sizes s0 (extended left h.at) j w w' b = plan_cut sizes s0 (extended left h.at) j w w' (front_moves ++ FileOpened name ∷ missed) b cut (omega (arith, missing_free)) refl missing_plans in
        record { t = off.t; cut = off.cut; book' = with_work rs book; frames = frames; same = same_moment b off.t (extended left h.at) (whole_state left e2 (with_work rs book)) off.same (whole_moment b left h.at (state_of e2 (with_work rs book)) h.same) }

-- HOW MANY FILES ARE OPEN

-- the moves before open none
pub sought_count : (sizes : Sizes) (e e' : Engine) (book book' : Book) (w : World) (back : Bool) (page : Page) (name other : List ℕ) (n : ℕ) → Sought sizes (state_of e book) e' book' w (input_front page back name) other n → open_files e'.input.pending ≡ open_files e.input.pending
sought_count sizes e e' book book' w back page name other n sought =
    sym (count_of e' book') ∙ sym (ap count sought.did.state) ∙ keeps_all (input_front page back name) (state_of e book) (none back) ∙ count_of e book where
      none : (b : Bool) → pulls (input_front page b name) ≡ 0
      none true = refl
      none false = refl

-- one more may be open
pub one_room : (sizes : Sizes) (p : Pending) → refused sizes (text_level p ∷ []) ≡ None → open_files p < sizes.text_input_levels
one_room sizes p h = at (nat_le (open_files p + 1) sizes.text_input_levels) refl h where
  at : (b : Bool) → nat_le (open_files p + 1) sizes.text_input_levels ≡ b → (if b then None else Some (full sizes (text_level p))) ≡ None → open_files p < sizes.text_input_levels
  at true is k = omega (arith, leb-true (open_files p + 1) sizes.text_input_levels is)
  at false is k = absurd cc

-- where it is open, and not begun
module _ (e' e2 : Engine) (is : e2 ≡ record e' { input = record e'.input { pending = with_next (Some []) e'.input.pending } }) where
  abbrev next_engine : Engine
  next_engine = record e' { input = record e'.input { pending = with_next (Some []) e'.input.pending } }

  next_store : SameStore e'.input next_engine.input
  next_store = record { sizes = refl; groups = refl; closing = refl; ending = refl; puts = λ n h. h; lists = record { tokens = λ n h. refl } }

  pub next_stands : (sizes : Sizes) (book : Book) → AllStand sizes e' book → AllStand sizes e2 book
  next_stands sizes book h = subst (λ (x : Engine). AllStand sizes x book) (sym is)
      (all_still sizes e' next_engine book (record { readings = refl; lists = refl; call = refl }) next_store (sound_still sizes e' next_engine book.number book.all_lists refl refl refl refl refl next_store h.sound) h.idle h)

  next_count : e'.input.pending.next ≡ None → open_files next_engine.input.pending ≡ suc (open_files e'.input.pending)
  next_count none = omega (arith, ap opened_files none)

  pub next_tied : (e : Engine) (rs rs' : OpenReaders) (r : OpenReader) → e'.input.pending.next ≡ None → open_files e'.input.pending ≡ open_files e.input.pending → e'.input.sizes ≡ e.input.sizes → rs' ≡ record rs { readers = r ∷ rs.readers } → AreTied rs e → AreTied rs' e2
  next_tied e rs rs' r none count same after tied = subst (λ (x : Engine). AreTied rs' x) (sym is) (subst (λ (x : OpenReaders). AreTied x next_engine) (sym after) (record {
    count = ap suc (tied.count ∙ sym count) ∙ sym (next_count none);
    room = subst (λ (x : Sizes). x.text_input_levels ≤ rs.most) (sym same) tied.room;
  }))

none_called : (c : Option EngineCall) (k : Calling) (o : Option reading.Ask) → asks_start (asked_by c k o) ≡ true → c ≡ None
none_called None k o h = refl
none_called (Some c) k o h = absurd (false≢true (sym (call_starts c.name c.ask k) ∙ h))

pub starts_uncalled : (k : Calling) (o : Option reading.Ask) → asks_start (asked_by (call_in k) k o) ≡ true → k ≡ NotCalling
starts_uncalled k o h = no_call k (none_called (call_in k) k o h)

pub match_true : (A B : Type 0) (b : Bool) → b ≡ true → MatchBool b A B → A
match_true A B true is h = h
match_true A B false is h = absurd (false≢true is)

pub match_false : (A B : Type 0) (b : Bool) → b ≡ false → MatchBool b A B → B
match_false A B true is h = absurd (true≢false is)
match_false A B false is h = h

-- the same readings are open
pub frames_near : (sizes : Sizes) (e e2 : Engine) (book : Book) (b : Broken) → SameFrames e e2 → Stands sizes e book → FramesAtCut b e2 book.work
frames_near sizes e e2 book b same st = near_still b e e2 book.work same (near_none b e book.work st.uncalled st.readings)

pub frames_by : (sizes : Sizes) (e e2 : Engine) (book : Book) → SameFrames e e2 → Stands sizes e book → FramesOf e2 book.work
frames_by sizes e e2 book same st = frames_none e2 book.work (same.call ∙ st.uncalled) (frames_kept e e2 book.work same st.readings)

-- there are as many readers as text input levels
pub no_room : (sizes : Sizes) (e e' : Engine) (book book' : Book) (w : World) (back : Bool) (page : Page) (name other : List ℕ) (n : ℕ) (rs : OpenReaders) → AreTied rs e → Stands sizes e book → Sought sizes (state_of e book) e' book' w (input_front page back name) other n →
    refused e'.input.sizes (text_level e'.input.pending ∷ []) ≡ None → rs.most ≤ length rs.readers → ⊥
no_room sizes e e' book book' w back page name other n rs tied st sought room h =
    let same : e'.input.sizes ≡ e.input.sizes = sought.stands.sound.sized.input ∙ sym st.sound.sized.input in
    let levels : e'.input.sizes.text_input_levels ≡ e.input.sizes.text_input_levels = ap (λ (x : Sizes). x.text_input_levels) same in
    omega (arith, one_room e'.input.sizes e'.input.pending room, levels, tied.room, tied.count, h, sought_count sizes e e' book book' w back page name other n sought)
