-- From the engine's run to what the program means.
use Rattle.std.proofs.Common.{◌≡◌, inl, inr, ℕ, ◌+◌, ◌≤◌, ◌<◌, List, [], ◌∷◌, ◌++◌, length, map, refl, sym, ap, subst, ◌∙◌, arith, Bool, true, false, le-leb}
use Rattle.std.specs.Prelude.{Option, Some, None, ◌||◌, nat_lt, if◌then◌else◌, ◌⊎◌}
use Rattle.tex_syntax.specs.declared.words.Outcome.{Outcome}
use Rattle.tex_syntax.specs.declared.words.Outcome.TheVariants.{AtFatal, Finished}
use Rattle.plain_tokens.specs.Printed.{Style}
use Rattle.tex_defs.specs.Places.{World, Rose, Later, File, Untold, NotHeld, Holds, Place, Transcript, OfFile}
use Rattle.tex_defs.specs.declared.Full.{Full as FullTable}
use Rattle.tex_defs.specs.declared.Fatal.{Fatal}
use Rattle.tex_defs.specs.declared.Fatal.TheVariants.{NoFile}
use Rattle.tex_defs.specs.declared.Sizes.{Sizes}
use Rattle.plain_tokens.specs.Pending.{Pending, bottom, with_next}
use Rattle.plain_tokens.specs.Tables.{string, full, refused, text_level, open_files}
use Rattle.equivalents.specs.Parameters.{style_in}
use Rattle.plain_state.specs.Reports.{missing_file_bytes, emergency, no_file_line}
use Rattle.plain_machine.specs.declared.broken.Broken.{Broken}
use Rattle.plain_machine.specs.declared.broken.Broken.TheVariants as broken
use Rattle.plain_machine.specs.States.{State, Files, Move, Kept, Written, Reported, Stopped, made, no_files}
use Rattle.plain_machine.specs.Demands.{refusal}
use Rattle.plain_machine.specs.Extended.{Rests, extended, extended_pending, first_left}
use Rattle.plain_machine.specs.Numbers.{pending_of}
use Rattle.plain_machine.specs.Plan.{Page, style_of, behind_report, no_file, file_missing, job_due, unless_found}
use Rattle.plain_machine.specs.Runs.{Wrote, made_all, steps}
use Rattle.plain_machine.specs.Bounded.{FitMoves}
use Rattle.plain_machine.specs.Does.{Did, Cut, IsCause, CutAt, Refuses, but_due, front_of}
use Rattle.plain_machine.specs.Meaning.{First, Line, Whole, Ending, Status, IsFinished, IsFlawed, IsFatal, IsFullTable, IsSteps, IsReadFault, IsWriteFault, IsNoMemory, Says, IsHeldAs, AreHeldAs, MeansRun, Means, sizes_of, steps_line, full_line, read_fault_line, write_fault_line, no_memory_line}
use Rattle.plain_machine.proofs.Extending.{moves_did, moves_cut}
use Rattle.plain_machine.proofs.Doing.{later_on, rose_to, did_join, due_did, due_cut, cut_later, CutOff, full_end, full_wrote, wrote_none}
use Rattle.plain_machine.proofs.Joins.{next_due, made_all_due, all_fit_due, refuses_due, due_none, stopped_ends}
use Rattle.command_words.specs.Words.{Command, Init, NoCommand, job_name}
use Rattle.world_io.specs.declared.traits.Fault.{Fault}
use Rattle.world_io.specs.declared.traits.Fault.TheVariants.{Failed, NoMemory}
use Rattle.world_io.specs.Contents.{FilesTold, SinkTold, NotFound, IsAtEnd, IsAll, IsContent, content, world, SameCounts}
use Rattle.line_reader.specs.Readers.{OpenReader, OpenReaders, KnowEnds, AreLeft, MayLeave, told_left, OpensInnermost, ClosesReaders}
use Rattle.line_reader.specs.Readers as readers
use Rattle.engine_state.specs.declared.engine.Engine.{Engine}
use Rattle.stomach.specs.declared.runs.Ended.{Ended}
use Rattle.stomach.specs.declared.runs.Ended.TheVariants.{Halted, Steps}
use Rattle.engine_state.specs.First.{Begins}
use Rattle.engine_state.specs.Book.{first_book}
use Rattle.engine_state.specs.Stands.{Stands, state_of, page_of, own_style}
use Rattle.engine_state.specs.Rules.{world_of, Halts, Cuts}
use Rattle.stomach.specs.declared.early.Early.{Early}
use Rattle.stomach.specs.declared.early.Early.TheVariants as early
use Rattle.stomach.specs.Ran.{Came, Ran, CutBy, UnreadBy, StoppedBy, whole_state}
use Rattle.stomach.specs.Read.{AreRead, AreTold, ReadsTo, AreTied}
use Rattle.tex_program.specs.Named.{first_style, Named, Opened}
use Rattle.tex_program.specs.Says.{SaysSo, end_status, ReadAlike, HasReadCause}
use Rattle.engine_state.proofs.Uncalled.{all_of}
use Rattle.engine_state.proofs.CallKept.{frames_kept}

-- A RUN'S STATUS

module _ (sizes : Sizes) (s t : State) (n : ℕ) (w m w' : World) where
  pub broken_fault : (b : Broken) → b ≡ broken.WriteFault → CutAt sizes s n t w m b → Line m w' write_fault_line → SaysSo sizes s n w w' 6
  broken_fault b is cut last =
      let c : CutAt sizes s n t w m broken.WriteFault = subst (CutAt sizes s n t w m) is cut in
      record { is = IsWriteFault; says = record { t = t; between = m; cut = c; last = last } }

  pub broken_want : (b : Broken) → b ≡ broken.Want → CutAt sizes s n t w m b → Line m w' no_memory_line → SaysSo sizes s n w w' 7
  broken_want b is cut last =
      let c : CutAt sizes s n t w m broken.Want = subst (CutAt sizes s n t w m) is cut in
      record { is = IsNoMemory; says = inl (record { t = t; between = m; cut = c; last = last }) }

  pub broken_full : (b : Broken) (full : FullTable) → b ≡ broken.Full full → CutAt sizes s n t w m b → Line m w' (full_line full) → SaysSo sizes s n w w' 3
  broken_full b full is cut last =
      let c : CutAt sizes s n t w m (broken.Full full) = subst (CutAt sizes s n t w m) is cut in
      record {
        is = IsFullTable;
        says = record {
          full = full;
          stops = record { ms = c.ms; t = t; between = m; run = full_end sizes s t n w m full c; written = full_wrote sizes s t n w m full c; last = last };
        };
      }

module _ (sizes : Sizes) (s : State) (n : ℕ) (w m w' : World) (e : Engine) (left : Rests) where
  -- the file's next bytes didn't come
  pub unread_failed : UnreadBy sizes s n e left w m → Rose w.read_faults m.read_faults → Line m w' read_fault_line → SaysSo sizes s n w w' 5
  unread_failed h cause last = record { is = IsReadFault; says = inl (record { t = h.t; between = m; read = h.read; cause = cause; last = last }) }

  pub unread_want : UnreadBy sizes s n e left w m → Rose w.file_wants m.file_wants → Line m w' no_memory_line → SaysSo sizes s n w w' 7
  unread_want h cause last = record { is = IsNoMemory; says = inr (inl (record { t = h.t; between = m; read = h.read; cause = cause; last = last })) }

-- why it stopped
module _ (sizes : Sizes) (s : State) (n : ℕ) (w m : World) (e : Engine) (left : Rests) where
  pub early_broken : (x : Early) (b : Broken) → x ≡ early.Broken b → StoppedBy sizes s n e left w m x → CutBy sizes s n e left w m b
  early_broken x b is h = subst (λ (y : Early). StoppedBy sizes s n e left w m y) is h

  pub early_unread : (x : Early) (fault : Fault) → x ≡ early.Unread fault → StoppedBy sizes s n e left w m x → UnreadBy sizes s n e left w m
  early_unread x fault is h = subst (λ (y : Early). StoppedBy sizes s n e left w m y) is h

  pub early_cause : (x : Early) (fault : Fault) → x ≡ early.Unread fault → HasReadCause x w m → HasReadCause (early.Unread fault) w m
  early_cause x fault is h = subst (λ (y : Early). HasReadCause y w m) is h

module _ (sizes : Sizes) (s : State) (n : ℕ) (w m w' : World) (e' : Engine) (left : Rests) where
  abbrev whole_of : (o : Outcome) (ran : Ran sizes s n e' left w w' (Halted o)) → Whole sizes s n w w' o
  whole_of o ran = record { ms = ran.ms; t = ran.t; run = ran.run; stopped = ran.ends.0; written = ran.written }

  -- whether its status is to be 1
  abbrev flaws : Bool
  flaws = e'.flawed || nat_lt 0 e'.reports

  ending_of : (ran : Ran sizes s n e' left w w' (Halted Finished)) (b : Bool) → flaws ≡ b → Ending sizes s n w w' b
  ending_of ran b is =
      let counts = ran.ends.1.0 in
      record { whole = whole_of Finished ran; flaws = ap (λ (k : ℕ). ran.t.flawed || nat_lt 0 k) counts.0 ∙ (ap (λ (x : Bool). x || nat_lt 0 e'.reports) counts.1 ∙ is) }

  -- a run that has ended, with a report or without
  ended_with : (ran : Ran sizes s n e' left w w' (Halted Finished)) (b : Bool) → flaws ≡ b → SaysSo sizes s n w w' (if b then 1 else 0)
  ended_with ran true is = record { is = IsFlawed; says = ending_of ran true is }
  ended_with ran false is = record { is = IsFinished; says = ending_of ran false is }

  ran_halted : (o : Outcome) → Ran sizes s n e' left w w' (Halted o) → SaysSo sizes s n w w' (end_status o e'.reports e'.flawed)
  ran_halted Finished ran = ended_with ran flaws refl
  ran_halted (AtFatal f) ran = record { is = IsFatal; says = record { fatal = f; whole = whole_of (AtFatal f) ran } }

  pub ran_ended : (ended : Ended) (o : Outcome) (status : ℕ) → ended ≡ Halted o → status ≡ end_status o e'.reports e'.flawed → Ran sizes s n e' left w w' ended → SaysSo sizes s n w w' status
  ran_ended ended o status is this ran = rw this (ran_halted o (subst (λ (x : Ended). Ran sizes s n e' left w w' x) is ran))

  pub ran_steps : (ended : Ended) → ended ≡ Steps → Ran sizes s n e' left w m ended → Line m w' (steps_line n) → SaysSo sizes s n w w' 4
  ran_steps ended is run last =
      let ran : Ran sizes s n e' left w m Steps = subst (λ (x : Ended). Ran sizes s n e' left w m x) is run in
      record { is = IsSteps; says = record { ms = ran.ms; t = ran.t; between = m; run = ran.run; written = ran.written; last = last } }

-- MOVES THAT ARE DUE FROM THE START

did_due : (sizes : Sizes) (s s' : State) (w w' : World) (ms x : List Move) → Did sizes s s' w w' ms → Did sizes (record s { due = x }) (record s' { due = x }) w w' ms
did_due sizes s s' w w' ms x d = record {
  state = made_all_due ms s x ∙ ap (λ (y : State). record y { due = x }) d.state;
  fits = all_fit_due sizes ms s x d.fits;
  written = d.written;
}

due_moves : (sizes : Sizes) (s s' : State) (w w' : World) (ms : List Move) → s'.due ≡ [] → Did sizes s s' w w' ms → FitMoves sizes (record s { due = ms }) ms s'
due_moves sizes s s' w w' ms none d =
    subst (FitMoves sizes (record s { due = ms }) ms) (due_none s' none) (due_did sizes (record s { due = ms }) (record s' { due = ms }) w w' ms refl (did_due sizes s s' w w' ms ms d))

cut_due : (sizes : Sizes) (s s' : State) (w w' : World) (ms x : List Move) (why : Broken) → Cut sizes s s' w w' ms why → Cut sizes (record s { due = x }) (record s' { due = x }) w w' ms why
cut_due sizes s s' w w' ms x why c = record {
  done = c.done;
  m = c.m;
  rest = c.rest;
  count = c.count;
  all = c.all;
  state = made_all_due c.done s x ∙ ap (λ (y : State). record y { due = x }) c.state;
  fits = all_fit_due sizes c.done s x c.fits;
  refuses = refuses_due sizes why c.m s' (record s' { due = x }) refl c.refuses;
  cause = c.cause;
  written = c.written;
}

cut_from_due : (sizes : Sizes) (s at : State) (w w' : World) (ms : List Move) (n : ℕ) (why : Broken) → steps ms ≤ n → Cut sizes s at w w' ms why →
    (t : State) × CutAt sizes (record s { due = ms }) n t w w' why
cut_from_due sizes s at w w' ms n why le cut =
    let off : CutOff sizes (record s { due = ms }) (record at { due = ms }) n w w' why =
    due_cut sizes (record s { due = ms }) (record at { due = ms }) n w w' ms why (cut_due sizes s at w w' ms ms why cut) le refl in
    (off.t, off.cut)

-- THE JOB'S NAME

-- it writes nothing
kept_on : (w w' : World) (bytes : List ℕ) → Wrote w w' [] → Wrote w w' (Kept bytes ∷ [])
kept_on w w' bytes h = record { told = h.told; column = h.column; later = h.later }

kept_wrote : (w : World) (bytes : List ℕ) → Wrote w w (Kept bytes ∷ [])
kept_wrote w bytes = kept_on w w bytes (wrote_none w)

-- one move is cut off: it is this that is refused
module _ (sizes : Sizes) (s : State) (m : Move) (why : Broken) where
  refused_first : (done : List Move) (x : Move) (rest : List Move) (at : State) → m ∷ [] ≡ done ++ x ∷ rest → made_all done s ≡ at → Refuses sizes why x at → Refuses sizes why m s
  refused_first [] x rest at all state h =
      let same : x ≡ m = cc (all) in
      subst (λ (y : State). Refuses sizes why m y) (sym state) (subst (λ (y : Move). Refuses sizes why y at) same h)
  refused_first (y ∷ []) x rest at all state h = absurd (cc (all))
  refused_first (y ∷ z ∷ done) x rest at all state h = absurd (cc (all))

-- whether a name has room is told by the names and the strings
refused_alike : (sizes : Sizes) (why : Broken) (bytes : List ℕ) (s t : State) → s.names ≡ t.names → s.strings ≡ t.strings → Refuses sizes why (Kept bytes) s → Refuses sizes why (Kept bytes) t
refused_alike sizes (broken.Full full) bytes s t names strings h =
    subst (λ (x : List (List ℕ)). refused sizes (string bytes x t.strings) ≡ Some full) names (subst (λ (x : List (List ℕ)). refused sizes (string bytes s.names x) ≡ Some full) strings h)
refused_alike sizes broken.WriteFault bytes s t names strings h = absurd h
refused_alike sizes broken.Want bytes s t names strings h = absurd h

-- an engine that was just made keeps the job's name
module _ (sizes : Sizes) (e e' : Engine) (quiet : Bool) (file name : List ℕ) (is : name ≡ job_name file) (begins : Begins sizes e quiet) (f : FilesTold) (a : SinkTold) where
  abbrev first_world : World
  first_world = world f a false

  begins_style : first_style ≡ own_style e
  begins_style = sym (ap (λ (s : State). style_in s.groups.now s.names) (begins.state file))

  pub named : Stands sizes e' first_book → e'.input ≡ e.input → Did sizes (state_of e first_book) (state_of e' first_book) first_world first_world (Kept name ∷ []) → Named sizes e' quiet file
  named stands input d =
      let kept : Did sizes (state_of e first_book) (state_of e' first_book) first_world first_world (Kept (job_name file) ∷ []) =
      subst (λ (x : List ℕ). Did sizes (state_of e first_book) (state_of e' first_book) first_world first_world (Kept x ∷ [])) is d in
      record {
        stands = stands;
        unopened = ap (λ (i : _). i.pending) input ∙ begins.unopened;
        room = subst (λ (s : State). refusal sizes (Kept (job_name file)) s ≡ None) (begins.state file) kept.fits.0;
        state = subst (λ (s : State). made (Kept (job_name file)) s ≡ record (state_of e' first_book) { due = job_due first_style file None }) (begins.state file)
            (ap (λ (x : Style). record (made (Kept (job_name file)) (state_of e first_book)) { due = job_due x file None }) (sym begins_style)
            ∙ ap (λ (s : State). record s { due = job_due first_style file None }) kept.state);
      }

  -- a name for which a table has no room is refused whatever the file is
  pub name_refused : (job : Option (List ℕ)) (all : Files) (n : ℕ) (b : Broken) (column : Bool) → column ≡ false → Cuts sizes (state_of e first_book) e' first_book first_world first_world (Kept name ∷ []) b → CutAt sizes (First quiet file job all) n (First quiet file job all) first_world (world f a column) b
  name_refused job all n b column none h =
      let cuts : Cuts sizes (state_of e first_book) e' first_book first_world first_world (Kept (job_name file) ∷ []) b =
      subst (λ (x : List ℕ). Cuts sizes (state_of e first_book) e' first_book first_world first_world (Kept x ∷ []) b) is h in
      let c = cuts.cut in
      let s = state_of e first_book in
      subst (λ (x : Bool). CutAt sizes (First quiet file job all) n (First quiet file job all) first_world (world f a x) b) (sym none) (record {
        ms = [];
        m = Kept (job_name file);
        u = made (Kept (job_name file)) (record (First quiet file job all) { due = file_missing first_style file job });
        count = 0;
        moves = refl;
        goes = next_due (First quiet file job all) (Kept (job_name file)) (file_missing first_style file job) refl;
        room = omega arith;
        refuses = refused_alike sizes b (job_name file) s (First quiet file job all) (ap (λ (x : State). x.names) (begins.state file)) (ap (λ (x : State). x.strings) (begins.state file))
            (refused_first sizes s (Kept (job_name file)) b c.done c.m c.rest cuts.at c.all c.state c.refuses);
        cause = c.cause;
        written = wrote_none first_world;
      })

-- an engine that has kept it
module _ (sizes : Sizes) (e : Engine) (quiet : Bool) (file : List ℕ) (h : Named sizes e quiet file) where
  pub named_column : e.in_line ≡ false
  named_column = sym (ap (λ (s : State). s.in_line) h.state)

  pub named_reports : e.reports ≡ 0
  named_reports = sym (ap (λ (s : State). s.reports) h.state)

  named_style : style_of (page_of e first_book) ≡ first_style
  named_style = sym (ap (λ (s : State). style_in s.groups.now s.names) h.state)

  named_line : e.input.pending.number ≡ 0
  named_line = ap (λ (p : Pending). p.number) h.unopened

  -- whatever the files hold
  pub named_did : (all : Files) (w : World) → Did sizes (but_due (First quiet file None all)) (extended (record { left = []; files = all }) (state_of e first_book)) w w (Kept (job_name file) ∷ [])
  named_did all w =
      let d : Did sizes (but_due (First quiet file None no_files)) (state_of e first_book) w w (Kept (job_name file) ∷ []) =
      record { state = ap but_due h.state; fits = (h.room, tt); written = kept_wrote w (job_name file) } in
      moves_did sizes (but_due (First quiet file None no_files)) (state_of e first_book) (record { left = []; files = all }) (Kept (job_name file) ∷ []) (tt, tt) w w d

-- THE JOB'S FILE IS OPENED

-- a file was opened
abbrev pub opened_engine : Engine → Engine
opened_engine e = record e { input = record e.input { pending = with_next (Some []) e.input.pending } }

opened_stands : (sizes : Sizes) (e : Engine) → Stands sizes e first_book → Stands sizes (opened_engine e) first_book
opened_stands sizes e st =
    let sound = st.sound in
    record {
      sound = record {
        sized = record { few_reports = sound.sized.few_reports; own = sound.sized.own; readings = sound.sized.readings; conditionals = sound.sized.conditionals; input = sound.sized.input; names = sound.sized.names; located = sound.sized.located };
        tied = sound.tied;
        bodies = sound.bodies;
      };
      idle = st.idle;
      readings = frames_kept e (opened_engine e) first_book.work (record { readings = refl; lists = refl; call = refl }) st.readings;
      uncalled = st.uncalled;
    }

-- there is room for it
pub level_room : (sizes : Sizes) (p : Pending) → p ≡ bottom → 0 < sizes.text_input_levels → refused sizes (text_level p ∷ []) ≡ None
level_room sizes p is some =
    ap (λ (q : Pending). refused sizes (text_level q ∷ [])) is
    ∙ ap (λ (b : Bool). if b then None else Some (full sizes (text_level bottom))) (le-leb (open_files bottom + 1) sizes.text_input_levels (omega (arith, some)))

named_opened : (sizes : Sizes) (e : Engine) (quiet : Bool) (file : List ℕ) → Named sizes e quiet file → Opened sizes (opened_engine e) quiet file
named_opened sizes e quiet file h = record {
  stands = opened_stands sizes e h.stands;
  opened = ap (with_next (Some [])) h.unopened;
  room = λ bytes all. h.room;
  state = λ bytes all.
      ap (λ (s : State). record s { pending = record bottom { next = Some bytes }; files = all; due = job_due first_style file (Some bytes) }) h.state
      ∙ ap (λ (p : Pending). record (state_of e first_book) { pending = extended_pending (bytes ∷ []) (pending_of first_book.number (with_next (Some []) p)); files = all; due = job_due first_style file (Some bytes) }) (sym h.unopened);
}

pub opened_by : (sizes : Sizes) (e e' : Engine) (quiet : Bool) (file : List ℕ) → e' ≡ opened_engine e → Named sizes e quiet file → Opened sizes e' quiet file
opened_by sizes e e' quiet file is h = subst (λ (x : Engine). Opened sizes x quiet file) (sym is) (named_opened sizes e quiet file h)

-- what the files have left is the job's bytes
module _ (sizes : Sizes) (e : Engine) (quiet : Bool) (file : List ℕ) (all : Rests) (h : Opened sizes e quiet file) where
  -- of its file alone
  abbrev job_rests : Rests
  job_rests = record { left = first_left all.left ∷ []; files = all.files }

  job_alone : whole_state job_rests e first_book ≡ whole_state all e first_book
  job_alone =
      ap (λ (p : Pending). record (state_of e first_book) { pending = extended_pending (first_left all.left ∷ []) (pending_of first_book.number p); files = all.files }) h.opened
      ∙ ap (λ (p : Pending). record (state_of e first_book) { pending = extended_pending all.left (pending_of first_book.number p); files = all.files }) (sym h.opened)

  abbrev first_job : State
  first_job = First quiet file (Some (first_left all.left)) all.files

  opened_did : (w : World) → Did sizes (but_due first_job) (whole_state job_rests e first_book) w w (Kept (job_name file) ∷ [])
  opened_did w = record { state = ap but_due (h.state (first_left all.left) all.files); fits = (h.room (first_left all.left) all.files, tt); written = kept_wrote w (job_name file) }

  opened_column : e.in_line ≡ false
  opened_column = sym (ap (λ (s : State). s.in_line) (h.state [] no_files))

  -- the run goes on
  pub opened_came : (f : FilesTold) (a : SinkTold) → Came sizes first_job e all (world f a false) (world_of f a e) 0
  opened_came f a =
      let w = world f a false in
      subst (λ (x : Bool). Came sizes first_job e all w (world f a x) 0) (sym opened_column) (record {
        ms = Kept (job_name file) ∷ [];
        book' = first_book;
        stands = all_of sizes e first_book h.stands;
        moves = subst (λ (s : State). FitMoves sizes first_job (Kept (job_name file) ∷ []) s) job_alone
            (due_moves sizes (but_due first_job) (whole_state job_rests e first_book) w w (Kept (job_name file) ∷ []) refl (opened_did w));
        count = refl;
        written = kept_wrote w (job_name file);
      })

-- THE JOB'S FILE ISN'T HELD

-- the moves by which a file is refused
abbrev refusing : Style → Bool → (line reports : ℕ) → List ℕ → List Move
refusing style in_line line reports file =
    Written Transcript (missing_file_bytes style in_line line file) ∷ Reported
    ∷ behind_report style reports (Written Transcript (emergency style ++ no_file_line style) ∷ Stopped (AtFatal NoFile) ∷ [])

unless_first : (page : Page) (style : Style) (file : List ℕ) → style_of page ≡ style → page.in_line ≡ false → page.line ≡ 0 → page.reports ≡ 0 → unless_found page file None ≡ no_file style file
unless_first page style file s column line reports =
    let same : refusing (style_of page) page.in_line page.line page.reports file ≡ refusing style false 0 0 file = cc (s, column, line, reports) in
    same

-- and the run ends
module _ (sizes : Sizes) (e e' : Engine) (quiet : Bool) (file : List ℕ) (h : Named sizes e quiet file) (all : Files) (f : FilesTold) (a b : SinkTold) (n : ℕ) where
  abbrev before : World
  before = world f a false

  abbrev after : World
  after = world_of f b e'

  abbrev none_left : Rests
  none_left = record { left = []; files = all }

  first_page : unless_found (page_of e first_book) file None ≡ no_file first_style file
  first_page = unless_first (page_of e first_book) first_style file (named_style sizes e quiet file h) (named_column sizes e quiet file h) (named_line sizes e quiet file h) (named_reports sizes e quiet file h)

  same_world : world_of f a e ≡ before
  same_world = ap (λ (x : Bool). world f a x) (named_column sizes e quiet file h)

  pub refused_fails : (o : Outcome) (fatal : Fatal) → o ≡ AtFatal fatal → Halts sizes (state_of e first_book) e' first_book (world_of f a e) after (unless_found (page_of e first_book) file None) o 0 →
      SaysSo sizes (First quiet file None all) n before after 2
  refused_fails o fatal is halts =
      let s = but_due (First quiet file None all) in
      let x : Halts sizes (state_of e first_book) e' first_book before after (no_file first_style file) (AtFatal fatal) 0 =
      subst (λ (y : Outcome). Halts sizes (state_of e first_book) e' first_book before after (no_file first_style file) y 0) is
      (subst (λ (y : World). Halts sizes (state_of e first_book) e' first_book y after (no_file first_style file) o 0) same_world
      (subst (λ (y : List Move). Halts sizes (state_of e first_book) e' first_book (world_of f a e) after y o 0) first_page halts)) in
      let t = extended none_left x.t in
      let did : Did sizes (extended none_left (state_of e first_book)) t before after (no_file first_style file) = moves_did sizes (state_of e first_book) x.t none_left (no_file first_style file) (tt, (tt, (tt, (tt, tt)))) before after x.did in
      let whole : Did sizes s t before after (job_due first_style file None) =
      did_join sizes s (extended none_left (state_of e first_book)) t before before after (Kept (job_name file) ∷ []) (no_file first_style file) (named_did sizes e quiet file h all before) did in
      record {
        is = IsFatal;
        says = record {
          fatal = fatal;
          whole = record {
            ms = job_due first_style file None;
            t = t;
            run = record {
              moves = due_moves sizes s t before after (job_due first_style file None) x.due whole;
              within = omega arith;
              whole = stopped_ends t (AtFatal fatal) x.due x.stopped;
            };
            stopped = x.stopped;
            written = whole.written;
          };
        };
      }

  pub refused_cut : (k : Broken) → Cuts sizes (state_of e first_book) e' first_book (world_of f a e) after (unless_found (page_of e first_book) file None) k → (t : State) × CutAt sizes (First quiet file None all) n t before after k
  refused_cut k cuts =
      let s = but_due (First quiet file None all) in
      let x : Cuts sizes (state_of e first_book) e' first_book before after (no_file first_style file) k =
      subst (λ (y : World). Cuts sizes (state_of e first_book) e' first_book y after (no_file first_style file) k) same_world
      (subst (λ (y : List Move). Cuts sizes (state_of e first_book) e' first_book (world_of f a e) after y k) first_page cuts) in
      let cut = moves_cut sizes (state_of e first_book) x.at none_left (no_file first_style file) k (tt, (tt, (tt, (tt, tt)))) before after x.cut in
      cut_from_due sizes s (extended none_left x.at) before after (job_due first_style file None) n k (omega arith)
      (cut_later sizes s (extended none_left (state_of e first_book)) (extended none_left x.at) before before after (Kept (job_name file) ∷ []) (no_file first_style file) k (named_did sizes e quiet file h all before) cut)

-- AND THEN NOTHING IS WRITTEN

module _ (w m w' : World) (quiet : Wrote m w' []) where
  wrote_on : (ms : List Move) → Wrote w m ms → Wrote w w' ms
  wrote_on ms h = record { told = λ p. quiet.told p ∙ h.told p; column = quiet.column ∙ h.column; later = later_on w m w' h.later quiet.later }

  line_whole : (P : Type 0) → P ⊎ (Rose w.sink_faults m.sink_faults ⊎ Rose w.sink_wants m.sink_wants) → P ⊎ (Rose w.sink_faults w'.sink_faults ⊎ Rose w.sink_wants w'.sink_wants)
  line_whole P (inl h) = inl h
  line_whole P (inr (inl h)) = inr (inl (rose_to _ _ _ h quiet.later.sink_faults))
  line_whole P (inr (inr h)) = inr (inr (rose_to _ _ _ h quiet.later.sink_wants))

  line_on : (line : List ℕ) → Line w m line → Line w w' line
  line_on line h = record { count = h.count; written = wrote_on _ h.written; whole = line_whole _ h.whole }

  cause_still : (why : Broken) → IsCause why w m → IsCause why w w'
  cause_still (broken.Full full) h = tt
  cause_still broken.WriteFault (inl h) = inl (rose_to _ _ _ h quiet.later.file_faults)
  cause_still broken.WriteFault (inr h) = inr (rose_to _ _ _ h quiet.later.sink_faults)
  cause_still broken.Want (inl h) = inl (rose_to _ _ _ h quiet.later.file_wants)
  cause_still broken.Want (inr h) = inr (rose_to _ _ _ h quiet.later.sink_wants)

  cut_on : (sizes : Sizes) (s : State) (n : ℕ) (t : State) (why : Broken) → CutAt sizes s n t w m why → CutAt sizes s n t w w' why
  cut_on sizes s n t why h = record {
    ms = h.ms;
    m = h.m;
    u = h.u;
    count = h.count;
    moves = h.moves;
    goes = h.goes;
    room = h.room;
    refuses = h.refuses;
    cause = cause_still why h.cause;
    written = wrote_on (h.ms ++ front_of h.count h.m) h.written;
  }

  pub stopped_on : (sizes : Sizes) (s : State) (n : ℕ) (e : Engine) (left : Rests) (x : Early) → StoppedBy sizes s n e left w m x → StoppedBy sizes s n e left w w' x
  stopped_on sizes s n e left (early.Broken b) h = record { t = h.t; cut = cut_on sizes s n h.t b h.cut; book' = h.book'; frames = h.frames; same = h.same }
  stopped_on sizes s n e left (early.Unread fault) h = record {
    t = h.t;
    read = record { ms = h.read.ms; moves = h.read.moves; within = h.read.within; needs = h.read.needs; written = wrote_on h.read.ms h.read.written };
    at = h.at;
    unread = h.unread;
  }

module _ (sizes : Sizes) (s : State) (n : ℕ) (w m w' : World) (quiet : Wrote m w' []) where
  abbrev whole_on : (o : Outcome) → Whole sizes s n w m o → Whole sizes s n w w' o
  whole_on o h = record { ms = h.ms; t = h.t; run = h.run; stopped = h.stopped; written = wrote_on w m w' quiet h.ms h.written }

  on : (status : ℕ) (is : Status status) → Says sizes s n w m status is → Says sizes s n w w' status is
  on _ IsFinished h = record { whole = whole_on Finished h.whole; flaws = h.flaws }
  on _ IsFlawed h = record { whole = whole_on Finished h.whole; flaws = h.flaws }
  on _ IsFatal h = record { fatal = h.fatal; whole = whole_on (AtFatal h.fatal) h.whole }
  on _ IsFullTable h = record {
    full = h.full;
    stops = record { ms = h.stops.ms; t = h.stops.t; between = h.stops.between; run = h.stops.run; written = h.stops.written; last = line_on h.stops.between m w' quiet _ h.stops.last };
  }
  on _ IsSteps h = record { ms = h.ms; t = h.t; between = h.between; run = h.run; written = h.written; last = line_on h.between m w' quiet _ h.last }
  on _ IsReadFault (inl h) = inl (record { t = h.t; between = h.between; read = h.read; cause = h.cause; last = line_on h.between m w' quiet _ h.last })
  on _ IsReadFault (inr h) = inr (record { name = h.name; t = h.t; between = h.between; kept = h.kept; failed = h.failed; written = h.written; last = line_on h.between m w' quiet _ h.last })
  on _ IsWriteFault h = record { t = h.t; between = h.between; cut = h.cut; last = line_on h.between m w' quiet _ h.last }
  on _ IsNoMemory (inl h) = inl (record { t = h.t; between = h.between; cut = h.cut; last = line_on h.between m w' quiet _ h.last })
  on _ IsNoMemory (inr (inl h)) = inr (inl (record { t = h.t; between = h.between; read = h.read; cause = h.cause; last = line_on h.between m w' quiet _ h.last }))
  on _ IsNoMemory (inr (inr h)) = inr (inr (record { between = h.between; written = h.written; last = line_on h.between m w' quiet _ h.last }))

  pub says_on : (status : ℕ) → SaysSo sizes s n w m status → SaysSo sizes s n w w' status
  says_on status h = record { is = h.is; says = on status h.is h.says }

-- reading a file writes nothing
same_at : (f f' : FilesTold) (s : SinkTold) (b : Bool) → ((name : List ℕ) → f'.file name ≡ f.file name) → (p : Place) → (world f' s b).at p ≡ (world f s b).at p
same_at f f' s b h Transcript = refl
same_at f f' s b h (OfFile name) = h name

pub read_quiet : (f f' : FilesTold) (s : SinkTold) (b : Bool) → ((name : List ℕ) → f'.file name ≡ f.file name) → f.read_faults ≤ f'.read_faults → f'.write_faults ≡ f.write_faults → f.wants ≤ f'.wants → Wrote (world f s b) (world f' s b) []
read_quiet f f' s b h lr e lw = record {
  told = same_at f f' s b h;
  column = refl;
  later = record { read_faults = lr; file_faults = omega (arith, e); sink_faults = omega arith; file_wants = lw; sink_wants = omega arith };
}

module _ (a a' f f' : FilesTold) (alike : ReadAlike a a' f f') where
  pub alike_quiet : (s : SinkTold) (b : Bool) → Wrote (world f s b) (world f' s b) []
  alike_quiet s b = read_quiet f f' s b alike.file alike.read_faults alike.write_faults alike.wants

  -- what holds over the same files holds where these were read
  pub says_alike : (sizes : Sizes) (s : State) (n : ℕ) (w : World) (x : SinkTold) (b : Bool) (status : ℕ) → SaysSo sizes s n w (world f x b) status → SaysSo sizes s n w (world f' x b) status
  says_alike sizes s n w x b status h = says_on sizes s n w (world f x b) (world f' x b) (alike_quiet x b) status h

  pub cause_alike : (x : Early) (s s' : SinkTold) (b b' : Bool) → (x ≡ early.Unread Failed → Rose a.read_faults a'.read_faults) → (x ≡ early.Unread NoMemory → Rose a.wants a'.wants) →
      HasReadCause x (world f s b) (world f' s' b')
  cause_alike x s s' b b' failed wanted = record { failed = λ h. alike.failed (failed h); wanted = λ h. alike.wanted (wanted h) }

-- WHAT THE WORDS MEAN

pub missing_job : (f : File) → NotFound f → IsHeldAs f None
missing_job Untold h = tt
missing_job NotHeld h = refl
missing_job (Holds b) h = absurd h

held_content : (f : File) → IsHeldAs f (content f)
held_content Untold = tt
held_content NotHeld = refl
held_content (Holds b) = refl

-- what is told of the files, at each opening
abbrev pub told_files : (List ℕ → File) → Files
told_files held k name = content (held name)

pub are_told : (held : List ℕ → File) → AreHeldAs held (told_files held)
are_told held k name = held_content (held name)

held_on : (held held' : List ℕ → File) (files : Files) → ((name : List ℕ) → held' name ≡ held name) → AreHeldAs held' files → AreHeldAs held files
held_on held held' files same h k name = subst (λ (f : File). IsHeldAs f (files k name)) (same name) (h k name)

-- WHAT THE FILES HAVE LEFT AT THE END

-- what is told, and nothing where nothing is told
abbrev left_told : FilesTold → List OpenReader → List (List ℕ)
left_told f rs = map (λ r. told_left (f.rest r.id)) rs

abbrev pub rests_told : FilesTold → List OpenReader → Rests
rests_told f rs = record { left = left_told f rs; files = told_files f.file }

told_is_all : (rest : Option (List ℕ)) → IsAll rest (told_left rest)
told_is_all None = tt
told_is_all (Some rest) = refl

end_told : (rest : Option (List ℕ)) → IsAtEnd rest → told_left rest ≡ []
end_told None h = refl
end_told (Some rest) h = h

are_left : (f : FilesTold) (rs : List OpenReader) → AreLeft rs f (left_told f rs)
are_left f [] = tt
are_left f (r ∷ rs) = (told_is_all (f.rest r.id), are_left f rs)

may_leave : (f : FilesTold) (rs : List OpenReader) → KnowEnds rs f → MayLeave rs (left_told f rs)
may_leave f [] h = tt
may_leave f (r ∷ rs) h = (λ ended. end_told (f.rest r.id) (h.0 ended), may_leave f rs h.1)

-- no file may have anything left
pub may_none : (rs : List OpenReader) → MayLeave rs []
may_none [] = tt
may_none (r ∷ rs) = (λ ended. refl, may_none rs)

first_same : (left : List (List ℕ)) → readers.first_left left ≡ first_left left
first_same [] = refl
first_same (bytes ∷ left) = refl

job_held : (f : File) (bytes : List ℕ) → IsContent f bytes → IsHeldAs f (Some bytes)
job_held Untold bytes h = tt
job_held NotHeld bytes h = absurd h
job_held (Holds held) bytes h = ap Some h

-- What the job's file held, and what the openings found, by what is told at the end.
pub record JobRead (name : List ℕ) (held : List ℕ → File) (P : (all left : Rests) → Type 0) : Type 0 where
  pub all : Rests
  pub left : Rests
  pub is_job : IsHeldAs (held name) (Some (first_left all.left))
  pub are_files : AreHeldAs held all.files
  pub holds : P all left

-- A job whose file was opened, read on and closed, and so were those beneath it.
module _ (name : List ℕ) (f f1 f2 : FilesTold) (rs rs1 rs2 : OpenReaders) (opens : OpensInnermost name f rs f1 rs1) (P : (all left : Rests) → Type 0) (reads : ReadsTo rs1.readers rs2.readers f1 f2 P) where
  pub job_read : AreRead rs1.readers f1 → JobRead name f.file P
  job_read read =
      let left : Rests = rests_told f2 rs2.readers in
      let all : Rests = reads.before left in
      let told : AreTold rs1.readers f1 all = reads.told read left (record { left = are_left f2 rs2.readers; files = are_told f2.file }) in
      record {
        all = all;
        left = left;
        is_job = job_held (f.file name) (first_left all.left) (subst (IsContent (f.file name)) (first_same all.left) (opens.whole all.left told.left));
        are_files = held_on f.file f1.file all.files opens.opened.file told.files;
        holds = reads.holds left (may_leave f2 rs2.readers (reads.read read).ends);
      }

  -- from before it was opened until all are closed
  pub job_alike : (f3 : FilesTold) → ClosesReaders rs2.readers f2 f3 → SameCounts f2 f3 → f.read_faults ≤ f1.read_faults → f1.write_faults ≡ f.write_faults → f.wants ≤ f1.wants → ReadAlike f1 f2 f f3
  job_alike f3 closes counts faults writes wants = record {
    file = λ n. closes.file n ∙ (reads.file n ∙ opens.opened.file n);
    read_faults = omega (arith, faults, reads.read_faults, counts.read_faults);
    write_faults = counts.write_faults ∙ (reads.write_faults ∙ writes);
    wants = omega (arith, wants, reads.wants, counts.wants);
    failed = λ h. omega (arith, h, faults, counts.read_faults);
    wanted = λ h. omega (arith, h, wants, counts.wants);
  }

-- no reader is open before
pub none_known : (rs : List OpenReader) (f : FilesTold) → rs ≡ [] → KnowEnds rs f
none_known rs f empty = subst (λ (xs : List OpenReader). KnowEnds xs f) (sym empty) tt

-- the reader of the job's file is the engine's only one
pub job_tied : (name : List ℕ) (f f1 : FilesTold) (rs rs1 : OpenReaders) → OpensInnermost name f rs f1 rs1 → (e e' : Engine) → e' ≡ opened_engine e → e.input.pending ≡ bottom → rs.readers ≡ [] → e.input.sizes.text_input_levels ≤ rs.most →
    AreTied rs1 e'
job_tied name f f1 rs rs1 opens e e' is none empty room =
    let files : open_files (with_next (Some []) e.input.pending) ≡ 1 = ap (λ (p : Pending). open_files (with_next (Some []) p)) none in
    let one : length rs1.readers ≡ 1 = ap (λ (r : OpenReaders). length r.readers) opens.after ∙ ap (λ (xs : List OpenReader). length (record { id = opens.id; ended = false } ∷ xs)) empty in
    let most : rs1.most ≡ rs.most = ap (λ (r : OpenReaders). r.most) opens.after in
    subst (λ (x : Engine). AreTied rs1 x) (sym is) (record { count = one ∙ sym files; room = omega (arith, room, most) })

-- other sizes, the same
pub means_by : (sizes sizes' : Sizes) (quiet : Bool) (name : List ℕ) (held : List ℕ → File) (n : ℕ) (w w' : World) (status : ℕ) → sizes' ≡ sizes → MeansRun sizes' quiet name held n w w' status → MeansRun sizes quiet name held n w w' status
means_by sizes sizes' quiet name held n w w' status is h = subst (λ (x : Sizes). MeansRun x quiet name held n w w' status) is h

module _ (sizes : Sizes) (quiet : Bool) (name : List ℕ) (held : List ℕ → File) (n : ℕ) where
  pub means_says : (job : Option (List ℕ)) (files : Files) (w w' : World) (status : ℕ) → IsHeldAs (held name) job → AreHeldAs held files → SaysSo sizes (First quiet name job files) n w w' status → MeansRun sizes quiet name held n w w' status
  means_says job files w w' status is are says = record { job = job; files = files; is_job = is; are_files = are; is = says.is; says = says.says }

  -- over what is told
  pub means_told : (w w' : World) (status : ℕ) → SaysSo sizes (First quiet name (content (held name)) (told_files held)) n w w' status → MeansRun sizes quiet name held n w w' status
  means_told w w' status says = means_says (content (held name)) (told_files held) w w' status (held_content (held name)) (are_told held) says

  -- the job's name has room, whatever the file is
  name_kept : (e : Engine) → Named sizes e quiet name → (job : Option (List ℕ)) (files : Files) → (t : State) × FitMoves sizes (First quiet name job files) (Kept (job_name name) ∷ []) t
  name_kept e named job files =
      let s : State = First quiet name job files in
      let t : State = made (Kept (job_name name)) (record s { due = file_missing first_style name job }) in
      (t, (t, (next_due s (Kept (job_name name)) (file_missing first_style name job) refl, (named.room, refl))))

  pub means_unopened : (e : Engine) → Named sizes e quiet name → (w m w' : World) → Rose w.read_faults m.read_faults → Wrote w m [] → Line m w' read_fault_line → MeansRun sizes quiet name held n w w' 5
  means_unopened e named w m w' failed wrote last =
      let kept = name_kept e named (content (held name)) (told_files held) in
      means_told w w' 5 (record { is = IsReadFault; says = inr (record { name = job_name name; t = kept.0; between = m; kept = kept.1; failed = failed; written = kept_on w m (job_name name) wrote; last = last }) })

  pub means_no_room : (w m w' : World) → Wrote w m [] → Line m w' no_memory_line → MeansRun sizes quiet name held n w w' 7
  means_no_room w m w' wrote last = means_told w w' 7 (record { is = IsNoMemory; says = inr (inr (record { between = m; written = wrote; last = last })) })

-- want of memory before there is a machine, whatever the words
pub no_memory_means : (k : Command) (f : FilesTold) (a b : SinkTold) (c : Bool) → Line (world f a false) (world f b c) no_memory_line → Means k f.file (world f a false) (world f b c) 7
no_memory_means (Init name options) f a b c last = means_no_room (sizes_of options) options.quiet name f.file options.steps _ _ _ (wrote_none (world f a false)) last
no_memory_means NoCommand f a b c last = inr (record { is = refl; line = last })

-- A FAILED WRITE

-- files that tell nothing, and the same where a read failed and wanted memory
abbrev pub bare : FilesTold
bare = record { file = λ name. Untold; reading = λ id. false; rest = λ id. None; writer = λ id. None; read_faults = 0; write_faults = 0; wants = 0 }

abbrev pub bare_read : FilesTold
bare_read = record { file = λ name. Untold; reading = λ id. false; rest = λ id. None; writer = λ id. None; read_faults = 1; write_faults = 0; wants = 1 }

pub bare_alike : (a a' : FilesTold) → ReadAlike a a' bare bare_read
bare_alike a a' = record { file = λ name. refl; read_faults = omega arith; write_faults = refl; wants = omega arith; failed = λ h. omega arith; wanted = λ h. omega arith }

-- over whatever files: a write to the transcript failed
module _ (f : FilesTold) (none : f.write_faults ≡ 0) (a b : SinkTold) (c d : Bool) where
  of_cause : (m : World) → IsCause broken.WriteFault (world bare a c) m → Later m (world f b d) → Rose a.faults b.faults
  of_cause m (inl h) later =
      let rose : Rose 0 m.file_faults = h in
      let on : m.file_faults ≤ f.write_faults = later.file_faults in
      absurd (omega (arith, rose, on, none))
  of_cause m (inr h) later =
      let rose : Rose a.faults m.sink_faults = h in
      let on : m.sink_faults ≤ b.faults = later.sink_faults in
      omega (arith, rose, on)

  of_fault : (sizes : Sizes) (s : State) (n : ℕ) (is : Status 6) → Says sizes s n (world bare a c) (world f b d) 6 is → Rose a.faults b.faults
  of_fault sizes s n IsWriteFault h = of_cause h.between h.cut.cause h.last.written.later

  pub fault_rose : (sizes : Sizes) (s : State) (n : ℕ) (status : ℕ) → SaysSo sizes s n (world bare a c) (world f b d) status → status ≡ 6 → Rose a.faults b.faults
  fault_rose sizes s n status h is =
      let x : SaysSo sizes s n (world bare a c) (world f b d) 6 = subst (λ (k : ℕ). SaysSo sizes s n (world bare a c) (world f b d) k) is h in
      of_fault sizes s n x.is x.says
