-- What comes behind a report at a check, and what is scanned runs away.
use Rattle.std.proofs.Common.{◌≡◌, ◌<◌, length, ℕ, List, [], ◌∷◌, ◌++◌, refl, sym, ap, subst, ◌∙◌, Bool, true, false, arith}
use Rattle.std.proofs.lemmas.List.{append-nil}
use Rattle.std.specs.Prelude.{Option, Some, None, IsSome, if◌then◌else◌}
use Rattle.std.proofs.lemmas.Option.{none-some}
use Rattle.tex_syntax.specs.declared.words.Scanned.{Scanned}
use Rattle.tex_syntax.specs.declared.words.Want.{Want}
use Rattle.tex_syntax.specs.declared.words.Report.{Report}
use Rattle.tex_syntax.specs.declared.words.Scanned.TheVariants as scanned
use Rattle.tex_syntax.specs.declared.words.Report.TheVariants as reports
use Rattle.tex_syntax.specs.declared.words.Want.TheVariants as asks
use Rattle.tex_defs.specs.declared.Meaning.{Meaning}
use Rattle.tex_defs.specs.declared.Meaning.TheVariants as means
use Rattle.tex_defs.specs.declared.Token.TheVariants as token
use Rattle.tex_defs.specs.declared.Seen.{Seen}
use Rattle.tex_defs.specs.declared.Sizes.{Sizes}
use Rattle.tex_defs.specs.declared.Token.{Token}
use Rattle.tex_defs.specs.Places.{World, Transcript}
use Rattle.plain_tokens.specs.Arguments.{is_par}
use Rattle.plain_tokens.specs.Meanings.{met as met_token, token_meaning, is_expandable, marked_meaning}
use Rattle.plain_state.specs.Reports.{report_bytes, runaway_bytes}
use Rattle.rows.specs.Readings.{Cut, Ask}
use Rattle.plain_readings.specs.Readings.{Reading, fed_with}
use Rattle.plain_readings.specs.Scanning.{Scanning, Builds, SkippedText}
use Rattle.plain_machine.specs.declared.broken.Broken.{Broken}
use Rattle.plain_machine.specs.States.{State, Move, Written, Reported, Feeds}
use Rattle.plain_tokens.specs.Tokens.{space_token, is_outer}
use Rattle.plain_machine.specs.Plan.{Page, style_of, wanted, reported, cut_or_not, put_one, page_behind, incomplete, checked, met, met_outer}
use Rattle.plain_machine.specs.Does.{Did}
use Rattle.plain_machine.proofs.Doing.{did_join, did_none}
use Rattle.plain_machine.proofs.Renumbering.{met_of}
use Rattle.world_io.specs.Contents.{FilesTold, SinkTold, world}
use Rattle.macro_call.specs.PlainScans.{cut_scan}
use Rattle.input_state.specs.CallFeeds.{call_work, with_scan}
use Rattle.input_state.specs.Callings.{Calling, call_in}
use Rattle.input_state.specs.Stored.{Stored}
use Rattle.conditionals.specs.Open.{innermost_test}
use Rattle.reading_frames.specs.Stack.{Stack, asks_in}
use Rattle.reading_frames.specs.declared.ask.Found.{Found}
use Rattle.reading_frames.specs.declared.ask.Found.TheVariants as found
use Rattle.input_state.specs.declared.answer.Call.{Call}
use Rattle.engine_state.specs.declared.engine.Engine.{Engine}
use Rattle.engine_state.specs.declared.outcome.Ruled.{Ruled}
use Rattle.engine_state.specs.declared.check.Check.{Check}
use Rattle.engine_state.specs.declared.check.Check.TheVariants.{FileEnded, Forbidden}
use Rattle.engine_state.specs.Begins.{away_moves, check_report}
use Rattle.engine_state.specs.Book.{Book, with_work}
use Rattle.engine_state.specs.Calls.{AllStand, AsksToken, work_or_none}
use Rattle.engine_state.specs.CutReadings.{CutsIn}
use Rattle.engine_state.specs.Stands.{IsSized, SameFrames, SameOthers, SameStore, OnlyColumn, state_of, page_of, own_style}
use Rattle.engine_state.specs.Steps.{asked, asks_bare, asks_now, asked_by}
use Rattle.engine_state.specs.Rules.{world_of, onward_of, feeds_of, space_moves, token_moves, scanning_of, nth_list, scanned_list, away_text, check_moves, IsScanned, IsFound, Finds, Takes, WantsHere, Behind, Comes, Went, Reports, DoesOnward}
use Rattle.engine_state.proofs.Uncalled.{no_call}
use Rattle.engine_state.proofs.CallKept.{all_still}
use Rattle.engine_state.proofs.Checking.{Using, using}
use Rattle.engine_state.proofs.CheckingNotes.{cut_same, noted_stands, noted_did, noted_feeds, cut_asks}
use Rattle.engine_state.proofs.Joining.{went_by, onward_by, onward_join}
use Rattle.engine_state.proofs.CuttingReadings.{later_in, in_by}
use Rattle.engine_state.proofs.Reporting.{others_sound}
use Rattle.engine_state.proofs.AtLocations.{all_input}

-- WHERE A TOKEN IS WANTED, as before

asked_kept : (e e' : Engine) → e'.readings ≡ e.readings → e'.input.builds ≡ e.input.builds → asked e' ≡ asked e
asked_kept e e' readings lists = ap (λ (s : Stack). asks_in s.frames e'.input.builds) readings ∙ ap (asks_in e.readings.frames) lists

pub asks_kept : (e e' : Engine) → SameFrames e e' → asks_now e' ≡ asks_now e
asks_kept e e' same = ap (λ (k : Calling). asked_by (call_in k) k (asked e')) same.call ∙ ap (asked_by (call_in e.input.call) e.input.call) (asked_kept e e' same.readings same.lists)

pub bare_kept : (e e' : Engine) → SameFrames e e' → asks_bare e' ≡ asks_bare e
bare_kept e e' same = ap (λ (k : Calling). asked_by (call_in k) k (asks_in e'.readings.frames [])) same.call ∙ ap (λ (s : Stack). asked_by (call_in e.input.call) e.input.call (asks_in s.frames [])) same.readings

pub takes_still : (sizes : Sizes) (want : Option Want) (e e' : Engine) (book : Book) → SameFrames e e' → AllStand sizes e' book → Takes sizes want e book → Takes sizes want e' book
takes_still sizes want e e' book same st t = (subst (λ (o : Option Ask). WantsHere o want) (sym (asks_kept e e' same)) t.0, st)

-- what is scanned, and its list
pub scanned_still : (what : Scanned) (k : ℕ) (e e' : Engine) → e'.input.call ≡ e.input.call → e'.input.builds ≡ e.input.builds → IsScanned what k e → IsScanned what k e'
scanned_still scanned.Use k e e' call lists h = subst AsksToken (sym call) h
scanned_still scanned.Text k e e' call lists h = subst (λ (l : List (List Token)). k < length l) (sym lists) h
scanned_still scanned.Definition k e e' call lists h = subst (λ (l : List (List Token)). k < length l) (sym lists) h

list_still : (what : Scanned) (k : ℕ) (e e' : Engine) → e'.input.call ≡ e.input.call → e'.input.builds ≡ e.input.builds → scanned_list what k e' ≡ scanned_list what k e
list_still scanned.Use k e e' call lists = ap (λ (c : Calling). work_or_none (call_work c)) call
list_still scanned.Text k e e' call lists = ap (nth_list k) lists
list_still scanned.Definition k e e' call lists = ap (nth_list k) lists

-- one that frames hold, where no call is what is scanned
pub frame_list : (what : Scanned) (k : ℕ) (e : Engine) → (what ≡ scanned.Use → ⊥) → scanned_list what k e ≡ nth_list k e.input.builds
frame_list scanned.Use k e other = absurd (other refl)
frame_list scanned.Text k e other = refl
frame_list scanned.Definition k e other = refl

-- it has put a token in front
pub put_stands : (sizes : Sizes) (e e1 : Engine) (book : Book) → SameFrames e e1 → SameOthers e e1 → SameStore e.input e1.input → e1.input.making ≡ None → AllStand sizes e book → AllStand sizes e1 book
put_stands sizes e e1 book same others store idle st = all_still sizes e e1 book same store (others_sound sizes e e1 book others store st.sound) idle st

-- a space is wanted alike on each page
space_here : (page q : Page) (cells : List (Meaning (Option ℕ))) (want : Want) (work : List Reading) (x : Seen) → x ≡ met_token cells space_token → space_moves page (Some want) work ≡ onward_of q (Some want) work x
space_here page q cells asks.Raw work x is = ap (onward_of q (Some asks.Raw) work) (sym is)
space_here page q cells asks.Unentered work x is = ap (onward_of q (Some asks.Unentered) work) (sym is)
space_here page q cells asks.Expanded work x is = ap (onward_of q (Some asks.Expanded) work) (sym is)
space_here page q cells asks.Copied work x is = ap (onward_of q (Some asks.Copied) work) (sym is)
space_here page q cells asks.Nonblank work x is = ap (onward_of q (Some asks.Nonblank) work) (sym is)
space_here page q cells asks.Command work x is = ap (onward_of q (Some asks.Command) work) (sym is)

-- THE CHECK IS NOTED

-- what becomes of a space is the same
space_same : (page : Page) (space : Option Want) (r : Reading) (rs : List Reading) → ((x : Seen) → x.token ≡ space_token → feeds_of (fed_with Cut (r ∷ rs)) x ≡ feeds_of (r ∷ rs) x) →
    space_moves page space (fed_with Cut (r ∷ rs)) ≡ space_moves page space (r ∷ rs)
space_same page None r rs feeds = refl
space_same page (Some want) r rs feeds = ap (λ (ms : List Move). wanted page want ms (met_token page.now.meanings space_token)) (feeds (met_token page.now.meanings space_token) refl)

module _ (sizes : Sizes) (want space : Option Want) (e e1 e2 : Engine) (f : FilesTold) (s0 s1 : SinkTold) (report : Report) (page : Page) (book : Book)
    (same : SameFrames e e1) (input : e1.input ≡ e.input) (sized : IsSized sizes e → IsSized sizes e1) (t : Takes sizes want e book) where
  abbrev written : List Move
  written = Written Transcript (report_bytes (own_style e) e.in_line e.input.pending.number report) ∷ Reported ∷ []

  takes1 : Takes sizes want e1 book
  takes1 = takes_still sizes want e e1 book same (all_input sizes e e1 book same input sized t.1) t

  abbrev Rep : List Move → Type 0
  Rep rest = Reports sizes (state_of e book) (state_of e1 book) (world_of f s0 e) (world_of f s1 e1) (page_of e book) report rest

  abbrev IsNotedFrom : Engine → List Move → Type 0
  IsNotedFrom y rest = Behind sizes want space (state_of e book) y book page (world_of f s0 e) (world_of f s1 y) (reported (page_of e book) report rest)

  -- nothing notes it
  pub unnoted : e2 ≡ e1 → Rep (space_moves page space book.work) → IsNotedFrom e2 (space_moves page space book.work)
  unnoted is rep = subst (λ (y : Engine). IsNotedFrom y (space_moves page space book.work)) (sym is) (record {
    book2 = book;
    still = λ none. refl;
    takes = takes1;
    front = written;
    did = rep.did;
    whole = rep.moves;
    free = refl;
  })

  -- the call does
  module _ (after : e2 ≡ record e1 { input = record e1.input { call = with_scan cut_scan e1.input.call } }) (rep : Rep (Feeds Cut ∷ space_moves page space book.work)) where
    asking_is : AsksToken e.input.call → AsksToken e1.input.call
    asking_is taking = subst AsksToken (sym (ap (λ (i : Stored). i.call) input)) taking

    in_call : AsksToken e.input.call → (c : Call) → call_in e1.input.call ≡ Some c → IsNotedFrom e2 (Feeds Cut ∷ space_moves page space book.work)
    in_call taking c is =
        let u : Using sizes e1 c want book = using sizes e1 c want book is takes1 in
        let now : List Reading = fed_with Cut (u.r ∷ u.rs) in
        record {
          book2 = with_work now book;
          still = λ none. absurd (none-some c (sym (ap call_in none) ∙ ap (λ (y : Engine). call_in y.input.call) after ∙ cut_same e1.input.call (asking_is taking) ∙ is));
          takes = (
            subst (λ (y : Engine). WantsHere (asks_now y) want) (sym after) (subst (λ (o : Option Ask). WantsHere o want) (sym (cut_asks e1.input.call (asked e1) (asking_is taking))) takes1.0),
            noted_stands sizes e1 e2 book c.name u.r u.rs u.opened u.work takes1.1 u.readings after,
          );
          front = written ++ Feeds Cut ∷ [];
          did = did_join sizes _ _ _ _ _ _ written (Feeds Cut ∷ []) rep.did (noted_did sizes e1 e2 book c.name u.r u.rs u.opened u.work takes1.1 u.readings after f s1);
          whole = rep.moves ∙ ap (λ (ms : List Move). written ++ Feeds Cut ∷ ms)
              (ap (space_moves page space) u.work ∙ sym (space_same page space u.r u.rs (λ x is. noted_feeds sizes e1 e2 book c.name u.r u.rs u.opened u.work takes1.1 u.readings after x (ap is_par is))));
          free = refl;
        }

    used : AsksToken e.input.call → IsNotedFrom e2 (Feeds Cut ∷ space_moves page space book.work)
    used taking = by_call (call_in e1.input.call) refl where
      by_call : (o : Option Call) → call_in e1.input.call ≡ o → IsNotedFrom e2 (Feeds Cut ∷ space_moves page space book.work)
      by_call None none = absurd (subst AsksToken (no_call e1.input.call none) (asking_is taking))
      by_call (Some c) is = in_call taking c is

  pub behind : (what : Scanned) (k : ℕ) → IsScanned what k e → (what ≡ scanned.Use → e2 ≡ record e1 { input = record e1.input { call = with_scan cut_scan e1.input.call } }) → ((what ≡ scanned.Use → ⊥) → e2 ≡ e1) →
      Rep (cut_or_not what (space_moves page space book.work)) → IsNotedFrom e2 (cut_or_not what (space_moves page space book.work))
  behind scanned.Use k taking uses other rep = used (uses refl) rep taking
  behind scanned.Text k held uses other rep = unnoted (other (λ (is : scanned.Text ≡ scanned.Use). cc)) rep
  behind scanned.Definition k held uses other rep = unnoted (other (λ (is : scanned.Definition ≡ scanned.Use). cc)) rep

-- and then the space
pub behind_none : (sizes : Sizes) (want : Option Want) (s : State) (e2 : Engine) (book : Book) (page : Page) (w w2 : World) (ms : List Move) → Behind sizes want None s e2 book page w w2 ms → Went sizes s e2 w w2 ms 0
behind_none sizes want s e2 book page w w2 ms b = went_by sizes s e2 w w2 b.front ms 0 (b.whole ∙ append-nil b.front) (record { book' = b.book2; stands = b.takes.1; did = b.did; count = b.free })

pub comes_behind : (sizes : Sizes) (want : Want) (s : State) (e2 : Engine) (book : Book) (page : Page) (w w2 : World) (ms : List Move) (x : Seen) → x ≡ met_token e2.input.groups.now.meanings space_token → Behind sizes (Some want) (Some want) s e2 book page w w2 ms → Comes sizes (Some want) s e2 book w w2 ms x 0
comes_behind sizes want s e2 book page w w2 ms x is b = record {
  book' = b.book2;
  still = b.still;
  takes = b.takes;
  front = b.front;
  did = b.did;
  whole = b.whole ∙ ap (λ (ns : List Move). b.front ++ ns) (space_here page (page_of e2 b.book2) e2.input.groups.now.meanings want b.book2.work x is);
  count = b.free;
}

-- WHAT IS SCANNED RUNS AWAY: it is shown, a token inserted, and the report comes

module _ (sizes : Sizes) (e e1 e2 : Engine) (f : FilesTold) (s0 s1 : SinkTold) (text : List ℕ) (t : Token) (report : Report) (rest : List Move) (book : Book) (only : OnlyColumn e e1) (page : page_of e2 book ≡ page_of e1 book)
    (shown : Did sizes (state_of e book) (state_of e1 book) (world_of f s0 e) (world_of f s1 e1) (Written Transcript text ∷ [])) where
  abbrev moves : List Move
  moves = Written Transcript text ∷ (put_one t ++ reported (page_behind (page_of e book) text) report rest)

  away_page : page_of e2 book ≡ page_behind (page_of e book) text
  away_page =
      page ∙ ap (λ (x : Engine). page_of x book) only.same ∙ ap (λ (b : Bool). record (page_of e book) { in_line = b }) shown.written.column

  column : e2.in_line ≡ e1.in_line
  column = ap (λ (p : Page). p.in_line) page

  -- the token has no room
  pub away_full : (b : Broken) → CutsIn sizes (state_of e1 book) e2 (world_of f s1 e1) (world_of f s1 e1) (put_one t ++ reported (page_behind (page_of e book) text) report rest) b → CutsIn sizes (state_of e book) e2 (world_of f s0 e) (world_of f s1 e2) moves b
  away_full b h =
      subst (λ (x : Bool). CutsIn sizes (state_of e book) e2 (world_of f s0 e) (world f s1 x) moves b) (sym column)
      (later_in sizes _ (state_of e1 book) e2 (world_of f s0 e) (world_of f s1 e1) (world_of f s1 e1) (Written Transcript text ∷ []) (put_one t ++ reported (page_behind (page_of e book) text) report rest) b shown h)

  module _ (s3 : SinkTold) (e3 : Engine) (put : (w : World) → Did sizes (state_of e1 book) (state_of e2 book) w w (put_one t)) where
    both : Did sizes (state_of e book) (state_of e2 book) (world_of f s0 e) (world_of f s1 e2) (Written Transcript text ∷ put_one t)
    both = subst (λ (x : Bool). Did sizes (state_of e book) (state_of e2 book) (world_of f s0 e) (world f s1 x) (Written Transcript text ∷ put_one t)) (sym column)
        (did_join sizes _ _ _ _ _ _ (Written Transcript text ∷ []) (put_one t) shown (put (world_of f s1 e1)))

    pub away_rule : (ruled : Ruled) → DoesOnward sizes (state_of e2 book) e3 book (world_of f s1 e2) (world_of f s3 e3) (reported (page_of e2 book) report rest) ruled →
        DoesOnward sizes (state_of e book) e3 book (world_of f s0 e) (world_of f s3 e3) moves ruled
    away_rule ruled on =
        onward_join sizes (state_of e book) (state_of e2 book) e3 book (world_of f s0 e) (world_of f s1 e2) (world_of f s3 e3) (Written Transcript text ∷ put_one t) (reported (page_behind (page_of e book) text) report rest) ruled (ap (λ (p : Page). p.reports) page ∙ ap (λ (x : Engine). x.reports) only.same) both refl
        (subst (λ (p : Page). DoesOnward sizes (state_of e2 book) e3 book (world_of f s1 e2) (world_of f s3 e3) (reported p report rest) ruled) away_page on)

    pub away_behind : (want space : Option Want) (q : Page) → Behind sizes want space (state_of e2 book) e3 book q (world_of f s1 e2) (world_of f s3 e3) (reported (page_of e2 book) report rest) →
        Behind sizes want space (state_of e book) e3 book q (world_of f s0 e) (world_of f s3 e3) moves
    away_behind want space q b = record {
      book2 = b.book2;
      still = b.still;
      takes = b.takes;
      front = Written Transcript text ∷ (put_one t ++ b.front);
      did = did_join sizes _ _ _ _ _ _ (Written Transcript text ∷ put_one t) b.front both b.did;
      whole = ap (λ (ms : List Move). Written Transcript text ∷ (put_one t ++ ms)) (ap (λ (p : Page). reported p report rest) (sym away_page) ∙ b.whole);
      free = omega (arith, b.free);
    }

    pub away_cuts : (b : Broken) → CutsIn sizes (state_of e2 book) e3 (world_of f s1 e2) (world_of f s3 e3) (reported (page_of e2 book) report rest) b →
        CutsIn sizes (state_of e book) e3 (world_of f s0 e) (world_of f s3 e3) moves b
    away_cuts b h =
        later_in sizes (state_of e book) (state_of e2 book) e3 (world_of f s0 e) (world_of f s1 e2) (world_of f s3 e3) (Written Transcript text ∷ put_one t) (reported (page_behind (page_of e book) text) report rest) b both
        (subst (λ (p : Page). CutsIn sizes (state_of e2 book) e3 (world_of f s1 e2) (world_of f s3 e3) (reported p report rest) b) away_page h)

-- A TOKEN IS PUT IN FRONT, and then come moves that are these on the page as it was

module _ (sizes : Sizes) (e e1 e2 : Engine) (f : FilesTold) (s : SinkTold) (w2 : World) (t : Token) (ms ms1 : List Move) (book : Book) (page : page_of e1 book ≡ page_of e book) (alike : ms ≡ ms1)
    (put : (w : World) → Did sizes (state_of e book) (state_of e1 book) w w (put_one t)) where
  put_did : Did sizes (state_of e book) (state_of e1 book) (world_of f s e) (world_of f s e1) (put_one t)
  put_did = subst (λ (b : Bool). Did sizes (state_of e book) (state_of e1 book) (world_of f s e) (world f s b) (put_one t)) (sym (ap (λ (p : Page). p.in_line) page)) (put (world_of f s e))

  pub put_rule : (ruled : Ruled) → DoesOnward sizes (state_of e1 book) e2 book (world_of f s e1) w2 ms1 ruled → DoesOnward sizes (state_of e book) e2 book (world_of f s e) w2 (put_one t ++ ms) ruled
  put_rule ruled h =
      onward_join sizes (state_of e book) (state_of e1 book) e2 book (world_of f s e) (world_of f s e1) w2 (put_one t) ms ruled (ap (λ (p : Page). p.reports) page) put_did refl
      (onward_by sizes (state_of e1 book) e2 book (world_of f s e1) w2 _ _ ruled alike h)

  pub put_behind : (want space : Option Want) (q : Page) → Behind sizes want space (state_of e1 book) e2 book q (world_of f s e1) w2 ms1 → Behind sizes want space (state_of e book) e2 book q (world_of f s e) w2 (put_one t ++ ms)
  put_behind want space q b = record {
    book2 = b.book2;
    still = b.still;
    takes = b.takes;
    front = put_one t ++ b.front;
    did = did_join sizes _ _ _ _ _ _ (put_one t) b.front put_did b.did;
    whole = ap (λ (ms : List Move). put_one t ++ ms) (alike ∙ b.whole);
    free = omega (arith, b.free);
  }

  pub put_cuts : (b : Broken) → CutsIn sizes (state_of e1 book) e2 (world_of f s e1) w2 ms1 b → CutsIn sizes (state_of e book) e2 (world_of f s e) w2 (put_one t ++ ms) b
  put_cuts b h =
      later_in sizes (state_of e book) (state_of e1 book) e2 (world_of f s e) (world_of f s e1) w2 (put_one t) ms b put_did
      (in_by sizes (state_of e1 book) e2 (world_of f s e1) w2 _ _ b alike h)

-- what comes of what is found is the same there
module _ (e e1 : Engine) (book : Book) (page : page_of e1 book ≡ page_of e book) (same : SameFrames e e1) where
  away_same : (what : Scanned) (k : ℕ) (report : Report) (rest : List Move) → away_moves (page_of e book) what (away_text what k e) report rest ≡ away_moves (page_of e1 book) what (away_text what k e1) report rest
  away_same what k report rest =
      ap (λ (p : Page). away_moves p what (runaway_bytes what (style_of p) p.in_line (scanned_list what k e)) report rest) (sym page)
      ∙ ap (λ (ts : List Token). away_moves (page_of e1 book) what (runaway_bytes what (own_style e1) e1.in_line ts) report rest) (sym (list_still what k e e1 same.call same.lists))

  pub check_same : (check : Check) (x : Found) (rest : List Move) → check_moves e (page_of e book) check x rest ≡ check_moves e1 (page_of e1 book) check x rest
  check_same check (found.Builds what name k) rest = away_same what k (check_report check what name) rest
  check_same check (found.SkippedText line) rest = ap (λ (p : Page). incomplete p line rest) (sym page)

pub found_still : (e e1 : Engine) (x : Found) → SameFrames e e1 → IsFound x e → IsFound x e1
found_still e e1 (found.Builds what name k) same h = scanned_still what k e e1 same.call same.lists h
found_still e e1 (found.SkippedText line) same h = tt

-- so is the report of the innermost conditional
pub incomplete_same : (e e1 : Engine) (book : Book) (line test : ℕ) (rest : List Move) → page_of e1 book ≡ page_of e book → test ≡ innermost_test e1.conditionals.items →
    reported (page_of e book) (reports.IncompleteConditional (innermost_test e.conditionals.items) line) rest ≡ reported (page_of e1 book) (reports.IncompleteConditional test line) rest
incomplete_same e e1 book line test rest page is =
    ap (λ (p : Page). reported p (reports.IncompleteConditional (innermost_test p.conditionals) line) rest) (sym page)
    ∙ ap (λ (n : ℕ). reported (page_of e1 book) (reports.IncompleteConditional n line) rest) (sym is)

-- WHAT IS MET

-- the name of an \outer macro is no marked one
marked_inner : (m : Meaning Unit) → is_outer (marked_meaning m) ≡ true → ⊥
marked_inner means.Undefined h = cc
marked_inner (means.Macro long outer list) h = cc
marked_inner (means.Prim number) h = by_kind (is_expandable (means.Prim number)) h where
  by_kind : (b : Bool) → is_outer (if b then means.RelaxMarked else means.Prim number) ≡ true → ⊥
  by_kind true h = cc
  by_kind false h = cc
marked_inner means.RelaxMarked h = cc
marked_inner (means.Char category code) h = cc
marked_inner (means.CharGiven code) h = cc
marked_inner (means.MathGiven code) h = cc
marked_inner (means.Register kind number) h = cc

outer_plain : (cells : List (Meaning (Option ℕ))) (t : Token) → is_outer (met_token cells t).meaning ≡ true → (met_token cells t).token ≡ t
outer_plain cells (token.Marked n) h = absurd (marked_inner (token_meaning cells (token.Named n)) h)
outer_plain cells (token.Named n) h = refl
outer_plain cells (token.Char category code) h = refl
outer_plain cells t h = refl

outer_meets : (page : Page) (o : Option Scanning) (onward : Seen → List Move) (t : Token) → is_outer (met_token page.now.meanings t).meaning ≡ true → token_moves page o onward t ≡ met_outer page o t onward
outer_meets page o onward t is =
    outer_met page o onward (met_token page.now.meanings t) is ∙ ap (λ (u : Token). met_outer page o u onward) (outer_plain page.now.meanings t is) where
      outer_met : (page : Page) (o : Option Scanning) (onward : Seen → List Move) (x : Seen) → is_outer x.meaning ≡ true → met page o onward x ≡ met_outer page o x.token onward
      outer_met page o onward x is = rw is refl

pub inner_meets : (page : Page) (o : Option Scanning) (onward : Seen → List Move) (x : Seen) → is_outer x.meaning ≡ false → met page o onward x ≡ onward x
inner_meets page o onward x is = rw is refl

-- where nothing is scanned, it goes on
pub none_meets : (page : Page) (o : Option Scanning) (onward : Seen → List Move) (t : Token) → o ≡ None → token_moves page o onward t ≡ onward (met_token page.now.meanings t)
none_meets page o onward t is = ap (λ (x : Option Scanning). token_moves page x onward t) is ∙ by_outer (is_outer (met_token page.now.meanings t).meaning) refl where
  by_outer : (b : Bool) → is_outer (met_token page.now.meanings t).meaning ≡ b → token_moves page None onward t ≡ onward (met_token page.now.meanings t)
  by_outer true h = outer_meets page None onward t h
  by_outer false h = inner_meets page None onward (met_token page.now.meanings t) h

pub seen_outer : (e : Engine) (book : Book) (t : Token) (x : Seen) (result b : Bool) → x ≡ met_token e.input.groups.now.meanings t → result ≡ is_outer x.meaning → result ≡ b → is_outer (met_token (page_of e book).now.meanings t).meaning ≡ b
seen_outer e book t x result b is outer here = ap (λ (y : Seen). is_outer y.meaning) (met_of book.number e.input.groups.now.meanings t ∙ sym is) ∙ sym outer ∙ here

-- what comes of what is found where the file has ended
pub breaks_off : (e : Engine) (book : Book) (x : Found) → Finds x e book → checked (page_of e book) (scanning_of e book.work) ≡ check_moves e (page_of e book) FileEnded x []
breaks_off e book (found.Builds what name k) is = ap (checked (page_of e book)) is
breaks_off e book (found.SkippedText line) is = ap (checked (page_of e book)) is

-- and nothing does where nothing is scanned
pub unchecked : (sizes : Sizes) (e : Engine) (book : Book) (w : World) → scanning_of e book.work ≡ None → AllStand sizes e book → Went sizes (state_of e book) e w w (checked (page_of e book) (scanning_of e book.work)) 0
unchecked sizes e book w none st = went_by sizes (state_of e book) e w w [] (checked (page_of e book) (scanning_of e book.work)) 0 (ap (λ (o : Option Scanning). checked (page_of e book) o) none) (record { book' = book; stands = st; did = did_none sizes (state_of e book) w; count = refl })

-- and where the name of an \outer macro comes
pub meets_found : (e : Engine) (book : Book) (x : Found) (want : Want) (t : Token) → is_outer (met_token (page_of e book).now.meanings t).meaning ≡ true → Finds x e book →
    token_moves (page_of e book) (scanning_of e book.work) (onward_of (page_of e book) (Some want) book.work) t ≡ put_one t ++ check_moves e (page_of e book) Forbidden x (space_moves (page_of e book) (Some want) book.work)
meets_found e book (found.Builds what name k) want t outer is =
    ap (λ (o : Option Scanning). token_moves (page_of e book) o (onward_of (page_of e book) (Some want) book.work) t) is
    ∙ outer_meets (page_of e book) (Some (Builds what name (scanned_list what k e))) (onward_of (page_of e book) (Some want) book.work) t outer
meets_found e book (found.SkippedText line) want t outer is =
    ap (λ (o : Option Scanning). token_moves (page_of e book) o (onward_of (page_of e book) (Some want) book.work) t) is
    ∙ outer_meets (page_of e book) (Some (SkippedText line)) (onward_of (page_of e book) (Some want) book.work) t outer

-- where something is scanned, some reading wants the token
pub by_some : (P : Option Want → Type 0) (want : Option Want) → IsSome want → ((w : Want) → P (Some w)) → P want
by_some P None some h = absurd cc
by_some P (Some w) some h = h w

-- WHAT IS HANDED ON

-- a token that is as it was read
pub comes_here : (sizes : Sizes) (want : Option Want) (e : Engine) (book : Book) (w : World) (ms : List Move) (t : Token) (x : Seen) → x ≡ met_token e.input.groups.now.meanings t → Takes sizes want e book →
    ms ≡ onward_of (page_of e book) want book.work (met_token (page_of e book).now.meanings t) → Comes sizes want (state_of e book) e book w w ms x 0
comes_here sizes want e book w ms t x is takes moves = record {
  book' = book;
  still = λ none. refl;
  takes = takes;
  front = [];
  did = did_none sizes (state_of e book) w;
  whole = moves ∙ ap (onward_of (page_of e book) want book.work) (met_of book.number e.input.groups.now.meanings t ∙ sym is);
  count = refl;
}
