-- Texts, reports and ends that the engine writes.
use Rattle.std.proofs.Common.{◌≡◌, ℕ, zero, suc, ◌+◌, ◌≤◌, List, [], ◌∷◌, ◌++◌, refl, sym, ap, ◌∙◌, subst, Bool, true, false, arith}
use Rattle.std.specs.Prelude.{Option, Some, None, Result, Ok, Err, IfErr, IsErrAnd, nat_lt, if◌then◌else◌}
use Rattle.tex_syntax.specs.declared.words.Outcome.{Outcome}
use Rattle.tex_syntax.specs.declared.words.Outcome.TheVariants.{AtFatal, Finished}
use Rattle.tex_syntax.specs.declared.words.Report.{Report}
use Rattle.tex_defs.specs.declared.Sizes.{Sizes}
use Rattle.tex_defs.specs.declared.Token.{Token}
use Rattle.tex_defs.specs.declared.Meaning.{Meaning}
use Rattle.tex_defs.specs.declared.Full.{Full}
use Rattle.tex_defs.specs.declared.Fatal.TheVariants as fatal
use Rattle.tex_defs.specs.Places.{World, Transcript}
use Rattle.plain_tokens.specs.Printed.{Style}
use Rattle.plain_state.specs.Reports as reports
use Rattle.plain_state.specs.Reports.{hundred_line, token_line_bytes}
use Rattle.plain_machine.specs.declared.broken.Broken.{Broken}
use Rattle.plain_machine.specs.declared.broken.Broken.TheVariants as broken
use Rattle.plain_machine.specs.States.{State, Move, Written, Reported, Stopped, made}
use Rattle.plain_machine.specs.Demands.{refusal}
use Rattle.conditionals.specs.declared.open.Conditional.{Conditional}
use Rattle.plain_machine.specs.Plan.{Page, style_of, conditionals_left, reported, reports_room, token_line}
use Rattle.plain_machine.specs.Runs.{Wrote, steps}
use Rattle.plain_machine.specs.Does.{Did}
use Rattle.plain_machine.specs.Faults.{broken_by}
use Rattle.plain_machine.proofs.Doing.{did_join, did_one, wrote_join}
use Rattle.plain_machine.proofs.Joins.{steps_join}
use Rattle.world_io.specs.Contents.{FilesTold, SinkTold, world}
use Rattle.world_io.specs.declared.traits.Fault.{Fault}
use Rattle.transcript.specs.Taken.{Took, TookFront}
use Rattle.token_lists.specs.Table.{Entry, tokens_at}
use Rattle.input_state.specs.HeldLists.{first_list as first_held}
use Rattle.input_state.specs.Macros.{list_at}
use Rattle.input_state.specs.Stored.{Stored}
use Rattle.equivalents.specs.Parameters.{style_in}
use Rattle.reading_frames.specs.Views.{kept_list_of}
use Rattle.engine_state.specs.declared.engine.Engine.{Engine}
use Rattle.engine_state.specs.declared.outcome.Last.{Last}
use Rattle.engine_state.specs.declared.outcome.Last.TheVariants as last
use Rattle.engine_state.specs.Begins.{outcome_of_last, last_moves, last_bytes, last_written, no_file_end}
use Rattle.engine_state.specs.Book.{Book}
use Rattle.engine_state.specs.Calls.{AllStand, work_or_none}
use Rattle.engine_state.specs.Stands.{Stands, IsSized, IsSound, IsUncalled, SameFrames, SameStore, SameOthers, OnlyColumn, state_of, page_of, own_style}
use Rattle.engine_state.specs.Rules.{world_of, nth_list, counted, CountsOn, Cuts, CountsReports, Went, Halts, Reports}
use Rattle.engine_state.proofs.CallKept.{frames_kept}
use Rattle.engine_state.proofs.Cutting.{cuts_by, full_cuts, later_cuts, did_out, cut_out}
use Rattle.engine_state.proofs.Joining.{quiet_here, halts_on}
use Rattle.engine_state.proofs.Storing.{store_is, store_same, sound_sized, sound_still}

-- WRITES

-- a text of tokens in a style
pub shown_is : (text : Style → List Token → List ℕ) (style style' : Style) (ts us : List Token) → style ≡ style' → ts ≡ us → text style ts ≡ text style' us
shown_is text style style' ts us s t = cc

-- a list by its number
number_same : (lists : List (List Token)) (k : ℕ) → list_at lists k ≡ nth_list k lists
number_same [] zero = refl
number_same [] (suc k) = refl
number_same (ts ∷ lists) zero = refl
number_same (ts ∷ lists) (suc k) = number_same lists k

pub number_is : (table held : List (Option Entry)) (id k : ℕ) (lists : List (List Token)) → table ≡ held → tokens_at held id ≡ list_at lists k → tokens_at table id ≡ nth_list k lists
number_is table held id k lists t h = ap (λ (x : List (Option Entry)). tokens_at x id) t ∙ (h ∙ number_same lists k)

-- the innermost, where it is listed
listed_same : (listed : Bool) (lists : List (List Token)) → listed ≡ true → first_held lists ≡ kept_list_of listed lists
listed_same true [] is = refl
listed_same true (ts ∷ lists) is = refl
listed_same false lists is = cc

pub listed_is : (listed : Bool) (table held : List (Option Entry)) (id : ℕ) (lists : List (List Token)) → listed ≡ true → table ≡ held → tokens_at held id ≡ first_held lists → tokens_at table id ≡ kept_list_of listed lists
listed_is listed table held id lists is t h = ap (λ (x : List (Option Entry)). tokens_at x id) t ∙ (h ∙ listed_same listed lists is)

-- no list
pub unlisted_is : (listed : Bool) (lists : List (List Token)) → (listed ≡ true → lists ≡ []) → [] ≡ kept_list_of listed lists
unlisted_is false lists none = refl
unlisted_is true lists none = ap (kept_list_of true) (sym (none refl))

-- an argument's list
pub work_is : (table held : List (Option Entry)) (id : ℕ) (o : Option (List Token)) → table ≡ held → o ≡ Some (tokens_at held id) → tokens_at table id ≡ work_or_none o
work_is table held id o t is = ap (λ (x : List (Option Entry)). tokens_at x id) t ∙ ap work_or_none (sym is)

-- or none, where no place is reached
pub none_is : (o : Option (List Token)) → o ≡ None → [] ≡ work_or_none o
none_is o none = ap work_or_none (sym none)

module _ (s s' : SinkTold) (e : Engine) (b' : Bool) (text shown : List ℕ) (is : shown ≡ text) where
  only_column : OnlyColumn e (record e { in_line = b' })
  only_column = record { same = refl }

  -- what was taken, in other words
  pub took_out : Took s s' e.in_line b' shown → (sizes : Sizes) (f : FilesTold) (book : Book) →
      Did sizes (state_of e book) (state_of (record e { in_line = b' }) book) (world_of f s e) (world f s' b') (Written Transcript text ∷ [])
  took_out h sizes f book = did_out sizes f s s' e (record e { in_line = b' }) book only_column text (subst (λ (bs : List ℕ). Took s s' e.in_line b' bs) is h)

  -- and before a fault
  pub err_out : {T : Type 0} → (r : Result T Broken) (fault : Fault) → IsErrAnd r (λ b. b ≡ broken_by fault) → TookFront s s' e.in_line b' shown fault →
      IfErr r (λ b. (sizes : Sizes) (f : FilesTold) (book : Book) (more : List Move) →
      Cuts sizes (state_of e book) (record e { in_line = b' }) book (world_of f s e) (world f s' b') (Written Transcript text ∷ more) b)
  err_out (Ok x) fault h front = tt
  err_out (Err b) fault h front = λ sizes f book more.
      cut_out sizes f s s' e (record e { in_line = b' }) book only_column b fault text more h (subst (λ (bs : List ℕ). TookFront s s' e.in_line b' bs fault) is front)

-- the same text
pub did_text : (sizes : Sizes) (s t : State) (w w' : World) (text shown : List ℕ) → shown ≡ text → Did sizes s t w w' (Written Transcript shown ∷ []) → Did sizes s t w w' (Written Transcript text ∷ [])
did_text sizes s t w w' text shown is h = subst (λ (bs : List ℕ). Did sizes s t w w' (Written Transcript bs ∷ [])) is h

pub cut_text : (sizes : Sizes) (s : State) (e' : Engine) (book : Book) (w w' : World) (b : Broken) (text shown : List ℕ) → shown ≡ text →
    ((more : List Move) → Cuts sizes s e' book w w' (Written Transcript shown ∷ more) b) → (more : List Move) → Cuts sizes s e' book w w' (Written Transcript text ∷ more) b
cut_text sizes s e' book w w' b text shown is h more = subst (λ (bs : List ℕ). Cuts sizes s e' book w w' (Written Transcript bs ∷ more) b) is (h more)

-- a token line that is written
pub loud : (page : Page) (m : Meaning Unit) → page.quiet ≡ false → token_line page m ≡ Written Transcript (token_line_bytes (style_of page) page.in_line m) ∷ []
loud page m e = rw e refl

-- and that is cut off
pub loud_cuts : {T : Type 0} → (r : Result T Broken) (s s' : SinkTold) (e e' : Engine) (m : Meaning Unit) → e.quiet ≡ false →
    IfErr r (λ b. (sizes : Sizes) (f : FilesTold) (book : Book) (more : List Move) →
    Cuts sizes (state_of e book) e' book (world_of f s e) (world_of f s' e') (Written Transcript (token_line_bytes (own_style e) e.in_line m) ∷ more) b) →
    IfErr r (λ b. (sizes : Sizes) (f : FilesTold) (book : Book) → Cuts sizes (state_of e book) e' book (world_of f s e) (world_of f s' e') (token_line (page_of e book) m) b)
loud_cuts (Ok x) s s' e e' m q h = tt
loud_cuts (Err b) s s' e e' m q h = λ sizes f book. cuts_by sizes _ e' book _ _ _ _ b (loud (page_of e book) m q) (h sizes f book [])

-- REPORTS

counted_on : (page : Page) (rest : List Move) → nat_lt page.reports reports_room ≡ true → counted page rest ≡ Reported ∷ rest
counted_on page rest e = rw e refl

counted_end : (page : Page) (rest : List Move) → nat_lt page.reports reports_room ≡ false →
    counted page rest ≡ Reported ∷ Written Transcript (hundred_line (style_of page)) ∷ Stopped (AtFatal fatal.HundredErrors) ∷ []
counted_end page rest e = rw e refl

-- the machine stops behind its last text
stops_did : (sizes : Sizes) (s : State) (w w' : World) (bs : List ℕ) (o : Outcome) → Wrote w w' (Written Transcript bs ∷ []) →
    Did sizes s (made (Stopped o) (made (Written Transcript bs) s)) w w' (Written Transcript bs ∷ Stopped o ∷ [])
stops_did sizes s w w' bs o wrote = record {
  state = refl;
  fits = (refl, (refl, tt));
  written = wrote_join w w' w' (Written Transcript bs ∷ []) (Stopped o ∷ []) wrote (quiet_here (Stopped o) w' tt);
}

-- and the engine stands for its state, but for how it stopped
stops_at : (sizes : Sizes) (s : State) (e' : Engine) (book : Book) (w w' : World) (bs : List ℕ) (o : Outcome) → Did sizes s (state_of e' book) w w' (Written Transcript bs ∷ []) →
    record (made (Stopped o) (made (Written Transcript bs) s)) { stopped = None } ≡ state_of e' book
stops_at sizes s e' book w w' bs o d = ap (λ (x : State). record x { stopped = None }) d.state

-- the lines of `\end` are no steps
left_steps : (style : Style) (cs : List Conditional) → steps (conditionals_left style cs) ≡ 0
left_steps style [] = refl
left_steps style (c ∷ cs) = omega (arith, left_steps style cs)

last_steps : (page : Page) (l : Last) → steps (last_written page l) ≡ 0
last_steps page last.End = omega (arith, left_steps (style_of page) page.conditionals)
last_steps page last.NoEnd = refl

last_whole : (page : Page) (l : Last) → last_moves page l ≡ last_written page l ++ Stopped (outcome_of_last l) ∷ []
last_whole page last.End = refl
last_whole page last.NoEnd = refl

stop_counts : (o : Outcome) (e' : Engine) (book : Book) → CountsReports o (made (Stopped o) (state_of e' book)) e'
stop_counts Finished e' book = (refl, refl)
stop_counts (AtFatal f) e' book = tt

-- where the machine stops of itself
pub last_is : (sizes : Sizes) (s : State) (e' : Engine) (book : Book) (w w' : World) (page : Page) (l : Last) → Did sizes s (state_of e' book) w w' (last_written page l) →
    Halts sizes s e' book w w' (last_moves page l) (outcome_of_last l) 0
last_is sizes s e' book w w' page l d = let o : Outcome = outcome_of_last l in
    subst (λ (ms : List Move). Halts sizes s e' book w w' ms o 0) (sym (last_whole page l)) (record {
      t = made (Stopped o) (state_of e' book);
      did = did_join sizes _ _ _ w w' w' (last_written page l) (Stopped o ∷ []) d (did_one sizes (Stopped o) (state_of e' book) _ w' w' refl refl (quiet_here (Stopped o) w' tt));
      stopped = refl;
      due = refl;
      reports = stop_counts o e' book;
      same = λ few. refl;
      count = omega (arith, steps_join (last_written page l) (Stopped o ∷ []), last_steps page l);
    })

-- cut off already in its first text
pub last_text_cut : (sizes : Sizes) (s : State) (e' : Engine) (book : Book) (w w' : World) (page : Page) (l : Last) (k : Broken) →
    ((more : List Move) → Cuts sizes s e' book w w' (Written Transcript (last_bytes page l) ∷ more) k) → (more : List Move) → Cuts sizes s e' book w w' (last_written page l ++ more) k
last_text_cut sizes s e' book w w' page last.End k h more = h (conditionals_left (style_of page) page.conditionals ++ more)
last_text_cut sizes s e' book w w' page last.NoEnd k h more = h more

pub last_cut : (sizes : Sizes) (s : State) (e' : Engine) (book : Book) (w w' : World) (page : Page) (l : Last) (k : Broken) →
    ((more : List Move) → Cuts sizes s e' book w w' (last_written page l ++ more) k) → Cuts sizes s e' book w w' (last_moves page l) k
last_cut sizes s e' book w w' page l k h = cuts_by sizes s e' book w w' _ _ k (last_whole page l) (h (Stopped (outcome_of_last l) ∷ []))

-- A REPORT IS COUNTED

-- the engine counts a report
pub counted_last : (e : Engine) (book : Book) (n : ℕ) → e.reports + 1 ≡ n → made Reported (state_of e book) ≡ state_of (record e { reports = n }) book
counted_last e book n is = ap (λ (k : ℕ). record (state_of e book) { reports = k }) is

-- and the run goes on
pub counts_on : (sizes : Sizes) (e : Engine) (book : Book) (n : ℕ) (w : World) (rest : List Move) → e.reports + 1 ≡ n → nat_lt e.reports reports_room ≡ true →
    CountsOn sizes (state_of e book) (state_of (record e { reports = n }) book) w w (page_of e book) rest
counts_on sizes e book n w rest is room = record {
  moves = counted_on (page_of e book) rest room;
  did = did_one sizes Reported _ _ w w refl (counted_last e book n is) (quiet_here Reported w tt);
}

-- or it was the hundredth
module _ (sizes : Sizes) (e e' : Engine) (book : Book) (w w' : World) (rest : List Move) (full : nat_lt e.reports reports_room ≡ false) where
  abbrev hundred : List ℕ
  hundred = hundred_line (own_style e)

  reported_here : Did sizes (state_of e book) (made Reported (state_of e book)) w w (Reported ∷ [])
  reported_here = did_one sizes Reported _ _ w w refl refl (quiet_here Reported w tt)

  pub counted_halts : (v : State) → Did sizes v (state_of e' book) w w' (Written Transcript hundred ∷ []) → (e.reports ≤ reports_room → made Reported (state_of e book) ≡ v) →
      Halts sizes (state_of e book) e' book w w' (counted (page_of e book) rest) (AtFatal fatal.HundredErrors) 0
  counted_halts v second is =
      subst (λ (ms : List Move). Halts sizes (state_of e book) e' book w w' ms (AtFatal fatal.HundredErrors) 0) (sym (counted_end (page_of e book) rest full))
      (record {
        t = made (Stopped (AtFatal fatal.HundredErrors)) (made (Written Transcript hundred) (made Reported (state_of e book)));
        did = did_join sizes _ (made Reported (state_of e book)) _ w w w' (Reported ∷ []) (Written Transcript hundred ∷ Stopped (AtFatal fatal.HundredErrors) ∷ []) reported_here (stops_did sizes (made Reported (state_of e book)) w w' hundred (AtFatal fatal.HundredErrors) second.written);
        stopped = refl;
        due = refl;
        reports = tt;
        same = λ few. ap (λ (x : State). record (made (Stopped (AtFatal fatal.HundredErrors)) (made (Written Transcript hundred) x)) { stopped = None }) (is few) ∙ stops_at sizes v e' book w w' hundred (AtFatal fatal.HundredErrors) second;
        count = omega arith;
      })

  pub counted_cuts : (v : State) (b : Broken) → made Reported (state_of e book) ≡ v → ((more : List Move) → Cuts sizes v e' book w w' (Written Transcript hundred ∷ more) b) → Cuts sizes (state_of e book) e' book w w' (counted (page_of e book) rest) b
  counted_cuts v b is h =
      cuts_by sizes _ e' book w w' _ _ b (counted_end (page_of e book) rest full)
      (later_cuts sizes _ v e' book w w w' (Reported ∷ []) (Written Transcript hundred ∷ Stopped (AtFatal fatal.HundredErrors) ∷ []) b
      (subst (λ (x : State). Did sizes (state_of e book) x w w (Reported ∷ [])) is reported_here) (h (Stopped (AtFatal fatal.HundredErrors) ∷ [])))

-- A TEXT, AND IT IS COUNTED

module _ (sizes : Sizes) (e e1 e' : Engine) (book : Book) (only : OnlyColumn e e1) (w w1 w' : World) (text : List ℕ) (rest : List Move) (first : Did sizes (state_of e book) (state_of e1 book) w w1 (Written Transcript text ∷ [])) where
  -- what is counted depends on no column
  same_counted : counted (page_of e book) rest ≡ counted (page_of e1 book) rest
  same_counted = ap (λ (x : Engine). counted (page_of x book) rest) (sym only.same)

  pub text_moves : CountsOn sizes (state_of e1 book) (state_of e' book) w1 w' (page_of e1 book) rest → Written Transcript text ∷ counted (page_of e book) rest ≡ Written Transcript text ∷ Reported ∷ rest
  text_moves h = ap (λ (ms : List Move). Written Transcript text ∷ ms) (same_counted ∙ h.moves)

  pub text_did : CountsOn sizes (state_of e1 book) (state_of e' book) w1 w' (page_of e1 book) rest → Did sizes (state_of e book) (state_of e' book) w w' (Written Transcript text ∷ Reported ∷ [])
  text_did h = did_join sizes _ _ _ w w1 w' (Written Transcript text ∷ []) (Reported ∷ []) first h.did

  pub text_halts : (o : Outcome) → Halts sizes (state_of e1 book) e' book w1 w' (counted (page_of e1 book) rest) o 0 → Halts sizes (state_of e book) e' book w w' (Written Transcript text ∷ counted (page_of e book) rest) o 0
  text_halts o h =
      subst (λ (ms : List Move). Halts sizes (state_of e book) e' book w w' (Written Transcript text ∷ ms) o 0) (sym same_counted)
      (halts_on sizes _ _ e' book w w1 w' (Written Transcript text ∷ []) (counted (page_of e1 book) rest) o 0 0 (ap (λ (x : Engine). x.reports) only.same) first refl h)

  pub text_cut : (b : Broken) → Cuts sizes (state_of e1 book) e' book w1 w' (counted (page_of e1 book) rest) b → Cuts sizes (state_of e book) e' book w w' (Written Transcript text ∷ counted (page_of e book) rest) b
  text_cut b h =
      subst (λ (ms : List Move). Cuts sizes (state_of e book) e' book w w' (Written Transcript text ∷ ms) b) (sym same_counted)
      (later_cuts sizes _ _ e' book w w1 w' (Written Transcript text ∷ []) (counted (page_of e1 book) rest) b first h)

-- A FILE THAT ISN'T HELD

-- the report's text, in other words
pub missing_is : (style style' : Style) (b : Bool) (line line' : ℕ) (name name' : List ℕ) → style ≡ style' → line ≡ line' → name ≡ name' → reports.missing_file_bytes style b line name ≡ reports.missing_file_bytes style' b line' name'
missing_is style style' b line line' name name' s l n =
    ap (λ (x : Style). reports.missing_file_bytes x b line name) s
    ∙ (ap (λ (k : ℕ). reports.missing_file_bytes style' b k name) l ∙ ap (λ (bs : List ℕ). reports.missing_file_bytes style' b line' bs) n)

-- it is written, and counted behind that
module _ (s s' : SinkTold) (e e' : Engine) (b' : Bool) (text shown : List ℕ) (is : shown ≡ text) (took : Took s s' e.in_line b' shown) (sizes : Sizes) (f : FilesTold) (book : Book) (w' : World) (rest : List Move) where
  pub missing_halts : (o : Outcome) → Halts sizes (state_of (record e { in_line = b' }) book) e' book (world f s' b') w' (counted (page_of (record e { in_line = b' }) book) rest) o 0 →
      Halts sizes (state_of e book) e' book (world_of f s e) w' (Written Transcript text ∷ counted (page_of e book) rest) o 0
  missing_halts o h = text_halts sizes e (record e { in_line = b' }) e' book (record { same = refl }) _ _ w' text rest (took_out s s' e b' text shown is took sizes f book) o h

  pub missing_cut : (b : Broken) → Cuts sizes (state_of (record e { in_line = b' }) book) e' book (world f s' b') w' (counted (page_of (record e { in_line = b' }) book) rest) b →
      Cuts sizes (state_of e book) e' book (world_of f s e) w' (Written Transcript text ∷ counted (page_of e book) rest) b
  missing_cut b h = text_cut sizes e (record e { in_line = b' }) e' book (record { same = refl }) _ _ w' text rest (took_out s s' e b' text shown is took sizes f book) b h

-- the report is counted, and the run ends
module _ (sizes : Sizes) (e e1 : Engine) (book : Book) (w w1 : World) (on : CountsOn sizes (state_of e book) (state_of e1 book) w w1 (page_of e book) (no_file_end (page_of e book))) where
  abbrev no_file_bytes : List ℕ
  no_file_bytes = reports.emergency (own_style e) ++ reports.no_file_line (own_style e)

  -- texts are printed as before it was counted
  pub counted_style : e1.input ≡ e.input → own_style e1 ≡ own_style e
  counted_style same = ap (λ (i : Stored). style_in i.groups.now e1.names.names) same ∙ ap (λ (s : State). style_in e.input.groups.now s.names) (sym on.did.state)

  module _ (e' : Engine) (w2 : World) where
    pub refused_halts : Did sizes (state_of e1 book) (state_of e' book) w1 w2 (Written Transcript no_file_bytes ∷ []) →
        Halts sizes (state_of e book) e' book w w2 (counted (page_of e book) (no_file_end (page_of e book))) (AtFatal fatal.NoFile) 0
    refused_halts second =
        subst (λ (ms : List Move). Halts sizes (state_of e book) e' book w w2 ms (AtFatal fatal.NoFile) 0) (sym on.moves)
        (record {
          t = made (Stopped (AtFatal fatal.NoFile)) (made (Written Transcript no_file_bytes) (state_of e1 book));
          did = did_join sizes _ (state_of e1 book) _ w w1 w2 (Reported ∷ []) (no_file_end (page_of e book)) on.did (stops_did sizes (state_of e1 book) w1 w2 no_file_bytes (AtFatal fatal.NoFile) second.written);
          stopped = refl;
          due = refl;
          reports = tt;
          same = λ few. stops_at sizes (state_of e1 book) e' book w1 w2 no_file_bytes (AtFatal fatal.NoFile) second;
          count = omega arith;
        })

    pub refused_cuts : (b : Broken) → ((more : List Move) → Cuts sizes (state_of e1 book) e' book w1 w2 (Written Transcript no_file_bytes ∷ more) b) →
        Cuts sizes (state_of e book) e' book w w2 (counted (page_of e book) (no_file_end (page_of e book))) b
    refused_cuts b h =
        cuts_by sizes _ e' book w w2 _ _ b on.moves
        (later_cuts sizes (state_of e book) (state_of e1 book) e' book w w1 w2 (Reported ∷ []) (no_file_end (page_of e book)) b on.did (h (Stopped (AtFatal fatal.NoFile) ∷ [])))

-- WHAT STAYS

-- and no call is gathered
uncalled_still : (e e' : Engine) → SameFrames e e' → IsUncalled e → IsUncalled e'
uncalled_still e e' same h = same.call ∙ h

-- the engine whose readings are as they were
pub stands_still : (sizes : Sizes) (e e' : Engine) (book : Book) → SameFrames e e' → IsSound sizes e' book.number book.all_lists → e'.input.making ≡ None → Stands sizes e book → Stands sizes e' book
stands_still sizes e e' book same sound idle st = record { sound = sound; idle = idle; readings = frames_kept e e' book.work same st.readings; uncalled = uncalled_still e e' same st.uncalled }

-- a report alone
pub reports_went : (sizes : Sizes) (e e' : Engine) (book : Book) (w w' : World) (report : Report) → AllStand sizes e' book → Reports sizes (state_of e book) (state_of e' book) w w' (page_of e book) report [] →
    Went sizes (state_of e book) e' w w' (reported (page_of e book) report []) 0
reports_went sizes e e' book w w' report st h = record {
  book' = book;
  stands = st;
  did = subst (λ (ms : List Move). Did sizes (state_of e book) (state_of e' book) w w' ms) (sym h.moves) h.did;
  count = ap steps h.moves;
}

-- WHAT BECOMES OF A TOKEN

-- a move for which a table has no room: nothing has changed
pub full_out : (sizes : Sizes) (e e' : Engine) (f : FilesTold) (s : SinkTold) (book : Book) (m : Move) (rest : List Move) (full : Full) → e' ≡ e → refusal sizes m (state_of e book) ≡ Some full →
    Cuts sizes (state_of e book) e' book (world_of f s e) (world_of f s e') (m ∷ rest) (broken.Full full)
full_out sizes e e' f s book m rest full is refused =
    subst (λ (x : Engine). Cuts sizes (state_of e book) x book (world_of f s e) (world_of f s x) (m ∷ rest) (broken.Full full)) (sym is)
    (full_cuts sizes (state_of e book) e book (world_of f s e) m rest full (broken.Full full) refl refused refl)

-- an engine that has the same input
pub input_sound : (sizes : Sizes) (e e' : Engine) (book : Book) → e'.input ≡ e.input → (IsSized sizes e → IsSized sizes e') → IsSound sizes e book.number book.all_lists → IsSound sizes e' book.number book.all_lists
input_sound sizes e e' book is sized h = sound_sized sizes e e' book.number book.all_lists (sized h.sized) (store_is e.input e'.input is) h

-- or that has put a token in front
pub others_sound : (sizes : Sizes) (e e' : Engine) (book : Book) → SameOthers e e' → SameStore e.input e'.input → IsSound sizes e book.number book.all_lists → IsSound sizes e' book.number book.all_lists
others_sound sizes e e' book others store h = sound_still sizes e e' book.number book.all_lists others.sizes others.depth others.conditionals others.names others.reports store h

-- an engine that has written
pub column_sound : (sizes : Sizes) (e e' : Engine) (number : ℕ → ℕ) (all_lists : List (List Token)) → OnlyColumn e e' → IsSound sizes e number all_lists → IsSound sizes e' number all_lists
column_sound sizes e e' number all_lists only h = subst (λ (x : Engine). IsSound sizes x number all_lists) (sym only.same) (sound_still sizes e (record e { in_line = e'.in_line }) number all_lists refl refl refl refl refl (store_same e.input) h)

-- a token's line alone
line_silent : (page : Page) (m : Meaning Unit) → steps (token_line page m) ≡ 0
line_silent page m = silent page.quiet where
  silent : (b : Bool) → steps (if b then [] else Written Transcript (token_line_bytes (style_of page) page.in_line m) ∷ []) ≡ 0
  silent true = refl
  silent false = refl

pub line_went : (sizes : Sizes) (e e' : Engine) (book : Book) (w w' : World) (m : Meaning Unit) → AllStand sizes e' book → Did sizes (state_of e book) (state_of e' book) w w' (token_line (page_of e book) m) →
    Went sizes (state_of e book) e' w w' (token_line (page_of e book) m) 0
line_went sizes e e' book w w' m st did = record { book' = book; stands = st; did = did; count = line_silent (page_of e book) m }
