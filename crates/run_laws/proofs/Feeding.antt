-- A reading that asks for a token: it is fed with one, or a token is expanded above it, or a check comes.
use Rattle.std.proofs.Common.{◌≡◌, ℕ, List, [], ◌∷◌, ◌++◌, length, drop, Bool, true, false, sym, subst}
use Rattle.std.specs.Prelude.{Option, Some, None}
use Rattle.tex_syntax.specs.declared.words.Want.{Want}
use Rattle.tex_syntax.specs.declared.words.Want.TheVariants.{Raw}
use Rattle.tex_syntax.specs.declared.words.Report.{Report}
use Rattle.tex_syntax.specs.declared.words.Report.TheVariants.{InvalidCharacter, FileEnded, Forbidden, IncompleteConditional}
use Rattle.tex_syntax.specs.declared.words.Scanned.{Scanned}
use Rattle.tex_syntax.specs.declared.words.Scanned.TheVariants as scanned
use Rattle.tex_defs.specs.declared.Name.{Name}
use Rattle.tex_defs.specs.declared.Seen.{Seen}
use Rattle.tex_defs.specs.declared.Token.{Token}
use Rattle.plain_tokens.specs.Arguments.{arguments_in, work_in}
use Rattle.plain_tokens.specs.Arguments as call
use Rattle.plain_tokens.specs.Lookup.{token_of, new_name}
use Rattle.plain_tokens.specs.Meanings.{met as met_token}
use Rattle.plain_tokens.specs.Pending.{Pulled, TokenFrom, LexemeFrom, LineTaken, InvalidMet, FileOver, NothingLeft, pulled}
use Rattle.plain_tokens.specs.Tokens.{is_outer, space_token}
use Rattle.conditionals.specs.Open.{innermost_test}
use Rattle.rows.specs.declared.words.Phrase.TheVariants.{Command, Text, Definition}
use Rattle.rows.specs.Table.{reads_under_normal}
use Rattle.rows.specs.Readings.{Fed, Tok, Cut, Ask, More}
use Rattle.plain_readings.specs.Calls.{gathered}
use Rattle.plain_readings.specs.Laws.{Comes}
use Rattle.plain_readings.specs.Readings.{Kind, Reads, Arguments, Skips, Reading, ask, lists, fed_with}
use Rattle.plain_readings.specs.Scanning.{Status, Unguarded, Scanning, Builds, SkippedText, status, command_status, scanned_at, list_on_top, innermost_scanned, unless_unguarded, scanning}
use Rattle.plain_machine.specs.States.{State, Move, Feeds, Completed, last_with}
use Rattle.plain_machine.specs.Plan.{Page, page_of, handed, met, met_outer, entered, checked, ran_away, incomplete, away_text, page_behind, at_line, reported, wanted, enters_names, feeding, feeding_kind, grown_and_fed, grown_to, first_list, opened, in_place, argument_fed, call_fed, answered}
use Rattle.run_laws.proofs.InTurn.{WaitsInTurn, AreBeneath, IsNoCall, Rested, Rests, fed_stand}
use Rattle.run_laws.proofs.Keeping.{Keeps, one_of, calm_keeps, reported_keeps, begins_keeps}
use Rattle.run_laws.proofs.Cuts.{cut_asks}
use Rattle.run_laws.proofs.Expanding.{entered_calm, grown_calm, wanted_holds}

-- FEEDING: what stands then is kept

pub grown_and_fed_keeps : (k : Kind) (fed : List Fed) (y : Fed) (work : List Reading) (last : Seen) → WaitsInTurn work last → WaitsInTurn (fed_with y work) (last_with y last) →
    Keeps (grown_and_fed k fed y) work last
grown_and_fed_keeps k fed y work last h i =
    let before : List Token = first_list (lists k fed) in
    let after : List Token = first_list (lists k (fed ++ y ∷ [])) in
    calm_keeps (grown_to before after) (Feeds y ∷ []) work last (grown_calm (drop (length before) after)) (h, i)

module _ (x : Seen) (work : List Reading) (last : Seen) (h : WaitsInTurn work last) (i : WaitsInTurn (fed_with (Tok x) work) x) where
  opened_keeps : (o : Option (List Token)) → Keeps (opened o) (fed_with (Tok x) work) x
  opened_keeps None = i
  opened_keeps (Some ts) = i

  place_keeps : (ts : List Token) (complete : List (List Token)) (next : Option (List Token)) → Keeps (in_place x ts complete next) work last
  place_keeps ts (a ∷ more) next = calm_keeps (grown_to ts a) (Feeds (Tok x) ∷ Completed a ∷ opened next) work last (grown_calm (drop (length ts) a)) (h, opened_keeps next)
  place_keeps ts [] None = (h, i)
  place_keeps ts [] (Some after) = calm_keeps (grown_to ts after) (Feeds (Tok x) ∷ []) work last (grown_calm (drop (length ts) after)) (h, i)

  argument_keeps : (o : Option (List Token)) (complete : List (List Token)) (next : Option (List Token)) → Keeps (argument_fed x o complete next) work last
  argument_keeps None complete next = (h, opened_keeps next)
  argument_keeps (Some ts) complete next = place_keeps ts complete next

  call_fed_keeps : (before after : call.Answer) → Keeps (call_fed x before after) work last
  call_fed_keeps before after = argument_keeps (work_in before) (drop (length (arguments_in before)) (arguments_in after)) (work_in after)

  feeding_keeps : (k : Kind) (fed : List Fed) → Keeps (feeding_kind k fed x) work last
  feeding_keeps (Arguments name long number ts) fed = call_fed_keeps (gathered long ts fed) (gathered long ts (fed ++ Tok x ∷ []))
  feeding_keeps k fed = grown_and_fed_keeps k fed (Tok x) work last h i

-- WHAT IS READ AT A CHECK, where the innermost reading is no call, is none

abbrev pub IsNoUse : Option Scanning → Type 0
IsNoUse (Some (Builds scanned.Use name list)) = ⊥
IsNoUse o = Unit {0}

module _ (list : List Token) (around : Option Scanning) (h : IsNoUse around) where
  command_no_use : (unguarded : Bool) → IsNoUse (scanned_at (command_status unguarded) list around)
  command_no_use true = h
  command_no_use false = h

  at_no_use : (k : Kind) → IsNoCall k → IsNoUse (scanned_at (status k) list around)
  at_no_use (Reads (Command c)) n = command_no_use (reads_under_normal c.head)
  at_no_use (Reads (Text name expanded)) n = tt
  at_no_use (Reads (Definition name expanded)) n = tt
  at_no_use (Arguments name long number ts) n = absurd n
  at_no_use (Skips c aim line) n = tt
  at_no_use k n = h

beneath_no_use : (k : Kind) (rs : List Reading) (held : List (List Token)) → AreBeneath k rs → IsNoUse (innermost_scanned rs held)
beneath_no_use k [] held h = tt
beneath_no_use k (q ∷ qs) held h =
    at_no_use (list_on_top (length (lists q.kind q.fed)) held) (innermost_scanned qs (drop (length (lists q.kind q.fed)) held))
    (beneath_no_use q.kind qs (drop (length (lists q.kind q.fed)) held) h.1) q.kind h.0.no_call

unless_no_use : (t : Status) (o : Option Scanning) → IsNoUse o → IsNoUse (unless_unguarded t o)
unless_no_use Unguarded o h = tt
unless_no_use t o h = h

scanning_no_use : (r : Reading) (rs : List Reading) (held : List (List Token)) → IsNoCall r.kind → AreBeneath r.kind rs → IsNoUse (scanning (r ∷ rs) held)
scanning_no_use r rs held n h =
    unless_no_use (status r.kind) (innermost_scanned (r ∷ rs) held)
    (at_no_use (list_on_top (length (lists r.kind r.fed)) held) (innermost_scanned rs (drop (length (lists r.kind r.fed)) held))
    (beneath_no_use r.kind rs (drop (length (lists r.kind r.fed)) held) h) r.kind n)

-- THE NEXT TOKEN OR LINE

module _ (work : List Reading) (last : Seen) (h : WaitsInTurn work last) where
  abbrev Kept : List Move → Type 0
  Kept ms = Keeps ms work last

  report_kept : (page : Page) (report : Report) (rest : List Move) → Kept rest → Kept (reported page report rest)
  report_kept page report rest i = reported_keeps page report rest work last h i

  pub handed_keeps : (page : Page) (enters : Bool) (o : Option Scanning) (onward : Seen → List Move) → ((x : Seen) → Kept (met page o onward x)) →
      ((number : ℕ) → Kept (checked (at_line number page) o)) → (r : Pulled) → Kept (handed page enters o onward r)
  handed_keeps page enters o onward i j (TokenFrom t q) = i (met_token page.now.meanings t)
  handed_keeps page enters o onward i j (LexemeFrom x q) =
      let names : List (List ℕ) = new_name enters page.names x in
      let t : Seen = met_token page.now.meanings (token_of enters page.names x) in
      calm_keeps (entered names) (met page o onward t) work last (entered_calm names) (i t)
  handed_keeps page enters o onward i j (LineTaken line q) = h
  handed_keeps page enters o onward i j (InvalidMet q) = report_kept page InvalidCharacter [] h
  handed_keeps page enters o onward i j (FileOver q) = j q.number
  handed_keeps page enters o onward i j NothingLeft = h

  -- a check, where what is read is no call
  away_keeps : (page : Page) (report : Report) (what : Scanned) (name : Name) (list : List Token) (rest : List Move) → IsNoUse (Some (Builds what name list)) → Kept rest →
      Kept (ran_away page report what list rest)
  away_keeps page report scanned.Use name list rest n i = absurd n
  away_keeps page report scanned.Definition name list rest n i = report_kept (page_behind page (away_text page scanned.Definition list)) report rest i
  away_keeps page report scanned.Text name list rest n i = report_kept (page_behind page (away_text page scanned.Text list)) report rest i

  incomplete_keeps : (page : Page) (line : ℕ) (rest : List Move) → Kept rest → Kept (incomplete page line rest)
  incomplete_keeps page line rest i = report_kept page (IncompleteConditional (innermost_test page.conditionals) line) rest i

  checked_keeps : (page : Page) (o : Option Scanning) → IsNoUse o → Kept (checked page o)
  checked_keeps page None n = h
  checked_keeps page (Some (Builds what name list)) n = away_keeps page (FileEnded what name) what name list [] n h
  checked_keeps page (Some (SkippedText line)) n = incomplete_keeps page line [] h

  met_outer_keeps : (page : Page) (o : Option Scanning) (t : Token) (onward : Seen → List Move) → IsNoUse o → ((x : Seen) → Kept (onward x)) → Kept (met_outer page o t onward)
  met_outer_keeps page None t onward n i = i (met_token page.now.meanings t)
  met_outer_keeps page (Some (Builds what name list)) t onward n i =
      let x : Seen = met_token page.now.meanings space_token in
      away_keeps page (Forbidden what name) what name list (onward x) n (i x)
  met_outer_keeps page (Some (SkippedText line)) t onward n i =
      let x : Seen = met_token page.now.meanings space_token in
      incomplete_keeps page line (onward x) (i x)

  met_keeps : (page : Page) (o : Option Scanning) (onward : Seen → List Move) → IsNoUse o → ((x : Seen) → Kept (onward x)) → (x : Seen) → Kept (met page o onward x)
  met_keeps page o onward n i x = one_of Kept (is_outer x.meaning) (met_outer page o x.token onward) (onward x) (met_outer_keeps page o x.token onward n i) (i x)

  pub plainly_handed_keeps : (page : Page) (enters : Bool) (o : Option Scanning) (onward : Seen → List Move) → IsNoUse o → ((x : Seen) → Kept (onward x)) → (r : Pulled) →
      Kept (handed page enters o onward r)
  plainly_handed_keeps page enters o onward n i r = handed_keeps page enters o onward (met_keeps page o onward n i) (λ number. checked_keeps (at_line number page) o n) r

-- A READING THAT ASKS FOR A TOKEN

more_comes : (a : Ask) (want : Want) (y : Fed) → a ≡ More want → Comes a y
more_comes a want y e = subst (λ (a : Ask). Comes a y) (sym e) tt

more_rests : (a : Ask) (want : Want) → a ≡ More want → Rests a
more_rests a want e = subst Rests (sym e) tt

-- no call: tokens may be expanded above it
pub more_keeps : (s : State) (r : Reading) (rs : List Reading) (want : Want) → WaitsInTurn (r ∷ rs) s.last → IsNoCall r.kind → ask r.kind r.fed ≡ More want →
    Keeps (answered s (r ∷ rs) r (More want)) (r ∷ rs) s.last
more_keeps s r rs want h n e =
    let work : List Reading = r ∷ rs in
    let page : Page = page_of s in
    let rested : Rested (r ∷ rs) = (more_rests (ask r.kind r.fed) want e, n) in
    let feeds : (x : Seen) → Keeps (feeding r x) (r ∷ rs) s.last = λ x. feeding_keeps x (r ∷ rs) s.last h (fed_stand (Tok x) r rs s.last (more_comes (ask r.kind r.fed) want (Tok x) e) h) r.kind r.fed in
    plainly_handed_keeps (r ∷ rs) s.last h page (enters_names want) (scanning (r ∷ rs) s.gathered) (λ x. wanted page want (feeding r x) x) (scanning_no_use r rs s.gathered n h.1)
    (λ x. wanted_holds (λ ms. Keeps ms (r ∷ rs) s.last) (λ ms g. begins_keeps (r ∷ rs) s.last h rested ms g) page (feeding r x) (feeds x) want x) (pulled s.groups.now.categories s.pending)

-- A CALL: a check is noted before it is fed
module _ (s : State) (name : Name) (long : Bool) (number : ℕ) (ts : List Token) (fed : List Fed) (rs : List Reading) where
  abbrev kind : Kind
  kind = Arguments name long number ts

  abbrev call_work : List Reading
  call_work = record { kind = kind; fed = fed } ∷ rs

  abbrev cut_work : List Reading
  cut_work = record { kind = kind; fed = fed ++ Cut ∷ [] } ∷ rs

  module _ (h : WaitsInTurn call_work s.last) (e : ask kind fed ≡ More Raw) where
    cut_stand : WaitsInTurn cut_work s.last
    cut_stand = fed_stand Cut (record { kind = kind; fed = fed }) rs s.last (more_comes (ask kind fed) Raw Cut e) h

    abbrev feeds : Seen → List Move
    feeds x = feeding_kind kind fed x

    feeds_keep : (x : Seen) → Keeps (feeds x) call_work s.last
    feeds_keep x = feeding_keeps x call_work s.last h (fed_stand (Tok x) (record { kind = kind; fed = fed }) rs s.last (more_comes (ask kind fed) Raw (Tok x) e) h) kind fed

    cut_feeds_keep : (x : Seen) → Keeps (feeds x) cut_work s.last
    cut_feeds_keep x =
        let more : ask kind (fed ++ Cut ∷ []) ≡ More Raw = cut_asks name long ts fed h.0.places e in
        feeding_keeps x cut_work s.last cut_stand
        (fed_stand (Tok x) (record { kind = kind; fed = fed ++ Cut ∷ [] }) rs s.last (more_comes (ask kind (fed ++ Cut ∷ [])) Raw (Tok x) more) cut_stand) kind fed

    module _ (page : Page) (list : List Token) where
      outer_keeps : (t : Token) → Keeps (met_outer page (Some (Builds scanned.Use name list)) t feeds) call_work s.last
      outer_keeps t =
          let x : Seen = met_token page.now.meanings space_token in
          report_kept call_work s.last h (page_behind page (away_text page scanned.Use list)) (Forbidden scanned.Use name) (Feeds Cut ∷ feeds x) (h, cut_feeds_keep x)

      call_met_keeps : (x : Seen) → Keeps (met page (Some (Builds scanned.Use name list)) feeds x) call_work s.last
      call_met_keeps x =
          one_of (λ ms. Keeps ms call_work s.last) (is_outer x.meaning) (met_outer page (Some (Builds scanned.Use name list)) x.token feeds) (feeds x) (outer_keeps x.token) (feeds_keep x)

      call_checked_keeps : Keeps (checked page (Some (Builds scanned.Use name list))) call_work s.last
      call_checked_keeps = report_kept call_work s.last h (page_behind page (away_text page scanned.Use list)) (FileEnded scanned.Use name) (Feeds Cut ∷ []) (h, cut_stand)

    pub call_more_keeps : Keeps (answered s call_work (record { kind = kind; fed = fed }) (More Raw)) call_work s.last
    call_more_keeps =
        let page : Page = page_of s in
        let list : List Token = list_on_top (length (lists kind fed)) s.gathered in
        handed_keeps call_work s.last h page true (Some (Builds scanned.Use name list)) feeds (call_met_keeps page list) (λ number. call_checked_keeps (at_line number page) list)
        (pulled s.groups.now.categories s.pending)
