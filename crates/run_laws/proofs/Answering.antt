-- What comes of an answer other than one by which a token is wanted.
use Rattle.std.proofs.Common.{◌≡◌, ℕ, ℤ, zero, suc, List, [], ◌∷◌, ◌++◌, map, slice_index_or, Bool, true, false, refl, sym, subst}
use Rattle.std.specs.Prelude.{Option, Some, None, pos}
use Rattle.std.specs.Ordering.{int_eq}
use Rattle.tex_syntax.specs.declared.words.Want.TheVariants.{Copied}
use Rattle.tex_syntax.specs.declared.words.Report.{Report}
use Rattle.tex_syntax.specs.declared.words.Report.TheVariants as reports
use Rattle.tex_syntax.specs.declared.words.Outcome.TheVariants.{AtFatal}
use Rattle.tex_defs.specs.declared.Fatal.TheVariants.{NoFile}
use Rattle.tex_defs.specs.declared.Name.{Name}
use Rattle.tex_defs.specs.declared.Seen.{Seen}
use Rattle.tex_defs.specs.declared.Token.{Token}
use Rattle.tex_defs.specs.Places.{Transcript}
use Rattle.command_words.specs.Words.{file_name}
use Rattle.conditionals.specs.Choices as choices
use Rattle.conditionals.specs.Open.{above_sought}
use Rattle.conditionals.specs.Same.{same_meaning}
use Rattle.conditionals.specs.declared.choice.Value.TheVariants.{Truth}
use Rattle.equivalents.specs.Cases.{case_codes, case_changed}
use Rattle.equivalents.specs.First.{magnification}
use Rattle.equivalents.specs.Locations.{SeenValue, value_seen}
use Rattle.equivalents.specs.Parameters.{integer_in}
use Rattle.equivalents.specs.Tables.{get}
use Rattle.equivalents.specs.declared.values.Loc.{Loc}
use Rattle.equivalents.specs.declared.values.Val.TheVariants as val
use Rattle.plain_state.specs.Reports.{string_text, emergency, no_file_line}
use Rattle.plain_tokens.specs.Arguments.{are_same}
use Rattle.plain_tokens.specs.Meanings.{meaning_to_let}
use Rattle.plain_tokens.specs.Numerals.{whole_number, roman}
use Rattle.plain_tokens.specs.Puts.{Item, Put as PutList, call_put, list_put}
use Rattle.plain_tokens.specs.Tokens.{character_codes}
use Rattle.rows.specs.Arithmetic.{value_computed}
use Rattle.rows.specs.Internal.{value_text}
use Rattle.rows.specs.Readings.{Fed, Noted, Fetched, Verbatim, Ask, More, Inner, Done, Acts, ActsOn, Defines, Ends as Closes, Calls, Fails, RunsAway, Tells, Inserts, Puts, Relaxes, Fetches, Magnifies}
use Rattle.rows.specs.declared.command.Call.{Call}
use Rattle.rows.specs.declared.command.Effect.{Effect}
use Rattle.rows.specs.declared.command.Effect.TheVariants as effect
use Rattle.rows.specs.declared.words.Phrase.{Phrase}
use Rattle.rows.specs.declared.words.Phrase.TheVariants.{Command}
use Rattle.rows.specs.declared.words.Value.{Value}
use Rattle.plain_readings.specs.Calls.{call_ask, gathered, arguments}
use Rattle.plain_tokens.specs.Arguments as call
use Rattle.plain_readings.specs.Laws.{Comes, EndsAs}
use Rattle.plain_readings.specs.Readings.{Kind, Reads, Arguments, Behind, Reading, ask, lists, fed_with, opened}
use Rattle.plain_readings.specs.Scanning.{Scanning, Builds, scanning}
use Rattle.plain_readings.proofs.Entering.{enters}
use Rattle.plain_readings.proofs.Lower.{no_command}
use Rattle.plain_readings.proofs.Values.{values}
use Rattle.plain_machine.specs.States.{State, Files, Move, Spelt, NameInProgress, ListsEnded, FileOpened, Set, Assigned, Ended as Ends, Closed, Written, Stopped}
use Rattle.plain_machine.specs.Plan.{Page, page_of, style_of, reported, put_one, put_inserted, put_text, put_characters, given_back, report_noted, noting, noting_kind, inner_begun, value_tokens, done, arguments_put, called_with, failed, failed_away, away_text, page_behind, and_closed, command, chosen, reached, behind_assignment, assigned, kept_for_group, computed_to, number_or_glue, is_global, meaning_characters, tokens_meant, short_meaning, acts, tokens_entered, list_given, list_number, put_body, copies, is_copying, acts_above, list_set, macro_defined, name_made, acts_on, unless_found, input_begun, acts_in, is_magnification, magnification_set, legal_or_not, compared, answered}
use Rattle.run_laws.proofs.InTurn.{HasValue, HasNone, IsNoCall, AsksInner, WaitsInTurn, Rested, Ended, fed_stand, begun_stand, inner_stand, lent_stand, ended_stand, valued_stand}
use Rattle.run_laws.proofs.Keeping.{Keeps, Calm, calm_join, Begins, one_of, calm_keeps, behind_keeps, reported_keeps, begins_keeps}
use Rattle.run_laws.proofs.Expanding.{back_calm, text_calm, characters_calm, inserted_calm, behind_assignment_calm, kept_for_group_calm, made_name_calm, body_begins, command_begins, chosen_begins, reached_begins, expanded_holds}
use Rattle.run_laws.proofs.Feeding.{grown_and_fed_keeps}

-- CALLS begin no reading
abbrev IsNoInner : Ask → Type 0
IsNoInner (Inner k begins) = ⊥
IsNoInner a = Unit {0}

call_no_inner : (name : Name) (a : call.Answer) → IsNoInner (call_ask name a)
call_no_inner name (call.Ended true args work) = tt
call_no_inner name (call.Ended false args work) = tt
call_no_inner name a = tt

arguments_no_inner : (name : Name) (long : Bool) (ts : List Token) (fed : List Fed) → IsNoInner (arguments name long ts fed)
arguments_no_inner name long ts [] = tt
arguments_no_inner name long ts (y ∷ fed) = call_no_inner name (gathered long ts (y ∷ fed))

inner_no_call : (k : Kind) (fed : List Fed) (j : Phrase) (begins : Bool) → ask k fed ≡ Inner j begins → IsNoCall k
inner_no_call (Arguments name long number ts) fed j begins e = absurd (subst IsNoInner e (arguments_no_inner name long ts fed))
inner_no_call k fed j begins e = tt

-- WHICH READINGS END SO

-- an answer by which a reading ends without a value
abbrev Closing : Ask → Type 0
Closing (Acts c e) = Unit {0}
Closing (ActsOn c e ts) = Unit {0}
Closing (Defines c n ts) = Unit {0}
Closing Closes = Unit {0}
Closing (Calls args) = Unit {0}
Closing (Fails report) = Unit {0}
Closing (RunsAway report) = Unit {0}
Closing a = ⊥

closing_none : (k : Kind) (held : List (List Token)) (a : Ask) → EndsAs k held a → Closing a → HasNone k
closing_none (Reads (Command d)) held a e c = tt
closing_none (Reads k) held (Acts d f) e c = absurd e
closing_none (Reads k) held (ActsOn d f ts) e c = absurd e
closing_none (Reads k) held (Defines d n ts) e c = absurd e
closing_none (Reads k) held Closes e c = absurd e
closing_none (Reads k) held (Calls args) e c = absurd e
closing_none (Reads k) held (Fails report) e c = absurd e
closing_none (Reads k) held (RunsAway report) e c = absurd e
closing_none (Reads k) held a e c = absurd c
closing_none k held a e c = tt

done_value : (k : Kind) (held : List (List Token)) (v : Value) (back : Bool) → EndsAs k held (Done v back) → HasValue k
done_value (Reads (Command c)) held v back e = absurd e
done_value (Reads k) held v back e = tt
done_value k held v back e = absurd e

-- LISTS THAT ENTER a text, which asks for more of it

copied_is : (a : Ask) → copies a ≡ true → a ≡ More Copied
copied_is (More Copied) e = refl
copied_is (More want) e = absurd cc
copied_is a e = absurd cc

copied_comes : (a : Ask) (y : Fed) → a ≡ More Copied → Comes a y
copied_comes a y e = subst (λ (a : Ask). Comes a y) (sym e) tt

module _ (rs : List Reading) (last : Seen) where
  entered_keep : (ts : List Token) (q : Reading) → WaitsInTurn (q ∷ rs) last → ask q.kind q.fed ≡ More Copied → Keeps (tokens_entered ts) (q ∷ rs) last
  entered_keep [] q h e = h
  entered_keep (t ∷ ts) q h e =
      (h, entered_keep ts (record { kind = q.kind; fed = q.fed ++ Verbatim t ∷ [] }) (fed_stand (Verbatim t) q rs last (copied_comes (ask q.kind q.fed) (Verbatim t) e) h) (enters q.kind q.fed t e).copies)

copied_keep : (ts : List Token) (work : List Reading) (last : Seen) → WaitsInTurn work last → is_copying work ≡ true → Keeps (tokens_entered ts) work last
copied_keep ts [] last h e = absurd cc
copied_keep ts (q ∷ qs) last h e = entered_keep qs last ts q h (copied_is (ask q.kind q.fed) e)

given_keeps : (page : Page) (work : List Reading) (last : Seen) (b : Bool) (o : Option ℕ) → is_copying work ≡ b → WaitsInTurn work last → Rested work → Keeps (list_given page b o) work last
given_keeps page work last b None e h rest = h
given_keeps page work last true (Some number) e h rest = copied_keep (slice_index_or page.all_lists number []) work last h e
given_keeps page work last false (Some number) e h rest =
    let p : PutList = list_put number (slice_index_or page.all_lists number []) in
    begins_keeps work last h rest (put_body p) (body_begins p p.items)

-- THE INNERMOST READING
module _ (r : Reading) (rs : List Reading) (last : Seen) (h : WaitsInTurn (r ∷ rs) last) where
  abbrev Kept : List Move → Type 0
  Kept ms = Keeps ms (r ∷ rs) last

  report_kept : (page : Page) (report : Report) (rest : List Move) → Kept rest → Kept (reported page report rest)
  report_kept page report rest i = reported_keeps page report rest (r ∷ rs) last h i

  -- it is fed with a note
  module _ (i : WaitsInTurn (fed_with Noted (r ∷ rs)) last) where
    noting_keeps : (k : Kind) (fed : List Fed) → Kept (noting_kind k fed)
    noting_keeps (Arguments name long number ts) fed = (h, i)
    noting_keeps k fed = grown_and_fed_keeps k fed Noted (r ∷ rs) last h i

    noted : Kept (noting r)
    noted = noting_keeps r.kind r.fed

    told_keeps : (page : Page) (report : Report) (inserted : Option Token) (back : Bool) → Kept (report_noted page report inserted back r)
    told_keeps page report inserted back =
        calm_keeps (given_back back page.last) (put_inserted inserted ++ reported page report (noting r)) (r ∷ rs) last (back_calm back page.last)
        (calm_keeps (put_inserted inserted) (reported page report (noting r)) (r ∷ rs) last (inserted_calm inserted) (report_kept page report (noting r) noted))

    -- once the magnification is checked
    legal_keeps : (page : Page) (n : ℤ) (legal : Bool) → Kept (legal_or_not page n legal (noting r))
    legal_keeps page n true = noted
    legal_keeps page n false = report_kept page (reports.IllegalMagnification n) (magnification_set 1000 (noting r)) noted

    compared_keeps : (page : Page) (n : ℤ) (mag : ℕ) → Kept (compared page n mag (noting r))
    compared_keeps page n zero = legal_keeps page n (is_magnification n)
    compared_keeps page n (suc m) =
        let set : List Move = magnification_set (suc m) (noting r) in
        let report : Report = reports.IncompatibleMagnification n (suc m) in
        one_of Kept (int_eq n (pos (suc m))) (noting r) (reported page report set) noted (report_kept page report set noted)

  -- it begins another
  command_value : (j : Phrase) (begins : Bool) → ask r.kind r.fed ≡ Inner j begins → HasValue (Reads j)
  command_value (Command c) begins e = absurd (no_command r.kind r.fed c begins e)
  command_value j begins e = tt

  inner_asked : (j : Phrase) (begins : Bool) → ask r.kind r.fed ≡ Inner j begins → AsksInner (ask r.kind r.fed)
  inner_asked j begins e = subst AsksInner (sym e) tt

  inner_keeps : (j : Phrase) (begins : Bool) → ask r.kind r.fed ≡ Inner j begins → Kept (inner_begun (Reads j) begins)
  inner_keeps j true e = (h, lent_stand j r rs last (command_value j true e) (inner_asked j true e) (inner_no_call r.kind r.fed j true e) h)
  inner_keeps j false e = (h, inner_stand (Reads j) r rs last (command_value j false e) tt (inner_asked j false e) (inner_no_call r.kind r.fed j false e) h)

  -- it ends with a value
  done_keeps : (page : Page) (v : Value) (back : Bool) → HasValue r.kind → Kept (done page r v back)
  done_keeps page v back value =
      let ts : List Token = value_tokens v (lists r.kind r.fed) in
      calm_keeps (given_back back page.last) (Ends v ts ∷ []) (r ∷ rs) last (back_calm back page.last) (h, valued_stand r.kind v ts rs last value h.1)

  -- IT ENDS without one
  module _ (i : WaitsInTurn rs last) (rest : Rested rs) where
    closed : Kept (Closed ∷ [])
    closed = (h, i)

    then_begins : (ms : List Move) → Begins false ms → Kept (Closed ∷ ms)
    then_begins ms g = (h, begins_keeps rs last i rest ms g)

    closed_behind : (ms : List Move) → Calm ms → Kept (and_closed ms)
    closed_behind ms calm = calm_keeps ms (Closed ∷ []) (r ∷ rs) last calm closed

    -- the token that is kept for the next assignment, behind its end
    behind_assigned : (o : Option Token) → Keeps (behind_assignment o) rs last
    behind_assigned None = i
    behind_assigned (Some t) = i

    assigned_closed : (page : Page) (m : Move) → Calm (m ∷ []) → Kept (and_closed (assigned page m))
    assigned_closed page m calm = closed_behind (assigned page m) (calm_join (m ∷ []) (behind_assignment page.after) calm (behind_assignment_calm page.after))

    closed_assigned : (page : Page) (m : Move) → Calm (m ∷ []) → Kept (Closed ∷ assigned page m)
    closed_assigned page m calm = (h, calm_keeps (m ∷ []) (behind_assignment page.after) rs last calm (behind_assigned page.after))

    computed_keeps : (page : Page) (c : Call) (l : Loc) (o : Option SeenValue) → Kept (computed_to page c l o)
    computed_keeps page c l (Some v) = assigned_closed page (Set (is_global page c) l (number_or_glue v)) tt
    computed_keeps page c l None =
        report_kept page reports.ArithmeticOverflow (and_closed (behind_assignment page.after)) (closed_behind (behind_assignment page.after) (behind_assignment_calm page.after))

    future_keeps : (page : Page) (x y : Token) (m : Move) → Calm (m ∷ []) → Kept (and_closed (put_one y ++ (put_one x ++ assigned page m)))
    future_keeps page x y m calm =
        closed_behind (put_one y ++ (put_one x ++ assigned page m)) (calm_join (m ∷ []) (behind_assignment page.after) calm (behind_assignment_calm page.after))

    -- the token that waits is a reading of its own, above which the other is expanded
    behind_expanded_keeps : (page : Page) (c : Call) (x y : Seen) → Kept (acts page c (effect.ExpandBehind x y))
    behind_expanded_keeps page c x y =
        let waits : WaitsInTurn (opened (Behind c x) rs) last = begun_stand (Behind c x) rs last tt tt i rest in
        (h, (i, expanded_holds (λ ms. Keeps ms (opened (Behind c x) rs) last) (λ ms g. begins_keeps (opened (Behind c x) rs) last waits (tt, tt) ms g) page (put_one y.token) waits y))

    acts_keeps : (page : Page) (c : Call) (e : Effect) → Kept (acts page c e)
    acts_keeps page c (effect.Obey x) = then_begins (command page x.token x.meaning) (command_begins page x.token x.meaning)
    acts_keeps page c (effect.Let n x) = assigned_closed page (Assigned (is_global page c) n (meaning_to_let page.now.meanings x)) tt
    acts_keeps page c (effect.FutureLet n x y) = future_keeps page x.token y.token (Assigned (is_global page c) n (meaning_to_let page.now.meanings y)) tt
    acts_keeps page c (effect.SetNumber l value) = assigned_closed page (Set (is_global page c) l (val.Number value)) tt
    acts_keeps page c (effect.SetGlue l g) = assigned_closed page (Set (is_global page c) l (val.Skip g)) tt
    acts_keeps page c (effect.ShareList l m) = assigned_closed page (Set (is_global page c) l (get page.now m)) tt
    acts_keeps page c (effect.Compute operation l d) = computed_keeps page c l (value_computed operation l (value_seen (get page.now l)) d)
    acts_keeps page c (effect.Shorthand n meant) = assigned_closed page (Assigned (is_global page c) n (short_meaning meant)) tt
    acts_keeps page c effect.Unassigned = closed_behind (behind_assignment page.after) (behind_assignment_calm page.after)
    acts_keeps page c (effect.AfterGroup x) = closed_behind (kept_for_group page.group x.token) (kept_for_group_calm page.group x.token)
    acts_keeps page c (effect.ExpandBehind x y) = behind_expanded_keeps page c x y
    acts_keeps page c (effect.MakeNumber n) = closed_behind (put_characters (whole_number n)) (characters_calm (whole_number n))
    acts_keeps page c (effect.MakeRoman n) = closed_behind (put_characters (roman n)) (characters_calm (roman n))
    acts_keeps page c (effect.MakeString x) = closed_behind (put_characters (string_text (style_of page) x.token)) (characters_calm (string_text (style_of page) x.token))
    acts_keeps page c (effect.MakeMeaning x) = closed_behind (put_characters (meaning_characters page x)) (characters_calm (meaning_characters page x))
    acts_keeps page c (effect.MakeValue l) =
        let text : List ℕ = value_text l (value_seen (get page.now l)) in
        closed_behind (put_characters text) (characters_calm text)
    acts_keeps page c (effect.Choose v) = then_begins (chosen page c v) (chosen_begins page c v)
    acts_keeps page c (effect.Compare x y) =
        let v : Bool = same_meaning x.meaning y.meaning (are_same (tokens_meant page x) (tokens_meant page y)) in
        then_begins (chosen page c (Truth v)) (chosen_begins page c (Truth v))
    acts_keeps page c (effect.Reach a e) =
        then_begins (reached page c (choices.step a (above_sought a page.conditionals) e)) (reached_begins page c (choices.step a (above_sought a page.conditionals) e))
    acts_keeps page c e = closed

    acts_above_keeps : (page : Page) (c : Call) (e : Effect) → Kept (acts_above rs page c e)
    acts_above_keeps page c (effect.PutList l) = (h, given_keeps page rs last (is_copying rs) (list_number page l) refl i rest)
    acts_above_keeps page c e = acts_keeps page c e

    list_set_keeps : (page : Page) (c : Call) (l : Loc) (ts : List Token) → Kept (list_set page c l ts)
    list_set_keeps page c l [] = closed_assigned page (Set (is_global page c) l (val.Tokens None)) tt
    list_set_keeps page c l (t ∷ ts) = (h, behind_assigned page.after)

    defined_keeps : (page : Page) (c : Call) (n : Name) (ts : List Token) → Kept (macro_defined page c n ts)
    defined_keeps page c n [] = closed
    defined_keeps page c n (t ∷ ts) = (h, behind_assigned page.after)

    acts_on_keeps : (page : Page) (c : Call) (e : Effect) (ts : List Token) → Kept (acts_on page c e ts)
    acts_on_keeps page c effect.ErrorMessage ts = behind_keeps (style_of page) page.reports (Closed ∷ []) (r ∷ rs) last h closed
    acts_on_keeps page c effect.MakeName ts = closed_behind (name_made page (character_codes ts)) (made_name_calm page (character_codes ts))
    acts_on_keeps page c (effect.SetList l) ts = list_set_keeps page c l ts
    acts_on_keeps page c (effect.ChangeCase upper) ts =
        let changed : List Token = map (case_changed (case_codes upper page.now)) ts in
        closed_behind (put_text changed) (text_calm changed)
    acts_on_keeps page c e ts = closed

    -- `\input`: a file is opened by its name
    unless_keeps : (page : Page) (name : List ℕ) (o : Option (List ℕ)) → Keeps (unless_found page name o) rs last
    unless_keeps page name (Some bytes) = i
    unless_keeps page name None =
        behind_keeps (style_of page) page.reports (Written Transcript (emergency (style_of page) ++ no_file_line (style_of page)) ∷ Stopped (AtFatal NoFile) ∷ []) rs last i i

    input_keeps : (files : Files) (page : Page) (back : Bool) (name : List ℕ) → Kept (input_begun files page back name)
    input_keeps files page back name =
        let opens : List Move = Spelt name ∷ Closed ∷ NameInProgress false ∷ ListsEnded ∷ FileOpened name ∷ unless_found page name (files 0 name) in
        calm_keeps (given_back back page.last) opens (r ∷ rs) last (back_calm back page.last) (h, unless_keeps page name (files 0 name))

    acts_in_keeps : (files : Files) (page : Page) (c : Call) (e : Effect) (ts : List Token) → Kept (acts_in files page c e ts)
    acts_in_keeps files page c (effect.StartInput back) ts = input_keeps files page back (file_name (character_codes ts))
    acts_in_keeps files page c e ts = acts_on_keeps page c e ts

    -- calls
    put_keeps : (p : PutList) (items : List Item) → Kept (arguments_put p items)
    put_keeps p [] = closed
    put_keeps p (x ∷ xs) = (h, i)

    called_keeps : (k : Kind) (args : List (List Token)) → Kept (called_with k args)
    called_keeps (Arguments name long number ts) args = put_keeps (call_put number ts args) (call_put number ts args).items
    called_keeps k args = closed

    failed_keeps : (page : Page) (report : Report) → Kept (failed page report)
    failed_keeps page report = report_kept page report (Closed ∷ []) closed

    away_keeps : (page : Page) (report : Report) (o : Option Scanning) → Kept (failed_away page report o)
    away_keeps page report None = failed_keeps page report
    away_keeps page report (Some (Builds what name list)) = failed_keeps (page_behind page (away_text page what list)) report
    away_keeps page report (Some s) = failed_keeps page report

-- THE ANSWER
module _ (s : State) (r : Reading) (rs : List Reading) (h : WaitsInTurn (r ∷ rs) s.last) where
  noted_stand : (a : Ask) → ask r.kind r.fed ≡ a → Comes a Noted → WaitsInTurn (fed_with Noted (r ∷ rs)) s.last
  noted_stand a e c = fed_stand Noted r rs s.last (subst (λ (a : Ask). Comes a Noted) (sym e) c) h

  ends_so : (a : Ask) → ask r.kind r.fed ≡ a → EndsAs r.kind (lists r.kind r.fed) a
  ends_so a e = subst (EndsAs r.kind (lists r.kind r.fed)) e (values r.kind r.fed)

  ended : (a : Ask) → ask r.kind r.fed ≡ a → Closing a → Ended rs s.last
  ended a e c = ended_stand r.kind rs s.last (closing_none r.kind (lists r.kind r.fed) a (ends_so a e) c) h.1

  -- no token is wanted
  abbrev pub WantsNone : Ask → Type 0
  WantsNone (More want) = ⊥
  WantsNone a = Unit {0}

  pub answered_keeps : (a : Ask) → WantsNone a → ask r.kind r.fed ≡ a → Keeps (answered s (r ∷ rs) r a) (r ∷ rs) s.last
  answered_keeps (More want) n e = absurd n
  answered_keeps (Inner j begins) n e = inner_keeps r rs s.last h j begins e
  answered_keeps (Done v back) n e = done_keeps r rs s.last h (page_of s) v back (done_value r.kind (lists r.kind r.fed) v back (ends_so (Done v back) e))
  answered_keeps (Acts c f) n e = let x = ended (Acts c f) e tt in acts_above_keeps r rs s.last h x.stand x.rested (page_of s) c f
  answered_keeps (ActsOn c f ts) n e = let x = ended (ActsOn c f ts) e tt in acts_in_keeps r rs s.last h x.stand x.rested s.files (page_of s) c f ts
  answered_keeps (Defines c m ts) n e = let x = ended (Defines c m ts) e tt in defined_keeps r rs s.last h x.stand x.rested (page_of s) c m ts
  answered_keeps Closes n e = let x = ended Closes e tt in (h, x.stand)
  answered_keeps (Calls args) n e = let x = ended (Calls args) e tt in called_keeps r rs s.last h x.stand x.rested r.kind args
  answered_keeps (Fails report) n e = let x = ended (Fails report) e tt in failed_keeps r rs s.last h x.stand x.rested (page_of s) report
  answered_keeps (RunsAway report) n e = let x = ended (RunsAway report) e tt in away_keeps r rs s.last h x.stand x.rested (page_of s) report (scanning (r ∷ rs) s.gathered)
  answered_keeps (Tells report back) n e = told_keeps r rs s.last h (noted_stand (Tells report back) e tt) (page_of s) report None back
  answered_keeps (Inserts t report back) n e = told_keeps r rs s.last h (noted_stand (Inserts t report back) e tt) (page_of s) report (Some t) back
  answered_keeps (Puts t more) n e = noted r rs s.last h (noted_stand (Puts t more) e tt)
  answered_keeps (Relaxes c m) n e = noted r rs s.last h (noted_stand (Relaxes c m) e tt)
  answered_keeps Magnifies n e = compared_keeps r rs s.last h (noted_stand Magnifies e tt) (page_of s) (integer_in s.groups.now magnification) s.mag_set
  answered_keeps (Fetches l) n e = (h, fed_stand (Fetched (value_seen (get s.groups.now l))) r rs s.last (subst (λ (a : Ask). Comes a (Fetched (value_seen (get s.groups.now l)))) (sym e) tt) h)
