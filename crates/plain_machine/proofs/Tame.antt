-- The moves of a rule behind its pull: none of them pulls, and text begins to be skipped by the last of them, if by any.
use Rattle.std.proofs.Common.{ℕ, ℤ, zero, suc, List, [], ◌∷◌, ◌++◌, length, drop, map, slice_index_or, Bool, true, false}
use Rattle.prim_table.specs.Primitives.{is_expanded, is_in_row}
use Rattle.prim_table.specs.declared.Class.TheVariants as class
use Rattle.std.specs.Prelude.{Option, Some, None, if◌then◌else◌, ◌||◌, nat_eq, nat_lt, pos}
use Rattle.std.specs.Ordering.{int_eq}
use Rattle.tex_syntax.specs.declared.words.Want.{Want}
use Rattle.tex_syntax.specs.declared.words.Want.TheVariants.{Raw, Unentered, Expanded, Copied, Nonblank, Command}
use Rattle.tex_syntax.specs.declared.words.Outcome.TheVariants.{Finished, AtFatal}
use Rattle.tex_syntax.specs.declared.words.Scanned.{Scanned}
use Rattle.tex_syntax.specs.declared.words.Report.{Report}
use Rattle.tex_syntax.specs.declared.words.Scanned.TheVariants as scanned
use Rattle.tex_syntax.specs.declared.words.Report.TheVariants as reports
use Rattle.tex_defs.specs.declared.Seen.{Seen}
use Rattle.tex_defs.specs.declared.Meaning.{Meaning}
use Rattle.tex_defs.specs.declared.Meaning.TheVariants as means
use Rattle.tex_defs.specs.declared.RegisterKind.{RegisterKind}
use Rattle.tex_defs.specs.declared.Token.{Token}
use Rattle.tex_defs.specs.declared.Token.TheVariants as token
use Rattle.tex_defs.specs.declared.Fatal.TheVariants.{HundredErrors}
use Rattle.tex_defs.specs.Places.{Transcript}
use Rattle.tex_defs.specs.declared.Name.{Name}
use Rattle.plain_tokens.specs.Categories.{begin_group, end_group}
use Rattle.plain_tokens.specs.Names.{name_of, means_relax, relax_primitive, end_primitive}
use Rattle.plain_tokens.specs.Tokens.{is_space, is_outer, is_undefined, space_token, made_text, character_codes}
use Rattle.plain_tokens.specs.Numerals.{whole_number, roman}
use Rattle.plain_tokens.specs.Meanings.{fi_primitive, name_meaning, seen_as, met as met_token, meaning_to_let}
use Rattle.plain_tokens.specs.Printed.{Style}
use Rattle.plain_tokens.specs.Puts.{Item, Put as PutList, call_put, list_put}
use Rattle.plain_tokens.specs.Arguments.{are_same, has_parameters, arguments_in, work_in}
use Rattle.plain_tokens.specs.Arguments as call
use Rattle.conditionals.specs.declared.choice.Aim.{Aim}
use Rattle.conditionals.specs.declared.choice.Value.{Value as TestValue}
use Rattle.conditionals.specs.declared.choice.Value.TheVariants.{Truth}
use Rattle.conditionals.specs.declared.choice.End.{End}
use Rattle.conditionals.specs.declared.choice.End.TheVariants as ending
use Rattle.conditionals.specs.declared.choice.Passing.{Passing}
use Rattle.conditionals.specs.declared.choice.Passing.TheVariants as passing
use Rattle.conditionals.specs.declared.choice.Step.{Step}
use Rattle.conditionals.specs.declared.choice.Step.TheVariants as step
use Rattle.conditionals.specs.declared.limits.Limit.{Limit}
use Rattle.conditionals.specs.declared.limits.Met.{Met}
use Rattle.conditionals.specs.declared.limits.Met.TheVariants as limited
use Rattle.conditionals.specs.declared.open.Conditional.{Conditional}
use Rattle.conditionals.specs.declared.skip.Ender.{Ender}
use Rattle.conditionals.specs.declared.skip.Ender.TheVariants.{Fi, Else, Or}
use Rattle.conditionals.specs.Choices as choices
use Rattle.conditionals.specs.Limits as limits
use Rattle.conditionals.specs.Open.{limit_of, innermost_test, above_sought, constant_test}
use Rattle.conditionals.specs.Skipping.{else_primitive, or_primitive, ender_number}
use Rattle.conditionals.specs.Same.{same_meaning}
use Rattle.save_stack.specs.declared.GroupKind.{GroupKind}
use Rattle.save_stack.specs.declared.GroupKind.TheVariants.{Simple, SemiSimple}
use Rattle.equivalents.specs.declared.values.Loc.{Loc}
use Rattle.equivalents.specs.declared.values.Val.TheVariants as val
use Rattle.equivalents.specs.Cases.{case_codes, case_changed}
use Rattle.equivalents.specs.First.{magnification}
use Rattle.equivalents.specs.Locations.{SeenValue, value_seen}
use Rattle.equivalents.specs.Parameters.{integer_in}
use Rattle.equivalents.specs.Tables.{get}
use Rattle.plain_state.specs.Reports.{string_text, hundred_line, token_line_bytes}
use Rattle.rows.specs.declared.command.Head.TheVariants.{Primitive, Register}
use Rattle.rows.specs.declared.command.Call.{Call}
use Rattle.rows.specs.declared.command.Effect.{Effect}
use Rattle.rows.specs.declared.command.Effect.TheVariants as effect
use Rattle.rows.specs.declared.words.Value.{Value}
use Rattle.rows.specs.declared.words.Phrase.{Phrase}
use Rattle.rows.specs.Table.{has_row}
use Rattle.rows.specs.Arithmetic.{value_computed}
use Rattle.rows.specs.Internal.{value_text}
use Rattle.rows.specs.Readings.{Fed, Tok, Noted, Ask, More, Inner, Done, Acts, ActsOn, Defines, Ends as Closes, Calls, Fails, RunsAway, Tells, Inserts, Puts, Relaxes, Fetches, Magnifies}
use Rattle.plain_readings.specs.Calls.{gathered}
use Rattle.plain_readings.specs.Spelling.{endcsname_primitive}
use Rattle.plain_readings.specs.Readings.{Kind, Reads, Spelling, FileName, Skips, Arguments, Reading, lists}
use Rattle.plain_readings.specs.Scanning.{Scanning, Builds, SkippedText, scanning}
use Rattle.plain_machine.specs.States.{State, Move, Handed, Taken, FirstTaken, Skipped, FileClosed, FileEnds, FileOpened, NameInProgress, Grows, Feeds, Completed, ListGrown, Set, Assigned, Defined, ListSet, GroupOpened, Begun, BegunWith, Ended, Closed, Written, Stopped}
use Rattle.plain_machine.specs.Plan.{Page, page_of, style_of, met, met_outer, entered, checked, cut_or_not, ran_away, incomplete, away_text, page_behind, reported, reported_as, behind_report, reports_room, report_noted, put_inserted, put_one, put_made, put_text, put_characters, noting, noting_kind, token_line, conditionals_left, finish, command, register, primitive, call_of, begun, csname_primitive, jobname_primitive, input_primitive, endinput_primitive, input_met, frozen_relax, skips, limited_or_skips, chosen, conditional_begun, ender_comes, ender_met, conditional_met, job_in, expansion, begingroup_primitive, endgroup_primitive, put_each, group_ended, brace_met, endgroup_met, character, unless_expanded, called, called_meaning, called_list, put_body, body_put, stomach, wanted, expanded, expanded_as, feeding_kind, grown_and_fed, first_list, grown_to, opened, in_place, argument_fed, call_fed, inner_begun, given_back, value_tokens, done, arguments_put, called_with, failed, failed_away, is_global, behind_assignment, assigned, kept_for_group, computed_to, short_meaning, passed, ended_by, reached, acts, tokens_entered, list_given, is_copying, list_number, acts_above, list_set, acts_on, acts_in, and_closed, meaning_characters, tokens_meant, macro_defined, name_made, relax_if_undefined, spelt, newly_spelt, answered, number_or_glue, is_magnification, magnification_set, legal_or_not, compared}

-- MOVES OF A RULE BEHIND ITS PULL: they pull nothing, and text begins to be skipped by their last move, if by any.
abbrev pub Tame : List Move → Type 0
Tame [] = Unit {0}
Tame (Handed t ∷ ms) = ⊥
Tame (Taken line ∷ ms) = ⊥
Tame (FirstTaken line ∷ ms) = ⊥
Tame (Skipped ∷ ms) = ⊥
Tame (FileClosed ∷ ms) = ⊥
Tame (FileOpened name ∷ ms) = ⊥
Tame (Begun (Skips c a line) ∷ []) = Unit {0}
Tame (Begun (Skips c a line) ∷ m ∷ ms) = ⊥
Tame (BegunWith (Skips c a line) ∷ ms) = ⊥
Tame (m ∷ ms) = Tame ms

-- and no reading begins by them
abbrev pub Flat : List Move → Type 0
Flat [] = Unit {0}
Flat (Handed t ∷ ms) = ⊥
Flat (Taken line ∷ ms) = ⊥
Flat (FirstTaken line ∷ ms) = ⊥
Flat (Skipped ∷ ms) = ⊥
Flat (FileClosed ∷ ms) = ⊥
Flat (FileOpened name ∷ ms) = ⊥
Flat (Begun k ∷ ms) = ⊥
Flat (BegunWith k ∷ ms) = ⊥
Flat (m ∷ ms) = Flat ms

-- moves behind one another
pub joined : (xs ys : List Move) → Flat xs → Tame ys → Tame (xs ++ ys)
joined [] ys h i = i
joined (Handed t ∷ xs) ys h i = absurd h
joined (Taken line ∷ xs) ys h i = absurd h
joined (FirstTaken line ∷ xs) ys h i = absurd h
joined (Skipped ∷ xs) ys h i = absurd h
joined (FileClosed ∷ xs) ys h i = absurd h
joined (FileOpened name ∷ xs) ys h i = absurd h
joined (Begun k ∷ xs) ys h i = absurd h
joined (BegunWith k ∷ xs) ys h i = absurd h
joined (m ∷ xs) ys h i = joined xs ys h i

flat_join : (xs ys : List Move) → Flat xs → Flat ys → Flat (xs ++ ys)
flat_join [] ys h i = i
flat_join (Handed t ∷ xs) ys h i = absurd h
flat_join (Taken line ∷ xs) ys h i = absurd h
flat_join (FirstTaken line ∷ xs) ys h i = absurd h
flat_join (Skipped ∷ xs) ys h i = absurd h
flat_join (FileClosed ∷ xs) ys h i = absurd h
flat_join (FileOpened name ∷ xs) ys h i = absurd h
flat_join (Begun k ∷ xs) ys h i = absurd h
flat_join (BegunWith k ∷ xs) ys h i = absurd h
flat_join (m ∷ xs) ys h i = flat_join xs ys h i

pub flat_tame : (ms : List Move) → Flat ms → Tame ms
flat_tame [] h = tt
flat_tame (Handed t ∷ ms) h = absurd h
flat_tame (Taken line ∷ ms) h = absurd h
flat_tame (FirstTaken line ∷ ms) h = absurd h
flat_tame (Skipped ∷ ms) h = absurd h
flat_tame (FileClosed ∷ ms) h = absurd h
flat_tame (FileOpened name ∷ ms) h = absurd h
flat_tame (Begun k ∷ ms) h = absurd h
flat_tame (BegunWith k ∷ ms) h = absurd h
flat_tame (m ∷ ms) h = flat_tame ms h

tame_if : (b : Bool) (x y : List Move) → Tame x → Tame y → Tame (if b then x else y)
tame_if true x y h i = h
tame_if false x y h i = i

-- PLAIN MOVES

pub back_flat : (back : Bool) (last : Seen) → Flat (given_back back last)
back_flat false last = tt
back_flat true last = tt

-- a text that is put in front
grown_texts_flat : (ts : List Token) → Flat (map ListGrown ts)
grown_texts_flat [] = tt
grown_texts_flat (t ∷ ts) = grown_texts_flat ts

made_flat : (ts : List Token) → Flat (put_made ts)
made_flat [] = tt
made_flat (t ∷ ts) = tt

pub text_flat : (ts : List Token) → Flat (put_text ts)
text_flat ts = flat_join (map ListGrown ts) (put_made ts) (grown_texts_flat ts) (made_flat ts)

characters_flat : (characters : List ℕ) → Flat (put_characters characters)
characters_flat characters = text_flat (made_text characters)

pub entered_flat : (names : List (List ℕ)) → Flat (entered names)
entered_flat [] = tt
entered_flat (name ∷ names) = tt

-- a list that grows
grown_flat : (ts : List Token) → Flat (map Grows ts)
grown_flat [] = tt
grown_flat (t ∷ ts) = grown_flat ts

inserted_flat : (o : Option Token) → Flat (put_inserted o)
inserted_flat None = tt
inserted_flat (Some t) = tt

-- the tokens behind a group, put in front one behind the other
each_flat : (ts : List Token) → Flat (put_each ts)
each_flat [] = tt
each_flat (t ∷ ts) = flat_join (put_one t) (put_each ts) tt (each_flat ts)

left_flat : (style : Style) (cs : List Conditional) → Flat (conditionals_left style cs)
left_flat style [] = tt
left_flat style (c ∷ cs) = left_flat style cs

-- behind an assignment
behind_assignment_flat : (after : Option Token) → Flat (behind_assignment after)
behind_assignment_flat None = tt
behind_assignment_flat (Some t) = tt

kept_for_group_flat : (kind : Option GroupKind) (t : Token) → Flat (kept_for_group kind t)
kept_for_group_flat None t = tt
kept_for_group_flat (Some kind) t = tt

-- a name that is spelt
relax_flat : (meanings : List (Meaning (Option ℕ))) (n : Name) → Flat (relax_if_undefined meanings n)
relax_flat meanings n = by (is_undefined (seen_as (name_meaning meanings n))) where
  by : (b : Bool) → Flat (if b then Assigned false n (means.Prim relax_primitive) ∷ [] else [])
  by true = tt
  by false = tt

made_name_flat : (page : Page) (characters : List ℕ) → Flat (name_made page characters)
made_name_flat page characters =
    let n : Name = spelt page.names characters in
    let front : List Move = put_one (token.Named n) in
    flat_join (entered (newly_spelt page.names characters)) (relax_if_undefined page.now.meanings n ++ front) (entered_flat (newly_spelt page.names characters))
    (flat_join (relax_if_undefined page.now.meanings n) front (relax_flat page.now.meanings n) tt)

-- REPORTS AND LISTS

pub behind_tame : (style : Style) (reports : ℕ) (rest : List Move) → Tame rest → Tame (behind_report style reports rest)
behind_tame style reports rest h = tame_if (nat_lt reports reports_room) rest (Written Transcript (hundred_line style) ∷ Stopped (AtFatal HundredErrors) ∷ []) h tt

pub reported_tame : (page : Page) (report : Report) (rest : List Move) → Tame rest → Tame (reported page report rest)
reported_tame page report rest h = behind_tame (style_of page) page.reports rest h

reported_as_tame : (page : Page) (ts : List Token) (rest : List Move) → Tame rest → Tame (reported_as page ts rest)
reported_as_tame page ts rest h = behind_tame (style_of page) page.reports rest h

line_tame : (page : Page) (m : Meaning Unit) → Tame (token_line page m)
line_tame page m = tame_if page.quiet [] (Written Transcript (token_line_bytes (style_of page) page.in_line m) ∷ []) tt tt

-- how a reading is fed
opened_tame : (o : Option (List Token)) → Tame (opened o)
opened_tame None = tt
opened_tame (Some work) = tt

place_tame : (x : Seen) (work : List Token) (complete : List (List Token)) (next : Option (List Token)) → Tame (in_place x work complete next)
place_tame x work (a ∷ more) next = joined (grown_to work a) (Feeds (Tok x) ∷ Completed a ∷ opened next) (grown_flat (drop (length work) a)) (opened_tame next)
place_tame x work [] None = tt
place_tame x work [] (Some after) = joined (grown_to work after) (Feeds (Tok x) ∷ []) (grown_flat (drop (length work) after)) tt

argument_tame : (x : Seen) (o : Option (List Token)) (complete : List (List Token)) (next : Option (List Token)) → Tame (argument_fed x o complete next)
argument_tame x None complete next = opened_tame next
argument_tame x (Some work) complete next = place_tame x work complete next

fed_tame : (k : Kind) (fed : List Fed) (y : Fed) → Tame (grown_and_fed k fed y)
fed_tame k fed y =
    let before : List Token = first_list (lists k fed) in
    let after : List Token = first_list (lists k (fed ++ y ∷ [])) in
    joined (grown_to before after) (Feeds y ∷ []) (grown_flat (drop (length before) after)) tt

call_fed_tame : (x : Seen) (before after : call.Answer) → Tame (call_fed x before after)
call_fed_tame x before after = argument_tame x (work_in before) (drop (length (arguments_in before)) (arguments_in after)) (work_in after)

pub kind_tame : (k : Kind) (fed : List Fed) (x : Seen) → Tame (feeding_kind k fed x)
kind_tame (Arguments name long number ts) fed x = call_fed_tame x (gathered long ts fed) (gathered long ts (fed ++ Tok x ∷ []))
kind_tame k fed x = fed_tame k fed (Tok x)

noting_kind_tame : (k : Kind) (fed : List Fed) → Tame (noting_kind k fed)
noting_kind_tame (Arguments name long number ts) fed = tt
noting_kind_tame k fed = fed_tame k fed Noted

noting_tame : (r : Reading) → Tame (noting r)
noting_tame r = noting_kind_tame r.kind r.fed

-- a macro's name
body_tame : (p : PutList) (items : List Item) → Tame (body_put p items)
body_tame p [] = tt
body_tame p (x ∷ xs) = tt

called_list_tame : (page : Page) (n : Name) (long : Bool) (o : Option ℕ) → Tame (called_list page n long o)
called_list_tame page n long None = tt
called_list_tame page n long (Some number) =
    let ts : List Token = slice_index_or page.all_lists number [] in
    tame_if (has_parameters ts) (Begun (Arguments n long number ts) ∷ []) (put_body (call_put number ts [])) tt (body_tame (call_put number ts []) (call_put number ts []).items)

called_meaning_tame : (page : Page) (n : Name) (m : Meaning (Option ℕ)) → Tame (called_meaning page n m)
called_meaning_tame page n (means.Macro long outer list) = called_list_tame page n long list
called_meaning_tame page n m = tt

pub called_tame : (page : Page) (t : Token) → Tame (called page t)
called_tame page t = called_meaning_tame page (name_of t) (name_meaning page.now.meanings (name_of t))

-- PRIMITIVES

ended_tame : (page : Page) → Tame (group_ended page)
ended_tame page = flat_tame (put_each page.tokens) (each_flat page.tokens)

brace_tame : (page : Page) (kind : Option GroupKind) → Tame (brace_met page kind)
brace_tame page None = reported_tame page reports.TooManyBraces [] tt
brace_tame page (Some Simple) = ended_tame page
brace_tame page (Some SemiSimple) = reported_tame page reports.ForgottenEndgroup [] tt

endgroup_tame : (page : Page) (t : Token) (kind : Option GroupKind) → Tame (endgroup_met page t kind)
endgroup_tame page t None = reported_tame page reports.ExtraEndgroup [] tt
endgroup_tame page t (Some SemiSimple) = ended_tame page
endgroup_tame page t (Some Simple) = reported_tame page reports.MissingRightBrace [] tt

character_tame : (page : Page) (category code : ℕ) → Tame (character page category code)
character_tame page category code =
    let line : List Move = token_line page (means.Char category code) in
    let closing : List Move = if nat_eq category end_group then brace_met page page.group else line in
    tame_if (nat_eq category begin_group) (GroupOpened Simple ∷ []) closing tt
    (tame_if (nat_eq category end_group) (brace_met page page.group) line (brace_tame page page.group) (line_tame page (means.Char category code)))

finish_tame : (page : Page) → Tame (finish page)
finish_tame page = joined (conditionals_left (style_of page) page.conditionals) (Stopped Finished ∷ []) (left_flat (style_of page) page.conditionals) tt

primitive_tame : (page : Page) (t : Token) (n : ℕ) → Tame (primitive page t n)
primitive_tame page t n =
    let line : List Move = token_line page (means.Prim n) in
    let extra : List Move = if nat_eq n endcsname_primitive then reported page reports.ExtraEndcsname [] else line in
    let closing : List Move = if nat_eq n endgroup_primitive then endgroup_met page t page.group else extra in
    let opening : List Move = if nat_eq n begingroup_primitive then GroupOpened SemiSimple ∷ [] else closing in
    let relax : List Move = if nat_eq n relax_primitive then [] else opening in
    let ending : List Move = if nat_eq n end_primitive then finish page else relax in
    tame_if (has_row (Primitive n)) (begun t (Primitive n)) ending tt
    (tame_if (nat_eq n end_primitive) (finish page) relax (finish_tame page)
    (tame_if (nat_eq n relax_primitive) [] opening tt
    (tame_if (nat_eq n begingroup_primitive) (GroupOpened SemiSimple ∷ []) closing tt
    (tame_if (nat_eq n endgroup_primitive) (endgroup_met page t page.group) extra (endgroup_tame page t page.group)
    (tame_if (nat_eq n endcsname_primitive) (reported page reports.ExtraEndcsname []) line (reported_tame page reports.ExtraEndcsname [] tt) (line_tame page (means.Prim n)))))))

input_tame : (page : Page) (t : Token) (c : Call) → Tame (input_met page t c)
input_tame page t c = tame_if page.naming (put_one t ++ put_one frozen_relax) (Begun (FileName c) ∷ NameInProgress true ∷ []) tt tt

-- conditionals
limited_tame : (page : Page) (c : Call) (a : Aim) (o : Option Limit) → Tame (limited_or_skips page c a o)
limited_tame page c a None = tt
limited_tame page c a (Some l) = tt

chosen_tame : (page : Page) (c : Call) (v : TestValue) → Tame (chosen page c v)
chosen_tame page c v = limited_tame page c (choices.aim v) (choices.start (choices.aim v))

begun_conditional_tame : (page : Page) (c : Call) (n : ℕ) (o : Option Bool) → Tame (conditional_begun page c n o)
begun_conditional_tame page c n None = tt
begun_conditional_tame page c n (Some truth) = chosen_tame page c (Truth truth)

ender_comes_tame : (page : Page) (t : Token) (c : Call) (e : Ender) (m : Met) → Tame (ender_comes page t c e m)
ender_comes_tame page t c e limited.RelaxBefore = tt
ender_comes_tame page t c e limited.Extra = reported_tame page (reports.ExtraFiOrElse (ender_number e)) [] tt
ender_comes_tame page t c e limited.SkipsToFi = tt
ender_comes_tame page t c e limited.Closes = tt

ender_tame : (page : Page) (t : Token) (c : Call) (e : Ender) → Tame (ender_met page t c e)
ender_tame page t c e = ender_comes_tame page t c e (limits.met (limit_of page.conditionals) e)

conditional_tame : (page : Page) (t : Token) (c : Call) (n : ℕ) → Tame (conditional_met page t c n)
conditional_tame page t c n =
    let begins : List Move = conditional_begun page c n (constant_test n) in
    let or : List Move = if nat_eq n or_primitive then ender_met page t c Or else begins in
    let others : List Move = if nat_eq n else_primitive then ender_met page t c Else else or in
    tame_if (nat_eq n fi_primitive) (ender_met page t c Fi) others (ender_tame page t c Fi)
    (tame_if (nat_eq n else_primitive) (ender_met page t c Else) or (ender_tame page t c Else)
    (tame_if (nat_eq n or_primitive) (ender_met page t c Or) begins (ender_tame page t c Or) (begun_conditional_tame page c n (constant_test n))))

pub expansion_tame : (page : Page) (t : Token) (n : ℕ) → Tame (expansion page t n)
expansion_tame page t n =
    let name : List Move = put_characters (job_in page.strings) in
    let job : List Move = begun t (Primitive n) ++ (name ++ Closed ∷ []) in
    let c : Call = call_of t (Primitive n) in
    let testing : List Move = if is_in_row class.Conditional n then conditional_met page t c n else begun t (Primitive n) in
    let ending : List Move = if nat_eq n endinput_primitive then FileEnds ∷ [] else testing in
    let beginning : List Move = if nat_eq n input_primitive then input_met page t c else ending in
    let others : List Move = if nat_eq n jobname_primitive then job else beginning in
    tame_if (nat_eq n csname_primitive) (Begun (Spelling c) ∷ []) others tt
    (tame_if (nat_eq n jobname_primitive) job beginning (joined name (Closed ∷ []) (characters_flat (job_in page.strings)) tt)
    (tame_if (nat_eq n input_primitive) (input_met page t c) ending (input_tame page t c)
    (tame_if (nat_eq n endinput_primitive) (FileEnds ∷ []) testing tt
    (tame_if (is_in_row class.Conditional n) (conditional_met page t c n) (begun t (Primitive n)) (conditional_tame page t c n) tt))))

unless_tame : (page : Page) (t : Token) (n : ℕ) (moves : List Move) → Tame moves → Tame (unless_expanded page t n moves)
unless_tame page t n moves h = tame_if (is_expanded n) (expansion page t n) moves (expansion_tame page t n) h

register_tame : (page : Page) (t : Token) (kind : RegisterKind) (number : ℕ) → Tame (register page t kind number)
register_tame page t kind number =
    tame_if (has_row (Register kind number)) (begun t (Register kind number)) (token_line page (means.Register kind number)) tt (line_tame page (means.Register kind number))

command_tame : (page : Page) (t : Token) (m : Meaning Unit) → Tame (command page t m)
command_tame page t (means.Prim n) = primitive_tame page t n
command_tame page t means.RelaxMarked = tt
command_tame page t means.Undefined = line_tame page means.Undefined
command_tame page t (means.Char category code) = character_tame page category code
command_tame page t (means.CharGiven code) = line_tame page (means.CharGiven code)
command_tame page t (means.MathGiven code) = line_tame page (means.MathGiven code)
command_tame page t (means.Register kind number) = register_tame page t kind number
command_tame page t (means.Macro long outer list) = line_tame page (means.Macro long outer list)

as_tame : (page : Page) (t : Token) (m : Meaning Unit) (moves : List Move) → Tame moves → Tame (expanded_as page t m moves)
as_tame page t means.Undefined moves h = reported_tame page reports.UndefinedName [] tt
as_tame page t (means.Macro long outer list) moves h = called_tame page t
as_tame page t (means.Prim n) moves h = unless_tame page t n moves h
as_tame page t m moves h = h

expanded_tame : (page : Page) (x : Seen) (moves : List Move) → Tame moves → Tame (expanded page x moves)
expanded_tame page x moves h = as_tame page x.token x.meaning moves h

pub stomach_tame : (page : Page) (x : Seen) → Tame (stomach page x)
stomach_tame page x = expanded_tame page x (command page x.token x.meaning) (command_tame page x.token x.meaning)

pub wanted_tame : (page : Page) (w : Want) (feeds : List Move) (x : Seen) → Tame feeds → Tame (wanted page w feeds x)
wanted_tame page Raw feeds x h = h
wanted_tame page Unentered feeds x h = h
wanted_tame page Expanded feeds x h = expanded_tame page x feeds h
wanted_tame page Copied feeds x h = expanded_tame page x feeds h
wanted_tame page Nonblank feeds x h = tame_if (is_space x) [] (expanded page x feeds) tt (expanded_tame page x feeds h)
wanted_tame page Command feeds x h = tame_if (is_space x || means_relax x.meaning) [] (expanded page x feeds) tt (expanded_tame page x feeds h)

-- checks
noted_tame : (what : Scanned) (rest : List Move) → Tame rest → Tame (cut_or_not what rest)
noted_tame scanned.Use rest h = h
noted_tame scanned.Definition rest h = h
noted_tame scanned.Text rest h = h

away_tame : (page : Page) (report : Report) (what : Scanned) (list : List Token) (rest : List Move) → Tame rest → Tame (ran_away page report what list rest)
away_tame page report what list rest h = reported_tame (page_behind page (away_text page what list)) report (cut_or_not what rest) (noted_tame what rest h)

incomplete_tame : (page : Page) (line : ℕ) (rest : List Move) → Tame rest → Tame (incomplete page line rest)
incomplete_tame page line rest h = reported_tame page (reports.IncompleteConditional (innermost_test page.conditionals) line) rest h

pub checked_tame : (page : Page) (o : Option Scanning) → Tame (checked page o)
checked_tame page None = tt
checked_tame page (Some (Builds what name list)) = away_tame page (reports.FileEnded what name) what list [] tt
checked_tame page (Some (SkippedText line)) = incomplete_tame page line [] tt

met_outer_tame : (page : Page) (o : Option Scanning) (t : Token) (onward : Seen → List Move) → ((x : Seen) → Tame (onward x)) → Tame (met_outer page o t onward)
met_outer_tame page None t onward h = h (met_token page.now.meanings t)
met_outer_tame page (Some (Builds what name list)) t onward h =
    let x : Seen = met_token page.now.meanings space_token in
    away_tame page (reports.Forbidden what name) what list (onward x) (h x)
met_outer_tame page (Some (SkippedText line)) t onward h =
    let x : Seen = met_token page.now.meanings space_token in
    incomplete_tame page line (onward x) (h x)

pub met_tame : (page : Page) (o : Option Scanning) (onward : Seen → List Move) (x : Seen) → ((x : Seen) → Tame (onward x)) → Tame (met page o onward x)
met_tame page o onward x h = tame_if (is_outer x.meaning) (met_outer page o x.token onward) (onward x) (met_outer_tame page o x.token onward h) (h x)

-- behind a token that was pulled from a line
pub lexeme_tame : (names : List (List ℕ)) (page : Page) (o : Option Scanning) (onward : Seen → List Move) (x : Seen) → ((x : Seen) → Tame (onward x)) → Tame (entered names ++ met page o onward x)
lexeme_tame names page o onward x h = joined (entered names) (met page o onward x) (entered_flat names) (met_tame page o onward x h)

-- WHAT COMES OF AN ANSWER

told_tame : (page : Page) (report : Report) (inserted : Option Token) (back : Bool) (r : Reading) → Tame (report_noted page report inserted back r)
told_tame page report inserted back r =
    joined (given_back back page.last) (put_inserted inserted ++ reported page report (noting r)) (back_flat back page.last)
    (joined (put_inserted inserted) (reported page report (noting r)) (inserted_flat inserted) (reported_tame page report (noting r) (noting_tame r)))

inner_tame : (k : Phrase) (begins : Bool) → Tame (inner_begun (Reads k) begins)
inner_tame k true = tt
inner_tame k false = tt

done_tame : (page : Page) (r : Reading) (v : Value) (back : Bool) → Tame (done page r v back)
done_tame page r v back = joined (given_back back page.last) (Ended v (value_tokens v (lists r.kind r.fed)) ∷ []) (back_flat back page.last) tt

put_tame : (p : PutList) (items : List Item) → Tame (arguments_put p items)
put_tame p [] = tt
put_tame p (x ∷ xs) = tt

called_with_tame : (k : Kind) (args : List (List Token)) → Tame (called_with k args)
called_with_tame (Arguments name long number ts) args = put_tame (call_put number ts args) (call_put number ts args).items
called_with_tame k args = tt

failed_tame : (page : Page) (report : Report) → Tame (failed page report)
failed_tame page report = reported_tame page report (Closed ∷ []) tt

failed_away_tame : (page : Page) (report : Report) (o : Option Scanning) → Tame (failed_away page report o)
failed_away_tame page report None = failed_tame page report
failed_away_tame page report (Some (Builds what name list)) = failed_tame (page_behind page (away_text page what list)) report
failed_away_tame page report (Some (SkippedText line)) = failed_tame page report

-- what a command does
and_closed_tame : (moves : List Move) → Flat moves → Tame (and_closed moves)
and_closed_tame moves h = joined moves (Closed ∷ []) h tt

closed_assigned : (page : Page) (m : Move) → Flat (m ∷ []) → Tame (and_closed (assigned page m))
closed_assigned page m h = and_closed_tame (assigned page m) (flat_join (m ∷ []) (behind_assignment page.after) h (behind_assignment_flat page.after))

behind_tame_assigned : (page : Page) (m : Move) → Flat (m ∷ []) → Tame (assigned page m)
behind_tame_assigned page m h = joined (m ∷ []) (behind_assignment page.after) h (flat_tame (behind_assignment page.after) (behind_assignment_flat page.after))

computed_tame : (page : Page) (c : Call) (l : Loc) (o : Option SeenValue) → Tame (computed_to page c l o)
computed_tame page c l (Some value) = closed_assigned page (Set (is_global page c) l (number_or_glue value)) tt
computed_tame page c l None =
    let behind : List Move = behind_assignment page.after in
    reported_tame page reports.ArithmeticOverflow (and_closed behind) (and_closed_tame behind (behind_assignment_flat page.after))

future_flat : (page : Page) (x y : Token) (m : Move) → Flat (m ∷ []) → Flat (put_one y ++ (put_one x ++ assigned page m))
future_flat page x y m h = flat_join (m ∷ []) (behind_assignment page.after) h (behind_assignment_flat page.after)

-- the end of skipped text
passed_tame : (page : Page) (p : Passing) (rest : List Move) → Tame rest → Tame (passed page p rest)
passed_tame page passing.Nothing rest h = h
passed_tame page passing.ClosesAbove rest h = h
passed_tame page passing.ExtraOr rest h = reported_tame page (reports.ExtraFiOrElse or_primitive) rest h

ended_by_tame : (how : End) → Tame (ended_by how)
ended_by_tame (ending.Reads l) = tt
ended_by_tame ending.Closes = tt

pub reached_tame : (page : Page) (c : Call) (s : Step) → Tame (reached page c s)
reached_tame page c (step.Skips p choice) = passed_tame page p (skips page c choice.aim) tt
reached_tame page c (step.Ends how) = ended_by_tame how

pub acts_tame : (page : Page) (c : Call) (e : Effect) → Tame (acts page c e)
acts_tame page c (effect.Obey x) = command_tame page x.token x.meaning
acts_tame page c (effect.Let n x) = closed_assigned page (Assigned (is_global page c) n (meaning_to_let page.now.meanings x)) tt
acts_tame page c (effect.FutureLet n x y) =
    let m : Move = Assigned (is_global page c) n (meaning_to_let page.now.meanings y) in
    and_closed_tame (put_one y.token ++ (put_one x.token ++ assigned page m)) (future_flat page x.token y.token m tt)
acts_tame page c (effect.SetNumber l value) = closed_assigned page (Set (is_global page c) l (val.Number value)) tt
acts_tame page c (effect.SetGlue l g) = closed_assigned page (Set (is_global page c) l (val.Skip g)) tt
acts_tame page c (effect.ShareList l m) = closed_assigned page (Set (is_global page c) l (get page.now m)) tt
acts_tame page c (effect.Compute operation l d) = computed_tame page c l (value_computed operation l (value_seen (get page.now l)) d)
acts_tame page c (effect.Shorthand n meant) = closed_assigned page (Assigned (is_global page c) n (short_meaning meant)) tt
acts_tame page c effect.Unassigned = and_closed_tame (behind_assignment page.after) (behind_assignment_flat page.after)
acts_tame page c (effect.AfterGroup x) = and_closed_tame (kept_for_group page.group x.token) (kept_for_group_flat page.group x.token)
acts_tame page c (effect.ExpandBehind x y) = expanded_tame page y (put_one y.token) tt
acts_tame page c (effect.MakeNumber n) = and_closed_tame (put_characters (whole_number n)) (characters_flat (whole_number n))
acts_tame page c (effect.MakeRoman n) = and_closed_tame (put_characters (roman n)) (characters_flat (roman n))
acts_tame page c (effect.MakeString x) = and_closed_tame (put_characters (string_text (style_of page) x.token)) (characters_flat (string_text (style_of page) x.token))
acts_tame page c (effect.MakeMeaning x) = and_closed_tame (put_characters (meaning_characters page x)) (characters_flat (meaning_characters page x))
acts_tame page c (effect.MakeValue l) =
    let text : List ℕ = value_text l (value_seen (get page.now l)) in
    and_closed_tame (put_characters text) (characters_flat text)
acts_tame page c (effect.Choose v) = chosen_tame page c v
acts_tame page c (effect.Compare x y) = chosen_tame page c (Truth (same_meaning x.meaning y.meaning (are_same (tokens_meant page x) (tokens_meant page y))))
acts_tame page c (effect.Reach a e) = reached_tame page c (choices.step a (above_sought a page.conditionals) e)
acts_tame page c e = tt

-- the list of a location
list_entered_tame : (ts : List Token) → Tame (tokens_entered ts)
list_entered_tame [] = tt
list_entered_tame (t ∷ ts) = list_entered_tame ts

pub list_given_tame : (page : Page) (copied : Bool) (o : Option ℕ) → Tame (list_given page copied o)
list_given_tame page copied None = tt
list_given_tame page true (Some number) = list_entered_tame (slice_index_or page.all_lists number [])
list_given_tame page false (Some number) =
    let p : PutList = list_put number (slice_index_or page.all_lists number []) in
    body_tame p p.items

acts_above_tame : (beneath : List Reading) (page : Page) (c : Call) (e : Effect) → Tame (acts_above beneath page c e)
acts_above_tame beneath page c (effect.PutList l) = list_given_tame page (is_copying beneath) (list_number page l)
acts_above_tame beneath page c e = acts_tame page c e

list_set_tame : (page : Page) (c : Call) (l : Loc) (ts : List Token) → Tame (list_set page c l ts)
list_set_tame page c l [] = behind_tame_assigned page (Set (is_global page c) l (val.Tokens None)) tt
list_set_tame page c l (t ∷ ts) = behind_tame_assigned page (ListSet (is_global page c) l (t ∷ ts)) tt

acts_on_tame : (page : Page) (c : Call) (e : Effect) (ts : List Token) → Tame (acts_on page c e ts)
acts_on_tame page c effect.ErrorMessage ts = reported_as_tame page ts (Closed ∷ []) tt
acts_on_tame page c effect.MakeName ts = and_closed_tame (name_made page (character_codes ts)) (made_name_flat page (character_codes ts))
acts_on_tame page c (effect.SetList l) ts = list_set_tame page c l ts
acts_on_tame page c (effect.ChangeCase upper) ts =
    let changed : List Token = map (case_changed (case_codes upper page.now)) ts in
    and_closed_tame (put_text changed) (text_flat changed)
acts_on_tame page c e ts = tt

macro_tame : (page : Page) (c : Call) (n : Name) (ts : List Token) → Tame (macro_defined page c n ts)
macro_tame page c n [] = tt
macro_tame page c n (t ∷ ts) = behind_tame_assigned page (Defined (is_global page c) n c.long c.outer (t ∷ ts)) tt

-- an answer by which no token is wanted and no file begun
abbrev pub WantsNone : Ask → Type 0
WantsNone (More want) = ⊥
WantsNone (ActsOn c (effect.StartInput back) ts) = ⊥
WantsNone a = Unit {0}

-- no act with a list but `\input` opens a file
acts_in_tame : (s : State) (page : Page) (c : Call) (e : Effect) (ts : List Token) → WantsNone (ActsOn c e ts) → Tame (acts_in s.files page c e ts)
acts_in_tame s page c (effect.StartInput back) ts h = absurd h
acts_in_tame s page c e ts h = acts_on_tame page c e ts

-- the check of the magnification
legal_tame : (page : Page) (n : ℤ) (legal : Bool) (rest : List Move) → Tame rest → Tame (legal_or_not page n legal rest)
legal_tame page n true rest h = h
legal_tame page n false rest h = reported_tame page (reports.IllegalMagnification n) (magnification_set 1000 rest) h

compared_tame : (page : Page) (n : ℤ) (mag : ℕ) (rest : List Move) → Tame rest → Tame (compared page n mag rest)
compared_tame page n zero rest h = legal_tame page n (is_magnification n) rest h
compared_tame page n (suc m) rest h =
    let set : List Move = magnification_set (suc m) rest in
    let report : Report = reports.IncompatibleMagnification n (suc m) in
    tame_if (int_eq n (pos (suc m))) rest (reported page report set) h (reported_tame page report set h)

pub answered_tame : (s : State) (work : List Reading) (r : Reading) (a : Ask) → WantsNone a → Tame (answered s work r a)
answered_tame s work r (More want) h = absurd h
answered_tame s work r (Inner k begins) h = inner_tame k begins
answered_tame s work r (Done v back) h = done_tame (page_of s) r v back
answered_tame s work r (Acts c e) h = acts_above_tame (drop 1 work) (page_of s) c e
answered_tame s work r (ActsOn c e ts) h = acts_in_tame s (page_of s) c e ts h
answered_tame s work r (Defines c n ts) h = macro_tame (page_of s) c n ts
answered_tame s work r Closes h = tt
answered_tame s work r (Calls args) h = called_with_tame r.kind args
answered_tame s work r (Fails report) h = failed_tame (page_of s) report
answered_tame s work r (RunsAway report) h = failed_away_tame (page_of s) report (scanning work s.gathered)
answered_tame s work r (Tells report back) h = told_tame (page_of s) report None back r
answered_tame s work r (Inserts t report back) h = told_tame (page_of s) report (Some t) back r
answered_tame s work r (Puts t more) h = noting_tame r
answered_tame s work r (Relaxes c n) h = noting_tame r
answered_tame s work r Magnifies h = compared_tame (page_of s) (integer_in s.groups.now magnification) s.mag_set (noting r) (noting_tame r)
answered_tame s work r (Fetches l) h = tt
