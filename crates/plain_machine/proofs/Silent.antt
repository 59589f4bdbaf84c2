-- Each rule ends the run, begins with a step once the finished lists in front have gone, or makes the weight of the state smaller.
use Rattle.std.proofs.Common.{◌≡◌, ℕ, ℤ, zero, suc, ◌+◌, ◌*◌, ◌≤◌, ◌<◌, Bool, true, false, List, [], ◌∷◌, ◌++◌, length, refl, sym, ap, ◌∙◌, subst, arith}
use Rattle.prim_table.specs.Primitives.{is_expanded, is_in_row}
use Rattle.prim_table.specs.declared.Class.TheVariants as class
use Rattle.std.specs.Prelude.{Option, Some, None, if◌then◌else◌, nat_lt, nat_abs, pos, ◌==◌, map, drop, slice_index_or}
use Rattle.std.specs.Ordering.{int_eq}
use Rattle.tex_syntax.specs.declared.words.Report.{Report}
use Rattle.tex_syntax.specs.declared.words.Scanned.{Scanned}
use Rattle.tex_syntax.specs.declared.words.Report.TheVariants.{ArithmeticOverflow, InvalidCharacter, FileEnded, UndefinedName, ExtraEndcsname, TooManyBraces, ForgottenEndgroup, ExtraEndgroup, MissingRightBrace, IncompatibleMagnification, IllegalMagnification, ExtraFiOrElse, IncompleteConditional}
use Rattle.tex_syntax.specs.declared.words.Outcome.{Outcome}
use Rattle.tex_syntax.specs.declared.words.Outcome.TheVariants.{Finished, AtFatal}
use Rattle.tex_syntax.specs.declared.words.Scanned.TheVariants as scanned
use Rattle.tex_syntax.specs.declared.words.Want.TheVariants.{Copied}
use Rattle.tex_defs.specs.declared.Token.{Token}
use Rattle.tex_defs.specs.declared.Token.TheVariants as token
use Rattle.tex_defs.specs.declared.Seen.{Seen}
use Rattle.tex_defs.specs.declared.Name.{Name}
use Rattle.tex_defs.specs.declared.Meaning.{Meaning}
use Rattle.tex_defs.specs.declared.Meaning.TheVariants as means
use Rattle.tex_defs.specs.declared.RegisterKind.{RegisterKind}
use Rattle.tex_defs.specs.Places.{Transcript}
use Rattle.tex_defs.specs.declared.Fatal.TheVariants.{NoFile, HundredErrors}
use Rattle.plain_tokens.specs.Categories.{begin_group, end_group}
use Rattle.plain_tokens.specs.Names.{name_of, relax_primitive, end_primitive}
use Rattle.plain_tokens.specs.Tokens.{character_codes, is_undefined, made_text}
use Rattle.plain_tokens.specs.Meanings.{fi_primitive, name_meaning, meaning_to_let, seen_as}
use Rattle.plain_tokens.specs.Numerals.{whole_number, roman}
use Rattle.plain_tokens.specs.Lex.{Lexed, Gives, Invalid, UsedUp, lexed}
use Rattle.plain_tokens.specs.LexLaws.{LeavesLess}
use Rattle.plain_tokens.proofs.LexRests.{less}
use Rattle.plain_tokens.specs.Puts.{Item, Put as PutList, passed, call_put, list_put}
use Rattle.plain_tokens.specs.Pending.{Pending, Source, Progress, Begun as BegunFile, Closed as ClosedFile, beneath, from_begun, Pulled, TokenFrom, LexemeFrom, LineTaken, InvalidMet, FileOver, NothingLeft, end_token_lists, pulled, from_front, from_list, from_line, from_file}
use Rattle.plain_tokens.specs.Arguments.{are_same, has_parameters}
use Rattle.conditionals.specs.declared.choice.Aim.{Aim}
use Rattle.conditionals.specs.declared.choice.Aim.TheVariants as aim
use Rattle.conditionals.specs.declared.choice.Value.{Value as TestValue}
use Rattle.conditionals.specs.declared.choice.Value.TheVariants.{Truth}
use Rattle.conditionals.specs.declared.choice.End.TheVariants as ending
use Rattle.conditionals.specs.declared.choice.Passing.{Passing}
use Rattle.conditionals.specs.declared.choice.Passing.TheVariants as passing
use Rattle.conditionals.specs.declared.choice.Step.{Step as EnderStep}
use Rattle.conditionals.specs.declared.choice.Step.TheVariants as step
use Rattle.conditionals.specs.declared.limits.Limit.{Limit}
use Rattle.conditionals.specs.declared.limits.Met.{Met}
use Rattle.conditionals.specs.declared.limits.Met.TheVariants as limited
use Rattle.conditionals.specs.declared.open.Conditional.{Conditional}
use Rattle.conditionals.specs.declared.skip.Ender.{Ender}
use Rattle.conditionals.specs.declared.skip.Ender.TheVariants.{Fi, Else, Or}
use Rattle.conditionals.specs.Choices as choices
use Rattle.conditionals.specs.Limits as limits
use Rattle.conditionals.specs.Open.{limit_of, innermost_test, above_sought, constant_test}
use Rattle.conditionals.specs.Skipping.{else_primitive, or_primitive, ender_number}
use Rattle.conditionals.specs.Same.{same_meaning}
use Rattle.plain_tokens.specs.Printed.{Style}
use Rattle.save_stack.specs.declared.GroupKind.{GroupKind}
use Rattle.save_stack.specs.declared.GroupKind.TheVariants.{Simple, SemiSimple}
use Rattle.equivalents.specs.declared.values.Loc.{Loc}
use Rattle.equivalents.specs.declared.values.Loc.TheVariants as loc
use Rattle.equivalents.specs.declared.values.Val.TheVariants as val
use Rattle.equivalents.specs.Cases.{case_codes, case_changed}
use Rattle.equivalents.specs.First.{magnification}
use Rattle.equivalents.specs.Locations.{SeenValue, value_seen}
use Rattle.equivalents.specs.Parameters.{integer_in}
use Rattle.equivalents.specs.Tables.{get}
use Rattle.command_words.specs.Words.{file_name}
use Rattle.plain_state.specs.Reports.{missing_file_bytes, emergency, no_file_line, report_bytes, error_message_bytes, fresh_line, string_text, message_bytes, hundred_line, token_line_bytes}
use Rattle.rows.specs.declared.words.Value.{Value}
use Rattle.rows.specs.declared.words.Phrase.{Phrase}
use Rattle.rows.specs.declared.words.Phrase.TheVariants.{Command as Row}
use Rattle.rows.specs.declared.command.Head.TheVariants.{Primitive, Register}
use Rattle.rows.specs.declared.command.Call.{Call}
use Rattle.rows.specs.declared.command.Effect.{Effect}
use Rattle.rows.specs.declared.command.Effect.TheVariants as effect
use Rattle.rows.specs.Table.{has_row}
use Rattle.rows.specs.Arithmetic.{value_computed}
use Rattle.rows.specs.Internal.{value_text}
use Rattle.rows.specs.Readings.{Fed, Val, Noted, Cut, Verbatim as EntersText, Ask, More, Inner, Done, Acts, ActsOn, Defines, Ends as Closes, Calls, Fails, RunsAway, Tells, Inserts, Puts, Relaxes, Fetches, Magnifies}
use Rattle.plain_readings.specs.Readings.{Kind, Reads, Spelling, FileName, Arguments, Behind, Skips, Reading, ask, lists, fed_with}
use Rattle.plain_readings.specs.Spelling.{endcsname_primitive}
use Rattle.plain_readings.specs.Scanning.{Scanning, Builds, SkippedText, scanning}
use Rattle.plain_readings.specs.Laws.{IsRead}
use Rattle.plain_readings.specs.Weights.{frame_weight, value_frame, act_frame, value_weight, act_weight, end_weight, ask_weight, weight, IsNoted, IsLast, WeightsFall}
use Rattle.plain_machine.specs.States.{State, Files, Move, ListsEnded, Skipped, FileClosed, FileEnds, FileOpened, Spelt, NameInProgress, Entered, Kept as KeptBytes, Grows, Feeds, Completed, Opened, ListBegun, ListGrown, Put, ListDropped, Called, Set, Assigned, Defined, ListSet, GroupOpened, GroupClosed, KeptForGroup, KeptForAssignment, MagnificationSet, ConditionOpened, LimitSet, ConditionClosed, Written, Begun, Ended, Closed, Reported, Flawed, Stopped, Handed, made}
use Rattle.plain_machine.specs.Plan.{Page, page_of, style_of, plan, ruled, planned, answered, handed, checked, at_line, cut_or_not, inserted_at, away_text, ran_away, incomplete, frozen_fi, page_behind, reported, behind_report, reports_room, finish, groups_left, conditionals_left, stomach, command, register, primitive, begingroup_primitive, endgroup_primitive, right_brace, put_each, group_ended, brace_met, endgroup_met, character, expansion, expanded, expanded_as, csname_primitive, jobname_primitive, input_primitive, endinput_primitive, input_met, frozen_relax, skips, limited_or_skips, chosen, conditional_begun, ender_comes, ender_met, conditional_met, passed as passed_by, reached, unless_found, input_begun, job_in, begun, call_of, called_meaning, put_body, body_put, token_line, wanted, enters_names, feeding, given_back, grown_to, first_list, noting, noting_kind, put_one, put_text, put_made, put_characters, put_inserted, arguments_put, called_with, failed, failed_away, inner_begun, done, value_tokens, report_noted, and_closed, expanded_behind, marked, meaning_characters, tokens_meant, shown, is_global, behind_assignment, assigned, kept_for_group, number_or_glue, computed_to, short_meaning, value_shown, location_shown, list_number, tokens_entered, list_given, copies, is_copying, acts_above, list_set, macro_defined, newly_spelt, spelt, relax_if_undefined, name_made, entered, acts_on, acts_in, is_magnification, magnification_set, legal_or_not, compared}
use Rattle.plain_machine.specs.Runs.{step_of, all_made}
use Rattle.plain_machine.specs.Weights.{file_weight, outer_weight, pending_weight}
use Rattle.plain_machine.proofs.Falling.{enter}
use Rattle.plain_machine.proofs.Settling.{pulled_settled}

-- an open reading
abbrev pub frames : List Reading → ℕ
frames [] = 0
frames (r ∷ rs) = frame_weight r.kind + frames rs

-- what the innermost asks for
abbrev pub asked : List Reading → ℕ
asked [] = 0
asked (r ∷ rs) = weight r.kind r.fed

abbrev pub work_weight : List Reading → ℕ
work_weight work = asked work + frames work

-- where the file ends a call may be fed with the note of a check
abbrev pub check_weight : ℕ
check_weight = act_frame + act_weight

abbrev pub weight_of : Option Outcome → List Reading → Pending → ℕ
weight_of (Some o) work p = 0
weight_of None work p = 1 + work_weight work + check_weight * pending_weight p

abbrev pub state_weight : State → ℕ
state_weight s = weight_of s.stopped s.work s.pending

pub data Rule (s : State) (ms : List Move) : Type 0 where
  Over : ms ≡ [] → Rule s ms
  Step : (m : Move) → (rest : List Move) → ms ≡ ListsEnded ∷ m ∷ rest → step_of m ≡ 1 → Rule s ms
  Falls : state_weight (all_made ms s) < state_weight s → Rule s ms

-- after these moves the weight is below n
abbrev Drops : ℕ → List Move → State → Type 0
Drops n ms s = state_weight (all_made ms s) < n

-- what a pull that gives nothing leaves weighs less
abbrev pub Lighter : Pending → Pulled → Type 0
Lighter p (InvalidMet q) = pending_weight q < pending_weight p
Lighter p (FileOver q) = pending_weight q < pending_weight p
Lighter p r = Unit {0}

beneath_weight : (outer : List Source) → pending_weight (beneath outer) ≡ outer_weight outer
beneath_weight [] = refl
beneath_weight (s ∷ outer) = refl

lighter_over : (p : Pending) → p.file ≡ BegunFile → pending_weight (beneath p.outer) < pending_weight p
lighter_over p e = omega (arith, beneath_weight p.outer, ap file_weight e)

lighter_begun : (p : Pending) → p.file ≡ BegunFile → (ends : Bool) (bytes : List ℕ) → Lighter p (from_begun p ends bytes)
lighter_begun p e true bytes = lighter_over p e
lighter_begun p e false [] = lighter_over p e
lighter_begun p e false (c ∷ cs) = tt

lighter_file : (p : Pending) (f : Progress) → p.file ≡ f → Lighter p (from_file p f)
lighter_file p BegunFile e = lighter_begun p e p.ends p.rest
lighter_file p ClosedFile e = tt

lighter_line : (categories : List ℕ) (p : Pending) (l : Lexed) → LeavesLess categories l p.line → Lighter p (from_line p l)
lighter_line categories p (Gives x state line) h = tt
lighter_line categories p (Invalid state line) h = omega (arith, h.shorter)
lighter_line categories p UsedUp h = lighter_file p p.file refl

lighter_list : (categories : List ℕ) (p : Pending) (x : PutList) (ps : List PutList) (is : List Item) → Lighter p (from_list categories p x ps is)
lighter_list categories p x ps (i ∷ is) = tt
lighter_list categories p x ps [] = lighter_line categories p (lexed categories p.lex p.line) (less categories p.lex p.line)

lighter_front : (categories : List ℕ) (p : Pending) (ps : List PutList) → Lighter p (from_front categories p ps)
lighter_front categories p (x ∷ ps) = lighter_list categories p x ps x.items
lighter_front categories p [] = lighter_line categories p (lexed categories p.lex p.line) (less categories p.lex p.line)

pub lighter : (categories : List ℕ) (p : Pending) → Lighter p (pulled categories p)
lighter categories p = lighter_front categories p (passed p.puts)

-- moves that leave the readings and the open files, and go on
abbrev is_plain : Move → Bool
is_plain ListsEnded = true
is_plain FileEnds = true
is_plain (FileOpened name) = true
is_plain (Spelt name) = true
is_plain (NameInProgress naming) = true
is_plain (Entered name) = true
is_plain (KeptBytes bytes) = true
is_plain (Grows t) = true
is_plain (Completed a) = true
is_plain Opened = true
is_plain ListBegun = true
is_plain (ListGrown t) = true
is_plain (Put ts) = true
is_plain ListDropped = true
is_plain (Called p) = true
is_plain (Set global l v) = true
is_plain (Assigned global name m) = true
is_plain (GroupOpened kind) = true
is_plain GroupClosed = true
is_plain (KeptForGroup t) = true
is_plain (KeptForAssignment after) = true
is_plain (MagnificationSet n) = true
is_plain (ConditionOpened test line) = true
is_plain (LimitSet l) = true
is_plain ConditionClosed = true
is_plain (Written p bs) = true
is_plain Reported = true
is_plain Flawed = true
is_plain m = false

abbrev AllPlain : List Move → Type 0
AllPlain [] = Unit {0}
AllPlain (m ∷ ms) = (is_plain m ≡ true) × AllPlain ms

all_plain : (ms ns : List Move) → AllPlain ms → AllPlain ns → AllPlain (ms ++ ns)
all_plain [] ns h i = i
all_plain (m ∷ ms) ns h i = (h.0, all_plain ms ns h.1 i)

record Kept (s u : State) : Type 0 where
  work : u.work ≡ s.work
  stopped : u.stopped ≡ s.stopped
  pending : pending_weight u.pending ≡ pending_weight s.pending

kept_none : (s : State) → Kept s s
kept_none s = record { work = refl; stopped = refl; pending = refl }

kept_same : (s : State) (ms : List Move) → Kept s (record s { due = ms })
kept_same s ms = record { work = refl; stopped = refl; pending = refl }

kept_on : (s u v : State) → Kept s u → Kept u v → Kept s v
kept_on s u v a b = record { work = b.work ∙ a.work; stopped = b.stopped ∙ a.stopped; pending = b.pending ∙ a.pending }

kept : (m : Move) (s : State) → is_plain m ≡ true → Kept s (made m s)
kept ListsEnded s h = record { work = refl; stopped = refl; pending = refl }
kept FileEnds s h = record { work = refl; stopped = refl; pending = refl }
kept (FileOpened name) s h = record { work = refl; stopped = refl; pending = refl }
kept (Spelt name) s h = record { work = refl; stopped = refl; pending = refl }
kept (NameInProgress naming) s h = record { work = refl; stopped = refl; pending = refl }
kept (Entered name) s h = record { work = refl; stopped = refl; pending = refl }
kept (KeptBytes bytes) s h = record { work = refl; stopped = refl; pending = refl }
kept (Grows t) s h = record { work = refl; stopped = refl; pending = refl }
kept (Completed a) s h = record { work = refl; stopped = refl; pending = refl }
kept Opened s h = record { work = refl; stopped = refl; pending = refl }
kept ListBegun s h = record { work = refl; stopped = refl; pending = refl }
kept (ListGrown t) s h = record { work = refl; stopped = refl; pending = refl }
kept (Put ts) s h = record { work = refl; stopped = refl; pending = refl }
kept ListDropped s h = record { work = refl; stopped = refl; pending = refl }
kept (Called p) s h = record { work = refl; stopped = refl; pending = refl }
kept (Set global l v) s h = record { work = refl; stopped = refl; pending = refl }
kept (Assigned global name m) s h = record { work = refl; stopped = refl; pending = refl }
kept (GroupOpened kind) s h = record { work = refl; stopped = refl; pending = refl }
kept GroupClosed s h = record { work = refl; stopped = refl; pending = refl }
kept (KeptForGroup t) s h = record { work = refl; stopped = refl; pending = refl }
kept (KeptForAssignment after) s h = record { work = refl; stopped = refl; pending = refl }
kept (MagnificationSet n) s h = record { work = refl; stopped = refl; pending = refl }
kept (ConditionOpened test line) s h = record { work = refl; stopped = refl; pending = refl }
kept (LimitSet l) s h = record { work = refl; stopped = refl; pending = refl }
kept ConditionClosed s h = record { work = refl; stopped = refl; pending = refl }
kept (Written p bs) s h = record { work = refl; stopped = refl; pending = refl }
kept Reported s h = record { work = refl; stopped = refl; pending = refl }
kept Flawed s h = record { work = refl; stopped = refl; pending = refl }
kept (Handed t) s h = cc
kept m s h = cc

drops_plain : (n : ℕ) (s : State) (ms ns : List Move) → AllPlain ms → ((u : State) → Kept s u → Drops n ns u) → Drops n (ms ++ ns) s
drops_plain n s [] ns h f = f s (kept_none s)
drops_plain n s (m ∷ ms) ns h f =
    let u : State = made m (record s { due = ms ++ ns }) in
    let k : Kept s u = kept_on s (record s { due = ms ++ ns }) u (kept_same s (ms ++ ns)) (kept m (record s { due = ms ++ ns }) h.0) in
    drops_plain n u ms ns h.1 (λ v l. f v (kept_on s u v k l))

halted_none : (n : ℕ) (s : State) (text : List ℕ) (o : Outcome) → 0 < n → Drops n (Written Transcript text ∷ Stopped o ∷ []) s
halted_none n s text o h = omega (arith, h)

drops_behind : (n : ℕ) (s : State) (text : List ℕ) (b : Bool) (rest : List Move) → 0 < n → ((u : State) → Kept s u → Drops n rest u) →
    Drops n (if b then rest else Written Transcript text ∷ Stopped (AtFatal HundredErrors) ∷ []) s
drops_behind n s text true rest h f = f s (kept_none s)
drops_behind n s text false rest h f = halted_none n s text (AtFatal HundredErrors) h

-- a report's moves, and those behind it
drops_told : (n : ℕ) (s : State) (page : Page) (text : List ℕ) (rest : List Move) → 0 < n → ((u : State) → Kept s u → Drops n rest u) →
    Drops n (Written Transcript text ∷ Reported ∷ behind_report (style_of page) page.reports rest) s
drops_told n s page text rest h f =
    drops_plain n s (Written Transcript text ∷ Reported ∷ []) (behind_report (style_of page) page.reports rest) (refl, (refl, tt))
    (λ u k. drops_behind n u (hundred_line (style_of page)) (nat_lt page.reports reports_room) rest h (λ v l. f v (kept_on s u v k l)))

drops_report : (n : ℕ) (s : State) (page : Page) (report : Report) (rest : List Move) → 0 < n → ((u : State) → Kept s u → Drops n rest u) → Drops n (reported page report rest) s
drops_report n s page report rest h f = drops_told n s page (report_bytes (style_of page) page.in_line page.line report) rest h f

some_weight : (s : State) → s.stopped ≡ None → 0 < state_weight s
some_weight s e = rw e (omega arith)

kept_weight : (s u : State) → s.stopped ≡ None → Kept s u → state_weight s ≡ state_weight u
kept_weight s u e k = rw (k.stopped, k.work, e) (omega (arith, k.pending))

-- MOVES THAT ARE PLAIN

plain_one : (t : Token) → AllPlain (put_one t)
plain_one t = (refl, (refl, (refl, (refl, tt))))

plain_back : (back : Bool) (x : Seen) → AllPlain (given_back back x)
plain_back true x = plain_one x.token
plain_back false x = tt

plain_inserted : (inserted : Option Token) → AllPlain (put_inserted inserted)
plain_inserted None = tt
plain_inserted (Some t) = plain_one t

plain_grown : (ts : List Token) → AllPlain (map Grows ts)
plain_grown [] = tt
plain_grown (t ∷ ts) = (refl, plain_grown ts)

plain_grown_to : (before after : List Token) → AllPlain (grown_to before after)
plain_grown_to before after = plain_grown (drop (length before) after)

plain_listed : (ts : List Token) → AllPlain (map ListGrown ts)
plain_listed [] = tt
plain_listed (t ∷ ts) = (refl, plain_listed ts)

plain_made : (ts : List Token) → AllPlain (put_made ts)
plain_made [] = (refl, tt)
plain_made (t ∷ ts) = (refl, tt)

plain_text : (ts : List Token) → AllPlain (put_text ts)
plain_text ts = (refl, (refl, all_plain (map ListGrown ts) (put_made ts) (plain_listed ts) (plain_made ts)))

plain_body : (p : PutList) (is : List Item) → AllPlain (body_put p is)
plain_body p [] = tt
plain_body p (i ∷ is) = (refl, (refl, tt))

plain_line : (page : Page) (m : Meaning Unit) → AllPlain (token_line page m)
plain_line page m = by page.quiet where
  by : (quiet : Bool) → AllPlain (if quiet then [] else Written Transcript (token_line_bytes (style_of page) page.in_line m) ∷ [])
  by true = tt
  by false = (refl, tt)

plain_entered : (names : List (List ℕ)) → AllPlain (entered names)
plain_entered [] = tt
plain_entered (name ∷ names) = (refl, tt)

plain_relax : (meanings : List (Meaning (Option ℕ))) (n : Name) → AllPlain (relax_if_undefined meanings n)
plain_relax meanings n = by (is_undefined (seen_as (name_meaning meanings n))) where
  by : (b : Bool) → AllPlain (if b then Assigned false n (means.Prim relax_primitive) ∷ [] else [])
  by true = (refl, tt)
  by false = tt

plain_name : (page : Page) (characters : List ℕ) → AllPlain (name_made page characters)
plain_name page characters =
    all_plain (Spelt characters ∷ entered (newly_spelt page.names characters)) (relax_if_undefined page.now.meanings (spelt page.names characters) ++ put_one (token.Named (spelt page.names characters)))
    (refl, plain_entered (newly_spelt page.names characters))
    (all_plain (relax_if_undefined page.now.meanings (spelt page.names characters)) (put_one (token.Named (spelt page.names characters)))
    (plain_relax page.now.meanings (spelt page.names characters)) (plain_one (token.Named (spelt page.names characters))))

plain_left : (style : Style) (cs : List Conditional) → AllPlain (conditionals_left style cs)
plain_left style [] = tt
plain_left style (c ∷ cs) = (refl, plain_left style cs)

plain_each : (ts : List Token) → AllPlain (put_each ts)
plain_each [] = tt
plain_each (t ∷ ts) = all_plain (put_one t) (put_each ts) (plain_one t) (plain_each ts)

plain_ended : (page : Page) → AllPlain (group_ended page)
plain_ended page = (refl, plain_each page.tokens)

plain_behind : (after : Option Token) → AllPlain (behind_assignment after)
plain_behind None = tt
plain_behind (Some t) = (refl, plain_one t)

plain_assigned : (page : Page) (m : Move) → is_plain m ≡ true → AllPlain (assigned page m)
plain_assigned page m h = (h, plain_behind page.after)

plain_kept : (kind : Option GroupKind) (t : Token) → AllPlain (kept_for_group kind t)
plain_kept None t = tt
plain_kept (Some kind) t = (refl, tt)

plain_future : (page : Page) (x y : Token) (m : Move) → is_plain m ≡ true → AllPlain (put_one y ++ (put_one x ++ assigned page m))
plain_future page x y m h = all_plain (put_one y) (put_one x ++ assigned page m) (plain_one y) (all_plain (put_one x) (assigned page m) (plain_one x) (plain_assigned page m h))

-- a rule whose moves are plain, and lighter by one more at their end
drops_all : (n : ℕ) (s : State) (ms : List Move) → AllPlain ms → ((u : State) → Kept s u → state_weight u < n) → Drops n ms s
drops_all n s [] h f = f s (kept_none s)
drops_all n s (m ∷ ms) h f =
    let u : State = made m (record s { due = ms }) in
    let k : Kept s u = kept_on s (record s { due = ms }) u (kept_same s ms) (kept m (record s { due = ms }) h.0) in
    drops_all n u ms h.1 (λ v l. f v (kept_on s u v k l))

-- WHAT READINGS WEIGH, by the laws of the readings

-- the innermost weighs less than a frame of what acts and an act
module _ (falls : WeightsFall) where
  asked_least : (rs : List Reading) → asked rs < act_frame + act_weight
  asked_least [] = omega arith
  asked_least (r ∷ rs) = falls.acted r.kind r.fed

  -- the note of a check
  weight_checked : (rs : List Reading) → work_weight (fed_with Cut rs) < check_weight + work_weight rs
  weight_checked [] = omega arith
  weight_checked (r ∷ rs) = omega (arith, falls.acted r.kind (r.fed ++ Cut ∷ []))

  -- the value of the reading above
  weight_ended : (v : Value) (ts : List Token) (rs : List Reading) → work_weight (fed_with (Val v ts) rs) < value_frame + value_weight + frames rs
  weight_ended v ts [] = omega arith
  weight_ended v ts (r ∷ rs) = omega (arith, falls.valued r.kind r.fed v ts)

-- A move that makes what is pending lighter, and then moves that keep it, or end the run.
module _ (falls : WeightsFall) (s : State) (q : Pending) (e : s.stopped ≡ None) (less : pending_weight q < pending_weight s.pending) (u : State) (a : u.stopped ≡ None) (b : u.work ≡ s.work) (c : u.pending ≡ q) where
  below : (v : State) → Kept u v → state_weight v < state_weight s
  below v k = rw (k.stopped, k.work, a, b, e) (omega (arith, k.pending, ap pending_weight c, less))

  report_below : (page : Page) (report : Report) → Drops (state_weight s) (reported page report []) u
  report_below page report = drops_report (state_weight s) u page report [] (some_weight s e) (λ v k. below v k)

  checked_below : (v : State) → Kept u v → Drops (state_weight s) (Feeds Cut ∷ []) v
  checked_below v k = rw (k.stopped, k.work, a, b, e) (omega (arith, k.pending, ap pending_weight c, less, weight_checked falls s.work))

  noted_below : (what : Scanned) (v : State) → Kept u v → Drops (state_weight s) (cut_or_not what []) v
  noted_below scanned.Use v k = checked_below v k
  noted_below scanned.Definition v k = below v k
  noted_below scanned.Text v k = below v k

  away_below : (page : Page) (report : Report) (what : Scanned) (list : List Token) → Drops (state_weight s) (ran_away page report what list []) u
  away_below page report what list =
      drops_plain (state_weight s) u (Written Transcript (away_text page what list) ∷ put_one (inserted_at what)) (reported (page_behind page (away_text page what list)) report (cut_or_not what []))
      (refl, plain_one (inserted_at what))
      (λ v k. drops_report (state_weight s) v (page_behind page (away_text page what list)) report (cut_or_not what []) (some_weight s e) (λ x l. noted_below what x (kept_on u v x k l)))

  incomplete_below : (page : Page) (line : ℕ) → Drops (state_weight s) (incomplete page line []) u
  incomplete_below page line =
      let report : Report = IncompleteConditional (innermost_test page.conditionals) line in
      drops_plain (state_weight s) u (put_one frozen_fi) (reported page report []) (plain_one frozen_fi)
      (λ v k. drops_report (state_weight s) v page report [] (some_weight s e) (λ x l. below x (kept_on u v x k l)))

  check_below : (page : Page) (o : Option Scanning) → Drops (state_weight s) (checked page o) u
  check_below page None = below u (kept_none u)
  check_below page (Some (Builds what name list)) = away_below page (FileEnded what name) what list
  check_below page (Some (SkippedText line)) = incomplete_below page line

module _ (falls : WeightsFall) (s : State) (enters : Bool) (o : Option Scanning) (onward : Seen → List Move) (e : s.stopped ≡ None) where
  -- the pull comes once the finished lists in front have gone
  pulled_then : (p : Pulled) → pulled s.groups.now.categories s.pending ≡ p → pulled s.groups.now.categories (end_token_lists s.pending) ≡ p
  pulled_then p is = pulled_settled s.groups.now.categories s.pending ∙ is

  abbrev settled_first : List Move → State
  settled_first rest = made ListsEnded (record s { due = rest })

  rule_pulled : (p : Pulled) → pulled s.groups.now.categories s.pending ≡ p → Lighter s.pending p → Rule s (handed (page_of s) enters o onward p)
  rule_pulled (TokenFrom t q) is l = Step _ _ refl refl
  rule_pulled (LexemeFrom x q) is l = Step _ _ refl refl
  rule_pulled (LineTaken line q) is l = Step _ _ refl refl
  rule_pulled (InvalidMet q) is l =
      let rest : List Move = reported (page_of s) InvalidCharacter [] in
      Falls (report_below falls s q e l (made Skipped (record (settled_first (Skipped ∷ rest)) { due = rest })) e refl (rw (pulled_then (InvalidMet q) is) refl) (page_of s) InvalidCharacter)
  rule_pulled (FileOver q) is l =
      let page : Page = at_line q.number (page_of s) in
      let rest : List Move = checked page o in
      Falls (check_below falls s q e l (made FileClosed (record (settled_first (FileClosed ∷ rest)) { due = rest })) e refl (rw (pulled_then (FileOver q) is) refl) page o)
  rule_pulled NothingLeft is l = Falls (rw e (omega arith))

rule_handed : WeightsFall → (s : State) (enters : Bool) (o : Option Scanning) (onward : Seen → List Move) → s.stopped ≡ None → Rule s (handed (page_of s) enters o onward (pulled s.groups.now.categories s.pending))
rule_handed falls s enters o onward e = rule_pulled falls s enters o onward e (pulled s.groups.now.categories s.pending) refl (lighter s.groups.now.categories s.pending)

-- A LIST ENTERS an expanded text, which goes on as one.
module _ (n : ℕ) where
  falls_entered : (k : Kind) (fed : List Fed) (rs : List Reading) (ts : List Token) (v : State) → v.stopped ≡ None → v.work ≡ record { kind = k; fed = fed } ∷ rs → ask k fed ≡ More Copied →
      1 + (frame_weight k + frames rs) + check_weight * pending_weight v.pending < n → Drops n (tokens_entered ts) v
  falls_entered k fed rs [] v e w is light = rw (e, w, is) (omega (arith, light))
  falls_entered k fed rs (t ∷ ts) v e w is light =
      let u : State = made (Grows t) (record v { due = Feeds (EntersText t) ∷ tokens_entered ts }) in
      let x : State = made (Feeds (EntersText t)) (record u { due = tokens_entered ts }) in
      falls_entered k (fed ++ EntersText t ∷ []) rs ts x e (ap (fed_with (EntersText t)) w) (enter.copies k fed t is) light

  copied_is : (a : Ask) → copies a ≡ true → a ≡ More Copied
  copied_is (More Copied) h = refl
  copied_is a h = cc

  falls_copied : (rs : List Reading) → is_copying rs ≡ true → (ts : List Token) (v : State) → v.stopped ≡ None → v.work ≡ rs → 1 + frames rs + check_weight * pending_weight v.pending < n → Drops n (tokens_entered ts) v
  falls_copied [] is ts v e w less = cc
  falls_copied (r ∷ rs) is ts v e w less = falls_entered r.kind r.fed rs ts v e w (copied_is (ask r.kind r.fed) is) less

-- MOVES BEHIND WHICH A READING MAY BEGIN
-- from a state v that weighs less than n, also with one reading more
module _ (n : ℕ) (v : State) (e : v.stopped ≡ None) (less : state_weight v < n)
    (more : (j : Kind) → IsRead j → 1 + (weight j [] + (frame_weight j + frames v.work)) + check_weight * pending_weight v.pending < n) where
  stays : (u : State) → Kept v u → state_weight u < n
  stays u k = subst (λ (m : ℕ). m < n) (rw (k.stopped, k.work, e) (omega (arith, k.pending))) less

  drops_stays : (u : State) (ms : List Move) → Kept v u → AllPlain ms → Drops n ms u
  drops_stays u ms k h = drops_all n u ms h (λ x l. stays x (kept_on v u x k l))

  drops_begun : (u : State) (j : Kind) → Kept v u → IsRead j → Drops n (Begun j ∷ []) u
  drops_begun u j k h = rw (k.stopped, k.work, e) (omega (arith, k.pending, more j h))

  drops_begun_behind : (u : State) (j : Kind) (ms : List Move) → Kept v u → IsRead j → AllPlain ms → Drops n (Begun j ∷ ms) u
  drops_begun_behind u j ms k h plain =
      let t : State = made (Begun j) (record u { due = ms }) in
      drops_all n t ms plain (λ x l. rw (l.stopped, l.work, k.stopped, k.work, e) (omega (arith, l.pending, k.pending, more j h)))

  -- a reading that begins, and ends behind moves that are plain
  drops_ended : (u : State) (j : Kind) (ms : List Move) → Kept v u → AllPlain ms → Drops n (Begun j ∷ (ms ++ Closed ∷ [])) u
  drops_ended u j ms k h =
      let t : State = made (Begun j) (record u { due = ms ++ Closed ∷ [] }) in
      drops_plain n t ms (Closed ∷ []) h (λ x l. subst (λ (m : ℕ). m < n) (rw (l.stopped, l.work, k.stopped, k.work, e) (omega (arith, l.pending, k.pending))) less)

  some : 0 < n
  some = omega (arith, less)

  drops_called_by : (u : State) (b : Bool) (name : Name) (long : Bool) (number : ℕ) (ts : List Token) → Kept v u →
      Drops n (if b then Begun (Arguments name long number ts) ∷ [] else put_body (call_put number ts [])) u
  drops_called_by u true name long number ts k = drops_begun u (Arguments name long number ts) k tt
  drops_called_by u false name long number ts k = drops_stays u (put_body (call_put number ts [])) k (plain_body (call_put number ts []) (call_put number ts []).items)

  drops_called_meaning : (u : State) (page : Page) (name : Name) (m : Meaning (Option ℕ)) → Kept v u → Drops n (called_meaning page name m) u
  drops_called_meaning u page name (means.Macro long outer None) k = stays u k
  drops_called_meaning u page name (means.Macro long outer (Some number)) k =
      drops_called_by u (has_parameters (slice_index_or page.all_lists number [])) name long number (slice_index_or page.all_lists number []) k
  drops_called_meaning u page name m k = stays u k

  drops_input : (u : State) (naming : Bool) (t : Token) (c : Call) → Kept v u → Drops n (if naming then put_one t ++ put_one frozen_relax else Begun (FileName c) ∷ NameInProgress true ∷ []) u
  drops_input u true t c k = drops_stays u (put_one t ++ put_one frozen_relax) k (all_plain (put_one t) (put_one frozen_relax) (plain_one t) (plain_one frozen_relax))
  drops_input u false t c k = rw (k.stopped, k.work, e) (omega (arith, k.pending, more (FileName c) tt))

  drops_undefined : (u : State) (page : Page) (report : Report) → Kept v u → Drops n (reported page report []) u
  drops_undefined u page report k = drops_report n u page report [] some (λ x l. stays x (kept_on v u x k l))

  -- a conditional reads on, or skips text
  drops_limited : (u : State) (page : Page) (c : Call) (a : Aim) (o : Option Limit) → Kept v u → Drops n (limited_or_skips page c a o) u
  drops_limited u page c a None k = drops_begun u (Skips c a page.line) k tt
  drops_limited u page c a (Some l) k = drops_stays u (LimitSet l ∷ []) k (refl, tt)

  drops_chosen : (u : State) (page : Page) (c : Call) (value : TestValue) → Kept v u → Drops n (chosen page c value) u
  drops_chosen u page c value k = drops_limited u page c (choices.aim value) (choices.start (choices.aim value)) k

  drops_conditional_begun : (u : State) (page : Page) (c : Call) (number : ℕ) (o : Option Bool) → Kept v u → Drops n (conditional_begun page c number o) u
  drops_conditional_begun u page c number None k = drops_begun_behind u (Reads (Row c)) (ConditionOpened number page.line ∷ []) k tt (refl, tt)
  drops_conditional_begun u page c number (Some truth) k =
      let behind : List Move = chosen page c (Truth truth) in
      let x : State = made (Begun (Reads (Row c))) (record u { due = ConditionOpened number page.line ∷ Closed ∷ behind }) in
      let y : State = made (ConditionOpened number page.line) (record x { due = Closed ∷ behind }) in
      drops_chosen (made Closed (record y { due = behind })) page c (Truth truth) (record { work = k.work; stopped = k.stopped; pending = k.pending })

  drops_ender : (u : State) (page : Page) (t : Token) (c : Call) (ender : Ender) (m : Met) → Kept v u → Drops n (ender_comes page t c ender m) u
  drops_ender u page t c ender limited.RelaxBefore k = drops_stays u (put_one t ++ put_one frozen_relax) k (all_plain (put_one t) (put_one frozen_relax) (plain_one t) (plain_one frozen_relax))
  drops_ender u page t c ender limited.Extra k = drops_undefined u page (ExtraFiOrElse (ender_number ender)) k
  drops_ender u page t c ender limited.SkipsToFi k = drops_begun u (Skips c aim.Fi page.line) k tt
  drops_ender u page t c ender limited.Closes k = drops_stays u (ConditionClosed ∷ []) k (refl, tt)

  drops_conditional : (u : State) (page : Page) (t : Token) (c : Call) (number : ℕ) → Kept v u → Drops n (conditional_met page t c number) u
  drops_conditional u page t c number k = by (number == fi_primitive) (number == else_primitive) (number == or_primitive) where
    met : (ender : Ender) → Drops n (ender_met page t c ender) u
    met ender = drops_ender u page t c ender (limits.met (limit_of page.conditionals) ender) k

    by : (b d f : Bool) →
        Drops n (
        if b then ender_met page t c Fi
        else if d then ender_met page t c Else
        else if f then ender_met page t c Or
        else conditional_begun page c number (constant_test number)
        ) u
    by true d f = met Fi
    by false true f = met Else
    by false false true = met Or
    by false false false = drops_conditional_begun u page c number (constant_test number) k

  -- skipped text has ended, or goes on behind an ender
  drops_passed : (u : State) (page : Page) (p : Passing) (c : Call) (a : Aim) → Kept v u → Drops n (passed_by page p (skips page c a)) u
  drops_passed u page passing.Nothing c a k = drops_begun u (Skips c a page.line) k tt
  drops_passed u page passing.ClosesAbove c a k =
      drops_plain n u (ConditionClosed ∷ []) (skips page c a) (refl, tt) (λ x l. drops_begun x (Skips c a page.line) (kept_on v u x k l) tt)
  drops_passed u page passing.ExtraOr c a k =
      drops_report n u page (ExtraFiOrElse or_primitive) (skips page c a) some (λ x l. drops_begun x (Skips c a page.line) (kept_on v u x k l) tt)

  drops_reached : (u : State) (page : Page) (c : Call) (s : EnderStep) → Kept v u → Drops n (reached page c s) u
  drops_reached u page c (step.Skips p choice) k = drops_passed u page p c choice.aim k
  drops_reached u page c (step.Ends (ending.Reads l)) k = drops_stays u (LimitSet l ∷ []) k (refl, tt)
  drops_reached u page c (step.Ends ending.Closes) k = drops_stays u (ConditionClosed ∷ []) k (refl, tt)

  drops_expansion : (u : State) (page : Page) (t : Token) (number : ℕ) → Kept v u → Drops n (expansion page t number) u
  drops_expansion u page t number k =
      by (number == csname_primitive) (number == jobname_primitive) (number == input_primitive) (number == endinput_primitive) (is_in_row class.Conditional number) where
        by : (b c d f g : Bool) →
            Drops n (
            if b then Begun (Spelling (call_of t (Primitive number))) ∷ []
            else if c then begun t (Primitive number) ++ (put_characters (job_in page.strings) ++ Closed ∷ [])
            else if d then input_met page t (call_of t (Primitive number))
            else if f then FileEnds ∷ []
            else if g then conditional_met page t (call_of t (Primitive number)) number
            else begun t (Primitive number)
            ) u
        by true c d f g = drops_begun u (Spelling (call_of t (Primitive number))) k tt
        by false true d f g = drops_ended u (Reads (Row (call_of t (Primitive number)))) (put_characters (job_in page.strings)) k (plain_text (made_text (job_in page.strings)))
        by false false true f g = drops_input u page.naming t (call_of t (Primitive number)) k
        by false false false true g = drops_stays u (FileEnds ∷ []) k (refl, tt)
        by false false false false true = drops_conditional u page t (call_of t (Primitive number)) number k
        by false false false false false = drops_begun u (Reads (Row (call_of t (Primitive number)))) k tt

  drops_unless : (u : State) (b : Bool) (page : Page) (t : Token) (number : ℕ) (ms : List Move) → Kept v u → Drops n ms u → Drops n (if b then expansion page t number else ms) u
  drops_unless u true page t number ms k d = drops_expansion u page t number k
  drops_unless u false page t number ms k d = d

  -- a token is expanded, or comes to moves that stay below
  drops_expanded : (u : State) (page : Page) (t : Token) (m : Meaning Unit) (ms : List Move) → Kept v u → Drops n ms u → Drops n (expanded_as page t m ms) u
  drops_expanded u page t means.Undefined ms k d = drops_undefined u page UndefinedName k
  drops_expanded u page t (means.Macro long outer list) ms k d = drops_called_meaning u page (name_of t) (name_meaning page.now.meanings (name_of t)) k
  drops_expanded u page t (means.Prim number) ms k d = drops_unless u (is_expanded number) page t number ms k d
  drops_expanded u page t m ms k d = d

  drops_brace : (u : State) (page : Page) (kind : Option GroupKind) → Kept v u → Drops n (brace_met page kind) u
  drops_brace u page None k = drops_undefined u page TooManyBraces k
  drops_brace u page (Some Simple) k = drops_stays u (group_ended page) k (plain_ended page)
  drops_brace u page (Some SemiSimple) k = drops_undefined u page ForgottenEndgroup k

  drops_endgroup : (u : State) (page : Page) (t : Token) (kind : Option GroupKind) → Kept v u → Drops n (endgroup_met page t kind) u
  drops_endgroup u page t None k = drops_undefined u page ExtraEndgroup k
  drops_endgroup u page t (Some SemiSimple) k = drops_stays u (group_ended page) k (plain_ended page)
  drops_endgroup u page t (Some Simple) k =
      drops_plain n u (put_one t ++ put_one right_brace) (reported page MissingRightBrace []) (all_plain (put_one t) (put_one right_brace) (plain_one t) (plain_one right_brace))
      (λ x l. drops_undefined x page MissingRightBrace (kept_on v u x k l))

  drops_character : (u : State) (page : Page) (category code : ℕ) → Kept v u → Drops n (character page category code) u
  drops_character u page category code k = by (category == begin_group) (category == end_group) where
    by : (b c : Bool) → Drops n (if b then GroupOpened Simple ∷ [] else if c then brace_met page page.group else token_line page (means.Char category code)) u
    by true c = drops_stays u (GroupOpened Simple ∷ []) k (refl, tt)
    by false true = drops_brace u page page.group k
    by false false = drops_stays u (token_line page (means.Char category code)) k (plain_line page (means.Char category code))

  drops_primitive : (u : State) (page : Page) (t : Token) (number : ℕ) → Kept v u → Drops n (primitive page t number) u
  drops_primitive u page t number k =
      by (has_row (Primitive number)) (number == end_primitive) (number == relax_primitive) (number == begingroup_primitive) (number == endgroup_primitive) (number == endcsname_primitive) where
        by : (b c d o g f : Bool) →
            Drops n (
            if b then begun t (Primitive number)
            else if c then finish page
            else if d then []
            else if o then GroupOpened SemiSimple ∷ []
            else if g then endgroup_met page t page.group
            else if f then reported page ExtraEndcsname []
            else token_line page (means.Prim number)
            ) u
        by true c d o g f = drops_begun u (Reads (Row (call_of t (Primitive number)))) k tt
        by false true d o g f =
            drops_plain n u (Written Transcript (fresh_line page.in_line ++ groups_left page) ∷ conditionals_left (style_of page) page.conditionals) (Stopped Finished ∷ [])
            (refl, plain_left (style_of page) page.conditionals) (λ x l. some)
        by false false true o g f = stays u k
        by false false false true g f = drops_stays u (GroupOpened SemiSimple ∷ []) k (refl, tt)
        by false false false false true f = drops_endgroup u page t page.group k
        by false false false false false true = drops_undefined u page ExtraEndcsname k
        by false false false false false false = drops_stays u (token_line page (means.Prim number)) k (plain_line page (means.Prim number))

  drops_register : (u : State) (page : Page) (t : Token) (kind : RegisterKind) (number : ℕ) → Kept v u → Drops n (register page t kind number) u
  drops_register u page t kind number k = by (has_row (Register kind number)) where
    by : (b : Bool) → Drops n (if b then begun t (Register kind number) else token_line page (means.Register kind number)) u
    by true = drops_begun u (Reads (Row (call_of t (Register kind number)))) k tt
    by false = drops_stays u (token_line page (means.Register kind number)) k (plain_line page (means.Register kind number))

  drops_command : (u : State) (page : Page) (t : Token) (m : Meaning Unit) → Kept v u → Drops n (command page t m) u
  drops_command u page t (means.Prim number) k = drops_primitive u page t number k
  drops_command u page t (means.Register kind number) k = drops_register u page t kind number k
  drops_command u page t (means.Char category code) k = drops_character u page category code k
  drops_command u page t means.RelaxMarked k = stays u k
  drops_command u page t m k = drops_stays u (token_line page m) k (plain_line page m)

-- THE RULES OF THE INNERMOST READING
module _ (falls : WeightsFall) (s : State) (k : Kind) (fed : List Fed) (rs : List Reading) (e : s.stopped ≡ None) (w : s.work ≡ record { kind = k; fed = fed } ∷ rs) where
  abbrev reading : Reading
  reading = record { kind = k; fed = fed }

  -- WHERE IT ACTS OR ENDS
  module _ (heavy : act_weight ≤ weight k fed) (framed : frame_weight k ≡ act_frame) where
    falls_closed : (u : State) → Kept s u → Drops (state_weight s) (Closed ∷ []) u
    falls_closed u h = rw (h.stopped, h.work, e, w) (omega (arith, h.pending, asked_least falls rs, heavy, framed))

    rule_closed : (ms : List Move) → AllPlain ms → Rule s (and_closed ms)
    rule_closed ms h = Falls (drops_plain (state_weight s) s ms (Closed ∷ []) h (λ u kept. falls_closed u kept))

    rule_assigned : (page : Page) (m : Move) → is_plain m ≡ true → Rule s (and_closed (assigned page m))
    rule_assigned page m h = rule_closed (assigned page m) (plain_assigned page m h)

    -- arithmetic
    rule_computed : (page : Page) (c : Call) (l : Loc) (o : Option SeenValue) → Rule s (computed_to page c l o)
    rule_computed page c l (Some value) = rule_assigned page (Set (is_global page c) l (number_or_glue value)) refl
    rule_computed page c l None =
        let behind : List Move = behind_assignment page.after in
        Falls (drops_report (state_weight s) s page ArithmeticOverflow (and_closed behind) (some_weight s e)
        (λ u h. drops_plain (state_weight s) u behind (Closed ∷ []) (plain_behind page.after) (λ v kept. falls_closed v (kept_on s u v h kept))))

    -- a name becomes a macro
    rule_defined : (page : Page) (c : Call) (name : Name) (ts : List Token) → Rule s (macro_defined page c name ts)
    rule_defined page c name [] = rule_closed [] tt
    rule_defined page c name (t ∷ ts) =
        let behind : List Move = behind_assignment page.after in
        let u : State = made (Defined (is_global page c) name c.long c.outer (t ∷ ts)) (record s { due = behind }) in
        Falls (drops_all (state_weight s) u behind (plain_behind page.after) (λ v k. rw (k.stopped, k.work, e, w) (omega (arith, k.pending, asked_least falls rs, heavy, framed))))

    -- a location gets a list
    rule_listed : (page : Page) (c : Call) (l : Loc) (ts : List Token) → Rule s (list_set page c l ts)
    rule_listed page c l [] =
        let ms : List Move = assigned page (Set (is_global page c) l (val.Tokens None)) in
        Falls (drops_all (state_weight s) (made Closed (record s { due = ms })) ms (plain_assigned page (Set (is_global page c) l (val.Tokens None)) refl)
        (λ v k. rw (k.stopped, k.work, e, w) (omega (arith, k.pending, asked_least falls rs, heavy, framed))))
    rule_listed page c l (t ∷ ts) =
        let behind : List Move = behind_assignment page.after in
        let u : State = made (ListSet (is_global page c) l (t ∷ ts)) (record s { due = behind }) in
        Falls (drops_all (state_weight s) u behind (plain_behind page.after) (λ v k. rw (k.stopped, k.work, e, w) (omega (arith, k.pending, asked_least falls rs, heavy, framed))))

    -- the list of a location is put, or enters the expanded text beneath
    rule_given : (page : Page) (copied : Bool) → is_copying rs ≡ copied → (o : Option ℕ) → Rule s (Closed ∷ list_given page copied o)
    rule_given page copied is None = rule_closed [] tt
    rule_given page false is (Some number) =
        let p : PutList = list_put number (slice_index_or page.all_lists number []) in
        Falls (drops_all (state_weight s) (made Closed (record s { due = put_body p })) (put_body p) (plain_body p p.items) (λ v k. rw (k.stopped, k.work, e, w) (omega (arith, k.pending, asked_least falls rs, heavy, framed))))
    rule_given page true is (Some number) =
        let ms : List Move = tokens_entered (slice_index_or page.all_lists number []) in
        let v : State = made Closed (record s { due = ms }) in
        Falls (falls_copied (state_weight s) rs is (slice_index_or page.all_lists number []) v e (rw w refl) (rw (e, w) (omega (arith, heavy, framed))))

    -- the body of a call is put
    rule_put : (p : PutList) (is : List Item) → Rule s (arguments_put p is)
    rule_put p [] = rule_closed [] tt
    rule_put p (i ∷ is) = Falls (rw (e, w) (omega (arith, asked_least falls rs, heavy, framed)))

    rule_called : (j : Kind) (args : List (List Token)) → Rule s (called_with j args)
    rule_called (Arguments name long number ts) args = rule_put (call_put number ts args) (call_put number ts args).items
    rule_called j args = rule_closed [] tt

    falls_failed : (page : Page) (report : Report) (u : State) → Kept s u → Drops (state_weight s) (failed page report) u
    falls_failed page report u h = drops_report (state_weight s) u page report (Closed ∷ []) (some_weight s e) (λ v l. falls_closed v (kept_on s u v h l))

    rule_failed : (page : Page) (report : Report) → Rule s (put_one page.last.token ++ failed page report)
    rule_failed page report = Falls (drops_plain (state_weight s) s (put_one page.last.token) (failed page report) (plain_one page.last.token) (λ u h. falls_failed page report u h))

    rule_away : (page : Page) (report : Report) (o : Option Scanning) → Rule s (failed_away page report o)
    rule_away page report None = rule_failed page report
    rule_away page report (Some (SkippedText line)) = rule_failed page report
    rule_away page report (Some (Builds what name list)) =
        Falls (drops_plain (state_weight s) s (Written Transcript (away_text page what list) ∷ put_one page.last.token) (failed (page_behind page (away_text page what list)) report)
        (refl, plain_one page.last.token) (λ u h. falls_failed (page_behind page (away_text page what list)) report u h))

    -- behind its end
    abbrev ended_before : List Move → State
    ended_before ms = made Closed (record s { due = ms })

    ended_lighter : (ms : List Move) → state_weight (ended_before ms) < state_weight s
    ended_lighter ms = rw (e, w) (omega (arith, asked_least falls rs, heavy, framed))

    ended_begins : (ms : List Move) (j : Kind) → IsRead j → 1 + (weight j [] + (frame_weight j + frames (ended_before ms).work)) + check_weight * pending_weight s.pending < state_weight s
    ended_begins ms j h = rw (e, w) (omega (arith, heavy, framed, falls.begun_by_act j h, (falls.frames j).1))

    -- the command behind it is obeyed in its place
    rule_obeyed : (page : Page) (t : Token) (m : Meaning Unit) → Rule s (Closed ∷ command page t m)
    rule_obeyed page t m =
        let v : State = ended_before (command page t m) in
        Falls (drops_command (state_weight s) v e (ended_lighter (command page t m)) (ended_begins (command page t m)) v page t m (kept_none v))

    -- a conditional goes on by its test, or by the ender to which text was skipped
    rule_chosen : (page : Page) (c : Call) (value : TestValue) → Rule s (Closed ∷ chosen page c value)
    rule_chosen page c value =
        let v : State = ended_before (chosen page c value) in
        Falls (drops_chosen (state_weight s) v e (ended_lighter (chosen page c value)) (ended_begins (chosen page c value)) v page c value (kept_none v))

    rule_reached : (page : Page) (c : Call) (x : EnderStep) → Rule s (Closed ∷ reached page c x)
    rule_reached page c x =
        let v : State = ended_before (reached page c x) in
        Falls (drops_reached (state_weight s) v e (ended_lighter (reached page c x)) (ended_begins (reached page c x)) v page c x (kept_none v))

    rule_acts_on : (page : Page) (c : Call) (f : Effect) (ts : List Token) → Rule s (acts_on page c f ts)
    rule_acts_on page c effect.Message ts = rule_closed (Written Transcript (message_bytes (style_of page) page.in_line ts) ∷ []) (refl, tt)
    rule_acts_on page c effect.ErrorMessage ts =
        Falls (drops_told (state_weight s) s page (error_message_bytes (style_of page) page.in_line page.line ts) (Closed ∷ []) (some_weight s e) (λ u h. falls_closed u h))
    rule_acts_on page c effect.MakeName ts = rule_closed (name_made page (character_codes ts)) (plain_name page (character_codes ts))
    rule_acts_on page c (effect.SetList l) ts = rule_listed page c l ts
    rule_acts_on page c (effect.ChangeCase upper) ts =
        let changed : List Token = map (case_changed (case_codes upper page.now)) ts in
        rule_closed (put_text changed) (plain_text changed)
    rule_acts_on page c f ts = rule_closed [] tt

    -- `\input`: the reading of the name ends, and the file is opened or the run ends
    found_falls : (page : Page) (name : List ℕ) (o : Option (List ℕ)) (v : State) → v.stopped ≡ None → state_weight v < state_weight s → Drops (state_weight s) (unless_found page name o) v
    found_falls page name (Some bytes) v f less = less
    found_falls page name None v f less =
        drops_told (state_weight s) v page (missing_file_bytes (style_of page) page.in_line page.line name) (Written Transcript (emergency (style_of page) ++ no_file_line (style_of page)) ∷ Stopped (AtFatal NoFile) ∷ []) (some_weight s e)
        (λ u k. halted_none (state_weight s) u (emergency (style_of page) ++ no_file_line (style_of page)) (AtFatal NoFile) (some_weight s e))

    named_falls : (page : Page) (name : List ℕ) (o : Option (List ℕ)) (u : State) → Kept s u → Drops (state_weight s) (Closed ∷ NameInProgress false ∷ ListsEnded ∷ FileOpened name ∷ unless_found page name o) u
    named_falls page name o u h =
        let rest : List Move = NameInProgress false ∷ ListsEnded ∷ FileOpened name ∷ unless_found page name o in
        let v : State = made Closed (record u { due = rest }) in
        let less : state_weight v < state_weight s = rw (h.stopped, h.work, e, w) (omega (arith, h.pending, asked_least falls rs, heavy, framed)) in
        drops_plain (state_weight s) v (NameInProgress false ∷ ListsEnded ∷ FileOpened name ∷ []) (unless_found page name o) (refl, (refl, (refl, tt)))
        (λ x k. found_falls page name o x (k.stopped ∙ h.stopped ∙ e) (subst (λ (n : ℕ). n < state_weight s) (kept_weight v x (h.stopped ∙ e) k) less))

    rule_input : (files : Files) (page : Page) (back : Bool) (name : List ℕ) → Rule s (input_begun files page back name)
    rule_input files page back name =
        let rest : List Move = Closed ∷ NameInProgress false ∷ ListsEnded ∷ FileOpened name ∷ unless_found page name (files 0 name) in
        Falls (drops_plain (state_weight s) s (given_back back page.last) (Spelt name ∷ rest) (plain_back back page.last)
        (λ u h. drops_plain (state_weight s) u (Spelt name ∷ []) rest (refl, tt) (λ x k. named_falls page name (files 0 name) x (kept_on s u x h k))))

    rule_acts_in : (files : Files) (page : Page) (c : Call) (f : Effect) (ts : List Token) → Rule s (acts_in files page c f ts)
    rule_acts_in files page c (effect.StartInput back) ts = rule_input files page back (file_name (character_codes ts))
    rule_acts_in files page c f ts = rule_acts_on page c f ts

  -- `\expandafter`: its token waits, and what stands behind it is expanded above that
  rule_behind : (page : Page) (c : Call) (x y : Seen) → ask k fed ≡ Acts c (effect.ExpandBehind x y) → frame_weight k ≡ act_frame → Rule s (expanded_behind page c x y)
  rule_behind page c x y is framed =
      let ms : List Move = expanded page y (put_one y.token) in
      let t : State = made Closed (record s { due = Begun (Behind c x) ∷ ms }) in
      let v : State = made (Begun (Behind c x)) (record t { due = ms }) in
      let less : state_weight v < state_weight s = rw (e, w) (omega (arith, framed, falls.waits k fed c c x y x is)) in
      let more : (j : Kind) → IsRead j → 1 + (weight j [] + (frame_weight j + frames v.work)) + check_weight * pending_weight v.pending < state_weight s =
      λ j h. rw (e, w) (omega (arith, framed, falls.expanded_behind k fed c x y j is h)) in
      Falls (drops_expanded (state_weight s) v e less more v page y.token y.meaning (put_one y.token) (kept_none v)
      (drops_stays (state_weight s) v e less more v (put_one y.token) (kept_none v) (plain_one y.token)))

  module _ (c : Call) (page : Page) where
    rule_acts : (f : Effect) → ask k fed ≡ Acts c f → Rule s (acts_above rs page c f)
    rule_acts f is =
        by f is (subst (λ (n : ℕ). act_weight ≤ n) (sym (ap (ask_weight (end_weight k)) is)) (falls.heavy f)) (falls.ends k fed (subst IsLast (sym is) tt)) where
          by : (f : Effect) → ask k fed ≡ Acts c f → act_weight ≤ weight k fed → frame_weight k ≡ act_frame → Rule s (acts_above rs page c f)
          by (effect.Obey x) is h a = rule_obeyed h a page x.token x.meaning
          by (effect.Show x) is h a = rule_closed h a (shown page x) (refl, (refl, tt))
          by (effect.ShowValue l) is h a = rule_closed h a (location_shown page l) (refl, (refl, tt))
          by (effect.ShowNumber n) is h a = rule_closed h a (value_shown page (whole_number n) []) (refl, (refl, tt))
          by (effect.Let n x) is h a = rule_assigned h a page (Assigned (is_global page c) n (meaning_to_let page.now.meanings x)) refl
          by (effect.FutureLet n x y) is h a =
              let m : Move = Assigned (is_global page c) n (meaning_to_let page.now.meanings y) in
              rule_closed h a (put_one y.token ++ (put_one x.token ++ assigned page m)) (plain_future page x.token y.token m refl)
          by (effect.SetNumber l value) is h a = rule_assigned h a page (Set (is_global page c) l (val.Number value)) refl
          by (effect.SetGlue l g) is h a = rule_assigned h a page (Set (is_global page c) l (val.Skip g)) refl
          by (effect.ShareList l m) is h a = rule_assigned h a page (Set (is_global page c) l (get page.now m)) refl
          by (effect.PutList l) is h a = rule_given h a page (is_copying rs) refl (list_number page l)
          by (effect.Compute operation l d) is h a = rule_computed h a page c l (value_computed operation l (value_seen (get page.now l)) d)
          by (effect.Shorthand n meant) is h a = rule_assigned h a page (Assigned (is_global page c) n (short_meaning meant)) refl
          by effect.Unassigned is h a = rule_closed h a (behind_assignment page.after) (plain_behind page.after)
          by (effect.AfterGroup x) is h a = rule_closed h a (kept_for_group page.group x.token) (plain_kept page.group x.token)
          by (effect.AfterAssignment x) is h a = rule_closed h a (KeptForAssignment (Some x.token) ∷ []) (refl, tt)
          by (effect.ExpandBehind x y) is h a = rule_behind page c x y is a
          by (effect.PutBack x) is h a = rule_closed h a (put_one x.token) (plain_one x.token)
          by (effect.PutMarked x) is h a = rule_closed h a (put_one (marked x.token)) (plain_one (marked x.token))
          by (effect.MakeNumber n) is h a = rule_closed h a (put_characters (whole_number n)) (plain_text (made_text (whole_number n)))
          by (effect.MakeRoman n) is h a = rule_closed h a (put_characters (roman n)) (plain_text (made_text (roman n)))
          by (effect.MakeString x) is h a = rule_closed h a (put_characters (string_text (style_of page) x.token)) (plain_text (made_text (string_text (style_of page) x.token)))
          by (effect.MakeMeaning x) is h a = rule_closed h a (put_characters (meaning_characters page x)) (plain_text (made_text (meaning_characters page x)))
          by (effect.MakeValue l) is h a =
              rule_closed h a (put_characters (value_text l (value_seen (get page.now l)))) (plain_text (made_text (value_text l (value_seen (get page.now l)))))
          by (effect.Choose value) is h a = rule_chosen h a page c value
          by (effect.Compare x y) is h a = rule_chosen h a page c (Truth (same_meaning x.meaning y.meaning (are_same (tokens_meant page x) (tokens_meant page y))))
          by (effect.Reach aim ender) is h a = rule_reached h a page c (choices.step aim (above_sought aim page.conditionals) ender)
          by f is h a = rule_closed h a [] tt

  -- another reading begins
  rule_inner : (j : Phrase) (b : Bool) → ask k fed ≡ Inner j b → Rule s (inner_begun (Reads j) b)
  rule_inner j true is = Falls (rw (e, w) (omega (arith, falls.begun_with k fed j s.last is)))
  rule_inner j false is = Falls (rw (e, w) (omega (arith, falls.begun k fed j is)))

  -- it ends with a value
  falls_ended : (v : Value) (ts : List Token) → weight k fed ≡ value_weight → (u : State) → Kept s u → Drops (state_weight s) (Ended v ts ∷ []) u
  falls_ended v ts is u h = rw (h.stopped, h.work, e, w) (omega (arith, h.pending, weight_ended falls v ts rs, is, (falls.frames k).0))

  rule_done : (page : Page) (v : Value) (back : Bool) → weight k fed ≡ value_weight → Rule s (done page reading v back)
  rule_done page v back is =
      Falls (drops_plain (state_weight s) s (given_back back page.last) (Ended v (value_tokens v (lists k fed)) ∷ []) (plain_back back page.last) (λ u h. falls_ended v (value_tokens v (lists k fed)) is u h))

  -- a report was written, or what was asked for done, and noted
  module _ (notes : IsNoted (ask k fed)) where
    falls_noted : (u : State) → Kept s u → Drops (state_weight s) (Feeds Noted ∷ []) u
    falls_noted u h = rw (h.stopped, h.work, e, w) (omega (arith, h.pending, falls.noted k fed notes))

    falls_noting : (j : Kind) (gone : List Fed) (u : State) → Kept s u → Drops (state_weight s) (noting_kind j gone) u
    falls_noting (Arguments name long number ts) gone u h = falls_noted u h
    falls_noting j gone u h =
        drops_plain (state_weight s) u (grown_to (first_list (lists j gone)) (first_list (lists j (gone ++ Noted ∷ [])))) (Feeds Noted ∷ [])
        (plain_grown_to (first_list (lists j gone)) (first_list (lists j (gone ++ Noted ∷ [])))) (λ v b. falls_noted v (kept_on s u v h b))

    rule_told : (page : Page) (report : Report) (inserted : Option Token) (back : Bool) → Rule s (report_noted page report inserted back reading)
    rule_told page report inserted back =
        Falls (drops_plain (state_weight s) s (given_back back page.last) (put_inserted inserted ++ reported page report (noting reading)) (plain_back back page.last)
        (λ u a. drops_plain (state_weight s) u (put_inserted inserted) (reported page report (noting reading)) (plain_inserted inserted)
        (λ v b. drops_report (state_weight s) v page report (noting reading) (some_weight s e) (λ t c. falls_noting k fed t (kept_on s u t a (kept_on u v t b c))))))

    -- the check of the magnification
    falls_set : (mag : ℕ) (u : State) → Kept s u → Drops (state_weight s) (magnification_set mag (noting reading)) u
    falls_set mag u h =
        drops_plain (state_weight s) u (Set true (loc.Integer magnification) (val.Number (pos mag)) ∷ MagnificationSet mag ∷ []) (noting reading) (refl, (refl, tt))
        (λ v b. falls_noting k fed v (kept_on s u v h b))

    rule_legal : (page : Page) (n : ℤ) (legal : Bool) → Rule s (legal_or_not page n legal (noting reading))
    rule_legal page n true = Falls (drops_plain (state_weight s) s (MagnificationSet (nat_abs n) ∷ []) (noting reading) (refl, tt) (λ u a. falls_noting k fed u a))
    rule_legal page n false =
        Falls (drops_report (state_weight s) s page (IllegalMagnification n) (magnification_set 1000 (noting reading)) (some_weight s e) (λ u a. falls_set 1000 u a))

    rule_same : (page : Page) (n : ℤ) (m : ℕ) (same : Bool) →
        Rule s (if same then noting reading else reported page (IncompatibleMagnification n m) (magnification_set m (noting reading)))
    rule_same page n m true = Falls (falls_noting k fed s (kept_none s))
    rule_same page n m false =
        Falls (drops_report (state_weight s) s page (IncompatibleMagnification n m) (magnification_set m (noting reading)) (some_weight s e) (λ u a. falls_set m u a))

    rule_compared : (page : Page) (n : ℤ) (mag : ℕ) → Rule s (compared page n mag (noting reading))
    rule_compared page n zero = rule_legal page n (is_magnification n)
    rule_compared page n (suc m) = rule_same page n (suc m) (int_eq n (pos (suc m)))

    rule_noting : (ms : List Move) → AllPlain ms → Rule s (ms ++ noting reading)
    rule_noting ms h = Falls (drops_plain (state_weight s) s ms (noting reading) h (λ u a. falls_noting k fed u a))

  heavy_as : (a : Ask) → ask k fed ≡ a → act_weight ≤ ask_weight (end_weight k) a → act_weight ≤ weight k fed
  heavy_as a is h = omega (arith, h, ap (ask_weight (end_weight k)) is)

  rule_asked : (a : Ask) → ask k fed ≡ a → Rule s (answered s (reading ∷ rs) reading a)
  rule_asked (More want) is = rule_handed falls s (enters_names want) (scanning (reading ∷ rs) s.gathered) (λ x. wanted (page_of s) want (feeding reading x) x) e
  rule_asked (Inner j b) is = rule_inner j b is
  rule_asked (Done v back) is = rule_done (page_of s) v back (ap (ask_weight (end_weight k)) is)
  rule_asked (Acts c f) is = rule_acts c (page_of s) f is
  rule_asked (ActsOn c f ts) is = rule_acts_in (heavy_as _ is (omega arith)) (falls.ends k fed (subst IsLast (sym is) tt)) s.files (page_of s) c f ts
  rule_asked (Defines c n ts) is = rule_defined (heavy_as _ is (omega arith)) (falls.ends k fed (subst IsLast (sym is) tt)) (page_of s) c n ts
  rule_asked Closes is = rule_closed (heavy_as _ is (omega arith)) (falls.ends k fed (subst IsLast (sym is) tt)) [] tt
  rule_asked (Calls args) is = rule_called (heavy_as _ is (omega arith)) (falls.ends k fed (subst IsLast (sym is) tt)) k args
  rule_asked (Fails report) is = Falls (falls_failed (heavy_as _ is (omega arith)) (falls.ends k fed (subst IsLast (sym is) tt)) (page_of s) report s (kept_none s))
  rule_asked (RunsAway report) is = rule_away (heavy_as _ is (omega arith)) (falls.ends k fed (subst IsLast (sym is) tt)) (page_of s) report (scanning (reading ∷ rs) s.gathered)
  rule_asked (Tells report back) is = rule_told (subst IsNoted (sym is) tt) (page_of s) report None back
  rule_asked (Inserts t report back) is = rule_told (subst IsNoted (sym is) tt) (page_of s) report (Some t) back
  rule_asked (Puts t more) is = rule_noting (subst IsNoted (sym is) tt) (put_one t) (plain_one t)
  rule_asked (Relaxes c n) is = rule_noting (subst IsNoted (sym is) tt) (Assigned (is_global (page_of s) c) n (means.Prim relax_primitive) ∷ []) (refl, tt)
  rule_asked Magnifies is = rule_compared (subst IsNoted (sym is) tt) (page_of s) (integer_in s.groups.now magnification) s.mag_set
  rule_asked (Fetches l) is = Falls (rw (e, w) (omega (arith, falls.fetched k fed l (value_seen (get s.groups.now l)) is)))

rule_work : WeightsFall → (s : State) (work : List Reading) → s.stopped ≡ None → s.work ≡ work → Rule s (planned s work)
rule_work falls s [] e w = rule_handed falls s false None (stomach (page_of s)) e
rule_work falls s (r ∷ rs) e w = rule_asked falls s r.kind r.fed rs e w (ask r.kind r.fed) refl

-- a file that was opened is begun by a step
rule_next : WeightsFall → (s : State) (o : Option (List ℕ)) → s.stopped ≡ None → Rule s (ruled s o)
rule_next falls s (Some bytes) e = Step _ _ refl refl
rule_next falls s None e = rule_work falls s s.work e refl

rule_stopped : WeightsFall → (s : State) (o : Option Outcome) → s.stopped ≡ o → Rule s (plan s o)
rule_stopped falls s (Some o) e = Over refl
rule_stopped falls s None e = rule_next falls s s.pending.next e

pub rule : WeightsFall → (s : State) → Rule s (plan s s.stopped)
rule falls s = rule_stopped falls s s.stopped refl
