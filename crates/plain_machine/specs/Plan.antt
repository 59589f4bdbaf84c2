-- The plain machine: the moves of the rule that comes next, and the next move.
use Rattle.std.specs.Prelude.{ℕ, ◌+◌, zero, suc, ℤ, pos, negsuc, nat_abs, Bool, true, false, ◌==◌, ◌||◌, List, [], ◌∷◌, ◌++◌, length, map, drop, slice_index_or, nat_lt, if◌then◌else◌, Option, Some, None}
use Rattle.std.specs.Ordering.{int_eq}
use Rattle.tex_syntax.specs.declared.words.Want.{Want}
use Rattle.tex_syntax.specs.declared.words.Want.TheVariants.{Raw, Unentered, Expanded, Copied, Nonblank, Command}
use Rattle.tex_syntax.specs.declared.words.Report.{Report}
use Rattle.tex_syntax.specs.declared.words.Report.TheVariants.{ArithmeticOverflow, UndefinedName, InvalidCharacter, FileEnded, Forbidden, ExtraEndcsname, TooManyBraces, ForgottenEndgroup, ExtraEndgroup, MissingRightBrace, IncompatibleMagnification, IllegalMagnification, ExtraFiOrElse, IncompleteConditional}
use Rattle.tex_syntax.specs.declared.words.Scanned.{Scanned}
use Rattle.tex_syntax.specs.declared.words.Scanned.TheVariants as scanned
use Rattle.tex_syntax.specs.declared.words.Outcome.{Outcome}
use Rattle.tex_syntax.specs.declared.words.Outcome.TheVariants.{Finished, AtFatal}
use Rattle.tex_defs.specs.declared.Token.{Token}
use Rattle.tex_defs.specs.declared.Token.TheVariants as token
use Rattle.tex_defs.specs.declared.Name.{Name}
use Rattle.tex_defs.specs.declared.Name.TheVariants as name
use Rattle.tex_defs.specs.declared.Frozen.TheVariants as frozen
use Rattle.tex_defs.specs.declared.Meaning.{Meaning}
use Rattle.tex_defs.specs.declared.Meaning.TheVariants as means
use Rattle.tex_defs.specs.declared.Seen.{Seen}
use Rattle.tex_defs.specs.declared.RegisterKind.{RegisterKind}
use Rattle.equivalents.specs.declared.values.Loc.{Loc}
use Rattle.equivalents.specs.declared.values.Loc.TheVariants as loc
use Rattle.tex_defs.specs.declared.Fatal.TheVariants.{NoEnd, NoFile, HundredErrors}
use Rattle.tex_defs.specs.Places.{Transcript}
use Rattle.prim_table.specs.Primitives.{primitive_names, is_in_row, is_expanded}
use Rattle.prim_table.specs.declared.Class.TheVariants as class
use Rattle.plain_tokens.specs.Categories.{begin_group, end_group, is_between}
use Rattle.plain_tokens.specs.Names.{name_of, means_relax, relax_primitive, par_primitive, end_primitive}
use Rattle.plain_tokens.specs.Tokens.{is_space, is_outer, is_undefined, space_token, made_text, character_codes}
use Rattle.plain_tokens.specs.Meanings.{fi_primitive, name_meaning, met as met_token, meaning_to_let, seen_as}
use Rattle.equivalents.specs.declared.values.Val.TheVariants as val
use Rattle.equivalents.specs.First.{global_definitions, magnification}
use Rattle.save_stack.specs.declared.GroupKind.{GroupKind}
use Rattle.save_stack.specs.declared.GroupKind.TheVariants.{Simple, SemiSimple}
use Rattle.equivalents.specs.Groups.{Groups, depth, current_group, tokens_after}
use Rattle.equivalents.specs.Locations.{V, SeenValue, zero_value, value_seen, tokens_of}
use Rattle.equivalents.specs.Cases.{case_codes, case_changed}
use Rattle.equivalents.specs.Tables.{Tables, get}
use Rattle.plain_tokens.specs.Puts.{Item, Put as PutList, call_put, list_put}
use Rattle.plain_tokens.specs.Lookup.{token_of, new_name, name_among, new_among}
use Rattle.plain_tokens.specs.Printed.{Style, meaning_text, meaning_tokens}
use Rattle.plain_tokens.specs.Numerals.{whole_number, roman}
use Rattle.plain_tokens.specs.Lines.{first_line}
use Rattle.plain_tokens.specs.Pending.{Pulled, TokenFrom, LexemeFrom, LineTaken, InvalidMet, FileOver, NothingLeft, bottom, pulled}
use Rattle.plain_tokens.specs.Arguments.{has_parameters, arguments_in, work_in, are_same}
use Rattle.plain_tokens.specs.Arguments as call
use Rattle.plain_state.specs.Reports.{in_line_after, missing_file_bytes, fresh_line, end_in_group, end_in_conditional, report_bytes, error_message_bytes, shown_meaning_bytes, shown_value_bytes, string_text, hundred_line, emergency, no_end_line, no_file_line, token_line_bytes, runaway_bytes, message_bytes}
use Rattle.command_words.specs.Words.{job_name, file_name}
use Rattle.conditionals.specs.declared.choice.Aim.{Aim}
use Rattle.conditionals.specs.declared.choice.Aim.TheVariants as aim
use Rattle.conditionals.specs.declared.choice.Value.{Value as TestValue}
use Rattle.conditionals.specs.declared.choice.Value.TheVariants.{Truth}
use Rattle.conditionals.specs.declared.choice.End.{End}
use Rattle.conditionals.specs.declared.choice.End.TheVariants as ending
use Rattle.conditionals.specs.declared.choice.Passing.{Passing}
use Rattle.conditionals.specs.declared.choice.Passing.TheVariants as passing
use Rattle.conditionals.specs.declared.choice.Step.{Step}
use Rattle.conditionals.specs.declared.choice.Step.TheVariants as step
use Rattle.conditionals.specs.declared.limits.Limit.{Limit}
use Rattle.conditionals.specs.declared.limits.Met.{Met}
use Rattle.conditionals.specs.declared.limits.Met.TheVariants as limited
use Rattle.conditionals.specs.declared.open.Conditional.{Conditional}
use Rattle.conditionals.specs.declared.skip.Ender.{Ender}
use Rattle.conditionals.specs.declared.skip.Ender.TheVariants.{Fi, Else, Or}
use Rattle.conditionals.specs.Choices as choices
use Rattle.conditionals.specs.Limits as limits
use Rattle.conditionals.specs.Open.{limit_of, innermost_test, above_sought, constant_test}
use Rattle.conditionals.specs.Skipping.{else_primitive, or_primitive, ender_number}
use Rattle.conditionals.specs.Same.{same_meaning}
use Rattle.rows.specs.declared.words.Value.{Value}
use Rattle.rows.specs.declared.words.Value.TheVariants as value
use Rattle.rows.specs.declared.words.Phrase.TheVariants.{Command as Row}
use Rattle.rows.specs.declared.command.Head.{Head}
use Rattle.rows.specs.declared.command.Head.TheVariants.{Primitive, Register}
use Rattle.rows.specs.declared.command.Shorthand.{Shorthand}
use Rattle.rows.specs.declared.command.Shorthand.TheVariants as shorthand
use Rattle.rows.specs.declared.command.Call.{Call}
use Rattle.rows.specs.declared.command.Effect.{Effect}
use Rattle.rows.specs.declared.command.Effect.TheVariants as effect
use Rattle.rows.specs.Table.{has_row}
use Rattle.rows.specs.Arithmetic.{value_computed}
use Rattle.rows.specs.Internal.{value_text}
use Rattle.rows.specs.Readings.{Fed, Tok, Noted, Cut, Fetched, Verbatim, Ask, More, Inner, Done, Acts, ActsOn, Defines, Ends as Closes, Calls, Fails, RunsAway, Tells, Inserts, Puts, Relaxes, Fetches, Magnifies}
use Rattle.plain_readings.specs.Calls.{gathered, par_token}
use Rattle.plain_readings.specs.Spelling.{endcsname_primitive}
use Rattle.plain_readings.specs.Readings.{Kind, Reads, Spelling, FileName, Arguments, Behind, Skips, Reading, ask, lists}
use Rattle.plain_readings.specs.Scanning.{Scanning, Builds, SkippedText, scanning}
use Rattle.equivalents.specs.Parameters.{integer_in, style_in}
use Rattle.plain_machine.specs.States.{Move, Handed, Taken, FirstTaken, ListsEnded, Skipped, FileClosed, FileEnds, FileOpened, Spelt, NameInProgress, Files, Entered, Kept, Grows, Feeds, Completed, Opened, ListBegun, ListGrown, Put, ListDropped, Called, CalledWith, Set, Assigned, Defined, ListSet, GroupOpened, GroupClosed, KeptForGroup, KeptForAssignment, MagnificationSet, ConditionOpened, LimitSet, ConditionClosed, Written, Begun, BegunWith, Ended, Closed, Reported, Flawed, Stopped, State, no_token, made}

-- What the moves of a rule depend on: what stands at all locations, how many groups are open, the kind of the innermost and the tokens that come after it
-- (the last first), the token that comes behind the next assignment, the magnification that is set for good, the open conditionals, the names entered, the job's name, all lists so far, the token
-- that a reading was fed with last, whether a file's name is being read, whether the transcript's column isn't 0, the number of the line that is read, the reports so far, and
-- whether token lines are left out.
pub record Page : Type 0 where
  pub now : Tables
  pub depth : ℕ
  pub group : Option GroupKind
  pub tokens : List Token
  pub after : Option Token
  pub mag_set : ℕ
  pub conditionals : List Conditional
  pub names : List (List ℕ)
  pub strings : List (List ℕ)
  pub all_lists : List (List Token)
  pub last : Seen
  pub naming : Bool
  pub in_line : Bool
  pub line : ℕ
  pub reports : ℕ
  pub quiet : Bool

abbrev pub page_of : State → Page
page_of s = record {
  now = s.groups.now;
  depth = depth s.groups;
  group = current_group s.groups;
  tokens = tokens_after s.groups;
  after = s.after;
  mag_set = s.mag_set;
  conditionals = s.conditionals;
  names = s.names;
  strings = s.strings;
  all_lists = s.all_lists;
  last = s.last;
  naming = s.naming;
  in_line = s.in_line;
  line = s.pending.number;
  reports = s.reports;
  quiet = s.quiet;
}

-- how its texts are printed
abbrev pub style_of : Page → Style
style_of page = style_in page.now page.names

-- the line that says where `\end` came, where a group is open
abbrev pub groups_left : Page → List ℕ
groups_left page = if page.depth == 0 then [] else end_in_group (style_of page) page.depth

-- the line that says where it came, for each open conditional
abbrev pub conditionals_left : Style → List Conditional → List Move
conditionals_left style [] = []
conditionals_left style (c ∷ cs) = Written Transcript (end_in_conditional style c.number c.line) ∷ conditionals_left style cs

-- `\end`: the run ends on a fresh line
abbrev pub finish : Page → List Move
finish page =
    Written Transcript (fresh_line page.in_line ++ groups_left page)
    ∷ (conditionals_left (style_of page) page.conditionals ++ Stopped Finished ∷ [])

-- nothing is left to be read
abbrev pub no_end : Page → List Move
no_end page =
    Written Transcript (fresh_line page.in_line ++ (emergency (style_of page) ++ no_end_line (style_of page))) ∷ Stopped (AtFatal NoEnd) ∷ []

-- the reports that a run may have, but for the last
abbrev pub reports_room : ℕ
reports_room = 99

-- Behind a report the rule goes on, but behind the hundredth the run ends.
abbrev pub behind_report : Style → ℕ → List Move → List Move
behind_report style reports rest =
    if nat_lt reports reports_room then rest else Written Transcript (hundred_line style) ∷ Stopped (AtFatal HundredErrors) ∷ []

-- a report, and the moves behind it
abbrev pub reported : Page → Report → List Move → List Move
reported page report rest =
    Written Transcript (report_bytes (style_of page) page.in_line page.line report) ∷ Reported
    ∷ behind_report (style_of page) page.reports rest

-- the report of `\errmessage`, which has this text
abbrev pub reported_as : Page → List Token → List Move → List Move
reported_as page ts rest =
    Written Transcript (error_message_bytes (style_of page) page.in_line page.line ts) ∷ Reported ∷ behind_report (style_of page) page.reports rest

-- a token that only typesetting would use
abbrev pub token_line : Page → Meaning Unit → List Move
token_line page m = if page.quiet then [] else Written Transcript (token_line_bytes (style_of page) page.in_line m) ∷ []

-- a token put in front: the list of it is begun, grown and put, once the finished lists in front have gone
abbrev pub put_one : Token → List Move
put_one t = ListsEnded ∷ ListBegun ∷ ListGrown t ∷ Put (t ∷ []) ∷ []

-- the list that was made is put; one without tokens goes
abbrev pub put_made : List Token → List Move
put_made [] = ListDropped ∷ []
put_made (t ∷ ts) = Put (t ∷ ts) ∷ []

-- a text put in front
abbrev pub put_text : List Token → List Move
put_text ts = ListsEnded ∷ ListBegun ∷ (map ListGrown ts ++ put_made ts)

abbrev pub put_characters : List ℕ → List Move
put_characters characters = put_text (made_text characters)

-- CALLS OF MACROS

-- the body of a macro is put; one without items isn't, and nothing is asked for
abbrev pub body_put : PutList → List Item → List Move
body_put p [] = []
body_put p (x ∷ xs) = ListsEnded ∷ Called p ∷ []

abbrev pub put_body : PutList → List Move
put_body p = body_put p p.items

-- a macro with a parameter text gathers its arguments
abbrev pub called_by : Name → (long : Bool) → (number : ℕ) → List Token → List Move
called_by name long number ts =
    if has_parameters ts then Begun (Arguments name long number ts) ∷ []
    else put_body (call_put number ts [])

abbrev pub called_list : Page → Name → (long : Bool) → Option ℕ → List Move
called_list page name long None = []
called_list page name long (Some number) = called_by name long number (slice_index_or page.all_lists number [])

abbrev pub called_meaning : Page → Name → Meaning (Option ℕ) → List Move
called_meaning page name (means.Macro long outer list) = called_list page name long list
called_meaning page name m = []

-- a macro's name is expanded
abbrev pub called : Page → Token → List Move
called page t = called_meaning page (name_of t) (name_meaning page.now.meanings (name_of t))

-- PRIMITIVES

-- a command by what its name means and the name as it was written, without prefixes
abbrev pub call_of : Token → Head → Call
call_of t h = record { head = h; name = name_of t; long = false; outer = false; global = false }

-- its reading begins, by its row
abbrev pub begun : Token → Head → List Move
begun t h = Begun (Reads (Row (call_of t h))) ∷ []

abbrev pub csname_primitive : ℕ
csname_primitive = 56

abbrev pub jobname_primitive : ℕ
jobname_primitive = 61

abbrev pub input_primitive : ℕ
input_primitive = 63

abbrev pub endinput_primitive : ℕ
endinput_primitive = 64

-- the job's name is the first string that is kept
abbrev pub job_in : List (List ℕ) → List ℕ
job_in [] = []
job_in (name ∷ strings) = name

-- a `\relax` that no assignment changes
abbrev pub frozen_relax : Token
frozen_relax = token.Named (name.Frozen frozen.Relax)

-- `\input`, by this token: a file's name is read. Where one is being read already it is put back, behind a frozen `\relax`, which ends that name.
abbrev pub input_met : Page → Token → Call → List Move
input_met page t c = if page.naming then put_one t ++ put_one frozen_relax else Begun (FileName c) ∷ NameInProgress true ∷ []

-- CONDITIONALS

-- text is skipped for a conditional that seeks this, from here on
abbrev pub skips : Page → Call → Aim → List Move
skips page c a = Begun (Skips c a page.line) ∷ []

-- it reads on with this limit, or skips text
abbrev pub limited_or_skips : Page → Call → Aim → Option Limit → List Move
limited_or_skips page c a (Some l) = LimitSet l ∷ []
limited_or_skips page c a None = skips page c a

-- by the value of its test
abbrev pub chosen : Page → Call → TestValue → List Move
chosen page c v = limited_or_skips page c (choices.aim v) (choices.start (choices.aim v))

-- One begins: a reading of what it tests, and the conditional, on this line. What reads nothing ends at once.
abbrev pub conditional_begun : Page → Call → ℕ → Option Bool → List Move
conditional_begun page c number None = Begun (Reads (Row c)) ∷ ConditionOpened number page.line ∷ []
conditional_begun page c number (Some truth) = Begun (Reads (Row c)) ∷ ConditionOpened number page.line ∷ Closed ∷ chosen page c (Truth truth)

-- a `\fi`, an `\else` or an `\or` in text that is read, by how far the innermost conditional has come
abbrev pub ender_comes : Page → Token → Call → Ender → Met → List Move
ender_comes page t c e limited.RelaxBefore = put_one t ++ put_one frozen_relax
ender_comes page t c e limited.Extra = reported page (ExtraFiOrElse (ender_number e)) []
ender_comes page t c e limited.SkipsToFi = skips page c aim.Fi
ender_comes page t c e limited.Closes = ConditionClosed ∷ []

abbrev pub ender_met : Page → Token → Call → Ender → List Move
ender_met page t c e = ender_comes page t c e (limits.met (limit_of page.conditionals) e)

abbrev pub conditional_met : Page → Token → Call → ℕ → List Move
conditional_met page t c number =
    if number == fi_primitive then ender_met page t c Fi
    else if number == else_primitive then ender_met page t c Else
    else if number == or_primitive then ender_met page t c Or
    else conditional_begun page c number (constant_test number)

-- An expansion begins its reading, which `\jobname` ends at once; by `\endinput` the innermost file is to end.
abbrev pub expansion : Page → Token → ℕ → List Move
expansion page t number =
    if number == csname_primitive then Begun (Spelling (call_of t (Primitive number))) ∷ []
    else if number == jobname_primitive then begun t (Primitive number) ++ (put_characters (job_in page.strings) ++ Closed ∷ [])
    else if number == input_primitive then input_met page t (call_of t (Primitive number))
    else if number == endinput_primitive then FileEnds ∷ []
    else if is_in_row class.Conditional number then conditional_met page t (call_of t (Primitive number)) number
    else begun t (Primitive number)

-- GROUPS

abbrev pub begingroup_primitive : ℕ
begingroup_primitive = 2

abbrev pub endgroup_primitive : ℕ
endgroup_primitive = 3

-- these tokens are put in front, one behind the other, the first of them deepest
abbrev pub put_each : List Token → List Move
put_each [] = []
put_each (t ∷ ts) = put_one t ++ put_each ts

-- The innermost group ends, and the tokens that come after it are put in front: the last first, so they come in their order.
abbrev pub group_ended : Page → List Move
group_ended page = GroupClosed ∷ put_each page.tokens

-- a right brace, by the kind of the innermost group
abbrev pub brace_met : Page → Option GroupKind → List Move
brace_met page None = reported page TooManyBraces []
brace_met page (Some Simple) = group_ended page
brace_met page (Some SemiSimple) = reported page ForgottenEndgroup []

-- a right brace, which is inserted or closes a group
abbrev pub right_brace : Token
right_brace = token.Char end_group 125

-- `\endgroup`, by this token; in a group that a brace opened it is put back, and a right brace inserted
abbrev pub endgroup_met : Page → Token → Option GroupKind → List Move
endgroup_met page t None = reported page ExtraEndgroup []
endgroup_met page t (Some SemiSimple) = group_ended page
endgroup_met page t (Some Simple) = put_one t ++ (put_one right_brace ++ reported page MissingRightBrace [])

-- a primitive in the stomach that isn't expanded
abbrev pub primitive : Page → Token → ℕ → List Move
primitive page t number =
    if has_row (Primitive number) then begun t (Primitive number)
    else if number == end_primitive then finish page
    else if number == relax_primitive then []
    else if number == begingroup_primitive then GroupOpened SemiSimple ∷ []
    else if number == endgroup_primitive then endgroup_met page t page.group
    else if number == endcsname_primitive then reported page ExtraEndcsname []
    else token_line page (means.Prim number)

-- a primitive that is expanded begins its expansion; another comes to these moves
abbrev pub unless_expanded : Page → Token → ℕ → List Move → List Move
unless_expanded page t number moves = if is_expanded number then expansion page t number else moves

-- a token is expanded once: an undefined name is reported and dropped, a macro called, a primitive expanded; another comes to these moves
abbrev pub expanded_as : Page → Token → Meaning Unit → List Move → List Move
expanded_as page t means.Undefined moves = reported page UndefinedName []
expanded_as page t (means.Macro long outer list) moves = called page t
expanded_as page t (means.Prim number) moves = unless_expanded page t number moves
expanded_as page t m moves = moves

abbrev pub expanded : Page → Seen → List Move → List Move
expanded page x moves = expanded_as page x.token x.meaning moves

-- a character in the stomach, explicit or implicit: braces open and close groups
abbrev pub character : Page → (category code : ℕ) → List Move
character page category code =
    if category == begin_group then GroupOpened Simple ∷ []
    else if category == end_group then brace_met page page.group
    else token_line page (means.Char category code)

-- the name of a register, which is an assignment
abbrev pub register : Page → Token → RegisterKind → (number : ℕ) → List Move
register page t kind number =
    if has_row (Register kind number) then begun t (Register kind number) else token_line page (means.Register kind number)

-- what a token that isn't expanded comes to in the stomach
abbrev pub command : Page → Token → Meaning Unit → List Move
command page t (means.Prim number) = primitive page t number
command page t (means.Register kind number) = register page t kind number
command page t (means.Char category code) = character page category code
command page t means.RelaxMarked = []
command page t m = token_line page m

-- a token where no reading is open
abbrev pub stomach : Page → Seen → List Move
stomach page x = expanded page x (command page x.token x.meaning)

-- FEEDING A READING

-- the tokens by which a list becomes another that goes on from it
abbrev pub grown_to : List Token → List Token → List Move
grown_to before after = map Grows (drop (length before) after)

-- a place that is reached has its list begun
abbrev pub opened : Option (List Token) → List Move
opened None = []
opened (Some work) = Opened ∷ []

-- in a place: either an argument is whole, or its list goes on
abbrev pub in_place : Seen → List Token → (complete : List (List Token)) → Option (List Token) → List Move
in_place x work (a ∷ more) next = grown_to work a ++ Feeds (Tok x) ∷ Completed a ∷ opened next
in_place x work [] None = Feeds (Tok x) ∷ []
in_place x work [] (Some after) = grown_to work after ++ Feeds (Tok x) ∷ []

-- by the list in work, the arguments that are whole now and weren't, and the list in work then
abbrev pub argument_fed : Seen → Option (List Token) → (complete : List (List Token)) → Option (List Token) → List Move
argument_fed x None complete next = Feeds (Tok x) ∷ opened next
argument_fed x (Some work) complete next = in_place x work complete next

abbrev pub call_fed : Seen → (before after : call.Answer) → List Move
call_fed x before after = argument_fed x (work_in before) (drop (length (arguments_in before)) (arguments_in after)) (work_in after)

-- the last of the lists that a reading holds
abbrev pub first_list : List (List Token) → List Token
first_list [] = []
first_list (ts ∷ lists) = ts

-- the list that is built grows by what goes into it because of this, and the reading goes on behind it
abbrev pub grown_and_fed : Kind → List Fed → Fed → List Move
grown_and_fed k fed y = grown_to (first_list (lists k fed)) (first_list (lists k (fed ++ y ∷ []))) ++ Feeds y ∷ []

abbrev pub feeding_kind : Kind → List Fed → Seen → List Move
feeding_kind (Arguments name long number ts) fed x = call_fed x (gathered long ts fed) (gathered long ts (fed ++ Tok x ∷ []))
feeding_kind k fed x = grown_and_fed k fed (Tok x)

-- a token is fed
abbrev pub feeding : Reading → Seen → List Move
feeding r x = feeding_kind r.kind r.fed x

-- the note that a report was written
abbrev pub noting_kind : Kind → List Fed → List Move
noting_kind (Arguments name long number ts) fed = Feeds Noted ∷ []
noting_kind k fed = grown_and_fed k fed Noted

abbrev pub noting : Reading → List Move
noting r = noting_kind r.kind r.fed

-- what is made of a token that a reading wants so, which is fed by these moves
abbrev pub wanted : Page → Want → List Move → Seen → List Move
wanted page Raw feeds x = feeds
wanted page Unentered feeds x = feeds
wanted page Expanded feeds x = expanded page x feeds
wanted page Copied feeds x = expanded page x feeds
wanted page Nonblank feeds x = if is_space x then [] else expanded page x feeds
wanted page Command feeds x = if is_space x || means_relax x.meaning then [] else expanded page x feeds

-- CHECKS, where a file has ended or the name of an \outer macro has come

-- what is inserted at a check
abbrev pub inserted_at : Scanned → Token
inserted_at scanned.Definition = right_brace
inserted_at scanned.Text = right_brace
inserted_at scanned.Use = par_token

-- a call notes that a check came
abbrev pub cut_or_not : Scanned → List Move → List Move
cut_or_not scanned.Use rest = Feeds Cut ∷ rest
cut_or_not what rest = rest

-- where a file has ended, and the one beneath it stands at this line
abbrev pub at_line : ℕ → Page → Page
at_line number page = record page { line = number }

-- behind a text
abbrev pub page_behind : Page → List ℕ → Page
page_behind page text = record page { in_line = in_line_after page.in_line text }

abbrev pub away_text : Page → Scanned → (list : List Token) → List ℕ
away_text page what list = runaway_bytes what (style_of page) page.in_line list

-- The list so far is shown, `}` or `\par` inserted, and the report comes.
abbrev pub ran_away : Page → Report → Scanned → (list : List Token) → List Move → List Move
ran_away page report what list rest =
    Written Transcript (away_text page what list)
    ∷ (put_one (inserted_at what) ++ reported (page_behind page (away_text page what list)) report (cut_or_not what rest))

-- the frozen `\fi`, which no assignment changes
abbrev pub frozen_fi : Token
frozen_fi = token.Named (name.Frozen frozen.Fi)

-- Text is skipped: a `\fi` is inserted, and the report comes, of the innermost conditional and the line where skipping began.
abbrev pub incomplete : Page → (line : ℕ) → List Move → List Move
incomplete page line rest = put_one frozen_fi ++ reported page (IncompleteConditional (innermost_test page.conditionals) line) rest

-- the check where a file has ended while a reading goes on
abbrev pub checked : Page → Option Scanning → List Move
checked page None = []
checked page (Some (Builds what name list)) = ran_away page (FileEnded what name) what list []
checked page (Some (SkippedText line)) = incomplete page line []

-- The name of an \outer macro is put back where a reading goes on, and a space takes its place.
abbrev pub met_outer : Page → Option Scanning → Token → (onward : Seen → List Move) → List Move
met_outer page None t onward = onward (met_token page.now.meanings t)
met_outer page (Some (Builds what name list)) t onward =
    put_one t ++ ran_away page (Forbidden what name) what list (onward (met_token page.now.meanings space_token))
met_outer page (Some (SkippedText line)) t onward = put_one t ++ incomplete page line (onward (met_token page.now.meanings space_token))

abbrev pub met : Page → Option Scanning → (onward : Seen → List Move) → Seen → List Move
met page s onward x = if is_outer x.meaning then met_outer page s x.token onward else onward x

-- names that join those that are entered
abbrev pub entered : List (List ℕ) → List Move
entered [] = []
entered (name ∷ names) = Entered name ∷ []

-- The next token or line, and what is made of the token. A reading that enters names enters a new one behind the step.
abbrev pub handed : Page → (enters : Bool) → Option Scanning → (onward : Seen → List Move) → Pulled → List Move
handed page enters s onward (TokenFrom t p) = ListsEnded ∷ Handed t ∷ met page s onward (met_token page.now.meanings t)
handed page enters s onward (LexemeFrom x p) =
    ListsEnded ∷ Handed (token_of enters page.names x)
    ∷ (entered (new_name enters page.names x) ++ met page s onward (met_token page.now.meanings (token_of enters page.names x)))
handed page enters s onward (LineTaken line p) = ListsEnded ∷ Taken line ∷ []
handed page enters s onward (InvalidMet p) = ListsEnded ∷ Skipped ∷ reported page InvalidCharacter []
handed page enters s onward (FileOver p) = ListsEnded ∷ FileClosed ∷ checked (at_line p.number page) s
handed page enters s onward NothingLeft = ListsEnded ∷ no_end page

-- a raw reading enters names
abbrev pub enters_names : Want → Bool
enters_names Raw = true
enters_names want = false

-- GIVING BACK

-- the token looked at is put back, a list of one token
abbrev pub given_back : Bool → Seen → List Move
given_back back last = if back then put_one last.token else []

abbrev pub put_inserted : Option Token → List Move
put_inserted None = []
put_inserted (Some t) = put_one t

-- A reading reports, and goes on; a token may be given back before, and another inserted.
abbrev pub report_noted : Page → Report → Option Token → Bool → Reading → List Move
report_noted page report inserted back r = given_back back page.last ++ (put_inserted inserted ++ reported page report (noting r))

-- THE END OF A READING

-- a reading begins, with the token that this one looked at or without one
abbrev pub inner_begun : Kind → (begins : Bool) → List Move
inner_begun k begins = if begins then BegunWith k ∷ [] else Begun k ∷ []

-- what a value is of: its list, where it is one
abbrev pub value_tokens : Value → List (List Token) → List Token
value_tokens value.List held = first_list held
value_tokens (value.Plain d) held = []

-- the reading is done with this value
abbrev pub done : Page → Reading → Value → (give_back : Bool) → List Move
done page r v back = given_back back page.last ++ Ended v (value_tokens v (lists r.kind r.fed)) ∷ []

-- the arguments of a call are there: they pass to the body, which is put; one without items isn't
abbrev pub arguments_put : PutList → List Item → List Move
arguments_put p [] = Closed ∷ []
arguments_put p (x ∷ xs) = ListsEnded ∷ CalledWith p ∷ []

abbrev pub put_with : PutList → List Move
put_with p = arguments_put p p.items

abbrev pub called_with : Kind → List (List Token) → List Move
called_with (Arguments name long number ts) args = put_with (call_put number ts args)
called_with k args = Closed ∷ []

-- a reading reports, and ends
abbrev pub failed : Page → Report → List Move
failed page report = reported page report (Closed ∷ [])

-- it ran away: the list so far is shown, the last token put back, and the report comes
abbrev pub failed_away : Page → Report → Option Scanning → List Move
failed_away page report (Some (Builds what name list)) =
    Written Transcript (away_text page what list)
    ∷ (put_one page.last.token ++ failed (page_behind page (away_text page what list)) report)
failed_away page report s = put_one page.last.token ++ failed page report

-- WHAT A COMMAND DOES, and its reading ends

-- these moves, and the reading ends
abbrev pub and_closed : List Move → List Move
and_closed moves = moves ++ Closed ∷ []

-- The token is expanded, or put back where it can't be, while the first one waits behind it in a reading of its own.
abbrev pub expanded_behind : Page → Call → (first second : Seen) → List Move
expanded_behind page c first second = Closed ∷ Begun (Behind c first) ∷ expanded page second (put_one second.token)

-- a name as a marked one; another token as it is
abbrev pub marked : Token → Token
marked (token.Named n) = token.Marked n
marked t = t

-- what names mean, with the lists of macros, and the lists of locations
abbrev pub shared_tokens : List (List Token) → Option ℕ → List Token
shared_tokens all_lists None = []
shared_tokens all_lists (Some number) = slice_index_or all_lists number []

abbrev pub meaning_characters : Page → Seen → List ℕ
meaning_characters page x = meaning_text (style_of page) (shared_tokens page.all_lists) (meaning_to_let page.now.meanings x)

-- the tokens of the macro that a token means, where it means one
abbrev pub tokens_meant : Page → Seen → List Token
tokens_meant page x = meaning_tokens (shared_tokens page.all_lists) (meaning_to_let page.now.meanings x)

-- `\show`: it makes the status 1
abbrev pub shown : Page → Seen → List Move
shown page x =
    Written Transcript (shown_meaning_bytes (style_of page) page.in_line page.line x.token x.meaning (tokens_meant page x))
    ∷ Flawed ∷ []

-- the list that stands at a location
abbrev pub list_number : Page → Loc → Option ℕ
list_number page l = tokens_of (get page.now l)

-- `\showthe`: this too
abbrev pub value_shown : Page → (text : List ℕ) → (ts : List Token) → List Move
value_shown page text ts = Written Transcript (shown_value_bytes (style_of page) page.in_line page.line text ts) ∷ Flawed ∷ []

-- of a location
abbrev pub location_shown : Page → Loc → List Move
location_shown page l = value_shown page (value_text l (value_seen (get page.now l))) (shared_tokens page.all_lists (list_number page l))

-- Whether an assignment is global: where `\globaldefs` is positive, each is, and where it is negative, none is.
abbrev pub globally : ℤ → (asked : Bool) → Bool
globally (pos zero) asked = asked
globally (pos (suc n)) asked = true
globally (negsuc n) asked = false

abbrev pub is_global : Page → Call → Bool
is_global page c = globally (integer_in page.now global_definitions) c.global

-- Behind an assignment comes the token that `\afterassignment` kept, if it kept one.
abbrev pub behind_assignment : Option Token → List Move
behind_assignment None = []
behind_assignment (Some t) = KeptForAssignment None ∷ put_one t

-- an assignment
abbrev pub assigned : Page → Move → List Move
assigned page m = m ∷ behind_assignment page.after

-- a token that comes after the innermost group; outside all groups it is dropped
abbrev pub kept_for_group : Option GroupKind → Token → List Move
kept_for_group None t = []
kept_for_group (Some kind) t = KeptForGroup t ∷ []

-- a number or glue, as a location has it
abbrev pub number_or_glue : SeenValue → V
number_or_glue (val.Number n) = val.Number n
number_or_glue (val.Skip g) = val.Skip g
number_or_glue v = zero_value

-- what arithmetic comes to; a result that is out of bounds is reported, and nothing assigned
abbrev pub computed_to : Page → Call → Loc → Option SeenValue → List Move
computed_to page c l (Some v) = and_closed (assigned page (Set (is_global page c) l (number_or_glue v)))
computed_to page c l None = reported page ArithmeticOverflow (and_closed (behind_assignment page.after))

-- what a name means that a shorthand definition defines
abbrev pub short_meaning : Shorthand → Meaning (Option ℕ)
short_meaning (shorthand.Character c) = means.CharGiven c
short_meaning (shorthand.Math c) = means.MathGiven c
short_meaning (shorthand.Register kind n) = means.Register kind n

-- THE END OF SKIPPED TEXT

-- an ender behind which more is skipped
abbrev pub passed : Page → Passing → List Move → List Move
passed page passing.Nothing rest = rest
passed page passing.ClosesAbove rest = ConditionClosed ∷ rest
passed page passing.ExtraOr rest = reported page (ExtraFiOrElse or_primitive) rest

abbrev pub ended_by : End → List Move
ended_by (ending.Reads l) = LimitSet l ∷ []
ended_by ending.Closes = ConditionClosed ∷ []

-- what the ender comes to to which text was skipped
abbrev pub reached : Page → Call → Step → List Move
reached page c (step.Skips p choice) = passed page p (skips page c choice.aim)
reached page c (step.Ends how) = ended_by how

abbrev pub acts : Page → Call → Effect → List Move
acts page c (effect.Obey x) = Closed ∷ command page x.token x.meaning
acts page c (effect.Show x) = and_closed (shown page x)
acts page c (effect.ShowValue l) = and_closed (location_shown page l)
acts page c (effect.ShowNumber n) = and_closed (value_shown page (whole_number n) [])
acts page c (effect.Let n x) = and_closed (assigned page (Assigned (is_global page c) n (meaning_to_let page.now.meanings x)))
acts page c (effect.FutureLet n x y) = and_closed (put_one y.token ++ (put_one x.token ++ assigned page (Assigned (is_global page c) n (meaning_to_let page.now.meanings y))))
acts page c (effect.SetNumber l value) = and_closed (assigned page (Set (is_global page c) l (val.Number value)))
acts page c (effect.SetGlue l g) = and_closed (assigned page (Set (is_global page c) l (val.Skip g)))
acts page c (effect.ShareList l m) = and_closed (assigned page (Set (is_global page c) l (get page.now m)))
acts page c (effect.Compute operation l d) = computed_to page c l (value_computed operation l (value_seen (get page.now l)) d)
acts page c (effect.Shorthand n s) = and_closed (assigned page (Assigned (is_global page c) n (short_meaning s)))
acts page c effect.Unassigned = and_closed (behind_assignment page.after)
acts page c (effect.AfterGroup x) = and_closed (kept_for_group page.group x.token)
acts page c (effect.AfterAssignment x) = and_closed (KeptForAssignment (Some x.token) ∷ [])
acts page c (effect.ExpandBehind x y) = expanded_behind page c x y
acts page c (effect.PutBack x) = and_closed (put_one x.token)
acts page c (effect.PutMarked x) = and_closed (put_one (marked x.token))
acts page c (effect.MakeNumber n) = and_closed (put_characters (whole_number n))
acts page c (effect.MakeRoman n) = and_closed (put_characters (roman n))
acts page c (effect.MakeString x) = and_closed (put_characters (string_text (style_of page) x.token))
acts page c (effect.MakeMeaning x) = and_closed (put_characters (meaning_characters page x))
acts page c (effect.MakeValue l) = and_closed (put_characters (value_text l (value_seen (get page.now l))))
acts page c (effect.Choose v) = Closed ∷ chosen page c v
acts page c (effect.Compare x y) = Closed ∷ chosen page c (Truth (same_meaning x.meaning y.meaning (are_same (tokens_meant page x) (tokens_meant page y))))
acts page c (effect.Reach a e) = Closed ∷ reached page c (choices.step a (above_sought a page.conditionals) e)
acts page c e = Closed ∷ []

-- THE LIST OF A LOCATION behind `\the`

-- these tokens enter the list that the innermost reading builds
abbrev pub tokens_entered : List Token → List Move
tokens_entered [] = []
tokens_entered (t ∷ ts) = Grows t ∷ Feeds (Verbatim t) ∷ tokens_entered ts

-- In an expanded text the list enters as it stands, and else it is put in front; no list is none.
abbrev pub list_given : Page → (copied : Bool) → Option ℕ → List Move
list_given page copied None = []
list_given page true (Some number) = tokens_entered (slice_index_or page.all_lists number [])
list_given page false (Some number) = put_body (list_put number (slice_index_or page.all_lists number []))

-- the innermost of these readings is an expanded text, where lists are copied
abbrev pub copies : Ask → Bool
copies (More Copied) = true
copies a = false

abbrev pub is_copying : List Reading → Bool
is_copying [] = false
is_copying (r ∷ rs) = copies (ask r.kind r.fed)

-- what an act comes to above these readings
abbrev pub acts_above : List Reading → Page → Call → Effect → List Move
acts_above beneath page c (effect.PutList l) = Closed ∷ list_given page (is_copying beneath) (list_number page l)
acts_above beneath page c e = acts page c e

-- A location gets a list; one without tokens is none.
abbrev pub list_set : Page → Call → Loc → List Token → List Move
list_set page c l [] = Closed ∷ assigned page (Set (is_global page c) l (val.Tokens None))
list_set page c l (t ∷ ts) = assigned page (ListSet (is_global page c) l (t ∷ ts))

-- a name becomes a macro; a macro's list has a token, and without one the reading ends
abbrev pub macro_defined : Page → Call → Name → List Token → List Move
macro_defined page c n [] = Closed ∷ []
macro_defined page c n (t ∷ ts) = assigned page (Defined (is_global page c) n c.long c.outer (t ∷ ts))

-- NAMES THAT ARE SPELT

-- the name of these characters, where these names are entered
abbrev pub spelt : List (List ℕ) → List ℕ → Name
spelt names [] = name.Empty
spelt names (c ∷ []) = name.Single c
spelt names (c ∷ d ∷ cs) = name_among true names (c ∷ d ∷ cs)

-- the name that joins them, if one does
abbrev pub newly_spelt : List (List ℕ) → List ℕ → List (List ℕ)
newly_spelt names [] = []
newly_spelt names (c ∷ []) = []
newly_spelt names (c ∷ d ∷ cs) = new_among true names (c ∷ d ∷ cs)

-- a name that means nothing becomes `\relax`, locally, whatever `\globaldefs` says
abbrev pub relax_if_undefined : List (Meaning (Option ℕ)) → Name → List Move
relax_if_undefined meanings n = if is_undefined (seen_as (name_meaning meanings n)) then Assigned false n (means.Prim relax_primitive) ∷ [] else []

-- `\csname`: the name is spelt, entered where it is new, means `\relax` where it meant nothing, and is put in front
abbrev pub name_made : Page → (characters : List ℕ) → List Move
name_made page characters =
    Spelt characters
    ∷ entered (newly_spelt page.names characters)
    ++ (relax_if_undefined page.now.meanings (spelt page.names characters) ++ put_one (token.Named (spelt page.names characters)))

abbrev pub acts_on : Page → Call → Effect → List Token → List Move
acts_on page c effect.Message ts = and_closed (Written Transcript (message_bytes (style_of page) page.in_line ts) ∷ [])
acts_on page c effect.ErrorMessage ts = reported_as page ts (Closed ∷ [])
acts_on page c effect.MakeName ts = and_closed (name_made page (character_codes ts))
acts_on page c (effect.SetList l) ts = list_set page c l ts
acts_on page c (effect.ChangeCase upper) ts = and_closed (put_text (map (case_changed (case_codes upper page.now)) ts))
acts_on page c e ts = Closed ∷ []

-- FILES THAT ARE OPENED

-- a file that isn't held is reported, and the run ends
abbrev pub unless_found : Page → (name : List ℕ) → Option (List ℕ) → List Move
unless_found page name (Some bytes) = []
unless_found page name None =
    Written Transcript (missing_file_bytes (style_of page) page.in_line page.line name) ∷ Reported
    ∷ behind_report (style_of page) page.reports (Written Transcript (emergency (style_of page) ++ no_file_line (style_of page)) ∷ Stopped (AtFatal NoFile) ∷ [])

-- `\input` has read a file's name: the token behind it goes back, if it is to, the reading ends, and the file is opened. Its first line is the next step.
abbrev pub input_begun : Files → Page → (give_back : Bool) → (name : List ℕ) → List Move
input_begun files page back name =
    given_back back page.last ++ (Spelt name ∷ Closed ∷ NameInProgress false ∷ ListsEnded ∷ FileOpened name ∷ unless_found page name (files 0 name))

-- what an act with a list comes to, where the files are these
abbrev pub acts_in : Files → Page → Call → Effect → List Token → List Move
acts_in files page c (effect.StartInput back) ts = input_begun files page back (file_name (character_codes ts))
acts_in files page c e ts = acts_on page c e ts

-- THE MAGNIFICATION is checked: where it isn't what was set for good, that stands again, in all groups; and one that isn't from 1 to 32768 is 1000
-- there. Then it is set for good.

abbrev pub is_magnification : ℤ → Bool
is_magnification (pos zero) = false
is_magnification (pos (suc n)) = nat_lt n 32768
is_magnification (negsuc n) = false

abbrev pub magnification_set : (mag : ℕ) → List Move → List Move
magnification_set mag rest = Set true (loc.Integer magnification) (val.Number (pos mag)) ∷ MagnificationSet mag ∷ rest

abbrev pub legal_or_not : Page → ℤ → (legal : Bool) → List Move → List Move
legal_or_not page n true rest = MagnificationSet (nat_abs n) ∷ rest
legal_or_not page n false rest = reported page (IllegalMagnification n) (magnification_set 1000 rest)

abbrev pub compared : Page → ℤ → (mag_set : ℕ) → List Move → List Move
compared page n zero rest = legal_or_not page n (is_magnification n) rest
compared page n (suc m) rest =
    if int_eq n (pos (suc m)) then rest else reported page (IncompatibleMagnification n (suc m)) (magnification_set (suc m) rest)

abbrev pub magnification_checked : Page → List Move → List Move
magnification_checked page rest = compared page (integer_in page.now magnification) page.mag_set rest

-- WHAT COMES OF AN ANSWER
abbrev pub answered : State → List Reading → Reading → Ask → List Move
answered s work r (More want) = handed (page_of s) (enters_names want) (scanning work s.gathered) (λ x. wanted (page_of s) want (feeding r x) x) (pulled s.groups.now.categories s.pending)
answered s work r (Inner k begins) = inner_begun (Reads k) begins
answered s work r (Done v back) = done (page_of s) r v back
answered s work r (Acts c e) = acts_above (drop 1 work) (page_of s) c e
answered s work r (ActsOn c e ts) = acts_in s.files (page_of s) c e ts
answered s work r (Defines c n ts) = macro_defined (page_of s) c n ts
answered s work r Closes = Closed ∷ []
answered s work r (Calls args) = called_with r.kind args
answered s work r (Fails report) = failed (page_of s) report
answered s work r (RunsAway report) = failed_away (page_of s) report (scanning work s.gathered)
answered s work r (Tells report back) = report_noted (page_of s) report None back r
answered s work r (Inserts t report back) = report_noted (page_of s) report (Some t) back r
answered s work r (Puts t more) = put_one t ++ noting r
answered s work r (Relaxes c n) = Assigned (is_global (page_of s) c) n (means.Prim relax_primitive) ∷ noting r
answered s work r Magnifies = magnification_checked (page_of s) (noting r)
answered s work r (Fetches l) = Feeds (Fetched (value_seen (get s.groups.now l))) ∷ []

abbrev pub planned : State → List Reading → List Move
planned s [] = handed (page_of s) false None (stomach (page_of s)) (pulled s.groups.now.categories s.pending)
planned s (r ∷ rs) = answered s (r ∷ rs) r (ask r.kind r.fed)

-- a file that was opened is begun with its first line, before all else
abbrev pub ruled : State → Option (List ℕ) → List Move
ruled s (Some bytes) = ListsEnded ∷ FirstTaken (first_line bytes) ∷ []
ruled s None = planned s s.work

-- the moves of the next rule
abbrev pub plan : State → Option Outcome → List Move
plan s (Some o) = []
plan s None = ruled s s.pending.next

pub data Next : Type 0 where
  Ends : Next
  Goes : Move → State → Next

abbrev pub first_of_plan : State → List Move → Next
first_of_plan s [] = Ends
first_of_plan s (m ∷ ms) = Goes m (made m (record s { due = ms }))

abbrev pub next_of : State → List Move → Next
next_of s (m ∷ ms) = Goes m (made m (record s { due = ms }))
next_of s [] = first_of_plan s (plan s s.stopped)

-- the next move: of those still due, else the first of the next rule
unfoldable pub next : State → Next
next s = next_of s s.due

-- a job whose file isn't held
abbrev pub no_file : Style → List ℕ → List Move
no_file style file =
    Written Transcript (missing_file_bytes style false 0 file) ∷ Reported
    ∷ Written Transcript (emergency style ++ no_file_line style) ∷ Stopped (AtFatal NoFile) ∷ []

abbrev pub file_missing : Style → List ℕ → Option (List ℕ) → List Move
file_missing style file None = no_file style file
file_missing style file (Some bytes) = []

-- the job's name is kept, and then its file opened
abbrev pub job_due : Style → List ℕ → Option (List ℕ) → List Move
job_due style file job = Kept (job_name file) ∷ file_missing style file job

-- THE FIRST STATE

-- a test that reads nothing
abbrev pub is_constant : Option Bool → Bool
is_constant None = false
is_constant (Some truth) = true

-- the primitives that mean something and are read by no row
abbrev pub is_rowless : ℕ → Bool
is_rowless number =
    (number == relax_primitive) || (number == begingroup_primitive) || (number == endgroup_primitive) || (number == endcsname_primitive)
    || (number == par_primitive) || (number == end_primitive) || (number == csname_primitive) || (number == jobname_primitive)
    || (number == input_primitive) || (number == endinput_primitive) || is_between fi_primitive or_primitive number || is_constant (constant_test number)

-- the primitives that mean something
abbrev pub is_known : ℕ → Bool
is_known number = is_rowless number || has_row (Primitive number)

-- Where the job of a file begins, which has these bytes, if it is held, and is opened then: the primitives' names are entered, and this stands
-- at all locations. These are the files that may be opened.
abbrev pub first_state : Groups → Bool → List ℕ → Option (List ℕ) → Files → State
first_state groups quiet file job files = record {
  pending = record bottom { next = job };
  files = files;
  naming = false;
  groups = groups;
  names = primitive_names;
  strings = [];
  all_lists = [];
  after = None;
  mag_set = 0;
  conditionals = [];
  last = no_token;
  work = [];
  gathered = [];
  making = None;
  in_line = false;
  reports = 0;
  flawed = false;
  quiet = quiet;
  stopped = None;
  due = job_due (style_in groups.now primitive_names) file job;
}
