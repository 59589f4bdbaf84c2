-- The moves of an expansion, and of a command that begins: none of them touches a reading that was open.
use Rattle.std.proofs.Common.{◌≡◌, ℕ, List, [], ◌∷◌, ◌++◌, map, slice_index_or, Bool, true, false, refl}
use Rattle.prim_table.specs.Primitives.{is_expanded, is_in_row}
use Rattle.prim_table.specs.declared.Class.TheVariants as class
use Rattle.std.specs.Prelude.{Option, Some, None, if◌then◌else◌, ◌||◌, nat_eq, nat_lt}
use Rattle.tex_syntax.specs.declared.words.Want.{Want}
use Rattle.tex_syntax.specs.declared.words.Want.TheVariants.{Raw, Unentered, Expanded, Copied, Nonblank, Command}
use Rattle.tex_syntax.specs.declared.words.Outcome.TheVariants.{Finished, AtFatal}
use Rattle.tex_syntax.specs.declared.words.Report.{Report}
use Rattle.tex_syntax.specs.declared.words.Report.TheVariants as reports
use Rattle.tex_defs.specs.declared.Seen.{Seen}
use Rattle.tex_defs.specs.declared.Meaning.{Meaning}
use Rattle.tex_defs.specs.declared.Meaning.TheVariants as means
use Rattle.tex_defs.specs.declared.RegisterKind.{RegisterKind}
use Rattle.tex_defs.specs.declared.Token.{Token}
use Rattle.tex_defs.specs.declared.Token.TheVariants as token
use Rattle.tex_defs.specs.declared.Fatal.TheVariants.{HundredErrors}
use Rattle.tex_defs.specs.Places.{Transcript}
use Rattle.tex_defs.specs.declared.Name.{Name}
use Rattle.plain_tokens.specs.Categories.{begin_group, end_group}
use Rattle.plain_tokens.specs.Names.{name_of, means_relax, relax_primitive, end_primitive}
use Rattle.plain_tokens.specs.Tokens.{is_space, is_undefined, made_text}
use Rattle.plain_tokens.specs.Meanings.{fi_primitive, name_meaning, seen_as}
use Rattle.plain_tokens.specs.Printed.{Style}
use Rattle.plain_tokens.specs.Puts.{Item, Put as PutList, call_put}
use Rattle.plain_tokens.specs.Arguments.{has_parameters}
use Rattle.conditionals.specs.declared.choice.Aim.{Aim}
use Rattle.conditionals.specs.declared.choice.Value.{Value as TestValue}
use Rattle.conditionals.specs.declared.choice.Value.TheVariants.{Truth}
use Rattle.conditionals.specs.declared.choice.End.{End}
use Rattle.conditionals.specs.declared.choice.End.TheVariants as ending
use Rattle.conditionals.specs.declared.choice.Passing.{Passing}
use Rattle.conditionals.specs.declared.choice.Passing.TheVariants as passing
use Rattle.conditionals.specs.declared.choice.Step.{Step}
use Rattle.conditionals.specs.declared.choice.Step.TheVariants as step
use Rattle.conditionals.specs.declared.limits.Limit.{Limit}
use Rattle.conditionals.specs.declared.limits.Met.{Met}
use Rattle.conditionals.specs.declared.limits.Met.TheVariants as limited
use Rattle.conditionals.specs.declared.open.Conditional.{Conditional}
use Rattle.conditionals.specs.declared.skip.Ender.{Ender}
use Rattle.conditionals.specs.declared.skip.Ender.TheVariants.{Fi, Else, Or}
use Rattle.conditionals.specs.Choices as choices
use Rattle.conditionals.specs.Limits as limits
use Rattle.conditionals.specs.Open.{limit_of, constant_test}
use Rattle.conditionals.specs.Skipping.{else_primitive, or_primitive, ender_number}
use Rattle.save_stack.specs.declared.GroupKind.{GroupKind}
use Rattle.save_stack.specs.declared.GroupKind.TheVariants.{Simple, SemiSimple}
use Rattle.plain_state.specs.Reports.{hundred_line, token_line_bytes}
use Rattle.rows.specs.declared.command.Head.TheVariants.{Primitive, Register}
use Rattle.rows.specs.declared.command.Call.{Call}
use Rattle.rows.specs.Table.{has_row}
use Rattle.plain_readings.specs.Spelling.{endcsname_primitive}
use Rattle.plain_readings.specs.Readings.{Spelling, FileName, Arguments}
use Rattle.plain_machine.specs.States.{Move, FileEnds, NameInProgress, Grows, ListGrown, Assigned, GroupOpened, Begun, Closed, Written, Stopped}
use Rattle.plain_machine.specs.Plan.{Page, style_of, entered, reported, reports_room, put_inserted, put_one, put_made, put_text, put_characters, token_line, conditionals_left, finish, command, register, primitive, call_of, begun, csname_primitive, jobname_primitive, input_primitive, endinput_primitive, input_met, frozen_relax, skips, limited_or_skips, chosen, conditional_begun, ender_comes, ender_met, conditional_met, job_in, expansion, begingroup_primitive, endgroup_primitive, put_each, brace_met, endgroup_met, character, called, called_meaning, called_list, put_body, body_put, stomach, wanted, expanded, expanded_as, given_back, behind_assignment, kept_for_group, passed, ended_by, reached, name_made, relax_if_undefined, spelt, newly_spelt}
use Rattle.run_laws.proofs.Keeping.{Calm, calm_join, Begins, calm_begins, one_of}

-- MOVES THAT LEAVE THE READINGS

pub back_calm : (back : Bool) (last : Seen) → Calm (given_back back last)
back_calm false last = tt
back_calm true last = tt

-- a text that is put in front
grown_texts_calm : (ts : List Token) → Calm (map ListGrown ts)
grown_texts_calm [] = tt
grown_texts_calm (t ∷ ts) = grown_texts_calm ts

put_made_calm : (ts : List Token) → Calm (put_made ts)
put_made_calm [] = tt
put_made_calm (t ∷ ts) = tt

pub text_calm : (ts : List Token) → Calm (put_text ts)
text_calm ts = calm_join (map ListGrown ts) (put_made ts) (grown_texts_calm ts) (put_made_calm ts)

pub characters_calm : (characters : List ℕ) → Calm (put_characters characters)
characters_calm characters = text_calm (made_text characters)

pub entered_calm : (names : List (List ℕ)) → Calm (entered names)
entered_calm [] = tt
entered_calm (name ∷ names) = tt

-- a list that grows
pub grown_calm : (ts : List Token) → Calm (map Grows ts)
grown_calm [] = tt
grown_calm (t ∷ ts) = grown_calm ts

pub inserted_calm : (o : Option Token) → Calm (put_inserted o)
inserted_calm None = tt
inserted_calm (Some t) = tt

left_calm : (style : Style) (cs : List Conditional) → Calm (conditionals_left style cs)
left_calm style [] = tt
left_calm style (c ∷ cs) = left_calm style cs

-- behind an assignment
pub behind_assignment_calm : (after : Option Token) → Calm (behind_assignment after)
behind_assignment_calm None = tt
behind_assignment_calm (Some t) = tt

pub kept_for_group_calm : (kind : Option GroupKind) (t : Token) → Calm (kept_for_group kind t)
kept_for_group_calm None t = tt
kept_for_group_calm (Some kind) t = tt

-- a name that is spelt
relax_calm : (meanings : List (Meaning (Option ℕ))) (n : Name) → Calm (relax_if_undefined meanings n)
relax_calm meanings n = one_of Calm (is_undefined (seen_as (name_meaning meanings n))) (Assigned false n (means.Prim relax_primitive) ∷ []) [] tt tt

pub made_name_calm : (page : Page) (characters : List ℕ) → Calm (name_made page characters)
made_name_calm page characters =
    let n : Name = spelt page.names characters in
    let front : List Move = put_one (token.Named n) in
    calm_join (entered (newly_spelt page.names characters)) (relax_if_undefined page.now.meanings n ++ front) (entered_calm (newly_spelt page.names characters))
    (calm_join (relax_if_undefined page.now.meanings n) front (relax_calm page.now.meanings n) tt)

-- MOVES BY WHICH A READING BEGINS, if one does

begins_if : (b : Bool) (xs ys : List Move) → Begins false xs → Begins false ys → Begins false (if b then xs else ys)
begins_if b xs ys h i = one_of (Begins false) b xs ys h i

reported_begins : (page : Page) (report : Report) → Begins false (reported page report [])
reported_begins page report = begins_if (nat_lt page.reports reports_room) [] (Written Transcript (hundred_line (style_of page)) ∷ Stopped (AtFatal HundredErrors) ∷ []) tt tt

pub reported_first : (page : Page) (report : Report) (rest : List Move) → Begins false rest → Begins false (reported page report rest)
reported_first page report rest h = begins_if (nat_lt page.reports reports_room) rest (Written Transcript (hundred_line (style_of page)) ∷ Stopped (AtFatal HundredErrors) ∷ []) h tt

line_begins : (page : Page) (m : Meaning Unit) → Begins false (token_line page m)
line_begins page m = begins_if page.quiet [] (Written Transcript (token_line_bytes (style_of page) page.in_line m) ∷ []) tt tt

-- a macro's name
pub body_begins : (p : PutList) (items : List Item) → Begins false (body_put p items)
body_begins p [] = tt
body_begins p (x ∷ xs) = tt

call_begins : (n : Name) (long : Bool) (number : ℕ) (ts : List Token) (b : Bool) → has_parameters ts ≡ b →
    Begins false (if b then Begun (Arguments n long number ts) ∷ [] else put_body (call_put number ts []))
call_begins n long number ts true e = (e, tt)
call_begins n long number ts false e = body_begins (call_put number ts []) (call_put number ts []).items

called_list_begins : (page : Page) (n : Name) (long : Bool) (o : Option ℕ) → Begins false (called_list page n long o)
called_list_begins page n long None = tt
called_list_begins page n long (Some number) =
    let ts : List Token = slice_index_or page.all_lists number [] in
    call_begins n long number ts (has_parameters ts) refl

called_meaning_begins : (page : Page) (n : Name) (m : Meaning (Option ℕ)) → Begins false (called_meaning page n m)
called_meaning_begins page n (means.Macro long outer list) = called_list_begins page n long list
called_meaning_begins page n m = tt

called_begins : (page : Page) (t : Token) → Begins false (called page t)
called_begins page t = called_meaning_begins page (name_of t) (name_meaning page.now.meanings (name_of t))

-- groups
each_begins : (ts : List Token) → Begins false (put_each ts)
each_begins [] = tt
each_begins (t ∷ ts) = calm_begins false (put_one t) (put_each ts) tt (each_begins ts)

brace_begins : (page : Page) (kind : Option GroupKind) → Begins false (brace_met page kind)
brace_begins page None = reported_begins page reports.TooManyBraces
brace_begins page (Some Simple) = each_begins page.tokens
brace_begins page (Some SemiSimple) = reported_begins page reports.ForgottenEndgroup

endgroup_begins : (page : Page) (t : Token) (kind : Option GroupKind) → Begins false (endgroup_met page t kind)
endgroup_begins page t None = reported_begins page reports.ExtraEndgroup
endgroup_begins page t (Some SemiSimple) = each_begins page.tokens
endgroup_begins page t (Some Simple) = reported_begins page reports.MissingRightBrace

character_begins : (page : Page) (category code : ℕ) → Begins false (character page category code)
character_begins page category code =
    let line : List Move = token_line page (means.Char category code) in
    let closing : List Move = if nat_eq category end_group then brace_met page page.group else line in
    begins_if (nat_eq category begin_group) (GroupOpened Simple ∷ []) closing tt
    (begins_if (nat_eq category end_group) (brace_met page page.group) line (brace_begins page page.group) (line_begins page (means.Char category code)))

-- primitives in the stomach
finish_begins : (page : Page) → Begins false (finish page)
finish_begins page = calm_begins false (conditionals_left (style_of page) page.conditionals) (Stopped Finished ∷ []) (left_calm (style_of page) page.conditionals) tt

primitive_begins : (page : Page) (t : Token) (n : ℕ) → Begins false (primitive page t n)
primitive_begins page t n =
    let line : List Move = token_line page (means.Prim n) in
    let extra : List Move = if nat_eq n endcsname_primitive then reported page reports.ExtraEndcsname [] else line in
    let closing : List Move = if nat_eq n endgroup_primitive then endgroup_met page t page.group else extra in
    let opening : List Move = if nat_eq n begingroup_primitive then GroupOpened SemiSimple ∷ [] else closing in
    let relax : List Move = if nat_eq n relax_primitive then [] else opening in
    let ending : List Move = if nat_eq n end_primitive then finish page else relax in
    begins_if (has_row (Primitive n)) (begun t (Primitive n)) ending tt
    (begins_if (nat_eq n end_primitive) (finish page) relax (finish_begins page)
    (begins_if (nat_eq n relax_primitive) [] opening tt
    (begins_if (nat_eq n begingroup_primitive) (GroupOpened SemiSimple ∷ []) closing tt
    (begins_if (nat_eq n endgroup_primitive) (endgroup_met page t page.group) extra (endgroup_begins page t page.group)
    (begins_if (nat_eq n endcsname_primitive) (reported page reports.ExtraEndcsname []) line (reported_begins page reports.ExtraEndcsname) (line_begins page (means.Prim n)))))))

register_begins : (page : Page) (t : Token) (kind : RegisterKind) (number : ℕ) → Begins false (register page t kind number)
register_begins page t kind number =
    begins_if (has_row (Register kind number)) (begun t (Register kind number)) (token_line page (means.Register kind number)) tt (line_begins page (means.Register kind number))

pub command_begins : (page : Page) (t : Token) (m : Meaning Unit) → Begins false (command page t m)
command_begins page t (means.Prim n) = primitive_begins page t n
command_begins page t means.RelaxMarked = tt
command_begins page t means.Undefined = line_begins page means.Undefined
command_begins page t (means.Char category code) = character_begins page category code
command_begins page t (means.CharGiven code) = line_begins page (means.CharGiven code)
command_begins page t (means.MathGiven code) = line_begins page (means.MathGiven code)
command_begins page t (means.Register kind number) = register_begins page t kind number
command_begins page t (means.Macro long outer list) = line_begins page (means.Macro long outer list)

-- conditionals
limited_begins : (page : Page) (c : Call) (a : Aim) (o : Option Limit) → Begins false (limited_or_skips page c a o)
limited_begins page c a None = tt
limited_begins page c a (Some l) = tt

pub chosen_begins : (page : Page) (c : Call) (v : TestValue) → Begins false (chosen page c v)
chosen_begins page c v = limited_begins page c (choices.aim v) (choices.start (choices.aim v))

begun_conditional_begins : (page : Page) (c : Call) (n : ℕ) (o : Option Bool) → Begins false (conditional_begun page c n o)
begun_conditional_begins page c n None = tt
begun_conditional_begins page c n (Some truth) = chosen_begins page c (Truth truth)

ender_comes_begins : (page : Page) (t : Token) (c : Call) (e : Ender) (m : Met) → Begins false (ender_comes page t c e m)
ender_comes_begins page t c e limited.RelaxBefore = tt
ender_comes_begins page t c e limited.Extra = reported_begins page (reports.ExtraFiOrElse (ender_number e))
ender_comes_begins page t c e limited.SkipsToFi = tt
ender_comes_begins page t c e limited.Closes = tt

ender_begins : (page : Page) (t : Token) (c : Call) (e : Ender) → Begins false (ender_met page t c e)
ender_begins page t c e = ender_comes_begins page t c e (limits.met (limit_of page.conditionals) e)

conditional_begins : (page : Page) (t : Token) (c : Call) (n : ℕ) → Begins false (conditional_met page t c n)
conditional_begins page t c n =
    let begins : List Move = conditional_begun page c n (constant_test n) in
    let or : List Move = if nat_eq n or_primitive then ender_met page t c Or else begins in
    let others : List Move = if nat_eq n else_primitive then ender_met page t c Else else or in
    begins_if (nat_eq n fi_primitive) (ender_met page t c Fi) others (ender_begins page t c Fi)
    (begins_if (nat_eq n else_primitive) (ender_met page t c Else) or (ender_begins page t c Else)
    (begins_if (nat_eq n or_primitive) (ender_met page t c Or) begins (ender_begins page t c Or) (begun_conditional_begins page c n (constant_test n))))

-- the end of skipped text
passed_begins : (page : Page) (p : Passing) (rest : List Move) → Begins false rest → Begins false (passed page p rest)
passed_begins page passing.Nothing rest h = h
passed_begins page passing.ClosesAbove rest h = h
passed_begins page passing.ExtraOr rest h = reported_first page (reports.ExtraFiOrElse or_primitive) rest h

ended_by_begins : (how : End) → Begins false (ended_by how)
ended_by_begins (ending.Reads l) = tt
ended_by_begins ending.Closes = tt

pub reached_begins : (page : Page) (c : Call) (s : Step) → Begins false (reached page c s)
reached_begins page c (step.Skips p choice) = passed_begins page p (skips page c choice.aim) tt
reached_begins page c (step.Ends how) = ended_by_begins how

-- EXPANSIONS

input_begins : (page : Page) (t : Token) (c : Call) → Begins false (input_met page t c)
input_begins page t c = begins_if page.naming (put_one t ++ put_one frozen_relax) (Begun (FileName c) ∷ NameInProgress true ∷ []) tt tt

expansion_begins : (page : Page) (t : Token) (n : ℕ) → Begins false (expansion page t n)
expansion_begins page t n =
    let name : List Move = put_characters (job_in page.strings) in
    let job : List Move = begun t (Primitive n) ++ (name ++ Closed ∷ []) in
    let c : Call = call_of t (Primitive n) in
    let testing : List Move = if is_in_row class.Conditional n then conditional_met page t c n else begun t (Primitive n) in
    let ending : List Move = if nat_eq n endinput_primitive then FileEnds ∷ [] else testing in
    let beginning : List Move = if nat_eq n input_primitive then input_met page t c else ending in
    let others : List Move = if nat_eq n jobname_primitive then job else beginning in
    begins_if (nat_eq n csname_primitive) (Begun (Spelling c) ∷ []) others tt
    (begins_if (nat_eq n jobname_primitive) job beginning (calm_begins true name (Closed ∷ []) (characters_calm (job_in page.strings)) tt)
    (begins_if (nat_eq n input_primitive) (input_met page t c) ending (input_begins page t c)
    (begins_if (nat_eq n endinput_primitive) (FileEnds ∷ []) testing tt
    (begins_if (is_in_row class.Conditional n) (conditional_met page t c n) (begun t (Primitive n)) (conditional_begins page t c n) tt))))

-- what is true of moves by which a reading may begin, and of these moves, is true where a token is expanded, or comes to these moves
module _ (P : List Move → Type 0) (begins : (ms : List Move) → Begins false ms → P ms) (page : Page) (moves : List Move) (h : P moves) where
  as_holds : (t : Token) (m : Meaning Unit) → P (expanded_as page t m moves)
  as_holds t means.Undefined = begins (reported page reports.UndefinedName []) (reported_begins page reports.UndefinedName)
  as_holds t (means.Macro long outer list) = begins (called page t) (called_begins page t)
  as_holds t (means.Prim n) = one_of P (is_expanded n) (expansion page t n) moves (begins (expansion page t n) (expansion_begins page t n)) h
  as_holds t m = h

  pub expanded_holds : (x : Seen) → P (expanded page x moves)
  expanded_holds x = as_holds x.token x.meaning

  -- and where a reading wants one so
  pub wanted_holds : (w : Want) (x : Seen) → P (wanted page w moves x)
  wanted_holds Raw x = h
  wanted_holds Unentered x = h
  wanted_holds Expanded x = expanded_holds x
  wanted_holds Copied x = expanded_holds x
  wanted_holds Nonblank x = one_of P (is_space x) [] (expanded page x moves) (begins [] tt) (expanded_holds x)
  wanted_holds Command x = one_of P (is_space x || means_relax x.meaning) [] (expanded page x moves) (begins [] tt) (expanded_holds x)

pub stomach_begins : (page : Page) (x : Seen) → Begins false (stomach page x)
stomach_begins page x = expanded_holds (Begins false) (λ ms h. h) page (command page x.token x.meaning) (command_begins page x.token x.meaning) x
