-- The next token, character or line is pulled by a rule's second move, once the finished lists in front have gone, or not at all.
use Rattle.std.proofs.Common.{◌≡◌, ℕ, ◌+◌, ◌≤◌, ◌<◌, List, [], ◌∷◌, ◌++◌, refl, arith, Bool, true, false}
use Rattle.prim_table.specs.Primitives.{is_expanded}
use Rattle.std.specs.Prelude.{Option, Some, None, if◌then◌else◌, ◌||◌, nat_lt}
use Rattle.tex_syntax.specs.declared.words.Want.{Want}
use Rattle.tex_syntax.specs.declared.words.Want.TheVariants.{Raw, Unentered, Expanded, Copied, Nonblank, Command}
use Rattle.tex_syntax.specs.declared.words.Outcome.TheVariants.{AtFatal}
use Rattle.tex_syntax.specs.declared.words.Scanned.{Scanned}
use Rattle.tex_syntax.specs.declared.words.Report.{Report}
use Rattle.tex_syntax.specs.declared.words.Scanned.TheVariants as scanned
use Rattle.tex_syntax.specs.declared.words.Report.TheVariants as reports
use Rattle.tex_defs.specs.declared.Seen.{Seen}
use Rattle.tex_defs.specs.declared.Meaning.{Meaning}
use Rattle.tex_defs.specs.declared.Meaning.TheVariants as means
use Rattle.tex_defs.specs.declared.Token.{Token}
use Rattle.tex_defs.specs.declared.Fatal.TheVariants.{NoFile, HundredErrors}
use Rattle.tex_defs.specs.Places.{Transcript}
use Rattle.plain_tokens.specs.Names.{means_relax}
use Rattle.plain_tokens.specs.Tokens.{is_space, is_outer, space_token, made_text}
use Rattle.plain_tokens.specs.Meanings.{met as met_token}
use Rattle.plain_tokens.specs.Printed.{Style}
use Rattle.conditionals.specs.Open.{innermost_test}
use Rattle.plain_state.specs.Reports.{hundred_line, emergency, no_file_line}
use Rattle.rows.specs.declared.command.Call.{Call}
use Rattle.rows.specs.declared.command.Effect.{Effect}
use Rattle.rows.specs.Readings.{Fed, Ask}
use Rattle.plain_readings.specs.Readings.{Kind, Skips, Reading}
use Rattle.plain_readings.specs.Scanning.{Scanning, Builds, SkippedText}
use Rattle.plain_machine.specs.States.{State, Files, Move, Handed, Taken, FirstTaken, ListsEnded, Skipped, FileClosed, FileOpened, Spelt, NameInProgress, Begun, BegunWith, Closed, Written, Stopped}
use Rattle.plain_machine.specs.Plan.{Page, style_of, met, met_outer, entered, checked, cut_or_not, ran_away, away_text, page_behind, reported, reports_room, put_text, put_characters, expansion, unless_expanded, called, stomach, wanted, expanded, expanded_as, feeding_kind, given_back, acts, list_given, unless_found, input_begun, answered}
use Rattle.plain_machine.specs.Runs.{step_of, steps}
use Rattle.plain_machine.proofs.Tame.{Tame, Flat, flat_tame, back_flat, text_flat, entered_flat, kind_tame, called_tame, expansion_tame, stomach_tame, checked_tame, acts_tame, list_given_tame, answered_tame}
pub use Rattle.plain_machine.proofs.Tame.{WantsNone}

-- The moves that pull: they read what is pending, or open a file.
abbrev pub pull_of : Move → ℕ
pull_of (Handed t) = 1
pull_of (Taken line) = 1
pull_of (FirstTaken line) = 1
pull_of Skipped = 1
pull_of FileClosed = 1
pull_of (FileOpened name) = 1
pull_of m = 0

abbrev pub pulls : List Move → ℕ
pulls [] = 0
pulls (m ∷ ms) = pull_of m + pulls ms

pub pulls_join : (ms ns : List Move) → pulls (ms ++ ns) ≡ pulls ms + pulls ns
pulls_join [] ns = omega arith
pulls_join (m ∷ ms) ns = omega (arith, pulls_join ms ns)

-- the moves that read what is pending
abbrev pub read_of : Move → ℕ
read_of (FileOpened name) = 0
read_of m = pull_of m

abbrev pub reads : List Move → ℕ
reads [] = 0
reads (m ∷ ms) = read_of m + reads ms

pub reads_join : (ms ns : List Move) → reads (ms ++ ns) ≡ reads ms + reads ns
reads_join [] ns = omega arith
reads_join (m ∷ ms) ns = omega (arith, reads_join ms ns)

read_pulls : (m : Move) → read_of m ≤ pull_of m
read_pulls (FileOpened name) = omega arith
read_pulls (Handed t) = omega arith
read_pulls m = omega arith

pub reads_pull : (ms : List Move) → reads ms ≤ pulls ms
reads_pull [] = omega arith
reads_pull (m ∷ ms) = omega (arith, read_pulls m, reads_pull ms)

step_reads : (m : Move) → step_of m ≤ read_of m
step_reads (Handed t) = omega arith
step_reads (Taken line) = omega arith
step_reads (FirstTaken line) = omega arith
step_reads m = omega arith

-- each step reads
pub steps_read : (ms : List Move) → steps ms ≤ reads ms
steps_read [] = omega arith
steps_read (m ∷ ms) = omega (arith, step_reads m, steps_read ms)

-- each step is a pull
pub step_pulls : (m : Move) → step_of m ≤ pull_of m
step_pulls (Handed t) = omega arith
step_pulls (Taken line) = omega arith
step_pulls (FirstTaken line) = omega arith
step_pulls m = omega arith

pub steps_pull : (ms : List Move) → steps ms ≤ pulls ms
steps_pull [] = omega arith
steps_pull (m ∷ ms) = omega (arith, step_pulls m, steps_pull ms)

-- MOVES WITHOUT A PULL

pub tame_none : (ms : List Move) → Tame ms → pulls ms ≡ 0
tame_none [] h = refl
tame_none (Handed t ∷ ms) h = absurd h
tame_none (Taken line ∷ ms) h = absurd h
tame_none (FirstTaken line ∷ ms) h = absurd h
tame_none (Skipped ∷ ms) h = absurd h
tame_none (FileClosed ∷ ms) h = absurd h
tame_none (FileOpened name ∷ ms) h = absurd h
tame_none (Begun (Skips c a line) ∷ []) h = refl
tame_none (Begun (Skips c a line) ∷ m ∷ ms) h = absurd h
tame_none (Begun k ∷ ms) h = omega (arith, tame_none ms h)
tame_none (BegunWith (Skips c a line) ∷ ms) h = absurd h
tame_none (BegunWith k ∷ ms) h = omega (arith, tame_none ms h)
tame_none (m ∷ ms) h = omega (arith, tame_none ms h)

flat_none : (ms : List Move) → Flat ms → pulls ms ≡ 0
flat_none ms h = tame_none ms (flat_tame ms h)

pub text_none : (ts : List Token) → pulls (put_text ts) ≡ 0
text_none ts = flat_none (put_text ts) (text_flat ts)

pub characters_none : (characters : List ℕ) → pulls (put_characters characters) ≡ 0
characters_none characters = text_none (made_text characters)

pub entered_none : (names : List (List ℕ)) → pulls (entered names) ≡ 0
entered_none names = flat_none (entered names) (entered_flat names)

pub kind_none : (k : Kind) (fed : List Fed) (x : Seen) → pulls (feeding_kind k fed x) ≡ 0
kind_none k fed x = tame_none (feeding_kind k fed x) (kind_tame k fed x)

pub stomach_none : (page : Page) (x : Seen) → pulls (stomach page x) ≡ 0
stomach_none page x = tame_none (stomach page x) (stomach_tame page x)

pub checked_none : (page : Page) (o : Option Scanning) → pulls (checked page o) ≡ 0
checked_none page o = tame_none (checked page o) (checked_tame page o)

pub acts_none : (page : Page) (c : Call) (e : Effect) → pulls (acts page c e) ≡ 0
acts_none page c e = tame_none (acts page c e) (acts_tame page c e)

pub list_given_none : (page : Page) (copied : Bool) (o : Option ℕ) → pulls (list_given page copied o) ≡ 0
list_given_none page copied o = tame_none (list_given page copied o) (list_given_tame page copied o)

pub answered_none : (s : State) (work : List Reading) (r : Reading) (a : Ask) → WantsNone a → pulls (answered s work r a) ≡ 0
answered_none s work r a h = tame_none (answered s work r a) (answered_tame s work r a h)

-- where none of those behind them pulls
no_pull_if : (b : Bool) (x y : List Move) → pulls x ≡ 0 → pulls y ≡ 0 → pulls (if b then x else y) ≡ 0
no_pull_if true x y h i = h
no_pull_if false x y h i = i

pub reported_none : (page : Page) (report : Report) (rest : List Move) → pulls rest ≡ 0 → pulls (reported page report rest) ≡ 0
reported_none page report rest h =
    let halted : List Move = Written Transcript (hundred_line (style_of page)) ∷ Stopped (AtFatal HundredErrors) ∷ [] in
    omega (arith, no_pull_if (nat_lt page.reports reports_room) rest halted h refl)

unless_none : (page : Page) (t : Token) (n : ℕ) (moves : List Move) → pulls moves ≡ 0 → pulls (unless_expanded page t n moves) ≡ 0
unless_none page t n moves h = no_pull_if (is_expanded n) (expansion page t n) moves (tame_none (expansion page t n) (expansion_tame page t n)) h

as_none : (page : Page) (t : Token) (m : Meaning Unit) (moves : List Move) → pulls moves ≡ 0 → pulls (expanded_as page t m moves) ≡ 0
as_none page t means.Undefined moves h = reported_none page reports.UndefinedName [] refl
as_none page t (means.Macro long outer list) moves h = tame_none (called page t) (called_tame page t)
as_none page t (means.Prim n) moves h = unless_none page t n moves h
as_none page t m moves h = h

pub wanted_none : (page : Page) (w : Want) (feeds : List Move) (x : Seen) → pulls feeds ≡ 0 → pulls (wanted page w feeds x) ≡ 0
wanted_none page Raw feeds x h = h
wanted_none page Unentered feeds x h = h
wanted_none page Expanded feeds x h = as_none page x.token x.meaning feeds h
wanted_none page Copied feeds x h = as_none page x.token x.meaning feeds h
wanted_none page Nonblank feeds x h = no_pull_if (is_space x) [] (expanded page x feeds) refl (as_none page x.token x.meaning feeds h)
wanted_none page Command feeds x h = no_pull_if (is_space x || means_relax x.meaning) [] (expanded page x feeds) refl (as_none page x.token x.meaning feeds h)

noted_none : (what : Scanned) (rest : List Move) → pulls rest ≡ 0 → pulls (cut_or_not what rest) ≡ 0
noted_none scanned.Use rest h = omega (arith, h)
noted_none scanned.Definition rest h = h
noted_none scanned.Text rest h = h

away_none : (page : Page) (report : Report) (what : Scanned) (list : List Token) (rest : List Move) → pulls rest ≡ 0 → pulls (ran_away page report what list rest) ≡ 0
away_none page report what list rest h = omega (arith, reported_none (page_behind page (away_text page what list)) report (cut_or_not what rest) (noted_none what rest h))

met_outer_none : (page : Page) (o : Option Scanning) (t : Token) (onward : Seen → List Move) → ((x : Seen) → pulls (onward x) ≡ 0) → pulls (met_outer page o t onward) ≡ 0
met_outer_none page None t onward h = h (met_token page.now.meanings t)
met_outer_none page (Some (Builds what name list)) t onward h =
    let behind : List Move = onward (met_token page.now.meanings space_token) in
    omega (arith, away_none page (reports.Forbidden what name) what list behind (h (met_token page.now.meanings space_token)))
met_outer_none page (Some (SkippedText line)) t onward h =
    let report : Report = reports.IncompleteConditional (innermost_test page.conditionals) line in
    omega (arith, reported_none page report (onward (met_token page.now.meanings space_token)) (h (met_token page.now.meanings space_token)))

pub met_none : (page : Page) (o : Option Scanning) (onward : Seen → List Move) (x : Seen) → ((x : Seen) → pulls (onward x) ≡ 0) → pulls (met page o onward x) ≡ 0
met_none page o onward x h = no_pull_if (is_outer x.meaning) (met_outer page o x.token onward) (onward x) (met_outer_none page o x.token onward h) (h x)

-- A FILE THAT IS BEGUN BY ITS NAME opens it, and reads nothing.

given_reads : (back : Bool) (last : Seen) → reads (given_back back last) ≡ 0
given_reads back last = omega (arith, reads_pull (given_back back last), flat_none (given_back back last) (back_flat back last))

hundred_reads : (b : Bool) (style : Style) (rest : List Move) → reads rest ≡ 0 → reads (if b then rest else Written Transcript (hundred_line style) ∷ Stopped (AtFatal HundredErrors) ∷ []) ≡ 0
hundred_reads true style rest h = h
hundred_reads false style rest h = refl

unless_reads : (page : Page) (name : List ℕ) (o : Option (List ℕ)) → reads (unless_found page name o) ≡ 0
unless_reads page name (Some bytes) = refl
unless_reads page name None =
    omega (arith, hundred_reads (nat_lt page.reports reports_room) (style_of page) (Written Transcript (emergency (style_of page) ++ no_file_line (style_of page)) ∷ Stopped (AtFatal NoFile) ∷ []) refl)

pub begun_reads : (files : Files) (page : Page) (back : Bool) (name : List ℕ) → reads (input_begun files page back name) ≡ 0
begun_reads files page back name =
    let rest : List Move = Spelt name ∷ Closed ∷ NameInProgress false ∷ ListsEnded ∷ FileOpened name ∷ unless_found page name (files 0 name) in
    omega (arith, reads_join (given_back back page.last) rest, given_reads back page.last, unless_reads page name (files 0 name))

pub begun_pulls : (files : Files) (page : Page) (back : Bool) (name : List ℕ) → 0 < pulls (input_begun files page back name)
begun_pulls files page back name =
    let rest : List Move = Spelt name ∷ Closed ∷ NameInProgress false ∷ ListsEnded ∷ FileOpened name ∷ unless_found page name (files 0 name) in
    omega (arith, pulls_join (given_back back page.last) rest)
