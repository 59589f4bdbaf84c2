-- What the engine comes to.
use Rattle.std.specs.Prelude.{ℕ, List, [], ◌∷◌, ◌++◌}
use Rattle.tex_syntax.specs.declared.words.Outcome.{Outcome}
use Rattle.tex_syntax.specs.declared.words.Outcome.TheVariants.{Finished, AtFatal}
use Rattle.tex_syntax.specs.declared.words.Scanned.{Scanned}
use Rattle.tex_syntax.specs.declared.words.Report.{Report}
use Rattle.tex_syntax.specs.declared.words.Report.TheVariants as reports
use Rattle.tex_defs.specs.declared.Name.{Name}
use Rattle.tex_defs.specs.Places.{Transcript}
use Rattle.tex_defs.specs.declared.Fatal.TheVariants.{NoEnd as FatalNoEnd, NoFile}
use Rattle.plain_state.specs.Reports.{fresh_line, emergency, no_end_line, no_file_line}
use Rattle.plain_machine.specs.States.{Move, Written, Stopped}
use Rattle.plain_machine.specs.Plan.{Page, style_of, groups_left, conditionals_left, reported, finish, no_end, page_behind, put_one, inserted_at, cut_or_not}
use Rattle.engine_state.specs.declared.check.Check.{Check}
use Rattle.engine_state.specs.declared.check.Check.TheVariants.{FileEnded, Forbidden}
use Rattle.engine_state.specs.declared.outcome.Last.{Last}
use Rattle.engine_state.specs.declared.outcome.Last.TheVariants.{End, NoEnd}

-- where the machine stops of itself: how, the moves, and the first text among them
abbrev pub outcome_of_last : Last → Outcome
outcome_of_last End = Finished
outcome_of_last NoEnd = AtFatal FatalNoEnd

abbrev pub last_moves : Page → Last → List Move
last_moves page End = finish page
last_moves page NoEnd = no_end page

abbrev pub last_bytes : Page → Last → List ℕ
last_bytes page End = fresh_line page.in_line ++ groups_left page
last_bytes page NoEnd = fresh_line page.in_line ++ (emergency (style_of page) ++ no_end_line (style_of page))

-- what is written before it stops
abbrev pub last_written : Page → Last → List Move
last_written page End = Written Transcript (last_bytes page End) ∷ conditionals_left (style_of page) page.conditionals
last_written page NoEnd = Written Transcript (last_bytes page NoEnd) ∷ []

-- what is scanned runs away, and this is shown of it: `}` or `\par` is inserted, the report comes, and a call notes the check
abbrev pub away_moves : Page → Scanned → List ℕ → Report → (rest : List Move) → List Move
away_moves page what text report rest = Written Transcript text ∷ (put_one (inserted_at what) ++ reported (page_behind page text) report (cut_or_not what rest))

-- the report of it, by why the check comes
abbrev pub check_report : Check → Scanned → Name → Report
check_report FileEnded what name = reports.FileEnded what name
check_report Forbidden what name = reports.Forbidden what name

-- FILES THAT AREN'T HELD

-- what comes behind the report that a file isn't held: the end of the run
abbrev pub no_file_end : Page → List Move
no_file_end page = Written Transcript (emergency (style_of page) ++ no_file_line (style_of page)) ∷ Stopped (AtFatal NoFile) ∷ []
