-- What one expansion of a token comes to.
use Rattle.std.specs.Prelude.{◌≡◌, ◌≤◌, ℕ, Bool, true, false, if◌then◌else◌, List, [], ◌∷◌, ◌++◌, Option, Some}
use Rattle.prim_table.specs.Primitives.{is_in_row}
use Rattle.prim_table.specs.declared.Class.TheVariants as class
use Rattle.tex_syntax.specs.declared.words.Report.TheVariants.{UndefinedName}
use Rattle.tex_syntax.specs.declared.words.Want.{Want}
use Rattle.tex_syntax.specs.declared.words.Want.TheVariants.{Raw, Unentered}
use Rattle.tex_defs.specs.Places.{World}
use Rattle.tex_defs.specs.declared.Seen.{Seen}
use Rattle.tex_defs.specs.declared.Sizes.{Sizes}
use Rattle.tex_defs.specs.declared.Token.{Token}
use Rattle.plain_tokens.specs.Meanings.{is_expandable}
use Rattle.conditionals.specs.Open.{constant_test}
use Rattle.rows.specs.declared.words.Phrase.TheVariants.{Command}
use Rattle.rows.specs.declared.command.Call.{Call}
use Rattle.plain_readings.specs.Readings.{Kind, Reads}
use Rattle.reading_frames.specs.Views.{reading_kind}
use Rattle.reading_frames.specs.Weights.{begun_weight}
use Rattle.plain_machine.specs.States.{State, Move, Begun, Closed, FileEnds}
use Rattle.plain_machine.specs.Plan.{Page, reported, called, input_met, job_in, put_characters, conditional_met, conditional_begun, ender_met}
use Rattle.engine_state.specs.declared.engine.Engine.{Engine}
use Rattle.engine_state.specs.declared.outcome.Ruled.{Ruled}
use Rattle.engine_state.specs.declared.outcome.Ruled.TheVariants as ruled
use Rattle.engine_state.specs.Book.{Book}
use Rattle.engine_state.specs.Rules.{Went, Halts}
use Rattle.gullet.specs.declared.expansion.Expansion.{Expansion}
use Rattle.gullet.specs.declared.expansion.Expansion.TheVariants as by
use Rattle.gullet.specs.declared.expansion.Once.{Once}
use Rattle.gullet.specs.declared.expansion.Once.TheVariants as once
use Rattle.gullet.specs.declared.expansion.Once.TheVariants.{Expanded}

-- a token is wanted as it stands
abbrev pub wants_raw : Option Want → Bool
wants_raw (Some Raw) = true
wants_raw (Some Unentered) = true
wants_raw want = false

-- a token stays where it is wanted as it stands, and where it can't be expanded
abbrev pub Stays : Option Want → Seen → Type 0
Stays (Some Raw) x = Unit {0}
Stays (Some Unentered) x = Unit {0}
Stays want x = is_expandable x.meaning ≡ false

-- ONE EXPANSION

-- `\jobname`: its reading begins, and ends at once behind the name that is put
abbrev pub job_moves : Page → Kind → List Move
job_moves page k = Begun k ∷ (put_characters (job_in page.strings) ++ Closed ∷ [])

-- a primitive that is a conditional, or ends one or a part of it, and another, which a row reads
abbrev pub row_moves : Page → Token → Call → (number : ℕ) → List Move
row_moves page t c number = if is_in_row class.Conditional number then conditional_met page t c number else Begun (Reads (Command c)) ∷ []

-- by which a token comes to these moves, one that isn't expanded to others
abbrev pub ExpandsTo : Expansion → Page → (others moves : List Move) → Type 0
ExpandsTo by.Undefined page others moves = moves ≡ reported page UndefinedName []
ExpandsTo by.Unexpandable page others moves = moves ≡ others
ExpandsTo (by.Call t) page others moves = moves ≡ called page t
ExpandsTo (by.Begin o) page others moves = moves ≡ Begun (reading_kind o) ∷ []
ExpandsTo (by.JobName o) page others moves = moves ≡ job_moves page (reading_kind o)
ExpandsTo (by.Input t c) page others moves = moves ≡ input_met page t c
ExpandsTo by.EndInput page others moves = moves ≡ FileEnds ∷ []
ExpandsTo (by.Conditional c n) page others moves = moves ≡ conditional_begun page c n (constant_test n)
ExpandsTo (by.Ender t c e) page others moves = moves ≡ ender_met page t c e

-- what begins weighs little
abbrev pub IsLight : Expansion → Type 0
IsLight (by.Begin o) = begun_weight o ≤ 11
IsLight e = Unit {0}

abbrev pub is_expansion : Expansion → Bool
is_expansion by.Unexpandable = false
is_expansion e = true

-- The moves are done, or the token stays and these others are left.
abbrev pub ExpandsOnce : Sizes → State → Engine → Book → World → World → (moves others : List Move) → Once → Type 0
ExpandsOnce sizes s e' book w w' moves others Expanded = Went sizes s e' w w' moves 0
ExpandsOnce sizes s e' book w w' moves others once.Stays = moves ≡ others
ExpandsOnce sizes s e' book w w' moves others (once.Over o) = Halts sizes s e' book w w' moves o 0

abbrev pub changes : Once → Bool
changes once.Stays = false
changes n = true

abbrev pub IsExpanded : Once → Type 0
IsExpanded Expanded = Unit {0}
IsExpanded n = ⊥

abbrev pub IsStayed : Once → Type 0
IsStayed once.Stays = Unit {0}
IsStayed n = ⊥

abbrev pub EndsRun : Once → Type 0
EndsRun (once.Over o) = Unit {0}
EndsRun n = ⊥

-- moves by which the token has gone
abbrev pub once_by : Ruled → Once
once_by ruled.Step = Expanded
once_by ruled.Free = Expanded
once_by (ruled.Halted o) = once.Over o
