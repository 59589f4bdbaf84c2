-- What a frame will answer on what is still to come, and the list that it will have built.
use Rattle.std.specs.Prelude.{ℕ, ◌≡◌, ◌+◌, Bool, true, false, not, List, [], ◌∷◌, ◌++◌, drop, Option, Some, None}
use Rattle.tex_defs.specs.declared.Token.{Token}
use Rattle.tex_syntax.specs.declared.words.Scanned.{Scanned}
use Rattle.tex_syntax.specs.declared.words.Scanned.TheVariants as scanned
use Rattle.tex_syntax.specs.declared.words.Manner.{Manner}
use Rattle.tex_syntax.specs.declared.words.Want.{Want}
use Rattle.tex_syntax.specs.declared.words.Want.TheVariants.{Raw, Expanded, Nonblank}
use Rattle.plain_state.specs.Definitions as build
use Rattle.list_builder.specs.Stages as stages
use Rattle.list_builder.specs.declared.stage.Stage.{Stage}
use Rattle.list_builder.specs.declared.stage.Stage.TheVariants as stage
use Rattle.list_builder.specs.Stages.{cell_count}
use Rattle.conditionals.specs.declared.choice.Aim.{Aim}
use Rattle.rows.specs.declared.words.Value.{Value}
use Rattle.rows.specs.declared.words.Value.TheVariants as value
use Rattle.rows.specs.declared.command.Call.{Call}
use Rattle.rows.specs.declared.command.Effect.TheVariants.{PutBack, Reach}
use Rattle.rows.specs.Readings.{Fed, Ask}
use Rattle.rows.specs.Readings as reading
use Rattle.rows.specs.Commands.{CommandAsk, command_ask, Ends}
use Rattle.rows.specs.Commands as asks
use Rattle.row_frames.specs.Resumes as row
use Rattle.rows.specs.Table.{reads_under_normal}
use Rattle.plain_readings.specs.Readings.{kept_list}
use Rattle.plain_readings.specs.Scanning.{Status, Scans, SkipsText, Unguarded, Inherits, command_status}
use Rattle.plain_readings.specs.Lists.{build_fed, build_ask, built}
use Rattle.plain_readings.specs.Spelling.{spelling, characters, endcsname_missing, makes}
use Rattle.plain_readings.specs.FileNames.{file_naming, file_characters, opens}
use Rattle.plain_readings.specs.Skips.{skipping}
use Rattle.plain_readings.specs.Integers.{number_ask}
use Rattle.plain_readings.specs.Factors.{factor_ask}
use Rattle.plain_readings.specs.Keywords.{keyword_ask}
use Rattle.plain_readings.specs.Measures.{dimen_fed, dimen_ask, glue_fed, glue_ask}
use Rattle.scan_numbers.specs.Resumes as number
use Rattle.scan_numbers.specs.FactorResumes as factor
use Rattle.scan_dimens.specs.Resumes as keyword
use Rattle.scan_dimens.specs.DimenResumes as dimen
use Rattle.scan_glue.specs.GlueResumes as glue
use Rattle.reading_frames.specs.declared.ask.Ask.{Ask as Answer}
use Rattle.reading_frames.specs.declared.ask.Ask.TheVariants as answer
use Rattle.reading_frames.specs.declared.ask.Found.{Found}
use Rattle.reading_frames.specs.declared.ask.Found.TheVariants.{Builds, SkippedText}
use Rattle.reading_frames.specs.declared.ask.Grown.{Grown}
use Rattle.reading_frames.specs.declared.command.ListedAsk.{ListedAsk}
use Rattle.reading_frames.specs.declared.command.ListedAsk.TheVariants as listed
use Rattle.reading_frames.specs.declared.command.CommandScan.{CommandScan}
use Rattle.reading_frames.specs.declared.command.CommandScan.TheVariants as command
use Rattle.reading_frames.specs.declared.spelling.SpellPlace.{SpellPlace}
use Rattle.reading_frames.specs.declared.spelling.SpellPlace.TheVariants as spell
use Rattle.reading_frames.specs.declared.spelling.SpellScan.{SpellScan}
use Rattle.reading_frames.specs.declared.file_name.FilePlace.{FilePlace}
use Rattle.reading_frames.specs.declared.file_name.FilePlace.TheVariants as file
use Rattle.reading_frames.specs.declared.file_name.FileScan.{FileScan}
use Rattle.reading_frames.specs.declared.skip.SkipPlace.{SkipPlace}
use Rattle.reading_frames.specs.declared.skip.SkipPlace.TheVariants as skip
use Rattle.reading_frames.specs.declared.skip.SkipScan.{SkipScan}
use Rattle.reading_frames.specs.declared.text.BuildPlace.{BuildPlace}
use Rattle.reading_frames.specs.declared.text.BuildPlace.TheVariants as place
use Rattle.reading_frames.specs.declared.text.BuildScan.{BuildScan}
use Rattle.reading_frames.specs.declared.frame.Frame.{Frame}
use Rattle.reading_frames.specs.declared.frame.Frame.TheVariants.{Command, Integer, Factor, Dimension, Glue, Keyword, Build, Spelling, FileName, Behind, Skips, Call as Called}
use Rattle.reading_frames.specs.Views.{Lists, top_list, kept_list_of}

-- A command, and the list with which it is to do something

abbrev pub resume_command : CommandScan → Lists → List Fed → CommandAsk
resume_command (command.Reads f) held fed = row.resume f fed
resume_command (command.Acts c e) held fed = asks.Acts c e
resume_command (command.ActsOn c e listed) held fed = asks.ActsOn c e (kept_list_of listed held)
resume_command (command.Defines c n listed) held fed = asks.Defines c n (kept_list_of listed held)
resume_command command.Ended held fed = Ends

abbrev pub listed_lists : (listed : Bool) → Lists → Lists
listed_lists true held = top_list held ∷ []
listed_lists false held = []

-- whether the list on top is its own
abbrev pub has_list : CommandScan → Bool
has_list (command.ActsOn c e listed) = listed
has_list (command.Defines c n listed) = listed
has_list s = false

abbrev pub command_lists : CommandScan → Lists → List Fed → Lists
command_lists (command.Reads f) held fed = kept_list (command_ask (row.resume f fed))
command_lists s held fed = listed_lists (has_list s) held

-- how many lists of its own are held now
abbrev pub listed_count : (listed : Bool) → ℕ
listed_count true = 1
listed_count false = 0

abbrev pub command_count : CommandScan → ℕ
command_count s = listed_count (has_list s)

-- how many it has of which it asks this: the list of which it speaks, where that is listed
abbrev pub asked_count : ListedAsk → ℕ
asked_count (listed.ActsOn c e l) = listed_count l
asked_count (listed.Defines c n l) = listed_count l
asked_count a = 0

-- a list that came with a value is kept only where it has a token
abbrev pub keeps : Value → (is_empty : Bool) → Bool
keeps value.List is_empty = not is_empty
keeps (value.Plain d) is_empty = false

-- a command that is over, whose list is listed or not
abbrev pub IsOver : CommandScan → (listed : Bool) → Type 0
IsOver (command.Reads f) listed = ⊥
IsOver (command.ActsOn c e is_listed) listed = is_listed ≡ listed
IsOver (command.Defines c n is_listed) listed = is_listed ≡ listed
IsOver s listed = Unit {0}

-- the list of a value, where it is kept
abbrev pub with_list : (kept : Bool) → List Token → Lists → Lists
with_list true ts held = ts ∷ held
with_list false ts held = held

-- `\csname`, behind the characters of this list

abbrev pub name_at : Call → SpellPlace → List Token → List Fed → CommandAsk
name_at c spell.Inside list fed = spelling c list fed
name_at c spell.NoEnd list fed = endcsname_missing c list fed
name_at c spell.Whole list fed = makes c list
name_at c spell.Stopped list fed = Ends

abbrev pub resume_name : SpellScan → List Token → List Fed → CommandAsk
resume_name scan list fed = name_at scan.call scan.place list fed

-- the characters that it will have gathered
abbrev pub name_list_at : SpellPlace → List Token → List Fed → List Token
name_list_at spell.Inside list fed = list ++ characters fed
name_list_at p list fed = list

abbrev pub name_list : SpellScan → List Token → List Fed → List Token
name_list scan list fed = name_list_at scan.place list fed

-- `\input`, behind the characters of this list

abbrev pub file_at : Call → FilePlace → List Token → List Fed → CommandAsk
file_at c file.Before list fed = file_naming c Nonblank list fed
file_at c file.Inside list fed = file_naming c Expanded list fed
file_at c (file.Whole back) list fed = opens c back list
file_at c file.Stopped list fed = Ends

abbrev pub resume_file : FileScan → List Token → List Fed → CommandAsk
resume_file scan list fed = file_at scan.call scan.place list fed

-- the characters of the name that it will have gathered
abbrev pub file_list_at : FilePlace → List Token → List Fed → List Token
file_list_at file.Before list fed = list ++ file_characters fed
file_list_at file.Inside list fed = list ++ file_characters fed
file_list_at p list fed = list

abbrev pub file_list : FileScan → List Token → List Fed → List Token
file_list scan list fed = file_list_at scan.place list fed

-- Text that is skipped, where so many of its conditionals are open

abbrev pub skip_at : Call → Aim → SkipPlace → List Fed → CommandAsk
skip_at c aim (skip.Inside s) fed = skipping c aim s.depth fed
skip_at c aim (skip.Whole e) fed = asks.Acts c (Reach aim e)
skip_at c aim skip.Stopped fed = Ends

abbrev pub resume_skip : SkipScan → List Fed → CommandAsk
resume_skip scan fed = skip_at scan.call scan.aim scan.place fed

-- A list that is built, as far as this

abbrev pub build_at : Manner → BuildPlace → List Token → List Fed → build.Answer
build_at m (place.At s) list fed = stages.resume m s list (build_fed fed)
build_at m place.Whole list fed = build.Done list

abbrev pub resume_build : BuildScan → List Token → List Fed → build.Answer
resume_build scan list fed = build_at scan.manner scan.place list fed

-- how the next token is read, where it is one of the body itself
abbrev pub stage_want : Manner → Stage → Option Want
stage_want m (stage.InBody b depth) = Some (build.body_want m)
stage_want m s = None

abbrev pub place_want : Manner → BuildPlace → Option Want
place_want m (place.At s) = stage_want m s
place_want m place.Whole = None

abbrev pub next_in_body : BuildScan → Option Want
next_in_body scan = place_want scan.manner scan.place

-- the groups that are open in it
abbrev pub groups_at : BuildPlace → ℕ
groups_at (place.At s) = stages.depth_of s
groups_at place.Whole = 0

abbrev pub groups_in : BuildScan → ℕ
groups_in scan = groups_at scan.place

abbrev pub token_count : Grown → ℕ
token_count g = cell_count g.first + cell_count g.second

-- WHAT A FRAME ANSWERS once it is fed with this, over the lists that are held
abbrev pub resume : Frame → Lists → List Fed → Ask
resume (Command scan head) held fed = command_ask (resume_command scan held fed)
resume (Integer scan) held fed = number_ask (number.resume scan fed)
resume (Factor scan) held fed = factor_ask (factor.resume_factor scan fed)
resume (Dimension scan) held fed = dimen_ask (dimen.resume scan (dimen_fed fed))
resume (Glue scan) held fed = glue_ask (glue.resume scan (glue_fed fed))
resume (Keyword scan) held fed = keyword_ask (keyword.resume scan fed)
resume (Build scan) held fed = build_ask (resume_build scan (top_list held) fed)
resume (Spelling scan) held fed = command_ask (resume_name scan (top_list held) fed)
resume (FileName scan) held fed = command_ask (resume_file scan (top_list held) fed)
resume (Behind c x) held fed = command_ask (asks.Acts c (PutBack x))
resume (Skips scan) held fed = command_ask (resume_skip scan fed)
resume (Called name) held fed = reading.More Raw

-- the lists that it will have built then
abbrev pub building : Frame → Lists → List Fed → Lists
building (Command scan head) held fed = command_lists scan held fed
building (Integer scan) held fed = []
building (Factor scan) held fed = []
building (Dimension scan) held fed = []
building (Glue scan) held fed = []
building (Keyword scan) held fed = []
building (Build scan) held fed = built (resume_build scan (top_list held) fed) ∷ []
building (Spelling scan) held fed = name_list scan (top_list held) fed ∷ []
building (FileName scan) held fed = file_list scan (top_list held) fed ∷ []
building (Behind c x) held fed = []
building (Skips scan) held fed = []
building (Called name) held fed = []

-- how many lists of its own are held now
abbrev pub list_count : Frame → ℕ
list_count (Command scan head) = command_count scan
list_count (Build scan) = 1
list_count (Spelling scan) = 1
list_count (FileName scan) = 1
list_count f = 0

-- the lists of the frames beneath
abbrev pub below : Frame → Lists → Lists
below f held = drop (list_count f) held

-- What ends by asking this has so many lists of its own: the list of which it speaks, where that is listed.
abbrev pub Owns : Answer → ℕ → Type 0
Owns (answer.ActsOn c e listed) n = n ≡ listed_count listed
Owns (answer.Defines c name listed) n = n ≡ listed_count listed
Owns (answer.Done value.List back) n = n ≡ 1
Owns (answer.Done (value.Plain d) back) n = n ≡ 0
Owns (answer.Acts c e) n = n ≡ 0
Owns a n = Unit {0}

-- what is read where a list is built: that of a macro, or a text
abbrev pub built_as : (defines : Bool) → Scanned
built_as true = scanned.Definition
built_as false = scanned.Text

-- what it is at a check
abbrev pub frame_status : Frame → Status
frame_status (Command scan head) = command_status (reads_under_normal head)
frame_status (Build scan) = Scans (built_as scan.defines) scan.manner.name
frame_status (Skips scan) = SkipsText scan.line
frame_status f = Inherits

-- what is read at a check, where a reading is of this status and its list has this number; and whether it reads its token under normal status
abbrev pub read_at : Status → (number : ℕ) → Option Found
read_at (Scans what name) n = Some (Builds what name n)
read_at (SkipsText line) n = Some (SkippedText line)
read_at s n = None

abbrev pub reads_unguarded : Status → Bool
reads_unguarded Unguarded = true
reads_unguarded s = false

-- a call of a macro, of which the arguments, the place in the parameter text and what it asks for stand where the lists do
abbrev pub is_call : Frame → Bool
is_call (Called name) = true
is_call f = false

-- the groups that are open in the list that is built
abbrev pub groups : Frame → ℕ
groups (Build scan) = groups_in scan
groups f = 0
