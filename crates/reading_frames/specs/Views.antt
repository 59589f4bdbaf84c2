-- What the engine's words stand for, over the lists that are held.
use Rattle.std.specs.Prelude.{Bool, true, false, List, [], ◌∷◌, ◌++◌, drop, Option, Some, None}
use Rattle.tex_defs.specs.declared.Token.{Token}
use Rattle.tex_syntax.specs.declared.words.Want.TheVariants.{Expanded, Unentered}
use Rattle.tex_syntax.specs.declared.words.Report.TheVariants.{MissingEndcsname}
use Rattle.plain_state.specs.Definitions.{with_cell}
use Rattle.conditionals.specs.declared.choice.Aim.{Aim}
use Rattle.rows.specs.declared.words.Value.TheVariants as value
use Rattle.rows.specs.declared.command.Call.{Call}
use Rattle.rows.specs.declared.command.Effect.TheVariants.{Reach}
use Rattle.rows.specs.Commands.{CommandAsk}
use Rattle.rows.specs.Commands as command
use Rattle.rows.specs.Internal.{IsFetchable}
use Rattle.rows.specs.Readings as reading
use Rattle.plain_readings.specs.Spelling.{makes}
use Rattle.plain_readings.specs.FileNames.{opens}
use Rattle.plain_readings.specs.Readings.{Kind}
use Rattle.plain_readings.specs.Readings as kind
use Rattle.reading_frames.specs.declared.ask.Opening.{Opening}
use Rattle.reading_frames.specs.declared.ask.Opening.TheVariants.{Reads, Spelling, FileName, Behind, Skips}
use Rattle.reading_frames.specs.declared.ask.Ask.{Ask}
use Rattle.reading_frames.specs.declared.ask.Ask.TheVariants.{More, Inner, Done, Acts, ActsOn, Defines, Ends, Tells, Inserts, Puts, Relaxes, Magnifies, Fetches}
use Rattle.reading_frames.specs.declared.ask.Grown.{Grown}
use Rattle.reading_frames.specs.declared.command.ListedAsk.{ListedAsk}
use Rattle.reading_frames.specs.declared.command.ListedAsk.TheVariants as listed
use Rattle.reading_frames.specs.declared.spelling.SpellAsk.{SpellAsk}
use Rattle.reading_frames.specs.declared.spelling.SpellAsk.TheVariants as spell
use Rattle.reading_frames.specs.declared.file_name.FileAsk.{FileAsk}
use Rattle.reading_frames.specs.declared.file_name.FileAsk.TheVariants as file
use Rattle.reading_frames.specs.declared.skip.SkipAsk.{SkipAsk}
use Rattle.reading_frames.specs.declared.skip.SkipAsk.TheVariants as skip
use Rattle.reading_frames.specs.declared.text.ListAsk.{ListAsk}
use Rattle.reading_frames.specs.declared.text.ListAsk.TheVariants as lists

-- The lists that open readings hold, that of the innermost first, and of each reading the last one first.
abbrev pub Lists : Type 0
Lists = List (List Token)

abbrev pub top_list : Lists → List Token
top_list [] = []
top_list (list ∷ beneath) = list

abbrev pub has_no_token : List Token → Bool
has_no_token [] = true
has_no_token (t ∷ ts) = false

-- the list with which a command is to do something: the one on top, where it is listed, else that of no token
abbrev pub kept_list_of : (listed : Bool) → Lists → List Token
kept_list_of true held = top_list held
kept_list_of false held = []

-- the list on top gets a token
abbrev pub put : Option Token → Lists → Lists
put None held = held
put (Some t) held = (top_list held ++ t ∷ []) ∷ drop 1 held

-- the list on top gets all of these
abbrev pub on_top : Grown → Lists → Lists
on_top g held = put g.second (put g.first held)

-- a list gets all of these
abbrev pub grown : Grown → List Token → List Token
grown g list = with_cell (with_cell list g.first) g.second

abbrev pub reading_kind : Opening → Kind
reading_kind (Reads k) = kind.Reads k
reading_kind (Spelling c) = kind.Spelling c
reading_kind (FileName c) = kind.FileName c
reading_kind (Behind c x) = kind.Behind c x
reading_kind (Skips c aim line) = kind.Skips c aim line

abbrev pub ask_of : Lists → Ask → reading.Ask
ask_of held (More want) = reading.More want
ask_of held (Inner k begins) = reading.Inner k begins
ask_of held (Done v back) = reading.Done v back
ask_of held (Acts c e) = reading.Acts c e
ask_of held (ActsOn c e listed) = reading.ActsOn c e (kept_list_of listed held)
ask_of held (Defines c n listed) = reading.Defines c n (kept_list_of listed held)
ask_of held Ends = reading.Ends
ask_of held (Tells report back) = reading.Tells report back
ask_of held (Inserts t report back) = reading.Inserts t report back
ask_of held (Puts t more) = reading.Puts t more
ask_of held (Relaxes c n) = reading.Relaxes c n
ask_of held Magnifies = reading.Magnifies
ask_of held (Fetches l) = reading.Fetches l

-- WHAT EACH SCANNER ASKS FOR, in the words of its definition

-- a command, over the lists that are held
abbrev pub listed_ask : Lists → ListedAsk → CommandAsk
listed_ask held (listed.More want) = command.More want
listed_ask held (listed.Inner k begins) = command.Inner k begins
listed_ask held (listed.Acts c e) = command.Acts c e
listed_ask held (listed.ActsOn c e l) = command.ActsOn c e (kept_list_of l held)
listed_ask held (listed.Defines c n l) = command.Defines c n (kept_list_of l held)
listed_ask held listed.Ends = command.Ends
listed_ask held (listed.Tells report back) = command.Tells report back
listed_ask held (listed.Inserts t report back) = command.Inserts t report back
listed_ask held (listed.Relaxes c n) = command.Relaxes c n

-- `\csname`, with these characters
abbrev pub spell_ask : Call → List Token → SpellAsk → CommandAsk
spell_ask c ts spell.More = command.More Expanded
spell_ask c ts spell.NoEnd = command.Tells MissingEndcsname true
spell_ask c ts spell.Makes = makes c ts
spell_ask c ts spell.Ends = command.Ends

-- `\input`, with the characters of this name
abbrev pub file_ask : Call → List Token → FileAsk → CommandAsk
file_ask c ts (file.More want) = command.More want
file_ask c ts (file.Opens back) = opens c back ts
file_ask c ts file.Ends = command.Ends

-- skipped text
abbrev pub skip_ask : Call → Aim → SkipAsk → CommandAsk
skip_ask c aim skip.More = command.More Unentered
skip_ask c aim (skip.Reaches e) = command.Acts c (Reach aim e)
skip_ask c aim skip.Ends = command.Ends

-- a balanced text or the list of a macro
abbrev pub list_ask : ListAsk → reading.Ask
list_ask (lists.More want) = reading.More want
list_ask (lists.Tells report back) = reading.Tells report back
list_ask lists.Done = reading.Done value.List false

-- what is fetched stands at a location that is there
abbrev pub IsFetchedAt : Ask → Type 0
IsFetchedAt (Fetches l) = IsFetchable l
IsFetchedAt a = Unit {0}
