-- What each move needs of the tables, and where it doesn't fit.
use Rattle.std.specs.Prelude.{ℕ, ◌+◌, List, [], ◌∷◌, length, Option}
use Rattle.tex_defs.specs.declared.Table.TheVariants.{ExpansionDepth, ConditionStackSize}
use Rattle.tex_defs.specs.declared.Full.{Full}
use Rattle.tex_defs.specs.declared.Sizes.{Sizes}
use Rattle.plain_tokens.specs.Puts.{next_item}
use Rattle.plain_tokens.specs.Pending.{all_puts}
use Rattle.plain_tokens.specs.Tables.{Demand, held_words, lists_words, memory, level, opened_level, parameters, string, new_name, next_line, next_file, text_level, spelt_name, refused}
use Rattle.equivalents.specs.Groups.{set_demands, name_demands, group_demands, token_demands}
use Rattle.equivalents.specs.Holding.{lists_held, shared_words}
use Rattle.conditionals.specs.declared.open.Conditional.{Conditional}
use Rattle.rows.specs.Readings.{Tok}
use Rattle.plain_readings.specs.Readings.{Reading, lists}
use Rattle.plain_machine.specs.States.{Move, Handed, Taken, FirstTaken, FileOpened, Spelt, Entered, Kept, Grows, Opened, ListBegun, ListGrown, Put, Called, CalledWith, Set, Assigned, Defined, ListSet, GroupOpened, KeptForGroup, ConditionOpened, Begun, BegunWith, State}

-- the words of main memory that are used
abbrev pub words : State → ℕ
words s = shared_words 0 (lists_held s.groups) (all_puts s.pending) s.all_lists + held_words (all_puts s.pending) s.making s.gathered

-- one reading more
abbrev pub depth : List Reading → Demand
depth work = record { table = ExpansionDepth; used = length work; need = 1 }

-- one conditional more
abbrev pub condition : List Conditional → Demand
condition cs = record { table = ConditionStackSize; used = length cs; need = 1 }

-- What a move needs, in the order in which the tables are asked.
abbrev pub demands : Move → State → List Demand
demands (Taken line) s = next_line s.pending
demands (FirstTaken line) s = next_file s.pending
demands (FileOpened name) s = text_level s.pending ∷ []
demands (Spelt name) s = spelt_name name s.pending ∷ []
demands (Entered name) s = new_name name s.names s.strings
demands (Kept bytes) s = string bytes s.names s.strings
demands (Handed t) s = opened_level (next_item s.pending.puts) s.pending
demands (Grows t) s = memory 1 (words s) ∷ []
demands Opened s = memory 1 (words s) ∷ []
demands ListBegun s = memory 1 (words s) ∷ []
demands (ListGrown t) s = memory 1 (words s) ∷ []
demands (Put ts) s = level s.pending ∷ []
demands (Called p) s = level s.pending ∷ []
demands (CalledWith p) s = parameters p s.pending ∷ level s.pending ∷ []
demands (Begun k) s = depth s.work ∷ memory (lists_words (lists k [])) (words s) ∷ []
demands (BegunWith k) s = depth s.work ∷ memory (lists_words (lists k (Tok s.last ∷ []))) (words s) ∷ []
demands (Set global l v) s = set_demands global s.groups l
demands (Assigned global name m) s = name_demands global s.groups name
demands (Defined global name long outer ts) s = name_demands global s.groups name
demands (ListSet global l ts) s = set_demands global s.groups l
demands (GroupOpened kind) s = group_demands s.groups
demands (KeptForGroup t) s = token_demands s.groups
demands (ConditionOpened test line) s = condition s.conditionals ∷ []
demands m s = []

-- Where a move doesn't fit: the table, what is used of it, and its size.
abbrev pub refusal : Sizes → Move → State → Option Full
refusal sizes m s = refused sizes (demands m s)
