-- The plain machine's state, and its moves.
use Rattle.std.specs.Prelude.{ℕ, suc, ◌+◌, Bool, true, List, [], ◌∷◌, ◌++◌, length, drop, Option, Some, None}
use Rattle.tex_syntax.specs.declared.words.Outcome.{Outcome}
use Rattle.tex_defs.specs.declared.Token.{Token}
use Rattle.tex_defs.specs.declared.Token.TheVariants as token
use Rattle.tex_defs.specs.declared.Seen.{Seen}
use Rattle.tex_defs.specs.Places.{Place, Transcript, OfFile}
use Rattle.tex_defs.specs.declared.Name.{Name}
use Rattle.tex_defs.specs.declared.Name.TheVariants as name
use Rattle.tex_defs.specs.declared.Meaning.{Meaning}
use Rattle.tex_defs.specs.declared.Meaning.TheVariants as means
use Rattle.equivalents.specs.declared.values.Loc.{Loc}
use Rattle.equivalents.specs.declared.values.Val.TheVariants as val
use Rattle.equivalents.specs.Locations.{V}
use Rattle.save_stack.specs.declared.GroupKind.{GroupKind}
use Rattle.equivalents.specs.Groups.{Groups, entered, set, set_name, opened as group_opened, closed as group_closed, with_token}
use Rattle.plain_tokens.specs.Puts.{Put as PutList, token_put, grow_first, grown_by, list_of_tokens}
use Rattle.plain_tokens.specs.Pending.{Pending, pulled, after_pull, with_end, put_front, end_token_lists, with_next, with_begun, ending}
use Rattle.plain_state.specs.Reports.{in_line_after}
use Rattle.conditionals.specs.declared.limits.Limit.{Limit}
use Rattle.conditionals.specs.declared.open.Conditional.{Conditional}
use Rattle.conditionals.specs.Open.{with_limit}
use Rattle.conditionals.specs.Open as conditional
use Rattle.rows.specs.declared.words.Value.{Value}
use Rattle.rows.specs.Readings.{Fed, Tok, Val}
use Rattle.plain_readings.specs.Readings.{Kind, Reading, lists, fed_with, opened, opened_with}
use Rattle.equivalents.specs.Parameters.{end_of_line}

pub data Move : Type 0 where
  -- the steps: a token handed on; a line taken, which gets its end character then; the first line of a file that was opened, which is the innermost then
  Handed : Token → Move
  Taken : List ℕ → Move
  FirstTaken : List ℕ → Move
  -- a reading from pending or a push begins: the finished lists in front go
  ListsEnded : Move
  -- an invalid character is skipped
  Skipped : Move
  -- the innermost file goes behind its last line; it is to go behind its present one
  FileClosed : Move
  FileEnds : Move
  -- the file of this name is looked for, and opened if it is held
  FileOpened : (name : List ℕ) → Move
  -- a name is spelt behind the open lines in the buffer
  Spelt : (name : List ℕ) → Move
  -- a file's name is being read, or no more: TeX's `name_in_progress`
  NameInProgress : Bool → Move
  -- a name is entered; another string is kept
  Entered : (name : List ℕ) → Move
  Kept : (bytes : List ℕ) → Move
  -- the list that the innermost reading builds gets a token
  Grows : Token → Move
  -- the innermost reading is fed with a token, with the note that its report was written or that a check came, with what stands at a location, or with a
  -- token that enters its list as it stands
  Feeds : Fed → Move
  -- in a call: an argument is whole, and its outer braces have gone; the list of the next one is begun
  Completed : List Token → Move
  Opened : Move
  -- a list that will be put in front is begun, grown by one token, and put; one without tokens goes
  ListBegun : Move
  ListGrown : Token → Move
  Put : List Token → Move
  ListDropped : Move
  -- the body of a macro is put, or the list of a location; of a macro with arguments, these pass from their reading, which ends
  Called : PutList → Move
  CalledWith : PutList → Move
  -- an assignment; one to what a name means
  Set : (global : Bool) → Loc → V → Move
  Assigned : (global : Bool) → Name → Meaning (Option ℕ) → Move
  -- a name becomes a macro, or a location gets a list of tokens, to which the list passes that the innermost reading holds; this reading ends
  Defined : (global : Bool) → Name → (long outer : Bool) → List Token → Move
  ListSet : (global : Bool) → Loc → List Token → Move
  -- a group opened; the innermost one closed; a token kept for its end
  GroupOpened : GroupKind → Move
  GroupClosed : Move
  KeptForGroup : Token → Move
  -- the token that comes behind the next assignment, or none
  KeptForAssignment : Option Token → Move
  -- the magnification is set for good: TeX's `mag_set`
  MagnificationSet : ℕ → Move
  -- a conditional opened, which is this primitive, on this line; the innermost one whose test is under way given another limit; the innermost closed
  ConditionOpened : (number line : ℕ) → Move
  LimitSet : Limit → Move
  ConditionClosed : Move
  Written : Place → List ℕ → Move
  -- a reading begun, and with it the lists that it builds; one begun with the token that the one beneath looked at
  Begun : Kind → Move
  BegunWith : Kind → Move
  -- the innermost reading ended, and its value, with its list, fed to the one beneath
  Ended : Value → List Token → Move
  -- the innermost reading ended without a value
  Closed : Move
  -- a report is counted; the status is to be 1 without one
  Reported : Move
  Flawed : Move
  Stopped : Outcome → Move

-- What each opening of a file to come, counted from 0, finds under each name. Of files that nobody else changes it is the same each time.
abbrev pub Files : Type 0
Files = ℕ → List ℕ → Option (List ℕ)

-- no file is held
abbrev pub no_files : Files
no_files k name = None

-- behind the next opening
abbrev pub later : Files → Files
later files k = files (suc k)

pub record State : Type 0 where
  pub pending : Pending
  pub files : Files
  -- whether a file's name is being read
  pub naming : Bool
  -- the names of two or more characters, in the order in which they were entered
  pub names : List (List ℕ)
  -- the other strings that are kept: the job's name
  pub strings : List (List ℕ)
  -- what stands at all locations, in all groups that are open, and the lists of all macros, token registers and token parameters so far, in the
  -- order of their definitions and assignments
  pub groups : Groups
  pub all_lists : List (List Token)
  -- the token that `\afterassignment` keeps
  pub after : Option Token
  -- the magnification that a check has set for good, or 0 before the first: TeX's `mag_set`
  pub mag_set : ℕ
  -- the open conditionals, the innermost first
  pub conditionals : List Conditional
  -- the token that a reading was fed with last
  pub last : Seen
  -- the open readings, innermost first, and the lists that they hold, the innermost reading's last list first
  pub work : List Reading
  pub gathered : List (List Token)
  -- the list that is being made, to be put in front
  pub making : Option (List Token)
  -- whether the transcript's column isn't 0
  pub in_line : Bool
  -- the reports so far, and whether the status is to be 1 without one
  pub reports : ℕ
  pub flawed : Bool
  -- whether token lines are left out
  pub quiet : Bool
  pub stopped : Option Outcome
  -- the moves of the present rule that are still to be made
  pub due : List Move

-- the transcript's column behind a text
abbrev pub column_after : Place → Bool → List ℕ → Bool
column_after Transcript b bs = in_line_after b bs
column_after (OfFile name) b bs = b

-- before a reading is fed with a token
abbrev pub no_token : Seen
no_token = record { token = token.Named name.Empty; meaning = means.Undefined }

-- the last token, once a reading is fed with this
abbrev pub last_with : Fed → Seen → Seen
last_with (Tok x) last = x
last_with y last = last

-- how many lists a reading holds
abbrev pub holds : Reading → ℕ
holds r = length (lists r.kind r.fed)

abbrev pub held_by_top : List Reading → ℕ
held_by_top [] = 0
held_by_top (r ∷ rs) = holds r

-- the lists without those of the innermost reading
abbrev pub beneath : List Reading → List (List Token) → List (List Token)
beneath work held = drop (held_by_top work) held

-- the lists that the innermost reading holds by what it was fed with
abbrev pub lists_of_top : List Reading → List (List Token)
lists_of_top [] = []
lists_of_top (r ∷ rs) = lists r.kind r.fed

-- the lists where the innermost of these readings has been fed with a value: those that it holds now in place of those that it held
abbrev pub held_with : (fed before : List Reading) → List (List Token) → List (List Token)
held_with fed before held = lists_of_top fed ++ beneath before held

-- the first list is a whole argument; one without tokens is none
abbrev pub with_argument : List Token → List (List Token) → List (List Token)
with_argument a [] = []
with_argument a (ts ∷ held) = list_of_tokens a ++ held

-- What each move does.
abbrev pub made : Move → State → State
made (Handed t) s = record s { pending = after_pull s.pending (pulled s.groups.now.categories s.pending) }
made (Taken line) s = record s { pending = with_end (end_of_line s.groups.now) (after_pull s.pending (pulled s.groups.now.categories s.pending)) }
made (FirstTaken line) s = record s { pending = with_end (end_of_line s.groups.now) (with_begun s.pending) }
made ListsEnded s = record s { pending = end_token_lists s.pending }
made Skipped s = record s { pending = after_pull s.pending (pulled s.groups.now.categories s.pending) }
made FileClosed s = record s { pending = after_pull s.pending (pulled s.groups.now.categories s.pending) }
made FileEnds s = record s { pending = ending s.pending }
made (FileOpened name) s = record s { pending = with_next (s.files 0 name) s.pending; files = later s.files }
made (Spelt name) s = s
made (NameInProgress naming) s = record s { naming = naming }
made (Entered name) s = record s { names = s.names ++ name ∷ []; groups = entered s.groups }
made (Kept bytes) s = record s { strings = s.strings ++ bytes ∷ [] }
made (Grows t) s = record s { gathered = grow_first t s.gathered }
made (Feeds y) s = record s { work = fed_with y s.work; last = last_with y s.last }
made (Completed a) s = record s { gathered = with_argument a s.gathered }
made Opened s = record s { gathered = [] ∷ s.gathered }
made ListBegun s = record s { making = Some [] }
made (ListGrown t) s = record s { making = grown_by t s.making }
made (Put ts) s = record s { pending = put_front (token_put ts) s.pending; making = None }
made ListDropped s = record s { making = None }
made (Called p) s = record s { pending = put_front p s.pending }
made (CalledWith p) s = record s { pending = put_front p s.pending; work = drop 1 s.work; gathered = beneath s.work s.gathered }
made (Set global l v) s = record s { groups = set global s.groups l v }
made (Assigned global name m) s = record s { groups = set_name global s.groups name m }
made (Defined global name long outer ts) s = record s {
  groups = set_name global s.groups name (means.Macro long outer (Some (length s.all_lists)));
  all_lists = s.all_lists ++ ts ∷ [];
  work = drop 1 s.work;
  gathered = beneath s.work s.gathered;
}
made (ListSet global l ts) s = record s {
  groups = set global s.groups l (val.Tokens (Some (length s.all_lists)));
  all_lists = s.all_lists ++ ts ∷ [];
  work = drop 1 s.work;
  gathered = beneath s.work s.gathered;
}
made (GroupOpened kind) s = record s { groups = group_opened s.groups kind }
made GroupClosed s = record s { groups = group_closed s.groups }
made (KeptForGroup t) s = record s { groups = with_token s.groups t }
made (KeptForAssignment after) s = record s { after = after }
made (MagnificationSet n) s = record s { mag_set = n }
made (ConditionOpened number line) s = record s { conditionals = conditional.opened number line s.conditionals }
made (LimitSet l) s = record s { conditionals = with_limit l s.conditionals }
made ConditionClosed s = record s { conditionals = drop 1 s.conditionals }
made (Written p bs) s = record s { in_line = column_after p s.in_line bs }
made (Begun k) s = record s { work = opened k s.work; gathered = lists k [] ++ s.gathered }
made (BegunWith k) s = record s { work = opened_with k (Tok s.last) s.work; gathered = lists k (Tok s.last ∷ []) ++ s.gathered }
made (Ended v ts) s = record s {
  work = fed_with (Val v ts) (drop 1 s.work);
  gathered = held_with (fed_with (Val v ts) (drop 1 s.work)) (drop 1 s.work) (beneath s.work s.gathered);
}
made Closed s = record s { work = drop 1 s.work; gathered = beneath s.work s.gathered }
made Reported s = record s { reports = s.reports + 1 }
made Flawed s = record s { flawed = true }
made (Stopped o) s = record s { stopped = Some o }
