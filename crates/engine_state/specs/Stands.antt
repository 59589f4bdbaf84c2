-- What an engine stands for: a state of the machine, once its open readings are named.
use Rattle.std.specs.Prelude.{◌≡◌, ℕ, ◌+◌, ◌≤◌, true, List, [], length, Option, None}
use Rattle.tex_defs.specs.declared.Token.{Token}
use Rattle.tex_defs.specs.declared.Sizes.{Sizes}
use Rattle.plain_tokens.specs.Meanings.{fixed_locations}
use Rattle.plain_tokens.specs.Pending.{all_puts}
use Rattle.plain_tokens.specs.Tables.{is_put}
use Rattle.plain_readings.specs.Readings.{Reading}
use Rattle.reading_frames.specs.Frames as frames
use Rattle.reading_frames.specs.Frames.{OpenCall, AreShallow}
use Rattle.plain_tokens.specs.Printed.{Style}
use Rattle.equivalents.specs.Groups.{depth as groups_depth, current_group, tokens_after}
use Rattle.equivalents.specs.Holding.{lists_held}
use Rattle.equivalents.specs.Parameters.{style_in}
use Rattle.plain_machine.specs.States.{State, no_files}
use Rattle.plain_machine.specs.Plan.{Page, reports_room}
use Rattle.plain_machine.specs.Numbers.{Tied, pending_of, groups_of, tables_of}
use Rattle.input_state.specs.Stored.{Stored, KeepsShared, gathered}
use Rattle.input_state.specs.Callings.{NotCalling, call_in}
use Rattle.engine_state.specs.declared.engine.Engine.{Engine}
use Rattle.engine_state.specs.Book.{Book, AreBodies}

-- The state that it stands for, but for what the files hold: the machine has its own numbers for the shared lists.
abbrev pub state_of : Engine → Book → State
state_of e book = record {
  pending = pending_of book.number e.input.pending;
  files = no_files;
  naming = e.naming;
  groups = groups_of book.number e.input.groups;
  names = e.names.names;
  strings = e.names.others;
  all_lists = book.all_lists;
  after = e.after;
  mag_set = e.mag_set;
  conditionals = e.conditionals.items;
  last = e.last;
  work = book.work;
  gathered = gathered e.input;
  making = e.input.making;
  in_line = e.in_line;
  reports = e.reports;
  flawed = e.flawed;
  quiet = e.quiet;
  stopped = None;
  due = [];
}

-- what the texts of a rule depend on
abbrev pub page_of : Engine → Book → Page
page_of e book = record {
  now = tables_of book.number e.input.groups.now;
  depth = groups_depth e.input.groups;
  group = current_group e.input.groups;
  tokens = tokens_after e.input.groups;
  after = e.after;
  mag_set = e.mag_set;
  conditionals = e.conditionals.items;
  names = e.names.names;
  strings = e.names.others;
  all_lists = book.all_lists;
  last = e.last;
  naming = e.naming;
  in_line = e.in_line;
  line = e.input.pending.number;
  reports = e.reports;
  quiet = e.quiet;
}

-- how its texts are printed
abbrev pub own_style : Engine → Style
own_style e = style_in e.input.groups.now e.names.names

-- THE TABLES

-- the tables' sizes are these, the last report that a run may have hasn't come, and each name that is entered has a location
pub record IsSized (sizes : Sizes) (e : Engine) : Type 0 where
  pub few_reports : e.reports ≤ reports_room
  pub own : e.sizes ≡ sizes
  pub readings : e.readings.size ≡ sizes.expansion_depth
  pub conditionals : e.conditionals.size ≡ sizes.condition_stack_size
  pub input : e.input.sizes ≡ sizes
  pub names : e.names.sizes ≡ sizes
  pub located : length e.input.groups.now.meanings ≡ fixed_locations + length e.names.names

-- The shared lists that the input holds are these, under these numbers.
pub record IsSound (sizes : Sizes) (e : Engine) (number : ℕ → ℕ) (all_lists : List (List Token)) : Type 0 where
  pub sized : IsSized sizes e
  pub tied : Tied number all_lists (lists_held e.input.groups) (all_puts e.input.pending) e.input.lists
  pub bodies : AreBodies all_lists

-- THE OPEN READINGS

-- All frames, of which the innermost is this call's, if there is one, stand for these readings, with all lists that are gathered but those of the call.
pub record OpenFrames (c : Option OpenCall) (e : Engine) (work : List Reading) : Type 0 where
  pub frames : frames.AreFramesOf c e.readings.frames e.input.builds work
  pub shallow : AreShallow e.readings.frames e.input.builds

-- where none is a call's
abbrev pub FramesStand : Engine → List Reading → Type 0
FramesStand e work = OpenFrames None e work

-- no call gathers its arguments
abbrev pub IsUncalled : Engine → Type 0
IsUncalled e = e.input.call ≡ NotCalling

-- The engine's open readings and its shared lists are those of the book, no list is being made, and no call gathers its arguments.
pub record Stands (sizes : Sizes) (e : Engine) (book : Book) : Type 0 where
  pub sound : IsSound sizes e book.number book.all_lists
  pub idle : e.input.making ≡ None
  pub readings : FramesStand e book.work
  pub uncalled : IsUncalled e

-- how many readings are open
abbrev pub depth : Engine → ℕ
depth e = length e.readings.frames

-- The engine counts the open readings and the shared lists as the machine.
pub record Counts (sizes : Sizes) (e : Engine) (book : Book) : Type 0 where
  pub sound : IsSound sizes e book.number book.all_lists
  pub depth : length book.work ≡ depth e

-- WHAT STAYS

-- the frames and their lists are as they were, and a call asks for the same
pub record SameReadings (e e' : Engine) : Type 0 where
  pub readings : e'.readings ≡ e.readings
  pub lists : e'.input.builds ≡ e.input.builds
  pub call : call_in e'.input.call ≡ call_in e.input.call

-- a call is as it was, too
pub record SameFrames (e e' : Engine) : Type 0 where
  pub readings : e'.readings ≡ e.readings
  pub lists : e'.input.builds ≡ e.input.builds
  pub call : e'.input.call ≡ e.input.call

-- all but the readings and the input is as it was
pub record SameOthers (e e' : Engine) : Type 0 where
  pub depth : e'.readings.size ≡ e.readings.size
  pub names : e'.names ≡ e.names
  pub after : e'.after ≡ e.after
  pub mag_set : e'.mag_set ≡ e.mag_set
  pub conditionals : e'.conditionals ≡ e.conditionals
  pub last : e'.last ≡ e.last
  pub naming : e'.naming ≡ e.naming
  pub in_line : e'.in_line ≡ e.in_line
  pub reports : e'.reports ≡ e.reports
  pub flawed : e'.flawed ≡ e.flawed
  pub quiet : e'.quiet ≡ e.quiet
  pub sizes : e'.sizes ≡ e.sizes

-- the same, but for the token that a reading was fed with last
pub record SameElse (e e' : Engine) : Type 0 where
  pub depth : e'.readings.size ≡ e.readings.size
  pub names : e'.names ≡ e.names
  pub after : e'.after ≡ e.after
  pub mag_set : e'.mag_set ≡ e.mag_set
  pub conditionals : e'.conditionals ≡ e.conditionals
  pub naming : e'.naming ≡ e.naming
  pub in_line : e'.in_line ≡ e.in_line
  pub reports : e'.reports ≡ e.reports
  pub flawed : e'.flawed ≡ e.flawed
  pub quiet : e'.quiet ≡ e.quiet
  pub sizes : e'.sizes ≡ e.sizes

-- all locations have what they had, no macro's body is put, and each macro that is held keeps its tokens
pub record SameStore (old new : Stored) : Type 0 where
  pub sizes : new.sizes ≡ old.sizes
  pub groups : new.groups ≡ old.groups
  pub closing : new.closing ≡ old.closing
  pub ending : new.ending ≡ old.ending
  pub puts : (n : ℕ) → is_put n (all_puts new.pending) ≡ true → is_put n (all_puts old.pending) ≡ true
  pub lists : KeepsShared old new

-- all but the frames and the lists that they hold is as it was, but that a reading may have been fed
pub record SameBut (e e' : Engine) : Type 0 where
  pub others : SameElse e e'
  pub pending : e'.input.pending ≡ e.input.pending
  pub making : e'.input.making ≡ e.input.making
  pub call : e'.input.call ≡ e.input.call
  pub store : SameStore e.input e'.input

-- nothing but the column has changed
pub record OnlyColumn (e e' : Engine) : Type 0 where
  pub same : e' ≡ record e { in_line = e'.in_line }
