-- A call that takes lists over or lets them go.
use Rattle.std.specs.Prelude.{◌≡◌, List, length, Option, None}
use Rattle.token_lists.specs.Table.{Entry}
use Rattle.token_lists.specs.Accounts.{Moves, Keeps}
use Rattle.macro_call.specs.Scans.{Gains}
use Rattle.eqtb_save.specs.Table.{Table}
use Rattle.input_state.specs.declared.answer.CallEnd.{CallEnd}
use Rattle.input_state.specs.declared.gathering.Gathering.{Gathering}
use Rattle.input_state.specs.declared.gathering.Gathering.TheVariants as call
use Rattle.input_state.specs.HeldViews.{call_holds, IsCall}

-- all else stays
pub record Recalls (old new : List (Option Entry)) (t : Table) (before after : Gathering) : Type 0 where
  pub is : IsCall new t after
  pub moves : Moves old new (call_holds before) (call_holds after)
  pub keeps : Keeps old new (call_holds before)
  pub gains : Gains old (call_holds before) (call_holds after)
  pub size : length new ≡ length old

-- A CALL THAT STOPS TAKING TOKENS

abbrev pub stopped : CallEnd → Gathering → Gathering
stopped why call.None = call.None
stopped why (call.Gathers name scan) = call.Stopped name why scan
stopped why (call.Stopped name was scan) = call.Stopped name why scan
stopped why (call.Gathered name args) = call.Gathered name args

-- with all its arguments
abbrev pub with_arguments : Gathering → Gathering
with_arguments call.None = call.None
with_arguments (call.Gathers name scan) = call.Gathered name scan.args
with_arguments (call.Stopped name why scan) = call.Gathered name scan.args
with_arguments (call.Gathered name args) = call.Gathered name args

-- no argument of it is in work
abbrev pub HasNoWork : Gathering → Type 0
HasNoWork call.None = Unit {0}
HasNoWork (call.Gathers name scan) = scan.present ≡ None
HasNoWork (call.Stopped name why scan) = scan.present ≡ None
HasNoWork (call.Gathered name args) = Unit {0}
