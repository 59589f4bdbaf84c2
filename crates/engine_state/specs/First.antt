-- An engine that was just made.
use Rattle.std.specs.Prelude.{◌≡◌, ℕ, Bool, false, List, None}
use Rattle.tex_defs.specs.declared.Sizes.{Sizes}
use Rattle.prim_table.specs.Primitives.{primitive_names}
use Rattle.plain_tokens.specs.Pending.{bottom}
use Rattle.equivalents.specs.Groups.{first_groups}
use Rattle.plain_machine.specs.States.{no_files}
use Rattle.plain_machine.specs.Plan.{first_state, is_known, job_due}
use Rattle.engine_state.specs.declared.engine.Engine.{Engine}
use Rattle.engine_state.specs.Book.{first_book}
use Rattle.engine_state.specs.Stands.{Stands, state_of, own_style}

-- It stands for the first state of any job whose file isn't opened yet, but for what is due.
pub record Begins (sizes : Sizes) (e : Engine) (quiet : Bool) : Type 0 where
  pub stands : Stands sizes e first_book
  pub state : (file : List ℕ) → record (state_of e first_book) { due = job_due (own_style e) file None } ≡ first_state (first_groups is_known) quiet file None no_files
  pub column : e.in_line ≡ false
  pub reports : e.reports ≡ 0
  pub flawed : e.flawed ≡ false
  pub running : e.stopped ≡ false
  pub unopened : e.input.pending ≡ bottom
  pub names : e.names.names ≡ primitive_names
