-- An engine that has kept its job's name, and one that has opened its file.
use Rattle.std.specs.Prelude.{◌≡◌, ℕ, Bool, List, [], ◌∷◌, Some, None}
use Rattle.tex_defs.specs.declared.Sizes.{Sizes}
use Rattle.plain_tokens.specs.Pending.{bottom, with_next}
use Rattle.plain_machine.specs.States.{Files, Kept, made, no_files}
use Rattle.plain_machine.specs.Demands.{refusal}
use Rattle.prim_table.specs.Primitives.{primitive_names}
use Rattle.plain_tokens.specs.Printed.{Style}
use Rattle.equivalents.specs.Groups.{first_groups}
use Rattle.equivalents.specs.Parameters.{style_in}
use Rattle.plain_machine.specs.Plan.{is_known, job_due}
use Rattle.plain_machine.specs.Meaning.{First}
use Rattle.command_words.specs.Words.{job_name}
use Rattle.engine_state.specs.declared.engine.Engine.{Engine}
use Rattle.engine_state.specs.Book.{first_book}
use Rattle.engine_state.specs.Stands.{Stands, state_of}
use Rattle.stomach.specs.Ran.{whole_state}

-- how texts are printed at the beginning of a job
abbrev pub first_style : Style
first_style = style_in (first_groups is_known).now primitive_names

-- The job's name has room and is kept: the engine stands for the state behind that first move of the job whose file isn't opened, but for what
-- is due.
pub record Named (sizes : Sizes) (e : Engine) (quiet : Bool) (file : List ℕ) : Type 0 where
  pub stands : Stands sizes e first_book
  pub unopened : e.input.pending ≡ bottom
  pub room : refusal sizes (Kept (job_name file)) (First quiet file None no_files) ≡ None
  pub state : made (Kept (job_name file)) (First quiet file None no_files) ≡ record (state_of e first_book) { due = job_due first_style file None }

-- Its file was opened, of which no byte has come: whatever bytes it has, and whatever other files hold, the engine stands for the state behind the first move
-- of that job.
pub record Opened (sizes : Sizes) (e : Engine) (quiet : Bool) (file : List ℕ) : Type 0 where
  pub stands : Stands sizes e first_book
  pub opened : e.input.pending ≡ with_next (Some []) bottom
  pub room : (bytes : List ℕ) (files : Files) → refusal sizes (Kept (job_name file)) (First quiet file (Some bytes) files) ≡ None
  pub state : (bytes : List ℕ) (files : Files) →
      made (Kept (job_name file)) (First quiet file (Some bytes) files) ≡ record (whole_state (record { left = bytes ∷ []; files = files }) e first_book) { due = job_due first_style file (Some bytes) }
