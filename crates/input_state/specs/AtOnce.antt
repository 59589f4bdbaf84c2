-- What is handed on at once.
use Rattle.std.specs.Prelude.{◌≡◌, ℕ, List, length, Option, None}
use Rattle.tex_defs.specs.declared.Token.{Token}
use Rattle.plain_tokens.specs.Pending.{TokenFrom, pulled}
use Rattle.plain_tokens.specs.Tables.{refused}
use Rattle.input_state.specs.FileLeft.{FileLeft}
use Rattle.input_state.specs.HeldLists.{HeldLists, pending_of}
use Rattle.input_state.specs.Reads.{step_demands}

-- A token of a list in front is read, and there is room for its step, whatever the lines and the files are.
pub record GivesAtOnce (old new : HeldLists) (t : Token) : Type 0 where
  pub gives : (bytes : List ℕ) (files : List FileLeft) (next : Option (List ℕ)) → pulled old.groups.now.categories (pending_of old bytes files next) ≡ TokenFrom t (pending_of new bytes files next)
  pub room : (bytes : List ℕ) (files : List FileLeft) (next : Option (List ℕ)) → length files ≡ length old.below → refused old.sizes (step_demands (pulled old.groups.now.categories (pending_of old bytes files next)) (pending_of old bytes files next)) ≡ None
