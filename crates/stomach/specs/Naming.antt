-- Names that are spelt.
use Rattle.std.specs.Prelude.{◌≡◌, ℕ, List, [], ◌∷◌, Some}
use Rattle.tex_defs.specs.declared.Full.{Full}
use Rattle.plain_tokens.specs.Tables.{spelt_name, refused}
use Rattle.plain_machine.specs.declared.broken.Broken.{Broken}
use Rattle.plain_machine.specs.declared.broken.Broken.TheVariants as broken
use Rattle.engine_state.specs.declared.engine.Engine.{Engine}

-- Nothing but the bytes behind the open lines has changed.
abbrev pub OnlySpelt : Engine → Engine → Type 0
OnlySpelt e e' = e' ≡ record e { input = record e.input { buffer = e'.input.buffer } }

-- A name has no room behind the open lines.
pub record IsTooLong (e : Engine) (name : List ℕ) (b : Broken) : Type 0 where
  pub full : Full
  pub is : b ≡ broken.Full full
  pub refuses : refused e.input.sizes (spelt_name name e.input.pending ∷ []) ≡ Some full
