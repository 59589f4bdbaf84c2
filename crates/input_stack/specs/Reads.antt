-- A level without the arguments of its call.
use Rattle.std.specs.Prelude.{ℕ, List, Option}
use Rattle.token_lists.specs.Table.{Entry}
use Rattle.token_lists.specs.Accounts.{holds}
use Rattle.input_stack.specs.declared.level.Level.{Level}
use Rattle.input_stack.specs.declared.level.Level.TheVariants as level
use Rattle.input_stack.specs.Rest.{number, IsAt}
use Rattle.input_stack.specs.CallViews.{AreAt, readers_hold}

-- its readers are at the places of their next tokens
abbrev pub AreReadersAt : List (Option Entry) → Level → Type 0
AreReadersAt table (level.List r) = IsAt table r
AreReadersAt table (level.Call c) = AreAt table c.body c.argument
AreReadersAt table (level.Source s) = Unit {0}

-- how often its readers hold the list of a number
abbrev pub level_readers_hold : Level → ℕ → ℕ
level_readers_hold (level.List r) h = holds (number r) h
level_readers_hold (level.Call c) h = readers_hold c.body c.argument h
level_readers_hold (level.Source s) h = 0
