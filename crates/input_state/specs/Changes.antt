-- Changes of the table of lists.
use Rattle.std.specs.Prelude.{◌≡◌, ◌≢◌, ℕ, List, Option}
use Rattle.token_lists.specs.Table.{Entry, entry_at}

-- no list but this one changes
pub record IsOnly (old new : List (Option Entry)) (id : ℕ) : Type 0 where
  pub apart : (h : ℕ) → h ≢ id → entry_at new h ≡ entry_at old h
