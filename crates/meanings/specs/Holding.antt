-- The lists that meanings hold.
use Rattle.std.specs.Prelude.{◌≡◌, ℕ, ◌<◌, List, Option, None, Some, slice_set}
use Rattle.tex_defs.specs.declared.Meaning.{Meaning}
use Rattle.token_lists.specs.Accounts.{holds}
use Rattle.token_lists.specs.Table.{Entry, entry_at, tokens_at, places_at, holders_at, one_more, one_less}
use Rattle.equivalents.specs.Holding.{list_of}

abbrev pub list_holds : Option ℕ → ℕ → ℕ
list_holds None h = 0
list_holds (Some id) h = holds id h

-- how often a meaning holds the list of a number
abbrev pub meaning_holds : Meaning (Option ℕ) → ℕ → ℕ
meaning_holds m h = list_holds (list_of m) h

-- the lists once one has a holder more
abbrev pub with_holder : Option ℕ → List (Option Entry) → List (Option Entry)
with_holder None table = table
with_holder (Some id) table = slice_set table id (one_more (entry_at table id))

-- the lists once one has a holder less
abbrev pub without_holder : Option ℕ → List (Option Entry) → List (Option Entry)
without_holder None table = table
without_holder (Some id) table = slice_set table id (one_less (entry_at table id))

-- lists may go with their last holders, and what is still held is as it was
pub record Lasts (old new : List (Option Entry)) : Type 0 where
  pub tokens : (h : ℕ) → 0 < holders_at new h → tokens_at new h ≡ tokens_at old h
  pub places : (h : ℕ) → 0 < holders_at new h → places_at new h ≡ places_at old h
