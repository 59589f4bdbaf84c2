-- The lists that values hold.
use Rattle.std.specs.Prelude.{◌≡◌, ℕ, ◌+◌, ◌<◌, List, Option, None, Some, cond}
use Rattle.plain_tokens.specs.Meanings.{fixed_locations}
use Rattle.token_lists.specs.Holders.{times}
use Rattle.token_lists.specs.Table.{Entry, holders_at, mark_at}
use Rattle.token_lists.specs.declared.ListRef.{ListRef}
use Rattle.save_stack.specs.declared.Saved.{Saved}
use Rattle.equivalents.specs.declared.values.Loc.{Loc}
use Rattle.equivalents.specs.declared.values.Val.{Val}
use Rattle.equivalents.specs.Locations.{V}
use Rattle.equivalents.specs.Tables.{get}
use Rattle.equivalents.specs.Groups.{Groups, is_present}
use Rattle.equivalents.specs.Holding.{value_list, lists_held}
use Rattle.meanings.specs.Holding.{list_holds}
use Rattle.eqtb_save.specs.Values.{numbered_value}
use Rattle.eqtb_save.specs.Table.{Table}

-- how often a value holds the list of a number
abbrev pub val_holds : V → ℕ → ℕ
val_holds v h = list_holds (value_list v) h

-- how often the current and the saved values hold it
abbrev pub held : Table → ℕ → ℕ
held t h = times h (lists_held t.groups)

-- the list that a local assignment lets go: that of the old value, where this isn't saved
abbrev pub replaced_list : Groups → Loc → Option ℕ
replaced_list g l = cond (is_present g l) (value_list (get g.now l)) None

-- how often a saved value holds it; a mark holds nothing
abbrev pub entry_holds : Option (Saved (Val (Option ListRef))) → ℕ → ℕ
entry_holds None h = 0
entry_holds (Some e) h = val_holds (numbered_value e.value) h

-- no list has more holders among values than there are locations with lists and saved values
abbrev pub most_holders : Table → ℕ
most_holders t = 264 + (fixed_locations + (t.sizes.hash_size + t.sizes.save_size))

-- lists may go with their last holders, and what is still held has the mark that it had
abbrev pub MarksLast : List (Option Entry) → List (Option Entry) → Type 0
MarksLast old new = (h : ℕ) → 0 < holders_at new h → mark_at new h ≡ mark_at old h
