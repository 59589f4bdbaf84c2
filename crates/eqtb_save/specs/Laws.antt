-- Laws of the table, in the words of its users.
use Rattle.std.specs.Prelude.{◌≡◌, ℕ, ◌+◌, List, Option, Some}
use Rattle.token_lists.specs.Accounts.{Covers, Moves, Keeps}
use Rattle.token_lists.specs.Table.{Entry, tokens_at}
use Rattle.equivalents.specs.declared.values.Loc.{Loc}
use Rattle.equivalents.specs.Tables.{get}
use Rattle.equivalents.specs.Holding.{value_list}
use Rattle.eqtb_save.specs.Table.{Table}
use Rattle.eqtb_save.specs.Holding.{held}

-- Where other parts change which lists they hold, each value keeps its tokens, and all that is held stays counted.
pub record OthersLeaveValues : Type 0 where
  pub covered : (t : Table) (old new : List (Option Entry)) (before after : ℕ → ℕ) → Covers old (λ h. before h + held t h) → Moves old new before after → Covers new (λ h. after h + held t h)
  pub tokens : (t : Table) (old new : List (Option Entry)) (before : ℕ → ℕ) → Covers old (λ h. before h + held t h) → Keeps old new before → (l : Loc) (id : ℕ) → value_list (get t.groups.now l) ≡ Some id → tokens_at new id ≡ tokens_at old id
