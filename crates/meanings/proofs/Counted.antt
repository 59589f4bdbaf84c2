-- Lists that are counted are held.
use Rattle.std.proofs.Common.{◌≡◌, ℕ, ◌≤◌, List, Option, None, Some, true, refl, arith}
use Rattle.std.specs.Prelude.{IfSome, ◌==◌}
use Rattle.std.proofs.lemmas.Bool.{eq-eqb}
use Rattle.token_lists.specs.Table.{Entry, holders_at, IsHeld}
use Rattle.token_lists.specs.Accounts.{holds}
use Rattle.meanings.specs.Holding.{list_holds}

pub holds_own : (id : ℕ) → holds id id ≡ 1
holds_own id = let e : (id == id) ≡ true = eq-eqb id id refl in rw e refl

-- a list that is counted is held
pub list_is_held : (table : List (Option Entry)) (o : Option ℕ) → ((h : ℕ) → list_holds o h ≤ holders_at table h) → IfSome o (λ id. IsHeld table id)
list_is_held table None counted = tt
list_is_held table (Some id) counted = omega (arith, counted id, holds_own id)
