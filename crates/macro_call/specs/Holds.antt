-- The list in work as a holder.
use Rattle.std.specs.Prelude.{ℕ, Option, None, Some}
use Rattle.token_lists.specs.Accounts.{holds}
use Rattle.token_lists.specs.Ids.{build_id}
use Rattle.macro_call.specs.declared.present.Present.{Present}

-- what a list in work holds, if there is one
abbrev pub present_holds : Option Present → ℕ → ℕ
present_holds None h = 0
present_holds (Some p) h = holds (build_id p.build) h
