-- The calls on memory that are to fail.
use Rattle.std.specs.Prelude.{ℕ, ◌+◌, ◌==◌, min, Bool, List}
use Rattle.std.specs.List.{list_any}

-- how many calls were made, and the numbers of those that are to fail
pub record Plan : Type 0 where
  pub made : ℕ
  pub failing : List ℕ

-- one more, or the last value, 2^64 - 1
abbrev pub one_more_than : ℕ → ℕ
one_more_than count = min (count + 1) 18446744073709551615

-- after one call more
abbrev pub counted : Plan → Plan
counted plan = record { made = one_more_than plan.made; failing = plan.failing }

-- the next call is among those that are to fail
abbrev pub fails_next : Plan → Bool
fails_next plan = list_any (λ call. call == one_more_than plan.made) plan.failing
