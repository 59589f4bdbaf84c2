-- How many rules without a step what is pending may still ask for.
use Rattle.std.specs.Prelude.{ℕ, ◌+◌, List, [], ◌∷◌, length}
use Rattle.plain_tokens.specs.Pending.{Pending, Source, Progress, Begun, Closed}

-- an invalid character may still be skipped, and each file may still end
abbrev pub file_weight : Progress → ℕ
file_weight Begun = 1
file_weight Closed = 0

abbrev pub outer_weight : List Source → ℕ
outer_weight [] = 0
outer_weight (s ∷ outer) = (length s.line + file_weight s.file) + outer_weight outer

abbrev pub pending_weight : Pending → ℕ
pending_weight p = (length p.line + file_weight p.file) + outer_weight p.outer
