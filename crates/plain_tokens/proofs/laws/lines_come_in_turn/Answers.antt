use Rattle.std.proofs.Common.{◌≡◌, ℕ, List, [], ◌∷◌, refl}
use Rattle.plain_tokens.specs.Lines.{lines, first_line, behind_feed}
use Rattle.plain_tokens.proofs.LineCuts.{in_turn}
use Rattle.plain_tokens.proofs.laws.lines_come_in_turn.Goals as goal

turn : (file : List ℕ) → (file ≡ [] → ⊥) → lines file ≡ first_line file ∷ lines (behind_feed file)
turn [] some = absurd (some refl)
turn (c ∷ cs) some = in_turn c cs

pub returns : goal.returns
returns c = turn
