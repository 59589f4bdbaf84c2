use Rattle.rows.proofs.Suiting.{row_sets}
use Rattle.rows.proofs.laws.effects_suit.Goals as goal

pub returns : goal.returns
returns _ c fed = row_sets c fed
