use Rattle.plain_readings.proofs.Values.{values}
use Rattle.plain_readings.proofs.laws.values_are_theirs.Goals as goal

pub returns : goal.returns
returns _ k fed = values k fed
