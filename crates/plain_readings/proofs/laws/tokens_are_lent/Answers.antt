use Rattle.plain_readings.proofs.Lending.{lends}
use Rattle.plain_readings.proofs.laws.tokens_are_lent.Goals as goal

pub returns : goal.returns
returns _ k fed = lends k fed
