use Rattle.plain_readings.proofs.Lower.{lower}
use Rattle.plain_readings.proofs.laws.readings_begin_lower.Goals as goal

pub returns : goal.returns
returns _ k fed = lower k fed
