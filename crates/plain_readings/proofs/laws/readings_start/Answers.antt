use Rattle.plain_readings.proofs.Starting.{starts}
use Rattle.plain_readings.proofs.laws.readings_start.Goals as goal

pub returns : goal.returns
returns _ k h = starts k h
