use Rattle.plain_readings.proofs.GivenBack.{directly, in_turn}
use Rattle.plain_readings.proofs.laws.tokens_are_given_back.Goals as goal

pub returns : goal.returns
returns _ = record { directly = directly; in_turn = in_turn }
