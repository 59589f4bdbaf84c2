use Rattle.run_laws.proofs.Running.{in_turn, own_last}
use Rattle.run_laws.proofs.runs_feed_in_turn.Goals as goal

pub returns : goal.returns
returns c = record { in_turn = in_turn; own = own_last }
