use Rattle.input_state.proofs.Walking.{stay}
use Rattle.input_state.proofs.walk.walks_stay.Goals as goal

pub returns : goal.returns
returns c = stay
