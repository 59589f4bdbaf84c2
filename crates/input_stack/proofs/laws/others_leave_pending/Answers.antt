use Rattle.input_stack.proofs.Helds.{others}
use Rattle.input_stack.proofs.laws.others_leave_pending.Goals as goal

pub returns : goal.returns
returns c = λ old new before after stands covers moves keeps. others c.args.stack.now old new before after stands covers moves keeps
