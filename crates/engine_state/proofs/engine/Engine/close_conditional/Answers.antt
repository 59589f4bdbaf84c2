use Rattle.std.proofs.Common.{ap}
use Rattle.conditionals.specs.Open.{Stack}
use Rattle.engine_state.proofs.Conditionals.{conditions_stand, closed_did}
use Rattle.engine_state.proofs.engine.Engine.close_conditional.Goals as goal

pub returns-clause-did : goal.returns-clause-did
returns-clause-did c = closed_did c.args.self.now c.close.new.self c.close.ensures

pub returns-clause-stands : goal.returns-clause-stands
returns-clause-stands c = conditions_stand c.args.self.now c.close.new.self (ap (λ (s : Stack). s.size) c.close.ensures)
