use Rattle.std.proofs.Common.{ap}
use Rattle.conditionals.specs.Open.{Stack}
use Rattle.engine_state.proofs.Conditionals.{conditions_stand, limited_did}
use Rattle.engine_state.proofs.engine.Engine.set_limit.Goals as goal

pub returns-clause-did : goal.returns-clause-did
returns-clause-did c = limited_did c.args.self.now c.set_limit.new.self c.args.limit c.set_limit.ensures

pub returns-clause-stands : goal.returns-clause-stands
returns-clause-stands c = conditions_stand c.args.self.now c.set_limit.new.self (ap (λ (s : Stack). s.size) c.set_limit.ensures)
