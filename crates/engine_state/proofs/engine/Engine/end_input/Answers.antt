use Rattle.engine_state.proofs.FirstLines.{ended_did, ended_stands}
use Rattle.engine_state.proofs.engine.Engine.end_input.Goals as goal

pub returns-clause-did : goal.returns-clause-did
returns-clause-did c = λ sizes w book. ended_did c.args.self.now c.end_input.new.self c.end_input.ensures sizes w book

pub returns-clause-stands : goal.returns-clause-stands
returns-clause-stands c = λ sizes book st. ended_stands c.args.self.now c.end_input.new.self c.end_input.ensures sizes book st
