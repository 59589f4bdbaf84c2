use Rattle.engine_state.proofs.Conditionals.{opened_did, opened_stands, opened_cuts, opened_same}
use Rattle.engine_state.proofs.engine.Engine.begin_conditional.Goals as goal

pub returns-clause-did : goal.returns-clause-did
returns-clause-did c = opened_did c.args.self.now c.begin.new.self c.args.number c.line_number.result c.line_number.ensures c.begin.result c.begin.ensures.begins c.begin.ensures.room

pub returns-clause-err : goal.returns-clause-err
returns-clause-err c = opened_cuts c.args.self.now c.begin.new.self c.args.number c.begin.result c.begin.ensures.full c.begin.ensures.refused c.begin.ensures.unchanged

pub returns-clause-unchanged : goal.returns-clause-unchanged
returns-clause-unchanged c = opened_same c.args.self.now c.begin.new.self c.args.number c.begin.result c.begin.ensures.unchanged

pub returns-clause-stands : goal.returns-clause-stands
returns-clause-stands c = opened_stands c.args.self.now c.begin.new.self c.args.number c.line_number.result c.line_number.ensures c.begin.result c.begin.ensures.begins
