use Rattle.engine_state.proofs.ReadingsOpened.{behind}
use Rattle.engine_state.proofs.engine.Engine.begin_grown.Goals as goal

pub returns-clause-grows : goal.returns-clause-grows
returns-clause-grows c = λ sizes book sound none top room.
    behind sizes c.args.self.now c.begin_list-begun.new.self c.take-grown.new.self book c.args.opening c.args.grown sound top room c.begin_list-begun.result c.take-grown.result
    c.begin_list-begun.ensures.ok c.begin_list-begun.ensures.refused c.begin_list-begun.ensures.keeps c.take-grown.ensures.keeps c.take-grown.ensures.ok c.take-grown.ensures.err
