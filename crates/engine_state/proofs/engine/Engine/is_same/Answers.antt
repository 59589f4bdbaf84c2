use Rattle.engine_state.proofs.Conditionals.{same_as}
use Rattle.engine_state.proofs.engine.Engine.is_same.Goals as goal

pub returns : goal.returns
returns c = λ sizes book sound. same_as sizes c.args.self.now book sound c.args.x c.args.y c.same_list-same_list.result c.same_meaning.result c.same_list-same_list.ensures c.same_meaning.ensures
