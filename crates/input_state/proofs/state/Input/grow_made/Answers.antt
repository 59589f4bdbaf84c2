use Rattle.input_state.proofs.Joined.{keeps, memory_refused, refused_same}
use Rattle.input_state.proofs.state.Input.grow_made.Goals as goal

pub returns-clause-keeps : goal.returns-clause-keeps
returns-clause-keeps c =
    let i = c.self.inside in
    keeps i.held c.grow_made.new.self i.buffer.items i.buffer.items i.files i.files c.args.self.now c.self.view_is c.grow_made.ensures.keeps

pub returns-clause-refused : goal.returns-clause-refused
returns-clause-refused c =
    let i = c.self.inside in
    refused_same c.grow_made.result _ _ (memory_refused i.held i.buffer.items i.files c.args.self.now c.self.view_is 1) c.grow_made.ensures.refused
