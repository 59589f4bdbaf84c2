use Rattle.input_state.proofs.Joined.{keeps}
use Rattle.input_state.proofs.state.Input.let_name.Goals as goal

pub returns-clause-keeps : goal.returns-clause-keeps
returns-clause-keeps c =
    let i = c.self.inside in
    keeps i.held c.let_name.new.self i.buffer.items i.buffer.items i.files i.files c.args.self.now c.self.view_is c.let_name.ensures.keeps
