use Rattle.input_state.proofs.Joined.{keeps}
use Rattle.input_state.proofs.state.Input.close_group.Goals as goal

pub returns-clause-keeps : goal.returns-clause-keeps
returns-clause-keeps c =
    let i = c.self.inside in
    keeps i.held c.close_group.new.self i.buffer.items i.buffer.items i.files i.files c.args.self.now c.self.view_is c.close_group.ensures.keeps
