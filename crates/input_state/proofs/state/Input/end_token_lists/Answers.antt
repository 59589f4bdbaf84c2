use Rattle.input_state.proofs.Joined.{keeps}
use Rattle.input_state.proofs.state.Input.end_token_lists.Goals as goal

pub returns-clause-keeps : goal.returns-clause-keeps
returns-clause-keeps c =
    let i = c.self.inside in
    keeps i.held c.end_token_lists.new.self i.buffer.items i.buffer.items i.files i.files c.args.self.now c.self.view_is c.end_token_lists.ensures.keeps
