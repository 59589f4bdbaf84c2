use Rattle.input_state.proofs.Joined.{keeps}
use Rattle.input_state.proofs.state.Input.set_meaning.Goals as goal

pub returns-clause-keeps : goal.returns-clause-keeps
returns-clause-keeps c =
    let i = c.self.inside in
    keeps i.held c.set_meaning.new.self i.buffer.items i.buffer.items i.files i.files c.args.self.now c.self.view_is c.set_meaning.ensures.keeps
