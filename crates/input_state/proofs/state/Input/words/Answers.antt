use Rattle.std.proofs.Common.{◌∙◌}
use Rattle.input_state.proofs.Joined.{words_are_held}
use Rattle.input_state.proofs.state.Input.words.Goals as goal

pub returns-clause-is : goal.returns-clause-is
returns-clause-is c =
    let i = c.self.inside in
    c.words.ensures.is ∙ words_are_held i.held i.buffer.items i.files c.args.self.now c.self.view_is
