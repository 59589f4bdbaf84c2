use Rattle.std.proofs.Common.{◌∙◌}
use Rattle.input_state.proofs.Joined.{words_are_held, counted}
use Rattle.input_state.proofs.state.Input.lists.Goals as goal

pub returns-clause-words : goal.returns-clause-words
returns-clause-words c =
    let i = c.self.inside in
    c.lists.ensures.words ∙ words_are_held i.held i.buffer.items i.files c.args.self.now c.self.view_is

pub returns-clause-counts : goal.returns-clause-counts
returns-clause-counts c =
    let i = c.self.inside in
    counted i.held i.buffer.items i.files c.args.self.now c.self.view_is c.lists.result.now c.lists.ensures.counts
