use Rattle.std.proofs.Common.{◌∙◌, ap}
use Rattle.input_state.specs.HeldLists.{words_held}
use Rattle.input_state.specs.HeldViews.{named}
use Rattle.input_state.proofs.Words.{words_are}
use Rattle.input_state.proofs.lists_held.Held.words.Goals as goal

pub returns-clause-is : goal.returns-clause-is
returns-clause-is c =
    let i = c.self.inside in
    c.used.ensures.is ∙ words_are i.lists i.stack i.making i.builds.items (named i.table i.call) i.sizes c.self.invariant.shared c.self.invariant.call ∙ ap words_held c.self.view_is
