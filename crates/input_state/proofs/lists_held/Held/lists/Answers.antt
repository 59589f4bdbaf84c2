use Rattle.std.proofs.Common.{◌++◌, sym, ◌∙◌, ap, subst}
use Rattle.std.specs.Prelude.{option_to_list}
use Rattle.equivalents.specs.Holding.{lists_held}
use Rattle.input_state.specs.Counted.{HaveHolders}
use Rattle.input_state.specs.HeldLists.{HeldLists, puts_held, words_held, gathered_held}
use Rattle.input_state.specs.HeldViews.{named}
use Rattle.input_state.specs.Macros.{list_at}
use Rattle.input_state.proofs.Sharing.{text_at}
use Rattle.input_state.proofs.Words.{words_are}
use Rattle.input_state.proofs.AllHolders.{holders_are}
use Rattle.input_state.proofs.lists_held.Held.lists.Goals as goal

pub returns-clause-words : goal.returns-clause-words
returns-clause-words c =
    let i = c.self.inside in
    words_are i.lists i.stack i.making i.builds.items (named i.table i.call) i.sizes c.self.invariant.shared c.self.invariant.call ∙ ap words_held c.self.view_is

pub returns-clause-tokens : goal.returns-clause-tokens
returns-clause-tokens c = λ id. sym (text_at c.self.inside.lists id) ∙ ap (λ (w : HeldLists). list_at w.lists id) c.self.view_is

pub returns-clause-counts : goal.returns-clause-counts
returns-clause-counts c =
    let i = c.self.inside in
    subst (λ (w : HeldLists). HaveHolders i.lists (lists_held w.groups) (puts_held w) (option_to_list w.making ++ gathered_held w)) c.self.view_is
    (holders_are i.lists i.stack i.making i.builds.items (named i.table i.call) c.self.invariant.shared c.self.invariant.call)
