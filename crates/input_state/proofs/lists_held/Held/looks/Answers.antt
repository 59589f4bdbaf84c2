use Rattle.std.proofs.Common.{ℕ, List, length, ◌∙◌, ap, refl, sym, subst}
use Rattle.plain_tokens.specs.Puts.{passed}
use Rattle.input_stack.specs.View.{innermost, pending}
use Rattle.input_state.specs.HeldLists.{HeldLists, pending_of, ahead_of, AreInBuffer}
use Rattle.input_state.specs.HeldViews.{named, lists_of}
use Rattle.input_state.proofs.Pulling.{looks_are, all_passed}
use Rattle.input_state.proofs.FileLines.{in_buffer}
use Rattle.input_state.proofs.lists_held.Held.looks.Goals as goal

pub looks-requires-clause-in_buffer : goal.looks-requires-clause-in_buffer
looks-requires-clause-in_buffer c =
    let i = c.self.inside in
    let n = length c.args.bytes.now in
    in_buffer i.lists (pending i.lists i.stack).sources n (subst (λ (w : HeldLists). AreInBuffer w.below n) (sym c.self.view_is) c.requires)

pub returns-clause-ahead : goal.returns-clause-ahead
returns-clause-ahead c = λ files opened.
    let i = c.self.inside in
    let v = lists_of i.lists (pending i.lists i.stack) i.making i.builds.items (named i.table i.call) i.sizes in
    c.looks.ensures
    ∙ looks_are i.lists i.lists c.categories.result.now c.args.bytes.now (innermost i.stack) (pending_of v c.args.bytes.now files opened) refl refl refl
    ∙ ap (λ (cs : List ℕ). ahead_of cs (pending_of v c.args.bytes.now files opened)) c.categories.ensures
    ∙ ap (λ (w : HeldLists). ahead_of w.groups.now.categories (pending_of w c.args.bytes.now files opened)) c.self.view_is

pub returns-clause-passed : goal.returns-clause-passed
returns-clause-passed c = λ end.
    let i = c.self.inside in
    sym (ap (λ (w : HeldLists). passed w.puts) c.self.view_is) ∙ all_passed i.lists c.categories.result.now c.args.bytes.now (pending i.lists i.stack) (sym c.looks.ensures ∙ end)
