use Rattle.std.proofs.Common.{◌≡◌, ◌∙◌, ap, refl, subst}
use Rattle.line_lexer.specs.declared.Ahead.TheVariants as ahead
use Rattle.input_stack.specs.View.{pending}
use Rattle.input_state.specs.HeldLists.{HeldLists, pending_of, has_item, ahead_of}
use Rattle.input_state.proofs.AtOnce.{hand_ahead}
use Rattle.input_state.proofs.Fronts.{front_item}
use Rattle.input_state.proofs.lists_held.Held.has_item.Goals as goal

pub returns-clause-is : goal.returns-clause-is
returns-clause-is c =
    let i = c.self.inside in
    c.has_item.ensures.is ∙ front_item i.lists (pending i.lists i.stack).puts ∙ ap (λ (w : HeldLists). has_item w.puts) c.self.view_is

pub returns-clause-next : goal.returns-clause-next
returns-clause-next c = λ hand bytes files next.
    let i = c.self.inside in
    subst (λ (w : HeldLists). ahead_of w.groups.now.categories (pending_of w bytes files next) ≡ ahead.Token) c.self.view_is (hand_ahead i.lists i.stack _ refl (c.has_item.ensures.next hand) i.table.groups.now.categories bytes files next)
