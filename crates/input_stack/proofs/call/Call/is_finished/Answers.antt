use Rattle.std.proofs.Common.{◌∙◌, ◌++◌, sym, ap, List}
use Rattle.input_stack.specs.Puts.{Item, is_empty}
use Rattle.input_stack.specs.Calls.{substituted}
use Rattle.input_stack.specs.Rest.{rest}
use Rattle.input_stack.specs.CallViews.{cells_in}
use Rattle.input_stack.proofs.CallItems.{body_left, without_later, with_later}
use Rattle.input_stack.proofs.call.Call.is_finished.Goals as goal

pub returns-then-is_none : goal.returns-then-is_none
returns-then-is_none c = λ args.
    let t = c.args.lists.now in
    let s = c.args.self.now in
    let ys = substituted (cells_in t args) (rest t s.body) in
    body_left (cells_in t args) (rest t s.body) c.peek.result c.is_none-then-is_none.result c.peek.ensures c.is_none-then-is_none.ensures
    ∙ ap (λ (xs : List Item). is_empty (xs ++ ys)) (sym (without_later t s.argument c.later.result c.is_none.result c.later.ensures c.is_none.ensures c.if-is_none.true))

pub returns-else-is_none : goal.returns-else-is_none
returns-else-is_none c = λ args.
    let t = c.args.lists.now in
    let s = c.args.self.now in
    with_later t s.argument (substituted (cells_in t args) (rest t s.body)) c.later.result c.is_none.result c.later.ensures c.is_none.ensures c.if-is_none.false
