use Rattle.std.proofs.Common.{◌∙◌, sym, drop}
use Rattle.token_lists.specs.Table.{tokens_at}
use Rattle.input_stack.specs.Calls.{substituted}
use Rattle.input_stack.specs.Rest.{number, rest}
use Rattle.input_stack.specs.CallViews.{cells_in}
use Rattle.input_stack.proofs.CallItems.{later_next, body_next, nothing_next}
use Rattle.input_stack.proofs.call.Call.next.Goals as goal

pub returns-in-Some : goal.returns-in-Some
returns-in-Some c =
    let t = c.args.lists.now in
    let s = c.args.self.now in
    later_next t s.argument (substituted (cells_in t c.args.args.now) (rest t s.body)) c.in-Some.token (sym c.in-Some.is ∙ c.later.ensures)

pub returns-in-Some-at : goal.returns-in-Some-at
returns-in-Some-at c =
    let t = c.args.lists.now in
    let s = c.args.self.now in
    body_next t s.argument (cells_in t c.args.args.now) (rest t s.body) (drop c.behind_gaps-spot.result.read (tokens_at t (number s.body))) c.in-Some-at.token c.item_of.result (sym c.in_default.is ∙ c.later.ensures) c.behind_gaps-spot.ensures.behind (sym c.in-Some-at.is ∙ c.at.ensures) c.item_of.ensures

pub returns-in-None : goal.returns-in-None
returns-in-None c =
    let t = c.args.lists.now in
    let s = c.args.self.now in
    nothing_next t s.argument (cells_in t c.args.args.now) (rest t s.body) (drop c.behind_gaps-spot.result.read (tokens_at t (number s.body))) (sym c.in_default.is ∙ c.later.ensures) c.behind_gaps-spot.ensures.behind (sym c.in-None.is ∙ c.at.ensures)
