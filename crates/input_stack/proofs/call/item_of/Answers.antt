use Rattle.std.proofs.Common.{◌∙◌, sym, ap, List, None, Some}
use Rattle.token_lists.specs.Ids.{id_of}
use Rattle.token_lists.specs.Table.{tokens_at}
use Rattle.input_stack.specs.Puts.{Item, first}
use Rattle.input_stack.specs.CallViews.{met}
use Rattle.input_stack.proofs.CallItems.{cell_counts, item_is, item_past, first_met, empty_met}
use Rattle.input_stack.proofs.call.item_of.Goals as goal

pub first_token-requires : goal.first_token-requires
first_token-requires c = c.requires (id_of c.in-Some.list) (cell_counts c.args.args.now c.saturating_sub-place.result c.in-Some.list c.if-place-args.true c.in-Some.is)

pub returns-in-Some-first_token : goal.returns-in-Some-first_token
returns-in-Some-first_token c =
    let e = item_is c.args.lists.now c.args.args.now c.args.token c.in-Number.n c.saturating_sub-place.result (Some c.in-Some.list) c.if-place-args.true c.saturating_sub-place.ensures c.in-Number.is c.in-Some.is in
    let f = first_met (id_of c.in-Some.list) (tokens_at c.args.lists.now (id_of c.in-Some.list)) c.in-Some-first_token.first (sym c.in-Some-first_token.is ∙ c.first_token.ensures) in
    sym (ap (λ (xs : List Item). met (first xs)) (e ∙ f))

pub returns-in-None-first_token : goal.returns-in-None-first_token
returns-in-None-first_token c =
    let e = item_is c.args.lists.now c.args.args.now c.args.token c.in-Number.n c.saturating_sub-place.result (Some c.in-Some.list) c.if-place-args.true c.saturating_sub-place.ensures c.in-Number.is c.in-Some.is in
    let f = empty_met (id_of c.in-Some.list) (tokens_at c.args.lists.now (id_of c.in-Some.list)) (sym c.in-None-first_token.is ∙ c.first_token.ensures) in
    sym (ap (λ (xs : List Item). met (first xs)) (e ∙ f))

pub returns-in-None : goal.returns-in-None
returns-in-None c =
    let e = item_is c.args.lists.now c.args.args.now c.args.token c.in-Number.n c.saturating_sub-place.result None c.if-place-args.true c.saturating_sub-place.ensures c.in-Number.is c.in-None.is in
    sym (ap (λ (xs : List Item). met (first xs)) e)

pub returns-else-place-args : goal.returns-else-place-args
returns-else-place-args c =
    sym (ap (λ (xs : List Item). met (first xs)) (item_past c.args.lists.now c.args.args.now c.args.token c.in-Number.n c.saturating_sub-place.result c.if-place-args.false c.saturating_sub-place.ensures c.in-Number.is))
