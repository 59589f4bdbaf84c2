use Rattle.std.proofs.Common.{◌∙◌, ◌+◌, sym, ap, ℕ, drop}
use Rattle.token_lists.specs.Table.{tokens_at}
use Rattle.input_stack.specs.Puts.{without_gaps}
use Rattle.input_stack.specs.Calls.{substituted}
use Rattle.input_stack.specs.Rest.{number}
use Rattle.input_stack.specs.CallViews.{cells_in}
use Rattle.input_stack.proofs.CallItems.{no_gap, drop_front, gap_passed, none_left}
use Rattle.input_stack.proofs.call.Call.behind_gaps.Goals as goal

pub returns-in_default-item_of : goal.returns-in_default-item_of
returns-in_default-item_of c =
    let t = c.args.lists.now in
    let s = c.args.self.now in
    let ts = drop c.loop-token.spot.read (tokens_at t (number s.body)) in
    record {
      reading = c.loop-token.invariant.reading;
      behind = sym (no_gap (cells_in t c.args.args.now) ts c.in-Some.token c.item_of.result (sym c.in-Some.is ∙ c.at.ensures) c.item_of.ensures c.in_default-item_of.not-Gap) ∙ c.loop-token.invariant.behind;
    }

pub loop-token-preserved : goal.loop-token-preserved
loop-token-preserved c =
    let t = c.args.lists.now in
    let s = c.args.self.now in
    let us = tokens_at t (number s.body) in
    let k = c.loop-token.spot.read in
    let is = drop_front k us c.in-Some.token (sym c.in-Some.is ∙ c.at.ensures) in
    record {
      reading = c.behind-spot.ensures.reading;
      behind = ap (λ (i : ℕ). without_gaps (substituted (cells_in t c.args.args.now) (drop i us))) c.behind-spot.ensures.read ∙ gap_passed (cells_in t c.args.args.now) (drop k us) (drop (k + 1) us) c.in-Some.token c.item_of.result is c.item_of.ensures c.in-Gap.is ∙ c.loop-token.invariant.behind;
    }

pub returns-clause-behind : goal.returns-clause-behind
returns-clause-behind c =
    let t = c.args.lists.now in
    let s = c.args.self.now in
    let ts = drop c.loop-token.spot.read (tokens_at t (number s.body)) in
    sym (none_left (cells_in t c.args.args.now) ts (sym c.in_default.is ∙ c.at.ensures)) ∙ c.loop-token.invariant.behind
