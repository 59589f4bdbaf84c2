use Rattle.std.proofs.Common.{◌≡◌, ℕ, ◌∙◌, sym, ap, ap₂, drop, subst, List, Option, Some}
use Rattle.token_lists.specs.declared.ListRef.{ListRef}
use Rattle.token_lists.specs.Ids.{id_of}
use Rattle.token_lists.specs.Table.{Entry, tokens_at}
use Rattle.input_stack.specs.declared.reader.Reader.{Reader}
use Rattle.input_stack.specs.Rest.{number, rest}
use Rattle.input_stack.specs.Puts.{without_gaps}
use Rattle.input_stack.specs.Calls.{token_items}
use Rattle.input_stack.specs.CallViews.{cells_in, items_of, CallPulls}
use Rattle.input_stack.specs.Whole.{with_arguments}
use Rattle.input_stack.proofs.CallPulled.{argument_pulls, token_behind, no_gap_behind, body_pulls}
use Rattle.input_stack.proofs.call.Call.pull.Goals as goal

pub returns-in-Some-clause-pulls : goal.returns-in-Some-clause-pulls
returns-in-Some-clause-pulls c =
    argument_pulls c.args.lists.now (with_arguments c.args.args.now c.args.self.now) c.in-Some.argument c.pull.new.self c.pull.result c.in-Some.is c.pull.ensures.same c.pull.ensures.at_next c.pull.ensures.token c.requires.settled c.requires.call

pub hand_on-handed-requires-clause-some : goal.hand_on-handed-requires-clause-some
hand_on-handed-requires-clause-some c =
    let t = c.args.lists.now in
    let s = with_arguments c.args.args.now c.args.self.now in
    let k = c.behind_gaps-spot.result.read in
    let e : rest t c.go_to.new.self ≡ drop k (tokens_at t (number s.body)) = ap₂ (λ (i : ℕ) (r : ListRef). drop i (tokens_at t (id_of r))) c.go_to.ensures.read c.go_to.ensures.list in
    no_gap_behind t s (drop k (tokens_at t (number s.body))) (rest t c.pull-2.new.self) c.in-Some-pull.token c.in_default.is c.behind_gaps-spot.ensures.behind (sym e ∙ c.in-Some-pull.ensures.token)

pub returns-clause-pulls : goal.returns-clause-pulls
returns-clause-pulls c =
    let t = c.args.lists.now in
    let s = with_arguments c.args.args.now c.args.self.now in
    let k = c.behind_gaps-spot.result.read in
    let m = c.pull-2.new.self in
    let e : rest t c.go_to.new.self ≡ drop k (tokens_at t (number s.body)) = ap₂ (λ (i : ℕ) (r : ListRef). drop i (tokens_at t (id_of r))) c.go_to.ensures.read c.go_to.ensures.list in
    let f = token_behind t s (drop k (tokens_at t (number s.body))) (rest t m) c.in-Some-pull.token c.in_default.is c.behind_gaps-spot.ensures.behind (sym e ∙ c.in-Some-pull.ensures.token) in
    let same : number m ≡ number s.body = c.in-Some-pull.ensures.same ∙ ap id_of c.go_to.ensures.list in
    let p = body_pulls t c.hand_on-handed.new.lists s m c.hand_on-handed.result.1 c.in_default.is c.requires.call same c.in-Some-pull.ensures.at_next (token_items (cells_in t s.args) c.in-Some-pull.token) (without_gaps (items_of t s)) c.hand_on-handed.result.0 c.hand_on-handed.ensures f in
    let free = c.let_level_go.ensures.free (c.replace-none.ensures.value ∙ c.in_default.is) in
    let q = subst (λ (o : Option Reader). CallPulls t c.hand_on-handed.new.lists s (record { body = m; argument = o; args = s.args }) (without_gaps (items_of t s)) (Some c.hand_on-handed.result.0)) (sym c.replace-none.ensures.after) p in
    subst (λ (x : List (Option Entry)). CallPulls t x s (record { body = m; argument = c.replace-none.new.dest; args = s.args }) (without_gaps (items_of t s)) (Some c.hand_on-handed.result.0)) (sym free) q
