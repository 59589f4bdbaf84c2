use Rattle.std.proofs.Common.{◌≡◌, ℕ, ◌<◌, Option, Some, sym, ap, ◌∙◌, arith}
use Rattle.token_lists.specs.Ids.{id_of}
use Rattle.token_lists.specs.Table.{tokens_at}
use Rattle.eqtb_save.specs.Holding as eqtb
use Rattle.input_stack.specs.View.{pending}
use Rattle.input_state.specs.HeldViews.{named, all_builds}
use Rattle.input_state.specs.HeldLists.{HeldLists, call_refusal}
use Rattle.input_state.specs.Calls.{called}
use Rattle.input_state.specs.AtLocations.{list_number, numbered_put, location_put}
use Rattle.input_state.proofs.SharedPut.{shared_sound, shared_view, shared_macros}
use Rattle.input_state.proofs.LocationPut.{standing_now, standing_is, standing_refused}
use Rattle.input_state.proofs.CallKept.{countable_now, back_held, shared_stands, refused_sound, refused_view, refused_macros}
use Rattle.input_state.proofs.lists_held.Held.put_list.Goals as goal

pub share-list-requires-clause-countable : goal.share-list-requires-clause-countable
share-list-requires-clause-countable c =
    let i = c.self.inside in
    countable_now i.lists i.stack i.making i.builds.items (named i.table i.call) i.sizes _ c.self.invariant c.recall.ensures.bounded _

pub push_shared-requires-clause-stands : goal.push_shared-requires-clause-stands
push_shared-requires-clause-stands c =
    let i = c.self.inside in
    (shared_stands i.lists c.share-list.new.lists i.stack (all_builds i.making i.builds.items) (named i.table i.call) (id_of c.share-list.result) c.self.invariant.shared c.share-list.ensures.shares).0

pub let_go-requires : goal.let_go-requires
let_go-requires c =
    let i = c.self.inside in
    let e = c.in-Err.ensures in
    back_held i.lists c.share-list.new.lists c.push_shared.new.lists i.stack c.push_shared.new.self (all_builds i.making i.builds.items) (named i.table i.call) c.share-list.result c.in-Err.list c.self.invariant.shared c.share-list.ensures.shares e.refused.1 e.account

pub invariant_of-self : goal.invariant_of-self
invariant_of-self c =
    let i = c.self.inside in
    let k = id_of c.share-list.result in
    let is_held : 0 < eqtb.held i.table k = omega (arith, c.in-Some.ensures.held, ap (eqtb.held i.table) c.share-list.ensures.same) in
    let e = c.in-Ok.ensures in
    shared_sound i.lists c.share-list.new.lists c.push_shared.new.lists i.stack c.push_shared.new.self i.making i.builds.items (named i.table i.call) i.sizes _ c.self.invariant k (tokens_at i.lists k) is_held c.share-list.ensures.shares e.stands (standing_now i.lists c.share-list.new.lists i.stack i.making i.builds.items (named i.table i.call) i.sizes _ c.self.invariant k c.share-list.ensures.shares (pending c.push_shared.new.lists c.push_shared.new.self) e.ok) e.account e.kept e.lasting e.size e.parameter_size

pub returns-in-Ok-clause-refused : goal.returns-in-Ok-clause-refused
returns-in-Ok-clause-refused c =
    let i = c.self.inside in
    let k = id_of c.share-list.result in
    let at : list_number i.table.groups c.args.loc ≡ Some k = c.in-Some.ensures.list ∙ ap (λ (j : ℕ). Some j) (sym c.share-list.ensures.same) in
    sym (standing_refused i.lists c.share-list.new.lists i.stack i.making i.builds.items (named i.table i.call) i.sizes _ c.self.invariant k c.share-list.ensures.shares c.args.self.now c.self.view_is c.args.loc at) ∙ c.in-Ok.ensures.refused

pub returns-in-Ok-clause-ok : goal.returns-in-Ok-clause-ok
returns-in-Ok-clause-ok c =
    let i = c.self.inside in
    let k = id_of c.share-list.result in
    let is_held : 0 < eqtb.held i.table k = omega (arith, c.in-Some.ensures.held, ap (eqtb.held i.table) c.share-list.ensures.same) in
    let at : list_number i.table.groups c.args.loc ≡ Some k = c.in-Some.ensures.list ∙ ap (λ (j : ℕ). Some j) (sym c.share-list.ensures.same) in
    let e = c.in-Ok.ensures in
    shared_view i.lists c.share-list.new.lists c.push_shared.new.lists i.stack c.push_shared.new.self i.making i.builds.items (named i.table i.call) i.sizes _ c.self.invariant k (tokens_at i.lists k) is_held c.share-list.ensures.shares e.stands (standing_now i.lists c.share-list.new.lists i.stack i.making i.builds.items (named i.table i.call) i.sizes _ c.self.invariant k c.share-list.ensures.shares (pending c.push_shared.new.lists c.push_shared.new.self) e.ok) e.account e.kept e.lasting e.size e.parameter_size c.args.self.now c.self.view_is (location_put c.args.self.now.lists c.args.self.now.groups c.args.loc) (standing_is i.lists c.share-list.new.lists i.stack i.making i.builds.items (named i.table i.call) i.sizes _ c.self.invariant k c.share-list.ensures.shares c.args.self.now c.self.view_is c.args.loc at)

pub returns-in-Ok-clause-keeps : goal.returns-in-Ok-clause-keeps
returns-in-Ok-clause-keeps c =
    let i = c.self.inside in
    let k = id_of c.share-list.result in
    let is_held : 0 < eqtb.held i.table k = omega (arith, c.in-Some.ensures.held, ap (eqtb.held i.table) c.share-list.ensures.same) in
    let e = c.in-Ok.ensures in
    shared_macros i.lists c.share-list.new.lists c.push_shared.new.lists i.stack c.push_shared.new.self i.making i.builds.items (named i.table i.call) i.sizes _ c.self.invariant k (tokens_at i.lists k) is_held c.share-list.ensures.shares e.stands (standing_now i.lists c.share-list.new.lists i.stack i.making i.builds.items (named i.table i.call) i.sizes _ c.self.invariant k c.share-list.ensures.shares (pending c.push_shared.new.lists c.push_shared.new.self) e.ok) e.account e.kept e.lasting e.size e.parameter_size c.args.self.now c.self.view_is

pub invariant_of-self-in-Err : goal.invariant_of-self-in-Err
invariant_of-self-in-Err c =
    let i = c.self.inside in
    let e = c.in-Err.ensures in
    let g = c.let_go.ensures in
    refused_sound i.lists c.share-list.new.lists c.push_shared.new.lists c.let_go.new.lists i.stack c.push_shared.new.self i.making i.builds.items (named i.table i.call) i.sizes _ c.self.invariant c.share-list.result c.in-Err.list c.share-list.ensures.shares e.refused.1 e.stands e.err e.account e.kept e.lasting g.account g.kept g.lasting e.size e.parameter_size

pub returns-in-Err-clause-refused : goal.returns-in-Err-clause-refused
returns-in-Err-clause-refused c =
    let i = c.self.inside in
    let k = id_of c.share-list.result in
    let at : list_number i.table.groups c.args.loc ≡ Some k = c.in-Some.ensures.list ∙ ap (λ (j : ℕ). Some j) (sym c.share-list.ensures.same) in
    sym (standing_refused i.lists c.share-list.new.lists i.stack i.making i.builds.items (named i.table i.call) i.sizes _ c.self.invariant k c.share-list.ensures.shares c.args.self.now c.self.view_is c.args.loc at) ∙ c.in-Err.ensures.refused.0

pub returns-in-Err-clause-err : goal.returns-in-Err-clause-err
returns-in-Err-clause-err c =
    let i = c.self.inside in
    let e = c.in-Err.ensures in
    let g = c.let_go.ensures in
    refused_view i.lists c.share-list.new.lists c.push_shared.new.lists c.let_go.new.lists i.stack c.push_shared.new.self i.making i.builds.items (named i.table i.call) i.sizes _ c.self.invariant c.share-list.result c.in-Err.list c.share-list.ensures.shares e.refused.1 e.stands e.err e.account e.kept e.lasting g.account g.kept g.lasting e.size e.parameter_size c.args.self.now c.self.view_is

pub returns-in-Err-clause-keeps : goal.returns-in-Err-clause-keeps
returns-in-Err-clause-keeps c =
    let i = c.self.inside in
    let e = c.in-Err.ensures in
    let g = c.let_go.ensures in
    refused_macros i.lists c.share-list.new.lists c.push_shared.new.lists c.let_go.new.lists i.stack c.push_shared.new.self i.making i.builds.items (named i.table i.call) i.sizes _ c.self.invariant c.share-list.result c.in-Err.list c.share-list.ensures.shares e.refused.1 e.stands e.err e.account e.kept e.lasting g.account g.kept g.lasting e.size e.parameter_size c.args.self.now c.self.view_is

-- where none stands, nothing is put

pub returns-in_default-clause-refused : goal.returns-in_default-clause-refused
returns-in_default-clause-refused c =
    let v = c.args.self.now in
    ap (λ (o : Option ℕ). call_refusal (numbered_put v.lists o) v) (ap (λ (w : HeldLists). list_number w.groups c.args.loc) (sym c.self.view_is) ∙ c.in_default.ensures.list)

pub returns-in_default-clause-ok : goal.returns-in_default-clause-ok
returns-in_default-clause-ok c =
    let v = c.args.self.now in
    sym (ap (λ (o : Option ℕ). let w : HeldLists = record v { puts = called (numbered_put v.lists o) v.puts } in w) (ap (λ (w : HeldLists). list_number w.groups c.args.loc) (sym c.self.view_is) ∙ c.in_default.ensures.list))
