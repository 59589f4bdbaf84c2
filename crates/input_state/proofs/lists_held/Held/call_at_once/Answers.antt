use Rattle.std.proofs.Common.{◌≡◌, ℕ, ◌<◌, Some, true, false, sym, ap, ◌∙◌, arith}
use Rattle.plain_tokens.specs.Meanings.{name_meaning}
use Rattle.plain_tokens.specs.Arguments.{has_parameters}
use Rattle.token_lists.specs.Ids.{id_of}
use Rattle.eqtb_save.specs.Holding as eqtb
use Rattle.equivalents.specs.Holding.{list_of}
use Rattle.input_state.specs.HeldViews.{named, all_builds, texts}
use Rattle.input_state.specs.HeldLists.{HeldLists}
use Rattle.input_state.specs.Calls.{call_kind}
use Rattle.input_state.proofs.Sharing.{text_at}
use Rattle.input_state.proofs.Calling.{kind_none, kind_some}
use Rattle.input_state.proofs.CallKept.{countable_now, back_held, shared_stands, refusal_is, call_sound, call_view, call_macros, refused_sound, refused_view, refused_macros}
use Rattle.input_state.proofs.lists_held.Held.call_at_once.Goals as goal

pub share-body-requires-clause-countable : goal.share-body-requires-clause-countable
share-body-requires-clause-countable c =
    let i = c.self.inside in
    countable_now i.lists i.stack i.making i.builds.items (named i.table i.call) i.sizes _ c.self.invariant c.recall.ensures.bounded _

pub push_macro-requires-clause-stands : goal.push_macro-requires-clause-stands
push_macro-requires-clause-stands c =
    let i = c.self.inside in
    (shared_stands i.lists c.share-body.new.lists i.stack (all_builds i.making i.builds.items) (named i.table i.call) (id_of c.share-body.result) c.self.invariant.shared c.share-body.ensures.shares).0

pub invariant_of-self : goal.invariant_of-self
invariant_of-self c =
    let i = c.self.inside in
    let same = c.share-body.ensures.same in
    let is_meant : 0 < eqtb.held i.table (id_of c.share-body.result) = omega (arith, c.in-Some.ensures.held, ap (eqtb.held i.table) same) in
    let e = c.in-Ok.ensures in
    call_sound i.lists c.share-body.new.lists c.push_macro.new.lists i.stack c.push_macro.new.self i.making i.builds.items (named i.table i.call) i.sizes _ c.self.invariant c.share-body.result is_meant c.share-body.ensures.shares c.none.result c.none.ensures.empty c.none.ensures.account e.stands e.ok e.account e.kept e.lasting e.size e.parameter_size

pub returns-in-Ok-clause-refused : goal.returns-in-Ok-clause-refused
returns-in-Ok-clause-refused c =
    let i = c.self.inside in
    let same = c.share-body.ensures.same in
    let list_is : list_of (name_meaning i.table.groups.now.meanings c.args.name) ≡ Some (id_of c.share-body.result) = c.in-Some.ensures.list ∙ ap (λ (k : ℕ). Some k) (sym same) in
    λ is. sym (refusal_is i.lists c.share-body.new.lists i.stack i.making i.builds.items (named i.table i.call) i.sizes _ c.self.invariant c.share-body.result c.share-body.ensures.shares c.none.result c.none.ensures.empty c.args.self.now c.self.view_is c.args.name list_is) ∙ c.in-Ok.ensures.refused

pub returns-in-Ok-clause-ok : goal.returns-in-Ok-clause-ok
returns-in-Ok-clause-ok c =
    let i = c.self.inside in
    let same = c.share-body.ensures.same in
    let is_meant : 0 < eqtb.held i.table (id_of c.share-body.result) = omega (arith, c.in-Some.ensures.held, ap (eqtb.held i.table) same) in
    let list_is : list_of (name_meaning i.table.groups.now.meanings c.args.name) ≡ Some (id_of c.share-body.result) = c.in-Some.ensures.list ∙ ap (λ (k : ℕ). Some k) (sym same) in
    let e = c.in-Ok.ensures in
    λ is. call_view i.lists c.share-body.new.lists c.push_macro.new.lists i.stack c.push_macro.new.self i.making i.builds.items (named i.table i.call) i.sizes _ c.self.invariant c.share-body.result is_meant c.share-body.ensures.shares c.none.result c.none.ensures.empty c.none.ensures.account e.stands e.ok e.account e.kept e.lasting e.size e.parameter_size c.args.self.now c.self.view_is c.args.name list_is

pub returns-in-Ok-clause-keeps : goal.returns-in-Ok-clause-keeps
returns-in-Ok-clause-keeps c =
    let i = c.self.inside in
    let same = c.share-body.ensures.same in
    let is_meant : 0 < eqtb.held i.table (id_of c.share-body.result) = omega (arith, c.in-Some.ensures.held, ap (eqtb.held i.table) same) in
    let e = c.in-Ok.ensures in
    call_macros i.lists c.share-body.new.lists c.push_macro.new.lists i.stack c.push_macro.new.self i.making i.builds.items (named i.table i.call) i.sizes _ c.self.invariant c.share-body.result is_meant c.share-body.ensures.shares c.none.result c.none.ensures.empty c.none.ensures.account e.stands e.ok e.account e.kept e.lasting e.size e.parameter_size c.args.self.now c.self.view_is

pub invariant_of-self-in-Err : goal.invariant_of-self-in-Err
invariant_of-self-in-Err c =
    let i = c.self.inside in
    let e = c.in-Err.ensures in
    let g = c.give_back.ensures in
    refused_sound i.lists c.share-body.new.lists c.push_macro.new.lists c.give_back.new.lists i.stack c.push_macro.new.self i.making i.builds.items (named i.table i.call) i.sizes _ c.self.invariant c.share-body.result c.in-Err.body c.share-body.ensures.shares e.refused.1 e.stands e.err e.account e.kept e.lasting g.account g.kept g.lasting e.size e.parameter_size

pub returns-in-Err-clause-refused : goal.returns-in-Err-clause-refused
returns-in-Err-clause-refused c =
    let i = c.self.inside in
    let same = c.share-body.ensures.same in
    let list_is : list_of (name_meaning i.table.groups.now.meanings c.args.name) ≡ Some (id_of c.share-body.result) = c.in-Some.ensures.list ∙ ap (λ (k : ℕ). Some k) (sym same) in
    sym (refusal_is i.lists c.share-body.new.lists i.stack i.making i.builds.items (named i.table i.call) i.sizes _ c.self.invariant c.share-body.result c.share-body.ensures.shares c.none.result c.none.ensures.empty c.args.self.now c.self.view_is c.args.name list_is) ∙ c.in-Err.ensures.refused.0

pub returns-in-Err-clause-err : goal.returns-in-Err-clause-err
returns-in-Err-clause-err c =
    let i = c.self.inside in
    let e = c.in-Err.ensures in
    let g = c.give_back.ensures in
    refused_view i.lists c.share-body.new.lists c.push_macro.new.lists c.give_back.new.lists i.stack c.push_macro.new.self i.making i.builds.items (named i.table i.call) i.sizes _ c.self.invariant c.share-body.result c.in-Err.body c.share-body.ensures.shares e.refused.1 e.stands e.err e.account e.kept e.lasting g.account g.kept g.lasting e.size e.parameter_size c.args.self.now c.self.view_is

pub returns-in-Err-clause-keeps : goal.returns-in-Err-clause-keeps
returns-in-Err-clause-keeps c =
    let i = c.self.inside in
    let e = c.in-Err.ensures in
    let g = c.give_back.ensures in
    refused_macros i.lists c.share-body.new.lists c.push_macro.new.lists c.give_back.new.lists i.stack c.push_macro.new.self i.making i.builds.items (named i.table i.call) i.sizes _ c.self.invariant c.share-body.result c.in-Err.body c.share-body.ensures.shares e.refused.1 e.stands e.err e.account e.kept e.lasting g.account g.kept g.lasting e.size e.parameter_size c.args.self.now c.self.view_is

pub give_back-requires-clause-held : goal.give_back-requires-clause-held
give_back-requires-clause-held c =
    let i = c.self.inside in
    let e = c.in-Err.ensures in
    back_held i.lists c.share-body.new.lists c.push_macro.new.lists i.stack c.push_macro.new.self (all_builds i.making i.builds.items) (named i.table i.call) c.share-body.result c.in-Err.body c.self.invariant.shared c.share-body.ensures.shares e.refused.1 e.account

-- HOW IT IS CALLED

pub returns-in_default-clause-kind : goal.returns-in_default-clause-kind
returns-in_default-clause-kind c =
    let i = c.self.inside in
    sym (kind_none (texts i.lists) (name_meaning i.table.groups.now.meanings c.args.name) c.in_default.ensures.list)
    ∙ ap (λ (w : HeldLists). call_kind w.lists (name_meaning w.groups.now.meanings c.args.name)) c.self.view_is

pub returns-then-has_parameters-clause-kind : goal.returns-then-has_parameters-clause-kind
returns-then-has_parameters-clause-kind c =
    let i = c.self.inside in
    let id = id_of c.in-Some.list.now in
    let b = sym c.if-has_parameters.true ∙ c.has_parameters.ensures ∙ ap has_parameters (sym (text_at i.lists id)) in
    kind_some (texts i.lists) (name_meaning i.table.groups.now.meanings c.args.name) id true c.in-Some.ensures.list b
    ∙ ap (λ (w : HeldLists). call_kind w.lists (name_meaning w.groups.now.meanings c.args.name)) c.self.view_is

pub returns-in-Ok-clause-kind : goal.returns-in-Ok-clause-kind
returns-in-Ok-clause-kind c =
    let i = c.self.inside in
    let id = id_of c.in-Some.list.now in
    let b = sym c.if-has_parameters.false ∙ c.has_parameters.ensures ∙ ap has_parameters (sym (text_at i.lists id)) in
    kind_some (texts i.lists) (name_meaning i.table.groups.now.meanings c.args.name) id false c.in-Some.ensures.list b
    ∙ ap (λ (w : HeldLists). call_kind w.lists (name_meaning w.groups.now.meanings c.args.name)) c.self.view_is

pub returns-in-Err-clause-kind : goal.returns-in-Err-clause-kind
returns-in-Err-clause-kind c =
    let i = c.self.inside in
    let id = id_of c.in-Some.list.now in
    let b = sym c.if-has_parameters.false ∙ c.has_parameters.ensures ∙ ap has_parameters (sym (text_at i.lists id)) in
    sym (kind_some (texts i.lists) (name_meaning i.table.groups.now.meanings c.args.name) id false c.in-Some.ensures.list b
    ∙ ap (λ (w : HeldLists). call_kind w.lists (name_meaning w.groups.now.meanings c.args.name)) c.self.view_is)
