use Rattle.std.proofs.Common.{◌≡◌, ℕ, ◌<◌, Some, sym, ap, ◌∙◌, subst, arith}
use Rattle.std.specs.Prelude.{vec_capacity}
use Rattle.plain_tokens.specs.Meanings.{name_meaning}
use Rattle.token_lists.specs.Ids.{id_of}
use Rattle.eqtb_save.specs.Holding as eqtb
use Rattle.equivalents.specs.Holding.{list_of}
use Rattle.input_stack.specs.View.{pending}
use Rattle.input_state.specs.declared.gathering.Gathering as code
use Rattle.input_state.specs.declared.gathering.Gathering.TheVariants as call
use Rattle.input_state.specs.HeldViews.{named, lists_of, all_builds, IsCall, IsSound}
use Rattle.input_state.proofs.CallKept.{countable_now, shared_stands, refused_sound, refused_view, refused_macros}
use Rattle.input_state.proofs.PutKept.{put_refused, put_sound, put_view, put_macros, put_covered}
use Rattle.input_state.proofs.lists_held.Held.put_call.Goals as goal

pub share-body-requires-clause-countable : goal.share-body-requires-clause-countable
share-body-requires-clause-countable c =
    let i = c.self.inside in
    countable_now i.lists i.stack i.making i.builds.items (named i.table i.call) i.sizes _ c.self.invariant c.recall.ensures.bounded _

pub push_macro-requires-clause-stands : goal.push_macro-requires-clause-stands
push_macro-requires-clause-stands c =
    let i = c.self.inside in
    (shared_stands i.lists c.share-body.new.lists i.stack (all_builds i.making i.builds.items) (named i.table i.call) (id_of c.share-body.result) c.self.invariant.shared c.share-body.ensures.shares).0

pub push_macro-requires-clause-filled : goal.push_macro-requires-clause-filled
push_macro-requires-clause-filled c =
    let i = c.self.inside in
    let v = c.args.self.now in
    let name = c.into_args-name.result.0 in
    let args = c.into_args-name.result.1 in
    let was : i.call ≡ call.Gathered name args = sym c.replace.ensures.value ∙ c.into_args-name.ensures in
    let same = c.share-body.ensures.same in
    let list_is : list_of (name_meaning i.table.groups.now.meanings name) ≡ Some (id_of c.share-body.result) = c.in-Some.ensures.list ∙ ap (λ (k : ℕ). Some k) (sym same) in
    let is : IsCall i.lists i.table (call.Gathered name args) = subst (IsCall i.lists i.table) was c.self.invariant.call in
    let filled = is.filled in
    filled

pub push_macro-requires-clause-held : goal.push_macro-requires-clause-held
push_macro-requires-clause-held c =
    let i = c.self.inside in
    let v = c.args.self.now in
    let name = c.into_args-name.result.0 in
    let args = c.into_args-name.result.1 in
    let was : i.call ≡ call.Gathered name args = sym c.replace.ensures.value ∙ c.into_args-name.ensures in
    let same = c.share-body.ensures.same in
    let list_is : list_of (name_meaning i.table.groups.now.meanings name) ≡ Some (id_of c.share-body.result) = c.in-Some.ensures.list ∙ ap (λ (k : ℕ). Some k) (sym same) in
    put_covered i.lists c.share-body.new.lists i.stack i.making i.builds.items i.table i.call i.sizes _ name c.share-body.result args c.self.invariant was c.share-body.ensures.shares

pub invariant_of-self : goal.invariant_of-self
invariant_of-self c =
    let i = c.self.inside in
    let v = c.args.self.now in
    let name = c.into_args-name.result.0 in
    let args = c.into_args-name.result.1 in
    let was : i.call ≡ call.Gathered name args = sym c.replace.ensures.value ∙ c.into_args-name.ensures in
    let same = c.share-body.ensures.same in
    let list_is : list_of (name_meaning i.table.groups.now.meanings name) ≡ Some (id_of c.share-body.result) = c.in-Some.ensures.list ∙ ap (λ (k : ℕ). Some k) (sym same) in
    let is_meant : 0 < eqtb.held i.table (id_of c.share-body.result) = omega (arith, c.in-Some.ensures.held, ap (eqtb.held i.table) same) in
    let e = c.in-Ok.ensures in
    put_sound i.lists c.share-body.new.lists c.push_macro.new.lists i.stack c.push_macro.new.self i.making i.builds.items i.table i.call c.replace.new.dest i.sizes _ c.self.invariant name c.share-body.result args was c.replace.ensures.after is_meant c.share-body.ensures.shares e.stands e.ok e.account e.kept e.lasting e.size e.parameter_size v c.self.view_is list_is

pub returns-in-Ok-clause-ok : goal.returns-in-Ok-clause-ok
returns-in-Ok-clause-ok c =
    let i = c.self.inside in
    let v = c.args.self.now in
    let name = c.into_args-name.result.0 in
    let args = c.into_args-name.result.1 in
    let was : i.call ≡ call.Gathered name args = sym c.replace.ensures.value ∙ c.into_args-name.ensures in
    let same = c.share-body.ensures.same in
    let list_is : list_of (name_meaning i.table.groups.now.meanings name) ≡ Some (id_of c.share-body.result) = c.in-Some.ensures.list ∙ ap (λ (k : ℕ). Some k) (sym same) in
    let is_meant : 0 < eqtb.held i.table (id_of c.share-body.result) = omega (arith, c.in-Some.ensures.held, ap (eqtb.held i.table) same) in
    let e = c.in-Ok.ensures in
    put_view i.lists c.share-body.new.lists c.push_macro.new.lists i.stack c.push_macro.new.self i.making i.builds.items i.table i.call c.replace.new.dest i.sizes _ c.self.invariant name c.share-body.result args was c.replace.ensures.after is_meant c.share-body.ensures.shares e.stands e.ok e.account e.kept e.lasting e.size e.parameter_size v c.self.view_is list_is

pub returns-in-Ok-clause-keeps : goal.returns-in-Ok-clause-keeps
returns-in-Ok-clause-keeps c =
    let i = c.self.inside in
    let v = c.args.self.now in
    let name = c.into_args-name.result.0 in
    let args = c.into_args-name.result.1 in
    let was : i.call ≡ call.Gathered name args = sym c.replace.ensures.value ∙ c.into_args-name.ensures in
    let same = c.share-body.ensures.same in
    let list_is : list_of (name_meaning i.table.groups.now.meanings name) ≡ Some (id_of c.share-body.result) = c.in-Some.ensures.list ∙ ap (λ (k : ℕ). Some k) (sym same) in
    let is_meant : 0 < eqtb.held i.table (id_of c.share-body.result) = omega (arith, c.in-Some.ensures.held, ap (eqtb.held i.table) same) in
    let e = c.in-Ok.ensures in
    put_macros i.lists c.share-body.new.lists c.push_macro.new.lists i.stack c.push_macro.new.self i.making i.builds.items i.table i.call c.replace.new.dest i.sizes _ c.self.invariant name c.share-body.result args was c.replace.ensures.after is_meant c.share-body.ensures.shares e.stands e.ok e.account e.kept e.lasting e.size e.parameter_size v c.self.view_is list_is

pub returns-in-Ok-clause-refused : goal.returns-in-Ok-clause-refused
returns-in-Ok-clause-refused c =
    let i = c.self.inside in
    let v = c.args.self.now in
    let name = c.into_args-name.result.0 in
    let args = c.into_args-name.result.1 in
    let was : i.call ≡ call.Gathered name args = sym c.replace.ensures.value ∙ c.into_args-name.ensures in
    let same = c.share-body.ensures.same in
    let list_is : list_of (name_meaning i.table.groups.now.meanings name) ≡ Some (id_of c.share-body.result) = c.in-Some.ensures.list ∙ ap (λ (k : ℕ). Some k) (sym same) in
    let is : IsCall i.lists i.table (call.Gathered name args) = subst (IsCall i.lists i.table) was c.self.invariant.call in
    let filled = is.filled in
    sym (put_refused i.lists c.share-body.new.lists i.stack i.making i.builds.items i.table i.call i.sizes _ c.self.invariant name c.share-body.result args filled was c.share-body.ensures.shares v c.self.view_is list_is) ∙ c.in-Ok.ensures.refused

pub returns-in-Err-clause-refused : goal.returns-in-Err-clause-refused
returns-in-Err-clause-refused c =
    let i = c.self.inside in
    let v = c.args.self.now in
    let name = c.into_args-name.result.0 in
    let args = c.into_args-name.result.1 in
    let was : i.call ≡ call.Gathered name args = sym c.replace.ensures.value ∙ c.into_args-name.ensures in
    let same = c.share-body.ensures.same in
    let list_is : list_of (name_meaning i.table.groups.now.meanings name) ≡ Some (id_of c.share-body.result) = c.in-Some.ensures.list ∙ ap (λ (k : ℕ). Some k) (sym same) in
    let is : IsCall i.lists i.table (call.Gathered name args) = subst (IsCall i.lists i.table) was c.self.invariant.call in
    let filled = is.filled in
    sym (put_refused i.lists c.share-body.new.lists i.stack i.making i.builds.items i.table i.call i.sizes _ c.self.invariant name c.share-body.result args filled was c.share-body.ensures.shares v c.self.view_is list_is) ∙ c.in-Err.ensures.refused.0

pub invariant_of-self-in-Err : goal.invariant_of-self-in-Err
invariant_of-self-in-Err c =
    let i = c.self.inside in
    let v = c.args.self.now in
    let name = c.into_args-name.result.0 in
    let args = c.into_args-name.result.1 in
    let was : i.call ≡ call.Gathered name args = sym c.replace.ensures.value ∙ c.into_args-name.ensures in
    let same = c.share-body.ensures.same in
    let list_is : list_of (name_meaning i.table.groups.now.meanings name) ≡ Some (id_of c.share-body.result) = c.in-Some.ensures.list ∙ ap (λ (k : ℕ). Some k) (sym same) in
    let e = c.in-Err.ensures in
    let g = c.let_go.ensures in
    let back : c.replace-in-Err.new.dest ≡ i.call = c.replace-in-Err.ensures.after ∙ ap (call.Gathered name) e.refused.2 ∙ sym was in
    subst (λ (k : code.Gathering). IsSound c.let_go.new.lists c.push_macro.new.self i.making i.builds.items (named i.table k) i.sizes (vec_capacity i.builds)) (sym back) (refused_sound i.lists c.share-body.new.lists c.push_macro.new.lists c.let_go.new.lists i.stack c.push_macro.new.self i.making i.builds.items (named i.table i.call) i.sizes _ c.self.invariant c.share-body.result c.in-Err.body c.share-body.ensures.shares e.refused.1 e.stands e.err e.account e.kept e.lasting g.account g.kept g.lasting e.size e.parameter_size)

pub returns-in-Err-clause-err : goal.returns-in-Err-clause-err
returns-in-Err-clause-err c =
    let i = c.self.inside in
    let v = c.args.self.now in
    let name = c.into_args-name.result.0 in
    let args = c.into_args-name.result.1 in
    let was : i.call ≡ call.Gathered name args = sym c.replace.ensures.value ∙ c.into_args-name.ensures in
    let same = c.share-body.ensures.same in
    let list_is : list_of (name_meaning i.table.groups.now.meanings name) ≡ Some (id_of c.share-body.result) = c.in-Some.ensures.list ∙ ap (λ (k : ℕ). Some k) (sym same) in
    let e = c.in-Err.ensures in
    let g = c.let_go.ensures in
    let back : c.replace-in-Err.new.dest ≡ i.call = c.replace-in-Err.ensures.after ∙ ap (call.Gathered name) e.refused.2 ∙ sym was in
    ap (λ (k : code.Gathering). lists_of c.let_go.new.lists (pending c.let_go.new.lists c.push_macro.new.self) i.making i.builds.items (named i.table k) i.sizes) back ∙ refused_view i.lists c.share-body.new.lists c.push_macro.new.lists c.let_go.new.lists i.stack c.push_macro.new.self i.making i.builds.items (named i.table i.call) i.sizes _ c.self.invariant c.share-body.result c.in-Err.body c.share-body.ensures.shares e.refused.1 e.stands e.err e.account e.kept e.lasting g.account g.kept g.lasting e.size e.parameter_size v c.self.view_is

pub returns-in-Err-clause-keeps : goal.returns-in-Err-clause-keeps
returns-in-Err-clause-keeps c =
    let i = c.self.inside in
    let v = c.args.self.now in
    let name = c.into_args-name.result.0 in
    let args = c.into_args-name.result.1 in
    let was : i.call ≡ call.Gathered name args = sym c.replace.ensures.value ∙ c.into_args-name.ensures in
    let same = c.share-body.ensures.same in
    let list_is : list_of (name_meaning i.table.groups.now.meanings name) ≡ Some (id_of c.share-body.result) = c.in-Some.ensures.list ∙ ap (λ (k : ℕ). Some k) (sym same) in
    let e = c.in-Err.ensures in
    let g = c.let_go.ensures in
    let back : c.replace-in-Err.new.dest ≡ i.call = c.replace-in-Err.ensures.after ∙ ap (call.Gathered name) e.refused.2 ∙ sym was in
    refused_macros i.lists c.share-body.new.lists c.push_macro.new.lists c.let_go.new.lists i.stack c.push_macro.new.self i.making i.builds.items (named i.table i.call) i.sizes _ c.self.invariant c.share-body.result c.in-Err.body c.share-body.ensures.shares e.refused.1 e.stands e.err e.account e.kept e.lasting g.account g.kept g.lasting e.size e.parameter_size v c.self.view_is
