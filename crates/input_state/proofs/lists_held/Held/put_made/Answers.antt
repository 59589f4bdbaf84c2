use Rattle.std.proofs.Common.{◌≡◌, ◌∙◌, ◌∷◌, Option, Some, sym, subst, reverse}
use Rattle.std.proofs.lemmas.List.Elements.{All-head}
use Rattle.token_lists.specs.declared.Build.{Build}
use Rattle.token_lists.specs.Ids.{id_of, IsBuilding}
use Rattle.input_state.specs.HeldViews.{named, all_builds, IsShared}
use Rattle.input_state.proofs.Putting.{put_held, put_sound, put_view, put_macros, put_fits}
use Rattle.input_state.proofs.lists_held.Held.put_made.Goals as goal

pub finish-list-requires : goal.finish-list-requires
finish-list-requires c =
    let i = c.self.inside in
    let a = c.in-Some.build in
    let ys = reverse i.builds.items in
    let some : i.making ≡ Some a = sym c.take.ensures.value ∙ c.in-Some.is in
    let shared : IsShared i.lists i.stack (a ∷ ys) (named i.table i.call) = subst (λ (m : Option Build). IsShared i.lists i.stack (all_builds m i.builds.items) (named i.table i.call)) some c.self.invariant.shared in
    All-head (IsBuilding i.lists) a ys shared.building

pub push_list-requires-clause-held : goal.push_list-requires-clause-held
push_list-requires-clause-held c =
    let i = c.self.inside in
    let a = c.in-Some.build in
    let some : i.making ≡ Some a = sym c.take.ensures.value ∙ c.in-Some.is in
    put_held i.lists i.lists i.stack i.stack a i.builds.items (named i.table i.call) i.sizes (id_of c.finish-list.result) _ i.making some c.self.invariant c.finish-list.ensures.same

pub unreachable-requires-in-Err : goal.unreachable-requires-in-Err
unreachable-requires-in-Err c =
    let i = c.self.inside in
    let a = c.in-Some.build in
    let some : i.making ≡ Some a = sym c.take.ensures.value ∙ c.in-Some.is in
    put_fits i.lists i.lists i.stack i.stack a i.builds.items (named i.table i.call) i.sizes (id_of c.finish-list.result) _ i.making some c.self.invariant c.finish-list.ensures.same c.args.self.now c.in-Err._full c.self.view_is c.requires.room c.in-Err.ensures.refused.0

pub invariant_of-self : goal.invariant_of-self
invariant_of-self c =
    let i = c.self.inside in
    let a = c.in-Some.build in
    let e = c.in-Ok.ensures in
    let some : i.making ≡ Some a = sym c.take.ensures.value ∙ c.in-Some.is in
    put_sound i.lists c.push_list.new.lists i.stack c.push_list.new.self a i.builds.items (named i.table i.call) i.sizes (id_of c.finish-list.result) _ i.making some c.self.invariant c.finish-list.ensures.same e.stands e.ok e.account e.kept e.lasting e.size e.parameter_size c.take.new.self c.take.ensures.after

pub returns-clause-after : goal.returns-clause-after
returns-clause-after c =
    let i = c.self.inside in
    let a = c.in-Some.build in
    let e = c.in-Ok.ensures in
    let some : i.making ≡ Some a = sym c.take.ensures.value ∙ c.in-Some.is in
    put_view i.lists c.push_list.new.lists i.stack c.push_list.new.self a i.builds.items (named i.table i.call) i.sizes (id_of c.finish-list.result) _ i.making some c.self.invariant c.finish-list.ensures.same e.stands e.ok e.account e.kept e.lasting e.size e.parameter_size c.take.new.self c.args.self.now c.take.ensures.after c.self.view_is c.requires.without_ended

pub returns-clause-keeps : goal.returns-clause-keeps
returns-clause-keeps c =
    let i = c.self.inside in
    let a = c.in-Some.build in
    let e = c.in-Ok.ensures in
    let some : i.making ≡ Some a = sym c.take.ensures.value ∙ c.in-Some.is in
    put_macros i.lists c.push_list.new.lists i.stack c.push_list.new.self a i.builds.items (named i.table i.call) i.sizes (id_of c.finish-list.result) _ i.making some c.self.invariant c.finish-list.ensures.same e.stands e.ok e.account e.kept e.lasting e.size e.parameter_size c.args.self.now c.self.view_is
