use Rattle.std.proofs.Common.{◌≡◌, ◌∙◌, ◌∷◌, [], Option, None, Some, refl, sym, ap, subst, reverse}
use Rattle.std.proofs.lemmas.List.Elements.{All-head}
use Rattle.token_lists.specs.declared.Build.{Build}
use Rattle.token_lists.specs.Ids.{IsBuilding}
use Rattle.input_stack.specs.View.{pending}
use Rattle.input_state.specs.HeldLists.{HeldLists}
use Rattle.input_state.specs.HeldViews.{named, all_builds, lists_of, IsShared, texts}
use Rattle.input_state.proofs.ListViews.{none_view, macros_view}
use Rattle.input_state.proofs.Sounds.{gone, changed_sound}
use Rattle.input_state.proofs.lists_held.Held.drop_made.Goals as goal

pub invariant_of-self : goal.invariant_of-self
invariant_of-self c =
    let i = c.self.inside in
    let a = c.in-Some.build in
    let new = c.abandon.new.lists in
    let e = c.abandon.ensures in
    let ys = reverse i.builds.items in
    let some : i.making ≡ Some a = sym c.take.ensures.value ∙ c.in-Some.is in
    let shared : IsShared i.lists i.stack (a ∷ ys) (named i.table i.call) = subst (λ (m : Option Build). IsShared i.lists i.stack (all_builds m i.builds.items) (named i.table i.call)) some c.self.invariant.shared in
    let changed = gone i.lists new i.stack (named i.table i.call) [] ys a shared (All-head (IsBuilding i.lists) a ys shared.building) e.others e.account in
    changed_sound i.lists new i.stack (named i.table i.call) i.sizes _ _ e.length refl [] [] ys c.take.new.self i.making i.builds.items i.builds.items (ap (λ (m : Option Build). all_builds m i.builds.items) c.take.ensures.after) changed c.self.invariant

pub returns-in-Some-clause-after : goal.returns-in-Some-clause-after
returns-in-Some-clause-after c =
    let i = c.self.inside in
    let a = c.in-Some.build in
    let new = c.abandon.new.lists in
    let e = c.abandon.ensures in
    let ys = reverse i.builds.items in
    let some : i.making ≡ Some a = sym c.take.ensures.value ∙ c.in-Some.is in
    let shared : IsShared i.lists i.stack (a ∷ ys) (named i.table i.call) = subst (λ (m : Option Build). IsShared i.lists i.stack (all_builds m i.builds.items) (named i.table i.call)) some c.self.invariant.shared in
    let changed = gone i.lists new i.stack (named i.table i.call) [] ys a shared (All-head (IsBuilding i.lists) a ys shared.building) e.others e.account in
    ap (λ (m : Option Build). lists_of new (pending new i.stack) m i.builds.items (named i.table i.call) i.sizes) c.take.ensures.after
    ∙ none_view i.lists new i.stack (named i.table i.call) i.sizes i.builds.items changed
    ∙ ap (λ (v : HeldLists). record v { making = None; lists = texts new }) c.self.view_is

pub abandon-requires : goal.abandon-requires
abandon-requires c =
    let i = c.self.inside in
    let a = c.in-Some.build in
    let ys = reverse i.builds.items in
    let some : i.making ≡ Some a = sym c.take.ensures.value ∙ c.in-Some.is in
    let shared : IsShared i.lists i.stack (a ∷ ys) (named i.table i.call) = subst (λ (m : Option Build). IsShared i.lists i.stack (all_builds m i.builds.items) (named i.table i.call)) some c.self.invariant.shared in
    All-head (IsBuilding i.lists) a ys shared.building

pub returns-in-Some-clause-keeps : goal.returns-in-Some-clause-keeps
returns-in-Some-clause-keeps c =
    let i = c.self.inside in
    let a = c.in-Some.build in
    let new = c.abandon.new.lists in
    let e = c.abandon.ensures in
    let ys = reverse i.builds.items in
    let some : i.making ≡ Some a = sym c.take.ensures.value ∙ c.in-Some.is in
    let shared : IsShared i.lists i.stack (a ∷ ys) (named i.table i.call) = subst (λ (m : Option Build). IsShared i.lists i.stack (all_builds m i.builds.items) (named i.table i.call)) some c.self.invariant.shared in
    let changed = gone i.lists new i.stack (named i.table i.call) [] ys a shared (All-head (IsBuilding i.lists) a ys shared.building) e.others e.account in
    macros_view i.lists new i.stack (named i.table i.call) i.sizes i.making i.builds.items [] [] ys c.args.self.now changed c.self.view_is
