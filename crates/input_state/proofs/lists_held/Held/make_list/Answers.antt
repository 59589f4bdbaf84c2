use Rattle.std.proofs.Common.{◌≡◌, ◌∙◌, ◌∷◌, [], Option, None, Some, refl, sym, ap, subst, reverse}
use Rattle.token_lists.specs.declared.Build.{Build}
use Rattle.input_stack.specs.View.{pending}
use Rattle.input_state.specs.HeldLists.{HeldLists}
use Rattle.input_state.specs.HeldViews.{named, all_builds, lists_of, IsShared, texts}
use Rattle.input_state.proofs.ListViews.{made_view, macros_view}
use Rattle.input_state.proofs.Sounds.{begun, changed_sound, fits_now, full_now}
use Rattle.input_state.proofs.lists_held.Held.make_list.Goals as goal

pub invariant_of-self : goal.invariant_of-self
invariant_of-self c =
    let i = c.self.inside in
    let b = c.in-Ok.build in
    let e = c.in-Ok.ensures in
    let new = c.begin.new.lists in
    let ys = reverse i.builds.items in
    let none : i.making ≡ None = sym c.replace.ensures.value ∙ c.in-None.is in
    let shared : IsShared i.lists i.stack ys (named i.table i.call) = subst (λ (m : Option Build). IsShared i.lists i.stack (all_builds m i.builds.items) (named i.table i.call)) none c.self.invariant.shared in
    let changed = begun i.lists new i.stack (named i.table i.call) [] ys b shared e.building e.fresh e.others e.account in
    changed_sound i.lists new i.stack (named i.table i.call) i.sizes _ _ e.length refl [] (b ∷ []) ys c.replace.new.self i.making i.builds.items i.builds.items (ap (λ (m : Option Build). all_builds m i.builds.items) c.replace.ensures.after) changed c.self.invariant

pub returns-in-None-clause-refused : goal.returns-in-None-clause-refused
returns-in-None-clause-refused c =
    let i = c.self.inside in
    fits_now i.lists i.stack i.making i.builds.items (named i.table i.call) i.sizes _ c.self.invariant c.args.self.now c.self.view_is c.in-Ok.ensures.room

pub returns-in-None-clause-ok : goal.returns-in-None-clause-ok
returns-in-None-clause-ok c =
    let i = c.self.inside in
    let b = c.in-Ok.build in
    let e = c.in-Ok.ensures in
    let new = c.begin.new.lists in
    let ys = reverse i.builds.items in
    let none : i.making ≡ None = sym c.replace.ensures.value ∙ c.in-None.is in
    let shared : IsShared i.lists i.stack ys (named i.table i.call) = subst (λ (m : Option Build). IsShared i.lists i.stack (all_builds m i.builds.items) (named i.table i.call)) none c.self.invariant.shared in
    let changed = begun i.lists new i.stack (named i.table i.call) [] ys b shared e.building e.fresh e.others e.account in
    ap (λ (m : Option Build). lists_of new (pending new i.stack) m i.builds.items (named i.table i.call) i.sizes) c.replace.ensures.after
    ∙ made_view i.lists new i.stack (named i.table i.call) i.sizes i.builds.items b [] changed e.empty
    ∙ ap (λ (v : HeldLists). record v { making = Some []; lists = texts new }) c.self.view_is

pub returns-in-Err-clause-refused : goal.returns-in-Err-clause-refused
returns-in-Err-clause-refused c =
    let i = c.self.inside in
    full_now i.lists i.stack i.making i.builds.items (named i.table i.call) i.sizes _ c.self.invariant c.args.self.now c.self.view_is c.in-Err.full c.in-Err.ensures.full

pub returns-in-None-clause-keeps : goal.returns-in-None-clause-keeps
returns-in-None-clause-keeps c =
    let i = c.self.inside in
    let b = c.in-Ok.build in
    let e = c.in-Ok.ensures in
    let new = c.begin.new.lists in
    let ys = reverse i.builds.items in
    let none : i.making ≡ None = sym c.replace.ensures.value ∙ c.in-None.is in
    let shared : IsShared i.lists i.stack ys (named i.table i.call) = subst (λ (m : Option Build). IsShared i.lists i.stack (all_builds m i.builds.items) (named i.table i.call)) none c.self.invariant.shared in
    let changed = begun i.lists new i.stack (named i.table i.call) [] ys b shared e.building e.fresh e.others e.account in
    macros_view i.lists new i.stack (named i.table i.call) i.sizes i.making i.builds.items [] (b ∷ []) ys c.args.self.now changed c.self.view_is
