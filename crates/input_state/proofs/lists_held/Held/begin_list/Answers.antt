use Rattle.std.proofs.Common.{◌∙◌, ◌∷◌, [], reverse, ap, arith}
use Rattle.std.specs.Prelude.{option_to_list}
use Rattle.input_state.specs.HeldLists.{HeldLists}
use Rattle.input_state.specs.HeldViews.{named, texts}
use Rattle.input_state.proofs.ListViews.{first_view, macros_view}
use Rattle.input_state.proofs.Sounds.{begun, push_builds, changed_sound, fits_now, full_now, few_now}
use Rattle.input_state.proofs.lists_held.Held.begin_list.Goals as goal

pub push_reserved-requires : goal.push_reserved-requires
push_reserved-requires c =
    let i = c.self.inside in
    omega (arith, i.builds.ok, few_now i.lists i.stack i.making i.builds.items (named i.table i.call) i.sizes _ c.self.invariant c.args.self.now c.self.view_is c.in-Ok.ensures.room)

pub invariant_of-self : goal.invariant_of-self
invariant_of-self c =
    let i = c.self.inside in
    let b = c.in-Ok.build in
    let e = c.in-Ok.ensures in
    let xs = option_to_list i.making in
    let ys = reverse i.builds.items in
    let changed = begun i.lists c.begin.new.lists i.stack (named i.table i.call) xs ys b c.self.invariant.shared e.building e.fresh e.others e.account in
    changed_sound i.lists c.begin.new.lists i.stack (named i.table i.call) i.sizes _ _ e.length c.push_reserved.ensures.capacity xs (b ∷ []) ys i.making i.making c.push_reserved.new.self.items i.builds.items (push_builds i.making _ i.builds.items b c.push_reserved.ensures.items) changed c.self.invariant

pub returns-in-Ok-clause-refused : goal.returns-in-Ok-clause-refused
returns-in-Ok-clause-refused c =
    let i = c.self.inside in
    fits_now i.lists i.stack i.making i.builds.items (named i.table i.call) i.sizes _ c.self.invariant c.args.self.now c.self.view_is c.in-Ok.ensures.room

pub returns-in-Ok-clause-ok : goal.returns-in-Ok-clause-ok
returns-in-Ok-clause-ok c =
    let i = c.self.inside in
    let b = c.in-Ok.build in
    let e = c.in-Ok.ensures in
    let changed = begun i.lists c.begin.new.lists i.stack (named i.table i.call) (option_to_list i.making) (reverse i.builds.items) b c.self.invariant.shared e.building e.fresh e.others e.account in
    first_view i.lists c.begin.new.lists i.stack (named i.table i.call) i.sizes i.making c.push_reserved.new.self.items i.builds.items b [] changed c.push_reserved.ensures.items e.empty
    ∙ ap (λ (v : HeldLists). record v { builds = [] ∷ v.builds; lists = texts c.begin.new.lists }) c.self.view_is

pub returns-in-Err-clause-refused : goal.returns-in-Err-clause-refused
returns-in-Err-clause-refused c =
    let i = c.self.inside in
    full_now i.lists i.stack i.making i.builds.items (named i.table i.call) i.sizes _ c.self.invariant c.args.self.now c.self.view_is c.in-Err.full c.in-Err.ensures.full

pub returns-in-Ok-clause-keeps : goal.returns-in-Ok-clause-keeps
returns-in-Ok-clause-keeps c =
    let i = c.self.inside in
    let b = c.in-Ok.build in
    let e = c.in-Ok.ensures in
    let xs = option_to_list i.making in
    let ys = reverse i.builds.items in
    let changed = begun i.lists c.begin.new.lists i.stack (named i.table i.call) xs ys b c.self.invariant.shared e.building e.fresh e.others e.account in
    macros_view i.lists c.begin.new.lists i.stack (named i.table i.call) i.sizes i.making i.builds.items xs (b ∷ []) ys c.args.self.now changed c.self.view_is
