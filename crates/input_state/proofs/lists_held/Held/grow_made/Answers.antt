use Rattle.std.proofs.Common.{◌≡◌, ◌∙◌, ◌∷◌, ◌++◌, ◌<◌, [], length, Option, None, Some, refl, sym, ap, subst, reverse}
use Rattle.tex_defs.specs.declared.Full.{Full}
use Rattle.plain_tokens.specs.Puts.{grown_by}
use Rattle.plain_tokens.specs.Tables.{memory, refused}
use Rattle.std.proofs.lemmas.List.Elements.{All-head}
use Rattle.token_lists.specs.declared.Build.{Build}
use Rattle.token_lists.specs.Ids.{build_id, IsBuilding}
use Rattle.token_lists.specs.Table.{words, tokens_at}
use Rattle.token_lists.specs.Refusals.{IsFull}
use Rattle.input_stack.specs.View.{pending}
use Rattle.input_state.specs.HeldLists.{HeldLists, words_held}
use Rattle.input_state.specs.HeldViews.{named, all_builds, text, lists_of, IsShared, texts}
use Rattle.input_state.proofs.ListViews.{made_view, macros_view}
use Rattle.input_state.proofs.Sounds.{grown, changed_sound, fits_now, full_now, match_of, ok_of}
use Rattle.input_state.proofs.lists_held.Held.grow_made.Goals as goal

pub invariant_of-self : goal.invariant_of-self
invariant_of-self c =
    let i = c.self.inside in
    let a = c.in-Some.build in
    let b = c.append-grown.new.build in
    let new = c.append-grown.new.lists in
    let e = c.append-grown.ensures in
    let ys = reverse i.builds.items in
    let some : i.making ≡ Some a = sym c.take.ensures.value ∙ c.in-Some.is in
    let shared : IsShared i.lists i.stack (a ∷ ys) (named i.table i.call) = subst (λ (m : Option Build). IsShared i.lists i.stack (all_builds m i.builds.items) (named i.table i.call)) some c.self.invariant.shared in
    let changed = grown i.lists new i.stack (named i.table i.call) [] ys b a shared (All-head (IsBuilding i.lists) a ys shared.building) e.same e.building e.others e.account in
    changed_sound i.lists new i.stack (named i.table i.call) i.sizes _ _ e.length refl [] (b ∷ []) ys c.replace.new.self i.making i.builds.items i.builds.items (ap (λ (m : Option Build). all_builds m i.builds.items) c.replace.ensures.after) changed c.self.invariant

pub returns-clause-refused : goal.returns-clause-refused
returns-clause-refused c =
    let i = c.self.inside in
    let v = c.args.self.now in
    let fits = fits_now i.lists i.stack i.making i.builds.items (named i.table i.call) i.sizes _ c.self.invariant v c.self.view_is in
    let full = full_now i.lists i.stack i.making i.builds.items (named i.table i.call) i.sizes _ c.self.invariant v c.self.view_is in
    match_of c.append-grown.result (words i.lists < length i.lists) (refused v.sizes (memory 1 (words_held v) ∷ []) ≡ None) (λ (f : Full). IsFull f i.lists) (λ (f : Full). refused v.sizes (memory 1 (words_held v) ∷ []) ≡ Some f) c.append-grown.ensures.room c.append-grown.ensures.full fits full

pub returns-clause-ok : goal.returns-clause-ok
returns-clause-ok c =
    let i = c.self.inside in
    let a = c.in-Some.build in
    let b = c.append-grown.new.build in
    let new = c.append-grown.new.lists in
    let e = c.append-grown.ensures in
    let ys = reverse i.builds.items in
    let some : i.making ≡ Some a = sym c.take.ensures.value ∙ c.in-Some.is in
    let shared : IsShared i.lists i.stack (a ∷ ys) (named i.table i.call) = subst (λ (m : Option Build). IsShared i.lists i.stack (all_builds m i.builds.items) (named i.table i.call)) some c.self.invariant.shared in
    let changed = grown i.lists new i.stack (named i.table i.call) [] ys b a shared (All-head (IsBuilding i.lists) a ys shared.building) e.same e.building e.others e.account in
    let ts = text i.lists a ++ c.args.token ∷ [] in
    let was = ap (λ (m : Option Build). lists_of i.lists (pending i.lists i.stack) m i.builds.items (named i.table i.call) i.sizes) (sym some) in
    ok_of c.append-grown.result (tokens_at new (build_id a) ≡ ts) _ e.grown (λ is.
    ap (λ (m : Option Build). lists_of new (pending new i.stack) m i.builds.items (named i.table i.call) i.sizes) c.replace.ensures.after
    ∙ made_view i.lists new i.stack (named i.table i.call) i.sizes i.builds.items b ts changed (ap (tokens_at new) e.same ∙ is)
    ∙ ap (λ (v : HeldLists). record v { making = grown_by c.args.token v.making; lists = texts new }) (was ∙ c.self.view_is))

pub append-grown-requires : goal.append-grown-requires
append-grown-requires c =
    let i = c.self.inside in
    let a = c.in-Some.build in
    let ys = reverse i.builds.items in
    let some : i.making ≡ Some a = sym c.take.ensures.value ∙ c.in-Some.is in
    let shared : IsShared i.lists i.stack (a ∷ ys) (named i.table i.call) = subst (λ (m : Option Build). IsShared i.lists i.stack (all_builds m i.builds.items) (named i.table i.call)) some c.self.invariant.shared in
    All-head (IsBuilding i.lists) a ys shared.building

pub returns-clause-keeps : goal.returns-clause-keeps
returns-clause-keeps c =
    let i = c.self.inside in
    let a = c.in-Some.build in
    let b = c.append-grown.new.build in
    let new = c.append-grown.new.lists in
    let e = c.append-grown.ensures in
    let ys = reverse i.builds.items in
    let some : i.making ≡ Some a = sym c.take.ensures.value ∙ c.in-Some.is in
    let shared : IsShared i.lists i.stack (a ∷ ys) (named i.table i.call) = subst (λ (m : Option Build). IsShared i.lists i.stack (all_builds m i.builds.items) (named i.table i.call)) some c.self.invariant.shared in
    let changed = grown i.lists new i.stack (named i.table i.call) [] ys b a shared (All-head (IsBuilding i.lists) a ys shared.building) e.same e.building e.others e.account in
    macros_view i.lists new i.stack (named i.table i.call) i.sizes i.making i.builds.items [] (b ∷ []) ys c.args.self.now changed c.self.view_is
