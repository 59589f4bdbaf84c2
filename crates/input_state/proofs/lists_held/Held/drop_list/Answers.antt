use Rattle.std.proofs.Common.{◌≡◌, refl, ◌∙◌, ◌∷◌, [], List, drop, reverse, map, ap, sym}
use Rattle.std.specs.Prelude.{option_to_list}
use Rattle.tex_defs.specs.declared.Token.{Token}
use Rattle.input_stack.specs.View.{pending}
use Rattle.input_state.specs.HeldLists.{HeldLists}
use Rattle.input_state.specs.HeldViews.{named, calling_of, text, lists_of, fronts, made_text, covers, texts}
use Rattle.input_state.proofs.ListViews.{rest_view, macros_view, held_lists, reverse_push}
use Rattle.input_state.proofs.Sounds.{gone, push_shared, push_building, changed_sound}
use Rattle.input_state.proofs.lists_held.Held.drop_list.Goals as goal

pub abandon-requires : goal.abandon-requires
abandon-requires c =
    let i = c.self.inside in
    push_building i.lists i.stack (named i.table i.call) i.making i.builds.items c.pop.new.self.items c.in-Some.build c.in-Some.ensures.items c.self.invariant.shared

pub invariant_of-self : goal.invariant_of-self
invariant_of-self c =
    let i = c.self.inside in
    let a = c.in-Some.build in
    let new = c.abandon.new.lists in
    let rest = c.pop.new.self.items in
    let e = c.abandon.ensures in
    let xs = option_to_list i.making in
    let shared = push_shared i.lists i.stack (named i.table i.call) i.making i.builds.items rest a c.in-Some.ensures.items c.self.invariant.shared in
    let was = push_building i.lists i.stack (named i.table i.call) i.making i.builds.items rest a c.in-Some.ensures.items c.self.invariant.shared in
    let changed = gone i.lists new i.stack (named i.table i.call) xs (reverse rest) a shared was e.others e.account in
    changed_sound i.lists new i.stack (named i.table i.call) i.sizes _ _ e.length c.in-Some.ensures.capacity xs [] (reverse rest) i.making i.making rest i.builds.items refl changed c.self.invariant

pub returns-clause-after : goal.returns-clause-after
returns-clause-after c =
    let i = c.self.inside in
    let a = c.in-Some.build in
    let new = c.abandon.new.lists in
    let rest = c.pop.new.self.items in
    let e = c.abandon.ensures in
    let xs = option_to_list i.making in
    let shared = push_shared i.lists i.stack (named i.table i.call) i.making i.builds.items rest a c.in-Some.ensures.items c.self.invariant.shared in
    let was = push_building i.lists i.stack (named i.table i.call) i.making i.builds.items rest a c.in-Some.ensures.items c.self.invariant.shared in
    let changed = gone i.lists new i.stack (named i.table i.call) xs (reverse rest) a shared was e.others e.account in
    let p = pending i.lists i.stack in
    let old : List (List Token) → HeldLists = λ us. held_lists (fronts i.lists p.puts) (made_text i.lists i.making) (calling_of i.lists i.call) us (covers i.lists p.sources) i.table i.sizes (texts i.lists) in
    let first : lists_of i.lists p i.making i.builds.items (named i.table i.call) i.sizes ≡ old (text i.lists a ∷ map (text i.lists) (reverse rest)) = ap (λ bs. old (map (text i.lists) bs)) (reverse_push i.builds.items rest a c.in-Some.ensures.items) in
    rest_view i.lists new i.stack (named i.table i.call) i.sizes i.making rest changed
    ∙ ap (λ (v : HeldLists). record v { builds = drop 1 v.builds; lists = texts new }) (sym first ∙ c.self.view_is)

pub returns-clause-keeps : goal.returns-clause-keeps
returns-clause-keeps c =
    let i = c.self.inside in
    let a = c.in-Some.build in
    let new = c.abandon.new.lists in
    let rest = c.pop.new.self.items in
    let e = c.abandon.ensures in
    let xs = option_to_list i.making in
    let shared = push_shared i.lists i.stack (named i.table i.call) i.making i.builds.items rest a c.in-Some.ensures.items c.self.invariant.shared in
    let was = push_building i.lists i.stack (named i.table i.call) i.making i.builds.items rest a c.in-Some.ensures.items c.self.invariant.shared in
    let changed = gone i.lists new i.stack (named i.table i.call) xs (reverse rest) a shared was e.others e.account in
    macros_view i.lists new i.stack (named i.table i.call) i.sizes i.making i.builds.items xs [] (reverse rest) c.args.self.now changed c.self.view_is
