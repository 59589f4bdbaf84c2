use Rattle.std.proofs.Common.{◌≡◌, ℕ, true, refl, ap, subst, ◌∙◌, Some}
use Rattle.plain_tokens.specs.Meanings.{is_listed}
use Rattle.equivalents.specs.Groups.{Groups}
use Rattle.equivalents.specs.Holding.{lists_held, lists_outside}
use Rattle.input_state.specs.HeldLists.{HeldLists}
use Rattle.tex_defs.specs.declared.Meaning.TheVariants as means
use Rattle.token_lists.specs.Ids.{id_of}
use Rattle.equivalents.specs.declared.values.Loc.{Loc}
use Rattle.equivalents.specs.declared.values.Val.TheVariants as val
use Rattle.input_state.specs.HeldViews.{named}
use Rattle.input_state.proofs.Sounds.{push_building}
use Rattle.input_state.proofs.Assigning.{placed_in}
use Rattle.input_state.proofs.Defining.{covered_now, taken_sound, taken_uncalled, taken_view, taken_macros, defines_now}
use Rattle.input_state.proofs.lists_held.Held.define.Goals as goal

pub finish-requires : goal.finish-requires
finish-requires c =
    let i = c.self.inside in
    push_building i.lists i.stack (named i.table i.call) i.making i.builds.items c.pop.new.self.items c.in-Some.build c.in-Some.ensures.items c.self.invariant.shared

pub assign-requires-clause-covered : goal.assign-requires-clause-covered
assign-requires-clause-covered c =
    let i = c.self.inside in
    covered_now i.lists i.stack (named i.table i.call) i.making i.builds.items c.pop.new.self.items c.in-Some.build c.in-Some.ensures.items c.self.invariant.shared (val.Meant (means.Macro c.args.long c.args.outer (Some (id_of c.finish.result)))) (ap (λ (h : ℕ). Some h) c.finish.ensures.same)

pub invariant_of-self : goal.invariant_of-self
invariant_of-self c =
    let i = c.self.inside in
    let e = c.assign.ensures in
    taken_sound i.lists c.assign.new.lists i.stack (named i.table i.call) (named c.assign.new.table i.call) i.making i.builds.items c.pop.new.self.items c.in-Some.build c.in-Some.ensures.items i.sizes _ _ c.self.invariant c.in-Some.ensures.capacity c.args.self.now c.self.view_is (val.Meant (means.Macro c.args.long c.args.outer (Some (id_of c.finish.result)))) (ap (λ (h : ℕ). Some h) c.finish.ensures.same) c.requires.list c.args.global c.in_ok-loc.loc e.after refl (record { moves = e.account; keeps = e.kept; lasting = e.lasting; fewer = e.fewer; size = e.length }) e.stored
    (taken_uncalled i.lists c.assign.new.lists i.stack (named i.table i.call) (named c.assign.new.table i.call) i.making i.builds.items c.pop.new.self.items c.in-Some.build c.in-Some.ensures.items i.sizes _ _ c.self.invariant c.in-Some.ensures.capacity c.args.self.now c.self.view_is (val.Meant (means.Macro c.args.long c.args.outer (Some (id_of c.finish.result)))) (ap (λ (h : ℕ). Some h) c.finish.ensures.same) c.requires.list c.args.global c.in_ok-loc.loc e.after refl (record { moves = e.account; keeps = e.kept; lasting = e.lasting; fewer = e.fewer; size = e.length }) e.stored c.requires.calls)

pub returns-clause-ok : goal.returns-clause-ok
returns-clause-ok c =
    let i = c.self.inside in
    let e = c.assign.ensures in
    taken_view i.lists c.assign.new.lists i.stack (named i.table i.call) (named c.assign.new.table i.call) i.making i.builds.items c.pop.new.self.items c.in-Some.build c.in-Some.ensures.items i.sizes _ _ c.self.invariant c.in-Some.ensures.capacity c.args.self.now c.self.view_is (val.Meant (means.Macro c.args.long c.args.outer (Some (id_of c.finish.result)))) (ap (λ (h : ℕ). Some h) c.finish.ensures.same) c.requires.list c.args.global c.in_ok-loc.loc e.after refl (record { moves = e.account; keeps = e.kept; lasting = e.lasting; fewer = e.fewer; size = e.length }) e.stored

pub returns-clause-keeps : goal.returns-clause-keeps
returns-clause-keeps c =
    let i = c.self.inside in
    let e = c.assign.ensures in
    taken_macros i.lists c.assign.new.lists i.stack (named i.table i.call) (named c.assign.new.table i.call) i.making i.builds.items c.pop.new.self.items c.in-Some.build c.in-Some.ensures.items i.sizes _ _ c.self.invariant c.in-Some.ensures.capacity c.args.self.now c.self.view_is (val.Meant (means.Macro c.args.long c.args.outer (Some (id_of c.finish.result)))) (ap (λ (h : ℕ). Some h) c.finish.ensures.same) c.requires.list c.args.global c.in_ok-loc.loc e.after refl (record { moves = e.account; keeps = e.kept; lasting = e.lasting; fewer = e.fewer; size = e.length }) e.stored

pub returns-clause-defines : goal.returns-clause-defines
returns-clause-defines c =
    let i = c.self.inside in
    let e = c.assign.ensures in
    let p = c.in_ok-loc.ensures.place in
    defines_now i.lists c.assign.new.lists i.stack (named i.table i.call) (named c.assign.new.table i.call) i.making i.builds.items c.pop.new.self.items c.in-Some.build c.in-Some.ensures.items i.sizes _ _ c.self.invariant c.in-Some.ensures.capacity c.args.self.now c.self.view_is c.args.name c.args.long c.args.outer c.args.global (id_of c.finish.result) p.number c.finish.ensures.same c.requires.list p.placed (e.after ∙ ap (λ (l : Loc). placed_in c.args.global i.table l (val.Meant (means.Macro c.args.long c.args.outer (Some (id_of c.finish.result))))) p.is) refl (record { moves = e.account; keeps = e.kept; lasting = e.lasting; fewer = e.fewer; size = e.length }) e.stored p.within
    (subst (λ (g : Groups). (h : ℕ) → is_listed (lists_outside g.outer) h ≡ true → is_listed (lists_held g) h ≡ true) (ap (λ (w : HeldLists). w.groups) c.self.view_is) c.recall.ensures.outside)
