use Rattle.std.proofs.Common.{◌≡◌, ℕ, true, refl, ap, subst, ◌∙◌, Some}
use Rattle.plain_tokens.specs.Meanings.{is_listed}
use Rattle.equivalents.specs.Groups.{Groups}
use Rattle.equivalents.specs.Holding.{lists_held, lists_outside}
use Rattle.input_state.specs.HeldLists.{HeldLists}
use Rattle.token_lists.specs.Ids.{id_of}
use Rattle.equivalents.specs.declared.values.Val.TheVariants as val
use Rattle.eqtb_save.specs.Table.{Table}
use Rattle.input_state.specs.HeldViews.{named}
use Rattle.input_state.proofs.Sounds.{push_building}
use Rattle.input_state.proofs.Assigning.{set_other, list_suits}
use Rattle.input_state.proofs.Defining.{covered_now, taken_sound, taken_called, taken_view, taken_macros, sets_now}
use Rattle.input_state.proofs.lists_held.Held.set_list.Goals as goal

pub finish-requires : goal.finish-requires
finish-requires c =
    let i = c.self.inside in
    push_building i.lists i.stack (named i.table i.call) i.making i.builds.items c.pop.new.self.items c.in-Some.build c.in-Some.ensures.items c.self.invariant.shared

pub assign-requires-clause-suits : goal.assign-requires-clause-suits
assign-requires-clause-suits c = list_suits c.args.loc (Some (id_of c.finish.result)) c.requires.suits

pub assign-requires-clause-covered : goal.assign-requires-clause-covered
assign-requires-clause-covered c =
    let i = c.self.inside in
    covered_now i.lists i.stack (named i.table i.call) i.making i.builds.items c.pop.new.self.items c.in-Some.build c.in-Some.ensures.items c.self.invariant.shared (val.Tokens (Some (id_of c.finish.result))) (ap (λ (h : ℕ). Some h) c.finish.ensures.same)

pub invariant_of-self : goal.invariant_of-self
invariant_of-self c =
    let i = c.self.inside in
    let e = c.assign.ensures in
    let suits = list_suits c.args.loc (Some (id_of c.finish.result)) c.requires.suits in
    taken_sound i.lists c.assign.new.lists i.stack (named i.table i.call) (named c.assign.new.table i.call) i.making i.builds.items c.pop.new.self.items c.in-Some.build c.in-Some.ensures.items i.sizes _ _ c.self.invariant c.in-Some.ensures.capacity c.args.self.now c.self.view_is (val.Tokens (Some (id_of c.finish.result))) (ap (λ (h : ℕ). Some h) c.finish.ensures.same) c.requires.list c.args.global c.args.loc e.after refl (record { moves = e.account; keeps = e.kept; lasting = e.lasting; fewer = e.fewer; size = e.length }) e.stored
    (taken_called i.lists c.assign.new.lists i.stack (named i.table i.call) (named c.assign.new.table i.call) i.making i.builds.items c.pop.new.self.items c.in-Some.build c.in-Some.ensures.items i.sizes _ _ c.self.invariant c.in-Some.ensures.capacity c.args.self.now c.self.view_is (val.Tokens (Some (id_of c.finish.result))) (ap (λ (h : ℕ). Some h) c.finish.ensures.same) c.requires.list c.args.global c.args.loc e.after refl (record { moves = e.account; keeps = e.kept; lasting = e.lasting; fewer = e.fewer; size = e.length }) e.stored (ap (λ (t : Table). t.groups.now.meanings) e.after ∙ set_other c.args.global i.table.groups c.args.loc (val.Tokens (Some (id_of c.finish.result))) suits (λ e. e)))

pub returns-clause-ok : goal.returns-clause-ok
returns-clause-ok c =
    let i = c.self.inside in
    let e = c.assign.ensures in
    taken_view i.lists c.assign.new.lists i.stack (named i.table i.call) (named c.assign.new.table i.call) i.making i.builds.items c.pop.new.self.items c.in-Some.build c.in-Some.ensures.items i.sizes _ _ c.self.invariant c.in-Some.ensures.capacity c.args.self.now c.self.view_is (val.Tokens (Some (id_of c.finish.result))) (ap (λ (h : ℕ). Some h) c.finish.ensures.same) c.requires.list c.args.global c.args.loc e.after refl (record { moves = e.account; keeps = e.kept; lasting = e.lasting; fewer = e.fewer; size = e.length }) e.stored

pub returns-clause-keeps : goal.returns-clause-keeps
returns-clause-keeps c =
    let i = c.self.inside in
    let e = c.assign.ensures in
    taken_macros i.lists c.assign.new.lists i.stack (named i.table i.call) (named c.assign.new.table i.call) i.making i.builds.items c.pop.new.self.items c.in-Some.build c.in-Some.ensures.items i.sizes _ _ c.self.invariant c.in-Some.ensures.capacity c.args.self.now c.self.view_is (val.Tokens (Some (id_of c.finish.result))) (ap (λ (h : ℕ). Some h) c.finish.ensures.same) c.requires.list c.args.global c.args.loc e.after refl (record { moves = e.account; keeps = e.kept; lasting = e.lasting; fewer = e.fewer; size = e.length }) e.stored

pub returns-clause-sets : goal.returns-clause-sets
returns-clause-sets c =
    let i = c.self.inside in
    let e = c.assign.ensures in
    sets_now i.lists c.assign.new.lists i.stack (named i.table i.call) (named c.assign.new.table i.call) i.making i.builds.items c.pop.new.self.items c.in-Some.build c.in-Some.ensures.items i.sizes _ _ c.self.invariant c.in-Some.ensures.capacity c.args.self.now c.self.view_is c.args.global c.args.loc (id_of c.finish.result) c.finish.ensures.same c.requires.list e.after refl (record { moves = e.account; keeps = e.kept; lasting = e.lasting; fewer = e.fewer; size = e.length }) e.stored
    (subst (λ (g : Groups). (h : ℕ) → is_listed (lists_outside g.outer) h ≡ true → is_listed (lists_held g) h ≡ true) (ap (λ (w : HeldLists). w.groups) c.self.view_is) c.recall.ensures.outside)
