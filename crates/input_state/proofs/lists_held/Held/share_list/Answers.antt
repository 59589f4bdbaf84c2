use Rattle.std.proofs.Common.{refl, sym, ap, ◌∙◌, subst, arith}
use Rattle.equivalents.specs.Locations.{V, Suits, IsTokens}
use Rattle.equivalents.specs.Tables.{get}
use Rattle.equivalents.specs.Groups.{set}
use Rattle.equivalents.specs.Holding.{value_list}
use Rattle.eqtb_save.specs.Table.{Table}
use Rattle.eqtb_save.specs.Values.{numbered_value}
use Rattle.eqtb_save.specs.Holding.{val_holds}
use Rattle.input_state.specs.HeldLists.{HeldLists}
use Rattle.input_state.specs.HeldViews.{named, texts}
use Rattle.input_state.proofs.Assigning.{set_other}
use Rattle.input_state.proofs.CallKept.{countable_now}
use Rattle.input_state.proofs.Letting.{if_each, no_meaning, shared_size, set_sound, let_view, let_macros}
use Rattle.input_state.proofs.lists_held.Held.share_list.Goals as goal

pub shared-value-requires-clause-countable : goal.shared-value-requires-clause-countable
shared-value-requires-clause-countable c =
    let i = c.self.inside in
    if_each _ (value_list (get i.table.groups.now c.args.from)) (countable_now i.lists i.stack i.making i.builds.items (named i.table i.call) i.sizes _ c.self.invariant c.recall.ensures.bounded)

pub assign-requires-clause-suits : goal.assign-requires-clause-suits
assign-requires-clause-suits c = subst (Suits c.args.loc) (ap (λ (w : HeldLists). get w.groups.now c.args.from) (sym c.self.view_is) ∙ sym c.shared-value.ensures.same) c.requires.suits

pub invariant_of-self : goal.invariant_of-self
invariant_of-self c =
    let i = c.self.inside in
    let t = c.shared-value.ensures in
    let e = c.assign.ensures in
    let same = ap (λ (w : HeldLists). get w.groups.now c.args.from) (sym c.self.view_is) ∙ sym t.same in
    set_sound i.lists c.shared-value.new.lists c.assign.new.lists i.stack (named i.table i.call) (named c.assign.new.table i.call) i.making i.builds.items i.sizes _ c.self.invariant c.args.self.now c.self.view_is (numbered_value c.shared-value.result) (λ h. omega (arith, c.get-from.ensures.held h, ap (λ (v : V). val_holds v h) (t.same ∙ sym c.get-from.ensures.value))) t.account t.kept (shared_size i.lists c.shared-value.new.lists _ t.after) c.args.global c.args.loc e.after refl (record { moves = e.account; keeps = e.kept; lasting = e.lasting; fewer = e.fewer; size = e.length })
    (ap (λ (k : Table). k.groups.now.meanings) e.after ∙ set_other c.args.global i.table.groups c.args.loc (numbered_value c.shared-value.result) (subst (Suits c.args.loc) same c.requires.suits) (no_meaning (numbered_value c.shared-value.result) (subst IsTokens same c.requires.list)))

pub returns-clause-ok : goal.returns-clause-ok
returns-clause-ok c =
    let i = c.self.inside in
    let t = c.shared-value.ensures in
    let e = c.assign.ensures in
    let_view i.lists c.shared-value.new.lists c.assign.new.lists i.stack (named i.table i.call) (named c.assign.new.table i.call) i.making i.builds.items i.sizes _ c.self.invariant c.args.self.now c.self.view_is (numbered_value c.shared-value.result) (λ h. omega (arith, c.get-from.ensures.held h, ap (λ (v : V). val_holds v h) (t.same ∙ sym c.get-from.ensures.value))) t.account t.kept (shared_size i.lists c.shared-value.new.lists _ t.after) c.args.global c.args.loc e.after refl (record { moves = e.account; keeps = e.kept; lasting = e.lasting; fewer = e.fewer; size = e.length })
    ∙ ap (λ (v : V). let w : HeldLists = record c.args.self.now { groups = set c.args.global c.args.self.now.groups c.args.loc v; lists = texts c.assign.new.lists } in w) (t.same ∙ ap (λ (w : HeldLists). get w.groups.now c.args.from) c.self.view_is)

pub returns-clause-keeps : goal.returns-clause-keeps
returns-clause-keeps c =
    let i = c.self.inside in
    let t = c.shared-value.ensures in
    let e = c.assign.ensures in
    let_macros i.lists c.shared-value.new.lists c.assign.new.lists i.stack (named i.table i.call) (named c.assign.new.table i.call) i.making i.builds.items i.sizes _ c.self.invariant c.args.self.now c.self.view_is (numbered_value c.shared-value.result) (λ h. omega (arith, c.get-from.ensures.held h, ap (λ (v : V). val_holds v h) (t.same ∙ sym c.get-from.ensures.value))) t.account t.kept (shared_size i.lists c.shared-value.new.lists _ t.after) c.args.global c.args.loc e.after refl (record { moves = e.account; keeps = e.kept; lasting = e.lasting; fewer = e.fewer; size = e.length })
