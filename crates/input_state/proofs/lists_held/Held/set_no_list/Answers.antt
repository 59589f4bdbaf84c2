use Rattle.std.proofs.Common.{None, refl, ap, ◌∙◌, arith}
use Rattle.equivalents.specs.declared.values.Val.TheVariants as val
use Rattle.eqtb_save.specs.Table.{Table}
use Rattle.input_state.specs.HeldViews.{named}
use Rattle.input_state.proofs.Assigning.{set_other}
use Rattle.input_state.proofs.Letting.{set_sound, let_view, let_macros}
use Rattle.input_state.proofs.lists_held.Held.set_no_list.Goals as goal

pub invariant_of-self : goal.invariant_of-self
invariant_of-self c =
    let i = c.self.inside in
    let e = c.assign.ensures in
    set_sound i.lists i.lists c.assign.new.lists i.stack (named i.table i.call) (named c.assign.new.table i.call) i.making i.builds.items i.sizes _ c.self.invariant c.args.self.now c.self.view_is (val.Tokens None) (λ h. omega arith) (λ h. refl) (record { tokens = λ h l. refl; places = λ h l. refl }) refl c.args.global c.args.loc e.after refl (record { moves = e.account; keeps = e.kept; lasting = e.lasting; fewer = e.fewer; size = e.length })
    (ap (λ (t : Table). t.groups.now.meanings) e.after ∙ set_other c.args.global i.table.groups c.args.loc (val.Tokens None) c.requires.suits (λ m. m))

pub returns-clause-ok : goal.returns-clause-ok
returns-clause-ok c =
    let i = c.self.inside in
    let e = c.assign.ensures in
    let_view i.lists i.lists c.assign.new.lists i.stack (named i.table i.call) (named c.assign.new.table i.call) i.making i.builds.items i.sizes _ c.self.invariant c.args.self.now c.self.view_is (val.Tokens None) (λ h. omega arith) (λ h. refl) (record { tokens = λ h l. refl; places = λ h l. refl }) refl c.args.global c.args.loc e.after refl (record { moves = e.account; keeps = e.kept; lasting = e.lasting; fewer = e.fewer; size = e.length })

pub returns-clause-keeps : goal.returns-clause-keeps
returns-clause-keeps c =
    let i = c.self.inside in
    let e = c.assign.ensures in
    let_macros i.lists i.lists c.assign.new.lists i.stack (named i.table i.call) (named c.assign.new.table i.call) i.making i.builds.items i.sizes _ c.self.invariant c.args.self.now c.self.view_is (val.Tokens None) (λ h. omega arith) (λ h. refl) (record { tokens = λ h l. refl; places = λ h l. refl }) refl c.args.global c.args.loc e.after refl (record { moves = e.account; keeps = e.kept; lasting = e.lasting; fewer = e.fewer; size = e.length })
