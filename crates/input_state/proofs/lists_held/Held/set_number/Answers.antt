use Rattle.std.proofs.Common.{ℤ, refl, sym, ap, ◌∙◌, subst, to_z, of_z, w32, arith}
use Rattle.std.proofs.lemmas.Int.{to_z-of_z}
use Rattle.equivalents.specs.declared.values.Val.TheVariants as val
use Rattle.eqtb_save.specs.Table.{Table}
use Rattle.equivalents.specs.Locations.{Suits}
use Rattle.equivalents.specs.Groups.{set}
use Rattle.input_state.specs.HeldViews.{named, texts}
use Rattle.input_state.proofs.Assigning.{set_other}
use Rattle.input_state.proofs.Letting.{set_sound, let_view, let_macros}
use Rattle.input_state.proofs.lists_held.Held.set_number.Goals as goal

pub invariant_of-self : goal.invariant_of-self
invariant_of-self c =
    let i = c.self.inside in
    let e = c.assign.ensures in
    set_sound i.lists i.lists c.assign.new.lists i.stack (named i.table i.call) (named c.assign.new.table i.call) i.making i.builds.items i.sizes _ c.self.invariant c.args.self.now c.self.view_is (val.Number (to_z w32 (of_z w32 c.args.number))) (λ h. omega arith) (λ h. refl) (record { tokens = λ h l. refl; places = λ h l. refl }) refl c.args.global c.args.loc e.after refl (record { moves = e.account; keeps = e.kept; lasting = e.lasting; fewer = e.fewer; size = e.length })
    (ap (λ (t : Table). t.groups.now.meanings) e.after ∙ set_other c.args.global i.table.groups c.args.loc (val.Number (to_z w32 (of_z w32 c.args.number))) (subst (λ (n : ℤ). Suits c.args.loc (val.Number n)) (sym (to_z-of_z w32 c.args.number c.ranges.number)) c.requires.suits) (λ e. e))

pub returns-clause-ok : goal.returns-clause-ok
returns-clause-ok c =
    let i = c.self.inside in
    let e = c.assign.ensures in
    let_view i.lists i.lists c.assign.new.lists i.stack (named i.table i.call) (named c.assign.new.table i.call) i.making i.builds.items i.sizes _ c.self.invariant c.args.self.now c.self.view_is (val.Number (to_z w32 (of_z w32 c.args.number))) (λ h. omega arith) (λ h. refl) (record { tokens = λ h l. refl; places = λ h l. refl }) refl c.args.global c.args.loc e.after refl (record { moves = e.account; keeps = e.kept; lasting = e.lasting; fewer = e.fewer; size = e.length })
    ∙ ap (λ (n : ℤ). record c.args.self.now { groups = set c.args.global c.args.self.now.groups c.args.loc (val.Number n); lists = texts c.assign.new.lists }) (to_z-of_z w32 c.args.number c.ranges.number)

pub returns-clause-keeps : goal.returns-clause-keeps
returns-clause-keeps c =
    let i = c.self.inside in
    let e = c.assign.ensures in
    let_macros i.lists i.lists c.assign.new.lists i.stack (named i.table i.call) (named c.assign.new.table i.call) i.making i.builds.items i.sizes _ c.self.invariant c.args.self.now c.self.view_is (val.Number (to_z w32 (of_z w32 c.args.number))) (λ h. omega arith) (λ h. refl) (record { tokens = λ h l. refl; places = λ h l. refl }) refl c.args.global c.args.loc e.after refl (record { moves = e.account; keeps = e.kept; lasting = e.lasting; fewer = e.fewer; size = e.length })
