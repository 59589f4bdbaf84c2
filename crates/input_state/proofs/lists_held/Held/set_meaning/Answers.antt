use Rattle.std.proofs.Common.{ℕ, refl, ap, ◌∙◌, Option}
use Rattle.tex_defs.specs.declared.Meaning.{Meaning}
use Rattle.meanings.specs.Kept.{numbered_meaning}
use Rattle.equivalents.specs.declared.values.Val.TheVariants as val
use Rattle.equivalents.specs.Groups.{set_name}
use Rattle.eqtb_save.specs.Holding.{held}
use Rattle.input_state.specs.HeldViews.{named, texts}
use Rattle.input_state.proofs.Letting.{table_covered, let_sound, let_view, let_macros, named_groups}
use Rattle.input_state.proofs.Listless.{holds_within, moves_none, covers_none}
use Rattle.input_state.proofs.lists_held.Held.set_meaning.Goals as goal

pub assign-requires-clause-covered : goal.assign-requires-clause-covered
assign-requires-clause-covered c =
    let i = c.self.inside in
    let n : Meaning (Option ℕ) = numbered_meaning c.without_list.result in
    covers_none n c.args.meaning c.without_list.ensures i.lists (held i.table) (table_covered i.lists i.stack i.making i.builds.items (named i.table i.call) i.sizes _ c.self.invariant)

pub invariant_of-self : goal.invariant_of-self
invariant_of-self c =
    let i = c.self.inside in
    let n : Meaning (Option ℕ) = numbered_meaning c.without_list.result in
    let e = c.assign.ensures in
    let_sound i.lists i.lists c.assign.new.lists i.stack (named i.table i.call) (named c.assign.new.table i.call) i.making i.builds.items i.sizes _ c.self.invariant c.args.self.now c.self.view_is (val.Meant n) (holds_within n c.args.meaning c.without_list.ensures (held i.table)) (moves_none n c.args.meaning c.without_list.ensures i.lists) (record { tokens = λ h l. refl; places = λ h l. refl }) refl c.args.global c.in_ok-loc.loc e.after refl (record { moves = e.account; keeps = e.kept; lasting = e.lasting; fewer = e.fewer; size = e.length }) c.requires.calls

pub returns-clause-ok : goal.returns-clause-ok
returns-clause-ok c =
    let i = c.self.inside in
    let n : Meaning (Option ℕ) = numbered_meaning c.without_list.result in
    let e = c.assign.ensures in
    let_view i.lists i.lists c.assign.new.lists i.stack (named i.table i.call) (named c.assign.new.table i.call) i.making i.builds.items i.sizes _ c.self.invariant c.args.self.now c.self.view_is (val.Meant n) (holds_within n c.args.meaning c.without_list.ensures (held i.table)) (moves_none n c.args.meaning c.without_list.ensures i.lists) (record { tokens = λ h l. refl; places = λ h l. refl }) refl c.args.global c.in_ok-loc.loc e.after refl (record { moves = e.account; keeps = e.kept; lasting = e.lasting; fewer = e.fewer; size = e.length })
    ∙ named_groups c.args.global c.args.self.now c.args.name n c.in_ok-loc.loc c.assign.new.lists c.in_ok-loc.ensures.place
    ∙ ap (λ (m : Meaning (Option ℕ)). record c.args.self.now { groups = set_name c.args.global c.args.self.now.groups c.args.name m; lists = texts c.assign.new.lists }) c.without_list.ensures

pub returns-clause-keeps : goal.returns-clause-keeps
returns-clause-keeps c =
    let i = c.self.inside in
    let n : Meaning (Option ℕ) = numbered_meaning c.without_list.result in
    let e = c.assign.ensures in
    let_macros i.lists i.lists c.assign.new.lists i.stack (named i.table i.call) (named c.assign.new.table i.call) i.making i.builds.items i.sizes _ c.self.invariant c.args.self.now c.self.view_is (val.Meant n) (holds_within n c.args.meaning c.without_list.ensures (held i.table)) (moves_none n c.args.meaning c.without_list.ensures i.lists) (record { tokens = λ h l. refl; places = λ h l. refl }) refl c.args.global c.in_ok-loc.loc e.after refl (record { moves = e.account; keeps = e.kept; lasting = e.lasting; fewer = e.fewer; size = e.length })
