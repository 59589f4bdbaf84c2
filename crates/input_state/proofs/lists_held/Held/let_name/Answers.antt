use Rattle.std.proofs.Common.{ℕ, refl, ap, ◌∙◌, Option}
use Rattle.tex_defs.specs.declared.Meaning.{Meaning}
use Rattle.plain_tokens.specs.Meanings.{meaning_to_let}
use Rattle.meanings.specs.Kept.{numbered_meaning}
use Rattle.equivalents.specs.declared.values.Val.TheVariants as val
use Rattle.equivalents.specs.Groups.{set_name}
use Rattle.equivalents.specs.Holding.{list_of}
use Rattle.input_state.specs.HeldLists.{HeldLists}
use Rattle.input_state.specs.HeldViews.{named, texts}
use Rattle.input_state.proofs.CallKept.{countable_now}
use Rattle.input_state.proofs.Letting.{if_each, shared_size, let_sound, let_view, let_macros, named_groups}
use Rattle.input_state.proofs.lists_held.Held.let_name.Goals as goal

pub to_let-meaning-requires-clause-countable : goal.to_let-meaning-requires-clause-countable
to_let-meaning-requires-clause-countable c =
    let i = c.self.inside in
    if_each _ (list_of (meaning_to_let i.table.groups.now.meanings c.args.x)) (countable_now i.lists i.stack i.making i.builds.items (named i.table i.call) i.sizes _ c.self.invariant c.recall.ensures.bounded)

pub invariant_of-self : goal.invariant_of-self
invariant_of-self c =
    let i = c.self.inside in
    let t = c.to_let-meaning.ensures in
    let e = c.assign.ensures in
    let_sound i.lists c.to_let-meaning.new.lists c.assign.new.lists i.stack (named i.table i.call) (named c.assign.new.table i.call) i.making i.builds.items i.sizes _ c.self.invariant c.args.self.now c.self.view_is (val.Meant (numbered_meaning c.to_let-meaning.result)) t.held t.account t.kept (shared_size i.lists c.to_let-meaning.new.lists _ t.after) c.args.global c.in_ok-loc.loc e.after refl (record { moves = e.account; keeps = e.kept; lasting = e.lasting; fewer = e.fewer; size = e.length }) c.requires.calls

pub returns-clause-ok : goal.returns-clause-ok
returns-clause-ok c =
    let i = c.self.inside in
    let t = c.to_let-meaning.ensures in
    let e = c.assign.ensures in
    let_view i.lists c.to_let-meaning.new.lists c.assign.new.lists i.stack (named i.table i.call) (named c.assign.new.table i.call) i.making i.builds.items i.sizes _ c.self.invariant c.args.self.now c.self.view_is (val.Meant (numbered_meaning c.to_let-meaning.result)) t.held t.account t.kept (shared_size i.lists c.to_let-meaning.new.lists _ t.after) c.args.global c.in_ok-loc.loc e.after refl (record { moves = e.account; keeps = e.kept; lasting = e.lasting; fewer = e.fewer; size = e.length })
    ∙ named_groups c.args.global c.args.self.now c.args.name (numbered_meaning c.to_let-meaning.result) c.in_ok-loc.loc c.assign.new.lists c.in_ok-loc.ensures.place
    ∙ ap (λ (m : Meaning (Option ℕ)). record c.args.self.now { groups = set_name c.args.global c.args.self.now.groups c.args.name m; lists = texts c.assign.new.lists }) (t.same ∙ ap (λ (w : HeldLists). meaning_to_let w.groups.now.meanings c.args.x) c.self.view_is)

pub returns-clause-keeps : goal.returns-clause-keeps
returns-clause-keeps c =
    let i = c.self.inside in
    let t = c.to_let-meaning.ensures in
    let e = c.assign.ensures in
    let_macros i.lists c.to_let-meaning.new.lists c.assign.new.lists i.stack (named i.table i.call) (named c.assign.new.table i.call) i.making i.builds.items i.sizes _ c.self.invariant c.args.self.now c.self.view_is (val.Meant (numbered_meaning c.to_let-meaning.result)) t.held t.account t.kept (shared_size i.lists c.to_let-meaning.new.lists _ t.after) c.args.global c.in_ok-loc.loc e.after refl (record { moves = e.account; keeps = e.kept; lasting = e.lasting; fewer = e.fewer; size = e.length })
