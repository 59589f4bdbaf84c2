use Rattle.std.proofs.Common.{sym, ap, ◌∙◌}
use Rattle.tex_defs.specs.declared.Seen.{Seen}
use Rattle.plain_tokens.specs.Meanings.{meaning_to_let}
use Rattle.token_lists.specs.Ids.{id_of}
use Rattle.equivalents.specs.Holding.{list_of}
use Rattle.input_state.specs.HeldLists.{HeldLists}
use Rattle.input_state.proofs.Alike.{both, first, second}
use Rattle.input_state.proofs.lists_held.Held.same_list.Goals as goal

pub returns-in-Some-Some : goal.returns-in-Some-Some
returns-in-Some-Some c =
    let i = c.self.inside in
    let v = c.args.self.now in
    let lists = ap (λ (w : HeldLists). w.lists) c.self.view_is in
    let groups = λ (x : Seen). sym (ap (λ (w : HeldLists). list_of (meaning_to_let w.groups.now.meanings x)) c.self.view_is) in
    both i.lists v.lists lists (meaning_to_let v.groups.now.meanings c.args.x) (meaning_to_let v.groups.now.meanings c.args.y) (id_of c.in-Some-Some.a.now) (id_of c.in-Some-Some.b.now) c.same.result
    (groups c.args.x ∙ c.in-Some-Some.ensures.list) (groups c.args.y ∙ c.in-Some-Some.ensures'.list) c.same.ensures

pub returns-in_default : goal.returns-in_default
returns-in_default c =
    let i = c.self.inside in
    let v = c.args.self.now in
    let lists = ap (λ (w : HeldLists). w.lists) c.self.view_is in
    let groups = λ (x : Seen). sym (ap (λ (w : HeldLists). list_of (meaning_to_let w.groups.now.meanings x)) c.self.view_is) in
    let id = id_of c.in_default.field-0-0.now in
    first i.lists v.lists lists (meaning_to_let v.groups.now.meanings c.args.x) (meaning_to_let v.groups.now.meanings c.args.y) id
    (groups c.args.x ∙ c.in_default.ensures.list) (c.self.invariant.shared.all_lists id c.in_default.ensures.held) (groups c.args.y ∙ c.in_default.ensures'.list)

pub returns-in_default-2 : goal.returns-in_default-2
returns-in_default-2 c =
    let i = c.self.inside in
    let v = c.args.self.now in
    let lists = ap (λ (w : HeldLists). w.lists) c.self.view_is in
    let groups = λ (x : Seen). sym (ap (λ (w : HeldLists). list_of (meaning_to_let w.groups.now.meanings x)) c.self.view_is) in
    let id = id_of c.in_default.field-0-1.now in
    second i.lists v.lists lists (meaning_to_let v.groups.now.meanings c.args.x) (meaning_to_let v.groups.now.meanings c.args.y) id
    (groups c.args.x ∙ c.in_default.ensures.list) (groups c.args.y ∙ c.in_default.ensures'.list) (c.self.invariant.shared.all_lists id c.in_default.ensures'.held)
