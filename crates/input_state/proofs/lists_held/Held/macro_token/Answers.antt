use Rattle.std.proofs.Common.{◌≡◌, ℕ, ◌∷◌, List, drop, sym, ap, ◌∙◌, subst}
use Rattle.std.proofs.Math.Seq.{drop-nil}
use Rattle.tex_defs.specs.declared.Token.{Token}
use Rattle.plain_tokens.specs.Meanings.{name_meaning}
use Rattle.token_lists.specs.Table.{tokens_at}
use Rattle.token_lists.specs.Ids.{id_of}
use Rattle.input_state.specs.HeldLists.{HeldLists}
use Rattle.input_state.specs.HeldViews.{texts}
use Rattle.input_state.specs.Calls.{text_of}
use Rattle.input_state.proofs.Called.{named_text}
use Rattle.input_state.proofs.Walking.{no_text}
use Rattle.input_state.proofs.lists_held.Held.macro_token.Goals as goal

pub returns-in_default : goal.returns-in_default
returns-in_default c =
    let i = c.self.inside in
    ap (λ (w : HeldLists). drop c.args.index (text_of w.lists w.groups.now.meanings c.args.name)) (sym c.self.view_is)
    ∙ ap (λ (ts : List Token). drop c.args.index ts) (no_text (texts i.lists) (name_meaning i.table.groups.now.meanings c.args.name) c.in_default.ensures.list)
    ∙ drop-nil c.args.index

pub returns-in-Some-next : goal.returns-in-Some-next
returns-in-Some-next c =
    let i = c.self.inside in
    let ts = tokens_at i.lists (id_of c.in-Some.list.now) in
    let text_is = named_text i.lists i.table c.args.name (id_of c.in-Some.list.now) c.args.self.now c.in-Some.ensures.list (ap (λ (w : HeldLists). w.lists) c.self.view_is) (ap (λ (w : HeldLists). w.groups) c.self.view_is) in
    let steps = c.in-Some-next.ensures (id_of c.in-Some.list.now) c.behind.ensures.on in
    subst (λ (us : List Token). drop c.args.index us ≡ c.in-Some-next.token ∷ drop c.index.result us) text_is
    (sym c.behind.ensures.rest ∙ steps.0 ∙ ap (λ (j : ℕ). c.in-Some-next.token ∷ drop j ts) (sym c.index.ensures))

pub returns-in-None : goal.returns-in-None
returns-in-None c =
    let i = c.self.inside in
    let text_is = named_text i.lists i.table c.args.name (id_of c.in-Some.list.now) c.args.self.now c.in-Some.ensures.list (ap (λ (w : HeldLists). w.lists) c.self.view_is) (ap (λ (w : HeldLists). w.groups) c.self.view_is) in
    let past = c.in-None.ensures (id_of c.in-Some.list.now) c.behind.ensures.on in
    ap (λ (us : List Token). drop c.args.index us) (sym text_is) ∙ sym c.behind.ensures.rest ∙ past
