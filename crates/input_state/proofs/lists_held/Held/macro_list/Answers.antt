use Rattle.std.proofs.Common.{ap, ◌∙◌, sym, arith}
use Rattle.std.proofs.lemmas.Option.{IfSome_then}
use Rattle.plain_tokens.specs.Meanings.{name_meaning}
use Rattle.token_lists.specs.Ids.{id_of}
use Rattle.input_state.specs.HeldLists.{HeldLists}
use Rattle.input_state.specs.HeldViews.{texts}
use Rattle.input_state.specs.Calls.{text_of}
use Rattle.input_state.proofs.Called.{named_text}
use Rattle.input_state.proofs.Walking.{no_text, option_then}
use Rattle.input_state.proofs.lists_held.Held.macro_list.Goals as goal

pub returns-clause-held : goal.returns-clause-held
returns-clause-held c = IfSome_then c.list.result c.list.ensures.held (λ r some. omega (arith, some, c.self.invariant.shared.counted (id_of r.now)))

pub returns-clause-tokens : goal.returns-clause-tokens
returns-clause-tokens c =
    let i = c.self.inside in
    let lists = ap (λ (w : HeldLists). w.lists) c.self.view_is in
    let groups = ap (λ (w : HeldLists). w.groups) c.self.view_is in
    option_then c.list.result c.list.ensures.list
    (λ none. sym (ap (λ (w : HeldLists). text_of w.lists w.groups.now.meanings c.args.name) c.self.view_is) ∙ no_text (texts i.lists) (name_meaning i.table.groups.now.meanings c.args.name) none)
    (λ r some. named_text i.lists i.table c.args.name (id_of r.now) c.args.self.now some lists groups)
