use Rattle.std.proofs.Common.{sym, ap, ◌∙◌}
use Rattle.token_lists.specs.Ids.{id_of}
use Rattle.token_lists.specs.Table.{tokens_at}
use Rattle.input_state.specs.Calls.{text_of}
use Rattle.engine_state.proofs.MeaningTexts.{given_text, given_none, is_macro, no_macro}
use Rattle.engine_state.proofs.Showing.{listed_tokens}
use Rattle.engine_state.proofs.text.given_list.Goals as goal

pub returns-in-Macro-clause-tokens : goal.returns-in-Macro-clause-tokens
returns-in-Macro-clause-tokens c = let i = c.args.input.now in let m = c.given_meaning in
    listed_tokens (λ r. tokens_at c.macro_list.result.0.now (id_of r.now)) c.macro_list.result.1 _ c.macro_list.ensures.tokens
    ∙ ap (text_of i.lists i.groups.now.meanings) c.name_of.ensures
    ∙ given_text i.lists i.groups.now.meanings c.args.x m.result m.ensures (is_macro m.result c.in-Macro.long c.in-Macro.outer c.in-Macro.list c.in-Macro.is)

pub returns-in_default-clause-tokens : goal.returns-in_default-clause-tokens
returns-in_default-clause-tokens c = let i = c.args.input.now in let m = c.given_meaning in
    sym (given_none i.lists i.groups.now.meanings c.args.x m.result m.ensures (no_macro m.result c.in_default.not-Macro))
