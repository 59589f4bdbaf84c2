use Rattle.std.proofs.Common.{◌≡◌, List, sym, ap, ◌∙◌, subst, Option}
use Rattle.std.specs.Prelude.{IfSome}
use Rattle.rows.specs.Internal.{value_text}
use Rattle.token_lists.specs.Ids.{id_of}
use Rattle.token_lists.specs.Table.{Entry, tokens_at, IsHeld}
use Rattle.token_show.specs.Views.{style_of}
use Rattle.transcript.specs.Given.{tokens_given}
use Rattle.engine_state.proofs.Reporting.{took_out, err_out}
use Rattle.engine_state.proofs.Showing.{listed_tokens, value_by}
use Rattle.engine_state.specs.Stands.{own_style}
use Rattle.engine_state.proofs.engine.Engine.write_value_at.Goals as goal

pub write_shown_value-requires-clause-held : goal.write_shown_value-requires-clause-held
write_shown_value-requires-clause-held g c =
    subst (λ (table : List (Option Entry)). IfSome c.list_at_location.result.1 (λ r. IsHeld table (id_of r.now))) (sym c.view_of-view.ensures.same_lists) c.list_at_location.ensures.held

pub returns-in_err-write_shown_value-clause-err : goal.returns-in_err-write_shown_value-clause-err
returns-in_err-write_shown_value-clause-err g c =
    let e = c.args.self.now in let view = c.view_of-view in let list = c.list_at_location in
    let style : style_of view.result ≡ own_style e = view.ensures.style in
    let text = c.bytes.ensures.bytes ∙ c.value_text-text.ensures ∙ ap (value_text c.args.loc) c.value.ensures in
    let tokens = ap (λ (table : List (Option Entry)). tokens_given (λ r. tokens_at table (id_of r.now)) list.result.1) view.ensures.same_lists ∙ listed_tokens (λ r. tokens_at list.result.0.now (id_of r.now)) list.result.1 _ list.ensures.tokens in
    err_out _ _ e c.write_shown_value.new.in_line _ _ (value_by (style_of view.result) _ e.in_line c.line_number-line.result _ _ _ _ _ style c.line_number-line.ensures text tokens)
    c.from_residual.result c.in_err-write_shown_value.field-0.0 c.from_residual.ensures.1 c.in_err-write_shown_value.ensures.err

pub returns-clause-did : goal.returns-clause-did
returns-clause-did g c =
    let e = c.args.self.now in let view = c.view_of-view in let list = c.list_at_location in
    let style : style_of view.result ≡ own_style e = view.ensures.style in
    let text = c.bytes.ensures.bytes ∙ c.value_text-text.ensures ∙ ap (value_text c.args.loc) c.value.ensures in
    let tokens = ap (λ (table : List (Option Entry)). tokens_given (λ r. tokens_at table (id_of r.now)) list.result.1) view.ensures.same_lists ∙ listed_tokens (λ r. tokens_at list.result.0.now (id_of r.now)) list.result.1 _ list.ensures.tokens in
    took_out _ _ e c.write_shown_value.new.in_line _ _ (value_by (style_of view.result) _ e.in_line c.line_number-line.result _ _ _ _ _ style c.line_number-line.ensures text tokens)
    c.in_ok-write_shown_value.ensures.ok
