use Rattle.std.proofs.Common.{◌≡◌, [], refl, ap, ◌∙◌, w32, FitsSigned, rules}
use Rattle.std.proofs.lemmas.Int.{to_z-of_z}
use Rattle.plain_tokens.specs.Numerals.{whole_number}
use Rattle.token_show.specs.Views.{style_of}
use Rattle.engine_state.proofs.Reporting.{took_out, err_out}
use Rattle.engine_state.proofs.Showing.{value_by}
use Rattle.engine_state.specs.Stands.{own_style}
use Rattle.engine_state.proofs.engine.Engine.write_shown_number.Goals as goal

pub returns-in_err-write_shown_value-clause-err : goal.returns-in_err-write_shown_value-clause-err
returns-in_err-write_shown_value-clause-err g c =
    let e = c.args.self.now in let view = c.view_of-view in
    let style : style_of view.result ≡ own_style e = view.ensures.style in
    let n : FitsSigned w32 c.args.n = search rules in
    let text = c.bytes.ensures.bytes ∙ (c.number_text-text.ensures ∙ ap whole_number (to_z-of_z w32 c.args.n n)) in
    err_out _ _ e c.write_shown_value.new.in_line _ _ (value_by (style_of view.result) _ e.in_line c.line_number-line.result _ _ _ [] [] style c.line_number-line.ensures text refl)
    c.from_residual.result c.in_err-write_shown_value.field-0.0 c.from_residual.ensures.1 c.in_err-write_shown_value.ensures.err

pub returns-clause-did : goal.returns-clause-did
returns-clause-did g c =
    let e = c.args.self.now in let view = c.view_of-view in
    let style : style_of view.result ≡ own_style e = view.ensures.style in
    let n : FitsSigned w32 c.args.n = search rules in
    let text = c.bytes.ensures.bytes ∙ (c.number_text-text.ensures ∙ ap whole_number (to_z-of_z w32 c.args.n n)) in
    took_out _ _ e c.write_shown_value.new.in_line _ _ (value_by (style_of view.result) _ e.in_line c.line_number-line.result _ _ _ [] [] style c.line_number-line.ensures text refl) c.in_ok-write_shown_value.ensures.ok
