use Rattle.std.proofs.Common.{◌≡◌, ℕ, ap, ◌∙◌}
use Rattle.plain_state.specs.Reports.{report_bytes}
use Rattle.plain_tokens.specs.Printed.{Style}
use Rattle.token_show.specs.Views.{style_of}
use Rattle.engine_state.proofs.Reporting.{took_out, err_out}
use Rattle.engine_state.specs.Stands.{own_style}
use Rattle.engine_state.proofs.engine.Engine.write_report.Goals as goal

pub returns-in_err-write_report-clause-err : goal.returns-in_err-write_report-clause-err
returns-in_err-write_report-clause-err g c =
    let e = c.args.self.now in let view = c.view_of-view in
    let style : style_of view.result ≡ own_style e = view.ensures.style in
    err_out _ _ e c.write_report.new.in_line _ _ (ap (λ (x : Style). report_bytes x e.in_line c.line_number-line.result c.args.report) style
    ∙ ap (λ (n : ℕ). report_bytes (own_style e) e.in_line n c.args.report) c.line_number-line.ensures) c.from_residual.result c.in_err-write_report.field-0.0 c.from_residual.ensures.1 c.in_err-write_report.ensures.err

pub returns-clause-did : goal.returns-clause-did
returns-clause-did g c =
    let e = c.args.self.now in let view = c.view_of-view in
    let style : style_of view.result ≡ own_style e = view.ensures.style in
    took_out _ _ e c.write_report.new.in_line _ _ (ap (λ (x : Style). report_bytes x e.in_line c.line_number-line.result c.args.report) style
    ∙ ap (λ (n : ℕ). report_bytes (own_style e) e.in_line n c.args.report) c.line_number-line.ensures) c.in_ok-write_report.ensures.ok
