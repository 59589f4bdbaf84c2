use Rattle.std.proofs.Common.{◌≡◌, ap}
use Rattle.plain_state.specs.Reports.{end_in_conditional}
use Rattle.plain_tokens.specs.Printed.{Style}
use Rattle.token_show.specs.Views.{style_of}
use Rattle.engine_state.specs.Stands.{own_style}
use Rattle.engine_state.proofs.Reporting.{took_out, err_out}
use Rattle.engine_state.proofs.engine.Engine.write_left.Goals as goal

pub returns-in_err-write_end_in_conditional-clause-err : goal.returns-in_err-write_end_in_conditional-clause-err
returns-in_err-write_end_in_conditional-clause-err g c =
    let e = c.args.self.now in let view = c.view_of-view in let n = c.in_err-write_end_in_conditional in
    let style : style_of view.result ≡ own_style e = view.ensures.style in
    err_out _ _ e c.write_end_in_conditional.new.in_line _ _ (ap (λ (x : Style). end_in_conditional x c.args.conditional.number c.args.conditional.line) style) c.from_residual.result n.field-0.0 c.from_residual.ensures.1 n.ensures.err

pub returns-clause-did : goal.returns-clause-did
returns-clause-did g c =
    let e = c.args.self.now in let view = c.view_of-view in
    let style : style_of view.result ≡ own_style e = view.ensures.style in
    took_out _ _ e c.write_end_in_conditional.new.in_line _ _ (ap (λ (x : Style). end_in_conditional x c.args.conditional.number c.args.conditional.line) style) c.in_ok-write_end_in_conditional.ensures.ok
