use Rattle.std.proofs.Common.{◌≡◌, ap, false, rules}
use Rattle.plain_state.specs.Reports.{token_line_bytes}
use Rattle.plain_tokens.specs.Printed.{Style}
use Rattle.token_show.specs.Views.{style_of}
use Rattle.engine_state.proofs.Reporting.{err_out, loud_cuts}
use Rattle.engine_state.specs.Stands.{own_style}
use Rattle.engine_state.proofs.engine.Engine.token_line.Goals as goal

pub returns-clause-did : goal.returns-clause-did
returns-clause-did g c = let loud : c.args.self.now.quiet ≡ false = cc in search rules

pub returns-in_err-write_token_line-clause-err : goal.returns-in_err-write_token_line-clause-err
returns-in_err-write_token_line-clause-err g c =
    let e = c.args.self.now in let view = c.view_of-view in
    let loud : e.quiet ≡ false = cc in
    let style : style_of view.result ≡ own_style e = view.ensures.style in
    loud_cuts c.from_residual.result _ _ e _ c.args.meaning loud
    (err_out _ _ e c.write_token_line.new.in_line _ _ (ap (λ (x : Style). token_line_bytes x e.in_line c.args.meaning) style) c.from_residual.result c.in_err-write_token_line.field-0.0 c.from_residual.ensures.1 c.in_err-write_token_line.ensures.err)
