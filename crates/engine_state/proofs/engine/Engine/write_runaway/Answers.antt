use Rattle.std.proofs.Common.{◌≡◌}
use Rattle.plain_state.specs.Reports.{runaway_bytes}
use Rattle.token_lists.specs.Ids.{build_id}
use Rattle.token_show.specs.Views.{style_of}
use Rattle.engine_state.proofs.Reporting.{shown_is, number_is, took_out, err_out}
use Rattle.engine_state.specs.Stands.{own_style}
use Rattle.engine_state.proofs.engine.Engine.write_runaway.Goals as goal

pub returns-in_err-write_runaway-clause-err : goal.returns-in_err-write_runaway-clause-err
returns-in_err-write_runaway-clause-err g c =
    let e = c.args.self.now in let view = c.view_of-view in
    let style : style_of view.result ≡ own_style e = view.ensures.style in
    err_out _ _ e c.write_runaway.new.in_line _ _ (shown_is (λ style ts. runaway_bytes c.args.what style e.in_line ts) (style_of view.result) (own_style e) _ _ style
    (number_is _ _ (build_id c.nth_list.result.1.now) c.args.number e.input.builds view.ensures.same_lists c.nth_list.ensures.tokens)) c.from_residual.result c.in_err-write_runaway.field-0.0 c.from_residual.ensures.1 c.in_err-write_runaway.ensures.err

pub returns-clause-did : goal.returns-clause-did
returns-clause-did g c =
    let e = c.args.self.now in let view = c.view_of-view in
    let style : style_of view.result ≡ own_style e = view.ensures.style in
    took_out _ _ e c.write_runaway.new.in_line _ _ (shown_is (λ style ts. runaway_bytes c.args.what style e.in_line ts) (style_of view.result) (own_style e) _ _ style
    (number_is _ _ (build_id c.nth_list.result.1.now) c.args.number e.input.builds view.ensures.same_lists c.nth_list.ensures.tokens)) c.in_ok-write_runaway.ensures.ok
