use Rattle.std.proofs.Common.{◌≡◌, ℕ, [], ap, ◌∙◌, true}
use Rattle.plain_state.specs.Reports.{error_message_bytes}
use Rattle.token_lists.specs.Ids.{build_id}
use Rattle.token_show.specs.Views.{style_of}
use Rattle.reading_frames.specs.Views.{kept_list_of}
use Rattle.engine_state.proofs.Reporting.{shown_is, listed_is, unlisted_is, err_out}
use Rattle.engine_state.proofs.engine.Engine.write_error_message.Goals as goal
use Rattle.engine_state.specs.Stands.{own_style}
use Rattle.engine_state.proofs.engine.Engine.write_error_message.Goals.{else-listed-via-then-listed+else-has_list, else-listed-via-else-listed}

pub returns-in_err-write_error_message-clause-err : goal.returns-in_err-write_error_message-clause-err
returns-in_err-write_error_message-clause-err g c =
    let e = c.args.self.now in let view = c.view_of-view in
    let style : style_of view.result ≡ own_style e = view.ensures.style in
    err_out _ _ e c.write_error_message.new.in_line _ _ (shown_is (λ style ts. error_message_bytes style e.in_line c.line_number-line.result ts) (style_of view.result) (own_style e) _ _ style
    (listed_is c.args.listed _ _ (build_id c.list.result.1.now) e.input.builds c.if-listed.true view.ensures.same_lists c.list.ensures.tokens) ∙ ap (λ (n : ℕ). error_message_bytes (own_style e) e.in_line n (kept_list_of c.args.listed e.input.builds)) c.line_number-line.ensures) c.from_residual.result c.in_err-write_error_message.field-0.0 c.from_residual.ensures.1 c.in_err-write_error_message.ensures.err

pub returns-in_err-write_error_message-2-clause-err : goal.returns-in_err-write_error_message-2-clause-err
returns-in_err-write_error_message-2-clause-err g c =
    let e = c.args.self.now in let view = c.view_of-view-else-listed in let i = c.from_residual-in_err-write_error_message-2 in
    let style : style_of view.result ≡ own_style e = view.ensures.style in
    let none : c.args.listed ≡ true → e.input.builds ≡ [] = elim c.else-listed.branch [
      | else-listed-via-then-listed+else-has_list w ↦ λ yes. w.if-has_list.ensures
      | else-listed-via-else-listed w ↦ λ yes. cc (w.if-listed.false, yes)
    ] in
    err_out _ _ e c.write_error_message-else-listed.new.in_line _ _ (shown_is (λ style ts. error_message_bytes style e.in_line c.line_number-line.result ts) (style_of view.result) (own_style e) [] _ style
    (unlisted_is c.args.listed e.input.builds none) ∙ ap (λ (n : ℕ). error_message_bytes (own_style e) e.in_line n (kept_list_of c.args.listed e.input.builds)) c.line_number-line.ensures) i.result c.in_err-write_error_message-2.field-0.0 i.ensures.1 c.in_err-write_error_message-2.ensures.err
