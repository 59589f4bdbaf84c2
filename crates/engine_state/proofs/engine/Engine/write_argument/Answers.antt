use Rattle.std.proofs.Common.{◌≡◌, [], ap, ◌∙◌, List, ℕ}
use Rattle.std.specs.Prelude.{None}
use Rattle.std.specs.Option.{option_map}
use Rattle.tex_syntax.specs.declared.words.Scanned.TheVariants as scanned
use Rattle.plain_state.specs.Reports.{runaway_bytes}
use Rattle.input_state.specs.CallFeeds.{call_work}
use Rattle.tex_defs.specs.declared.Token.{Token}
use Rattle.plain_tokens.specs.Printed.{Style}
use Rattle.engine_state.specs.declared.engine.Engine.{Engine}
use Rattle.engine_state.specs.Calls.{argument_bytes}
use Rattle.token_show.specs.Views.{style_of}
use Rattle.engine_state.specs.Stands.{own_style}
use Rattle.engine_state.proofs.Reporting.{shown_is, took_out, err_out, did_text, cut_text, work_is, none_is}
use Rattle.engine_state.proofs.Joining.{err_to, on_ok}
use Rattle.engine_state.proofs.engine.Engine.write_argument.Goals as goal

-- what is shown where no place is reached
empty_text : (e : Engine) (text : List ℕ) (style : Style) → style ≡ own_style e → call_work e.input.call ≡ None → text ≡ runaway_bytes scanned.Use style e.in_line [] → text ≡ argument_bytes e
empty_text e text style is none shown = shown ∙ shown_is (λ (x : Style) (ts : List Token). runaway_bytes scanned.Use x e.in_line ts) style (own_style e) [] _ is (none_is (call_work e.input.call) none)

pub returns-in_err-write_runaway-in-Some-clause-err : goal.returns-in_err-write_runaway-in-Some-clause-err
returns-in_err-write_runaway-in-Some-clause-err g c =
    let e = c.args.self.now in let view = c.view_of-view in
    let style : style_of view.result ≡ own_style e = view.ensures.style in
    err_out _ _ e c.write_runaway.new.in_line _ _ (shown_is (λ style ts. runaway_bytes scanned.Use style e.in_line ts) (style_of view.result) (own_style e) _ _ style
    (work_is _ _ _ _ view.ensures.same_lists (c.call_list.ensures.tokens ∙ ap (option_map _) c.in-Some.is))) c.from_residual.result c.in_err-write_runaway-in-Some.field-0.0 c.from_residual.ensures.1 c.in_err-write_runaway-in-Some.ensures.err

pub returns-in_ok-write_runaway-in-Some-clause-did : goal.returns-in_ok-write_runaway-in-Some-clause-did
returns-in_ok-write_runaway-in-Some-clause-did g c =
    let e = c.args.self.now in let view = c.view_of-view in
    let style : style_of view.result ≡ own_style e = view.ensures.style in
    took_out _ _ e c.write_runaway.new.in_line _ _ (shown_is (λ style ts. runaway_bytes scanned.Use style e.in_line ts) (style_of view.result) (own_style e) _ _ style
    (work_is _ _ _ _ view.ensures.same_lists (c.call_list.ensures.tokens ∙ ap (option_map _) c.in-Some.is))) c.in_ok-write_runaway-in-Some.ensures.ok

pub returns-in-None-clause-did : goal.returns-in-None-clause-did
returns-in-None-clause-did g c =
    let e = c.args.self.now in
    on_ok c.write_text.result (λ h sizes f book. did_text sizes _ _ _ _ (argument_bytes e) _ (empty_text e _ (style_of c.view_of-view-in-None.result) c.view_of-view-in-None.ensures.style
    (c.call_list.ensures.tokens ∙ ap (option_map _) c.in-None.is) (c.bytes.ensures.bytes ∙ c.empty_runaway-text.ensures)) (h sizes f book)) c.write_text.ensures.did

pub returns-in-None-clause-err : goal.returns-in-None-clause-err
returns-in-None-clause-err g c =
    let e = c.args.self.now in
    err_to c.write_text.result (λ b h sizes f book. cut_text sizes _ _ book _ _ b (argument_bytes e) _ (empty_text e _ (style_of c.view_of-view-in-None.result) c.view_of-view-in-None.ensures.style
    (c.call_list.ensures.tokens ∙ ap (option_map _) c.in-None.is) (c.bytes.ensures.bytes ∙ c.empty_runaway-text.ensures)) (h sizes f book)) c.write_text.ensures.err
