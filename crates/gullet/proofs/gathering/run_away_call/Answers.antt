use Rattle.std.proofs.Common.{◌∷◌, ap, ◌∙◌}
use Rattle.tex_syntax.specs.declared.words.Report.TheVariants.{ParagraphEnded}
use Rattle.input_state.specs.Stored.{Stored}
use Rattle.input_state.specs.Callings.{call_in}
use Rattle.engine_state.specs.declared.engine.Engine.{Engine}
use Rattle.engine_state.specs.Book.{with_work}
use Rattle.plain_machine.specs.Weights.{pending_weight}
use Rattle.engine_state.specs.Steps.{wants_token}
use Rattle.engine_state.specs.Calls.{argument_bytes}
use Rattle.gullet.proofs.CallAway.{call_away_full, call_away_rule, call_away_cuts}
use Rattle.engine_state.proofs.CallEnding.{written_stands, put_stands}
use Rattle.engine_state.proofs.Counting.{call_counts}
use Rattle.engine_state.proofs.Joining.{same_err, ok_to, err_to, ok_both}
use Rattle.engine_state.proofs.AtLocations.{frames_join, only_frames, only_input}
use Rattle.gullet.proofs.Ending.{no_ok, no_on}
use Rattle.engine_state.proofs.CallWeighing.{on_err, on_err_to, lighter_by}
use Rattle.engine_state.proofs.CheckingMoves.{asks_kept}
use Rattle.gullet.proofs.gathering.run_away_call.Goals as goal

pub returns-in_err-write_argument-clause-err : goal.returns-in_err-write_argument-clause-err
returns-in_err-write_argument-clause-err g c = let i = c.in_err-write_argument in
    same_err c.from_residual.result i.field-0.0 _ c.from_residual.ensures.1 (λ sizes f book r rs st. i.ensures.err sizes f (with_work (r ∷ rs) book) _)

pub returns-in_err-put_one-clause-err : goal.returns-in_err-put_one-clause-err
returns-in_err-put_one-clause-err g c = let e = c.args.engine.now in let e1 = c.write_argument.new.self in let i = c.in_err-put_one in
    same_err c.from_residual-in_err-put_one.result i.field-0.0 _ c.from_residual-in_err-put_one.ensures.1
    (λ sizes f book r rs st. let st1 = written_stands sizes e e1 (with_work (r ∷ rs) book) c.write_argument.ensures.only st in
    call_away_full sizes e e1 c.put_one.new.self f (g.S.Sink.told c.args.out.now) (g.S.Sink.told c.write_argument.new.out) (argument_bytes e) c.args.engine.now.last.token (ParagraphEnded c.args.name) (with_work (r ∷ rs) book) c.write_argument.ensures.only (c.put_one.ensures.page (with_work (r ∷ rs) book))
    (c.in_ok-write_argument.ensures.did sizes f (with_work (r ∷ rs) book)) i.field-0.0 (λ more. i.ensures.err sizes _ (with_work (r ∷ rs) book) more (call_counts sizes e1 (with_work (r ∷ rs) book) st1) st1.idle))

pub returns-clause-rule : goal.returns-clause-rule
returns-clause-rule g c = let e = c.args.engine.now in let e1 = c.write_argument.new.self in let e2 = c.put_one.new.self in let p = c.put_one.ensures in
    ok_both c.fail_call.result (λ ruled h free sizes f book r rs call is st. let st1 = written_stands sizes e e1 (with_work (r ∷ rs) book) c.write_argument.ensures.only st in
    call_away_rule sizes e e1 e2 f (g.S.Sink.told c.args.out.now) (g.S.Sink.told c.write_argument.new.out) (argument_bytes e) c.args.engine.now.last.token (ParagraphEnded c.args.name) (with_work (r ∷ rs) book) c.write_argument.ensures.only (p.page (with_work (r ∷ rs) book))
    (c.in_ok-write_argument.ensures.did sizes f (with_work (r ∷ rs) book)) _ c.fail_call.new.engine (λ w. c.in_ok-put_one.ensures.did sizes w (with_work (r ∷ rs) book) (call_counts sizes e1 (with_work (r ∷ rs) book) st1) st1.idle) ruled free
    (h sizes f book r rs call (ap call_in (p.frames.call ∙ ap (λ (y : Engine). y.input.call) c.write_argument.ensures.only.same) ∙ is) (put_stands sizes e1 e2 (with_work (r ∷ rs) book) p.frames p.others p.store c.in_ok-put_one.ensures.idle st1))) c.fail_call.ensures.rule c.fail_call.ensures.step

pub returns-clause-err : goal.returns-clause-err
returns-clause-err g c = let e = c.args.engine.now in let e1 = c.write_argument.new.self in let e2 = c.put_one.new.self in let p = c.put_one.ensures in
    err_to c.fail_call.result (λ b h sizes f book r rs st. let st1 = written_stands sizes e e1 (with_work (r ∷ rs) book) c.write_argument.ensures.only st in
    call_away_cuts sizes e e1 e2 f (g.S.Sink.told c.args.out.now) (g.S.Sink.told c.write_argument.new.out) (argument_bytes e) c.args.engine.now.last.token (ParagraphEnded c.args.name) (with_work (r ∷ rs) book) c.write_argument.ensures.only (p.page (with_work (r ∷ rs) book))
    (c.in_ok-write_argument.ensures.did sizes f (with_work (r ∷ rs) book)) _ c.fail_call.new.engine (λ w. c.in_ok-put_one.ensures.did sizes w (with_work (r ∷ rs) book) (call_counts sizes e1 (with_work (r ∷ rs) book) st1) st1.idle) b
    (h sizes f book r rs (put_stands sizes e1 e2 (with_work (r ∷ rs) book) p.frames p.others p.store c.in_ok-put_one.ensures.idle st1))) c.fail_call.ensures.err

-- WHAT BECOMES LIGHTER, WHETHER THERE IS A STEP, AND WHAT STAYS

pub returns-in_err-write_argument-clause-rule : goal.returns-in_err-write_argument-clause-rule
returns-in_err-write_argument-clause-rule g c = no_ok _ _ c.from_residual.result c.from_residual.ensures.1

pub returns-in_err-write_argument-clause-step : goal.returns-in_err-write_argument-clause-step
returns-in_err-write_argument-clause-step g c = no_ok _ _ c.from_residual.result c.from_residual.ensures.1

pub returns-in_err-write_argument-clause-light : goal.returns-in_err-write_argument-clause-light
returns-in_err-write_argument-clause-light g c = no_ok _ _ c.from_residual.result c.from_residual.ensures.1

pub returns-in_err-write_argument-clause-halts : goal.returns-in_err-write_argument-clause-halts
returns-in_err-write_argument-clause-halts g c = no_ok _ _ c.from_residual.result c.from_residual.ensures.1

pub returns-in_err-write_argument-clause-idle : goal.returns-in_err-write_argument-clause-idle
returns-in_err-write_argument-clause-idle g c = no_on _ _ c.from_residual.result c.from_residual.ensures.1

pub returns-in_err-write_argument-clause-frames : goal.returns-in_err-write_argument-clause-frames
returns-in_err-write_argument-clause-frames g c =
    on_err c.from_residual.result (only_frames c.args.engine.now c.write_argument.new.self c.write_argument.ensures.only)

pub returns-in_err-put_one-clause-rule : goal.returns-in_err-put_one-clause-rule
returns-in_err-put_one-clause-rule g c =
    no_ok _ _ c.from_residual-in_err-put_one.result c.from_residual-in_err-put_one.ensures.1

pub returns-in_err-put_one-clause-step : goal.returns-in_err-put_one-clause-step
returns-in_err-put_one-clause-step g c =
    no_ok _ _ c.from_residual-in_err-put_one.result c.from_residual-in_err-put_one.ensures.1

pub returns-in_err-put_one-clause-light : goal.returns-in_err-put_one-clause-light
returns-in_err-put_one-clause-light g c =
    no_ok _ _ c.from_residual-in_err-put_one.result c.from_residual-in_err-put_one.ensures.1

pub returns-in_err-put_one-clause-halts : goal.returns-in_err-put_one-clause-halts
returns-in_err-put_one-clause-halts g c =
    no_ok _ _ c.from_residual-in_err-put_one.result c.from_residual-in_err-put_one.ensures.1

pub returns-in_err-put_one-clause-idle : goal.returns-in_err-put_one-clause-idle
returns-in_err-put_one-clause-idle g c =
    no_on _ _ c.from_residual-in_err-put_one.result c.from_residual-in_err-put_one.ensures.1

pub returns-in_err-put_one-clause-frames : goal.returns-in_err-put_one-clause-frames
returns-in_err-put_one-clause-frames g c =
    on_err c.from_residual-in_err-put_one.result (frames_join c.args.engine.now c.write_argument.new.self c.put_one.new.self (only_frames c.args.engine.now c.write_argument.new.self c.write_argument.ensures.only) c.put_one.ensures.frames)

pub returns-clause-step : goal.returns-clause-step
returns-clause-step g c = c.fail_call.ensures.step

pub returns-clause-light : goal.returns-clause-light
returns-clause-light g c =
    let e = c.args.engine.now in let e2 = c.put_one.new.self in
    let same = frames_join e c.write_argument.new.self e2 (only_frames e c.write_argument.new.self c.write_argument.ensures.only) c.put_one.ensures.frames in
    ok_to c.fail_call.result (λ ruled h free call is none. lighter_by e e2 c.fail_call.new.engine same (c.put_one.ensures.light ∙ ap (λ (x : Stored). pending_weight x.pending) (only_input e c.write_argument.new.self c.write_argument.ensures.only))
    (h free call (ap call_in same.call ∙ is) (ap wants_token (asks_kept e e2 same) ∙ none))) c.fail_call.ensures.light

pub returns-clause-frames : goal.returns-clause-frames
returns-clause-frames g c =
    on_err_to c.fail_call.result (frames_join c.args.engine.now c.put_one.new.self c.fail_call.new.engine (frames_join c.args.engine.now c.write_argument.new.self c.put_one.new.self (only_frames c.args.engine.now c.write_argument.new.self c.write_argument.ensures.only) c.put_one.ensures.frames)) c.fail_call.ensures.frames

pub returns-clause-halts : goal.returns-clause-halts
returns-clause-halts g c =
    ok_to c.fail_call.result (λ ruled h halted. frames_join c.args.engine.now c.put_one.new.self c.fail_call.new.engine (frames_join c.args.engine.now c.write_argument.new.self c.put_one.new.self (only_frames c.args.engine.now c.write_argument.new.self c.write_argument.ensures.only) c.put_one.ensures.frames) (h halted)) c.fail_call.ensures.halts

pub returns-clause-idle : goal.returns-clause-idle
returns-clause-idle g c = c.fail_call.ensures.idle
