use Rattle.std.proofs.lemmas.Grind.{common_steps}
use Rattle.std.proofs.Common.{arith, true, false, ◌∷◌, [], refl, ap, sym, subst, ◌∙◌}
use Rattle.std.specs.Prelude.{Option}
use Rattle.plain_tokens.specs.Pending.{end_token_lists}
use Rattle.plain_machine.specs.declared.broken.Broken.TheVariants as broken
use Rattle.plain_machine.specs.States.{Closed}
use Rattle.reading_frames.specs.Stack.{asks_in}
use Rattle.reading_frames.specs.Weights.{IsReported}
use Rattle.input_state.specs.declared.answer.Call.{Call}
use Rattle.macro_call.specs.declared.ask.CallAsk.TheVariants as asked
use Rattle.engine_state.specs.Book.{with_work}
use Rattle.engine_state.specs.CutReadings.{CutsIn}
use Rattle.engine_state.specs.Steps.{asked_by, wants_token}
use Rattle.engine_state.specs.Steps as steps
use Rattle.engine_state.specs.Stands.{state_of}
use Rattle.engine_state.specs.Rules.{world_of, Cuts, Went}
use Rattle.engine_state.proofs.CallEnding.{by_call}
use Rattle.engine_state.proofs.CallWeighing.{call_steps, free_steps}
use Rattle.engine_state.proofs.CallsIn.{complete_at}
use Rattle.engine_state.proofs.Cutting.{cuts_by}
use Rattle.engine_state.proofs.Joining.{column_went, err_both, err_to, ok_both, ok_to, same_err}
use Rattle.engine_state.proofs.CuttingReadings.{cuts_in, column_in}
use Rattle.engine_state.proofs.AtLocations.{list_frames}
use Rattle.gullet.proofs.CallPutting.{put_rule, put_cut}
use Rattle.gullet.proofs.CallRules.{asks_this, away_is}
use Rattle.gullet.proofs.Ending.{no_ok, no_on}
use Rattle.stomach.specs.AtHand.{ByCall}
use Rattle.stomach.specs.Halting.{DoesRuleIn}
use Rattle.stomach.proofs.RuleHalts.{rules_by, rules_in}
use Rattle.stomach.proofs.rules.call_rule.Goals as goal

pub wanted_rule-requires-clause-wanted : goal.wanted_rule-requires-clause-wanted
wanted_rule-requires-clause-wanted g c = ByCall c.args.call c.requires.call c.in-More.is refl

pub returns-in-ExtraBrace-clause-rule : goal.returns-in-ExtraBrace-clause-rule
returns-in-ExtraBrace-clause-rule g c = let e = c.args.engine.now in let n = c.tell in
    let is = asks_this e c.args.call asked.ExtraBrace c.requires.call c.in-ExtraBrace.is in
    ok_to n.result (λ ruled h sizes f. by_call sizes e _ (λ book plan. DoesRuleIn sizes (state_of e book) n.new.engine (world_of f (g.S.Sink.told c.args.out.now) e) (world_of f (g.S.Sink.told n.new.out) n.new.engine) plan ruled) is
    (λ book r rs st k. h sizes f book r rs (subst (λ (o : Option Call). IsReported (asked_by o e.input.call (steps.asked e))) (sym is) tt) st)) n.ensures.rule

pub returns-in-ExtraBrace-clause-err : goal.returns-in-ExtraBrace-clause-err
returns-in-ExtraBrace-clause-err g c = let e = c.args.engine.now in let n = c.tell in
    let is = asks_this e c.args.call asked.ExtraBrace c.requires.call c.in-ExtraBrace.is in
    err_to n.result (λ b h sizes f. by_call sizes e _ (λ book plan. CutsIn sizes (state_of e book) n.new.engine (world_of f (g.S.Sink.told c.args.out.now) e) (world_of f (g.S.Sink.told n.new.out) n.new.engine) plan b) is
    (λ book r rs st k. h sizes f book r rs (subst (λ (o : Option Call). IsReported (asked_by o e.input.call (steps.asked e))) (sym is) tt) st)) n.ensures.err

pub returns-in-Mismatch-clause-rule : goal.returns-in-Mismatch-clause-rule
returns-in-Mismatch-clause-rule g c = let e = c.args.engine.now in let n = c.fail_call in
    let is = asks_this e c.args.call asked.Mismatch c.requires.call c.in-Mismatch.is in
    ok_both n.result (λ ruled h same sizes f. by_call sizes e _ (λ book plan. DoesRuleIn sizes (state_of e book) n.new.engine (world_of f (g.S.Sink.told c.args.out.now) e) (world_of f (g.S.Sink.told n.new.out) n.new.engine) plan ruled) is
    (λ book r rs st k. rules_in sizes e n.new.engine (with_work (r ∷ rs) book) _ _ _ ruled st same (h sizes f book r rs _ is st))) n.ensures.rule n.ensures.halts

pub returns-in-Mismatch-clause-err : goal.returns-in-Mismatch-clause-err
returns-in-Mismatch-clause-err g c = let e = c.args.engine.now in let n = c.fail_call in
    let is = asks_this e c.args.call asked.Mismatch c.requires.call c.in-Mismatch.is in
    err_both n.result (λ b h same sizes f book st. cuts_in sizes e n.new.engine book _ _ _ b (by_call sizes e _ (λ book plan. Cuts sizes (state_of e book) n.new.engine book (world_of f (g.S.Sink.told c.args.out.now) e) (world_of f (g.S.Sink.told n.new.out) n.new.engine) plan b) is
    (λ book r rs st k. h sizes f book r rs st) book st) same st) n.ensures.err n.ensures.frames

pub returns-in-ParEnded-false-clause-rule : goal.returns-in-ParEnded-false-clause-rule
returns-in-ParEnded-false-clause-rule g c = let e = c.args.engine.now in let n = c.run_away_call in let name = c.args.call.name in
    let is = asks_this e c.args.call (asked.ParEnded false) c.requires.call (c.in-ParEnded-false.is ∙ ap asked.ParEnded (grind (arith, common_steps, c.in-ParEnded-false.field-0-test, c.in-ParEnded-false.field-0-is, c.in-ParEnded-false.is))) in
    ok_both n.result (λ ruled h same sizes f. by_call sizes e _ (λ book plan. DoesRuleIn sizes (state_of e book) n.new.engine (world_of f (g.S.Sink.told c.args.out.now) e) (world_of f (g.S.Sink.told n.new.out) n.new.engine) plan ruled) is
    (λ book r rs st k. rules_by sizes _ n.new.engine _ _ _ _ ruled (away_is e book book.number name r rs k) (rules_in sizes e n.new.engine (with_work (r ∷ rs) book) _ _ _ ruled st same (h sizes f book r rs _ is st)))) n.ensures.rule n.ensures.halts

pub returns-in-ParEnded-false-clause-err : goal.returns-in-ParEnded-false-clause-err
returns-in-ParEnded-false-clause-err g c = let e = c.args.engine.now in let n = c.run_away_call in let name = c.args.call.name in
    let is = asks_this e c.args.call (asked.ParEnded false) c.requires.call (c.in-ParEnded-false.is ∙ ap asked.ParEnded (grind (arith, common_steps, c.in-ParEnded-false.field-0-test, c.in-ParEnded-false.field-0-is, c.in-ParEnded-false.is))) in
    err_both n.result (λ b h same sizes f book st. cuts_in sizes e n.new.engine book _ _ _ b (by_call sizes e _ (λ book plan. Cuts sizes (state_of e book) n.new.engine book (world_of f (g.S.Sink.told c.args.out.now) e) (world_of f (g.S.Sink.told n.new.out) n.new.engine) plan b) is
    (λ book r rs st k. cuts_by sizes _ n.new.engine (with_work (r ∷ rs) book) _ _ _ _ b (away_is e book book.number name r rs k) (h sizes f book r rs st)) book st) same st) n.ensures.err n.ensures.frames

pub returns-in-ParEnded-true-clause-rule : goal.returns-in-ParEnded-true-clause-rule
returns-in-ParEnded-true-clause-rule g c = let e = c.args.engine.now in let n = c.close_reading in let told = g.S.Sink.told c.args.out.now in
    let is = asks_this e c.args.call (asked.ParEnded true) c.requires.call (c.in-ParEnded-true.is ∙ ap asked.ParEnded (grind (arith, common_steps, c.in-ParEnded-true.field-0-test, c.in-ParEnded-true.field-0-is, c.in-ParEnded-true.is))) in
    λ sizes f. by_call sizes e _ (λ book plan. Went sizes (state_of e book) n.new.self (world_of f told e) (world_of f told n.new.self) plan 0) is
    (λ book r rs st k. column_went sizes _ n.new.self f told e.in_line (Closed ∷ []) 0 n.ensures.others.in_line (n.ensures.ends sizes (world_of f told e) book r rs tt st))

pub returns-in_ok-put_call-in-Gathered-clause-rule : goal.returns-in_ok-put_call-in-Gathered-clause-rule
returns-in_ok-put_call-in-Gathered-clause-rule g c = let e = c.args.engine.now in let n = c.put_call in let i = c.in_ok-put_call-in-Gathered.ensures in let told = g.S.Sink.told c.args.out.now in
    let is = asks_this e c.args.call asked.Gathered c.requires.call c.in-Gathered.is in
    λ sizes f. by_call sizes e _ (λ book plan. Went sizes (state_of e book) n.new.engine (world_of f told e) (world_of f told n.new.engine) plan 0) is
    (λ book r rs st k. put_rule sizes e n.new.engine book r rs c.args.call.name is st k i.ok n.ensures.keeps i.fits f told)

pub returns-in_err-put_call-in-Gathered-clause-err : goal.returns-in_err-put_call-in-Gathered-clause-err
returns-in_err-put_call-in-Gathered-clause-err g c = let e = c.args.engine.now in let n = c.put_call in let i = c.in_err-put_call-in-Gathered in let told = g.S.Sink.told c.args.out.now in
    let is = asks_this e c.args.call asked.Gathered c.requires.call c.in-Gathered.is in
    same_err c.from_residual.result (broken.Full i.field-0.0) _ c.from_residual.ensures.1
    (λ sizes f book st. column_in sizes (state_of e book) n.new.engine f told e.in_line _ (broken.Full i.field-0.0) n.ensures.column
    (cuts_in sizes e n.new.engine book _ _ _ (broken.Full i.field-0.0)
    (by_call sizes e _ (λ book plan. Cuts sizes (state_of e book) n.new.engine book (world_of f told e) (world_of f told e) plan (broken.Full i.field-0.0)) is
    (λ book r rs st k. put_cut sizes e n.new.engine book r rs c.args.call.name is st k i.ensures.err i.field-0.0 i.ensures.refused (world_of f told e)) book st)
    (list_frames e n.new.engine (end_token_lists e.input.pending) i.ensures.err) st))

-- WHAT BECOMES LIGHTER, AND WHETHER THERE IS A STEP

pub returns-in-ExtraBrace-clause-light : goal.returns-in-ExtraBrace-clause-light
returns-in-ExtraBrace-clause-light g c =
    ok_to c.tell.result (λ ruled h free. h free (subst (λ (o : Option Call). IsReported (asked_by o c.args.engine.now.input.call (asks_in c.args.engine.now.readings.frames []))) (sym (asks_this c.args.engine.now c.args.call asked.ExtraBrace c.requires.call c.in-ExtraBrace.is)) tt)) c.tell.ensures.light

pub returns-in-ExtraBrace-clause-step : goal.returns-in-ExtraBrace-clause-step
returns-in-ExtraBrace-clause-step g c =
    free_steps c.tell.result _ (call_steps c.args.engine.now _ (asks_this c.args.engine.now c.args.call asked.ExtraBrace c.requires.call c.in-ExtraBrace.is)) c.tell.ensures.step

pub returns-in-ExtraBrace-clause-idle : goal.returns-in-ExtraBrace-clause-idle
returns-in-ExtraBrace-clause-idle g c = c.tell.ensures.idle

pub returns-in-Mismatch-clause-light : goal.returns-in-Mismatch-clause-light
returns-in-Mismatch-clause-light g c =
    ok_to c.fail_call.result (λ ruled h free. h free c.args.call c.requires.call (ap (λ (o : Option Call). wants_token (asked_by o c.args.engine.now.input.call (steps.asked c.args.engine.now))) (asks_this c.args.engine.now c.args.call asked.Mismatch c.requires.call c.in-Mismatch.is))) c.fail_call.ensures.light

pub returns-in-Mismatch-clause-step : goal.returns-in-Mismatch-clause-step
returns-in-Mismatch-clause-step g c =
    free_steps c.fail_call.result _ (call_steps c.args.engine.now _ (asks_this c.args.engine.now c.args.call asked.Mismatch c.requires.call c.in-Mismatch.is)) c.fail_call.ensures.step

pub returns-in-Mismatch-clause-idle : goal.returns-in-Mismatch-clause-idle
returns-in-Mismatch-clause-idle g c = c.fail_call.ensures.idle

pub returns-in-ParEnded-false-clause-light : goal.returns-in-ParEnded-false-clause-light
returns-in-ParEnded-false-clause-light g c =
    ok_to c.run_away_call.result (λ ruled h free. h free c.args.call c.requires.call (ap (λ (o : Option Call). wants_token (asked_by o c.args.engine.now.input.call (steps.asked c.args.engine.now))) (asks_this c.args.engine.now c.args.call (asked.ParEnded false) c.requires.call (c.in-ParEnded-false.is ∙ ap asked.ParEnded (grind (arith, common_steps, c.in-ParEnded-false.field-0-test, c.in-ParEnded-false.field-0-is, c.in-ParEnded-false.is)))))) c.run_away_call.ensures.light

pub returns-in-ParEnded-false-clause-step : goal.returns-in-ParEnded-false-clause-step
returns-in-ParEnded-false-clause-step g c =
    free_steps c.run_away_call.result _ (call_steps c.args.engine.now _ (asks_this c.args.engine.now c.args.call (asked.ParEnded false) c.requires.call (c.in-ParEnded-false.is ∙ ap asked.ParEnded (grind (arith, common_steps, c.in-ParEnded-false.field-0-test, c.in-ParEnded-false.field-0-is, c.in-ParEnded-false.is))))) c.run_away_call.ensures.step

pub returns-in-ParEnded-false-clause-idle : goal.returns-in-ParEnded-false-clause-idle
returns-in-ParEnded-false-clause-idle g c = c.run_away_call.ensures.idle

pub returns-in_err-put_call-in-Gathered-clause-light : goal.returns-in_err-put_call-in-Gathered-clause-light
returns-in_err-put_call-in-Gathered-clause-light g c = no_ok _ _ c.from_residual.result c.from_residual.ensures.1

pub returns-in_err-put_call-in-Gathered-clause-step : goal.returns-in_err-put_call-in-Gathered-clause-step
returns-in_err-put_call-in-Gathered-clause-step g c = no_ok _ _ c.from_residual.result c.from_residual.ensures.1

pub returns-in_err-put_call-in-Gathered-clause-rule : goal.returns-in_err-put_call-in-Gathered-clause-rule
returns-in_err-put_call-in-Gathered-clause-rule g c = no_ok _ _ c.from_residual.result c.from_residual.ensures.1

pub returns-in_err-put_call-in-Gathered-clause-idle : goal.returns-in_err-put_call-in-Gathered-clause-idle
returns-in_err-put_call-in-Gathered-clause-idle g c = no_on _ _ c.from_residual.result c.from_residual.ensures.1

pub returns-in_ok-put_call-in-Gathered-clause-light : goal.returns-in_ok-put_call-in-Gathered-clause-light
returns-in_ok-put_call-in-Gathered-clause-light g c free =
    c.in_ok-put_call-in-Gathered.ensures.light c.args.call c.requires.call (ap (λ (o : Option Call). wants_token (asked_by o c.args.engine.now.input.call (steps.asked c.args.engine.now))) (asks_this c.args.engine.now c.args.call asked.Gathered c.requires.call c.in-Gathered.is))

pub returns-in_ok-put_call-in-Gathered-clause-step : goal.returns-in_ok-put_call-in-Gathered-clause-step
returns-in_ok-put_call-in-Gathered-clause-step g c =
    call_steps c.args.engine.now _ (asks_this c.args.engine.now c.args.call asked.Gathered c.requires.call c.in-Gathered.is)

pub returns-in_ok-put_call-in-Gathered-clause-err : goal.returns-in_ok-put_call-in-Gathered-clause-err
returns-in_ok-put_call-in-Gathered-clause-err g c = tt

pub returns-in_ok-put_call-in-Gathered-clause-idle : goal.returns-in_ok-put_call-in-Gathered-clause-idle
returns-in_ok-put_call-in-Gathered-clause-idle g c = c.put_call.ensures.idle ∙ c.requires.idle

pub returns-in-ParEnded-true-clause-light : goal.returns-in-ParEnded-true-clause-light
returns-in-ParEnded-true-clause-light g c free = c.close_reading.ensures.light c.args.call c.requires.call (ap (λ (o : Option Call). wants_token (asked_by o c.args.engine.now.input.call (steps.asked c.args.engine.now))) (asks_this c.args.engine.now c.args.call (asked.ParEnded true) c.requires.call (c.in-ParEnded-true.is ∙ ap asked.ParEnded (grind (arith, common_steps, c.in-ParEnded-true.field-0-test, c.in-ParEnded-true.field-0-is, c.in-ParEnded-true.is)))))

pub returns-in-ParEnded-true-clause-step : goal.returns-in-ParEnded-true-clause-step
returns-in-ParEnded-true-clause-step g c =
    call_steps c.args.engine.now _ (asks_this c.args.engine.now c.args.call (asked.ParEnded true) c.requires.call (c.in-ParEnded-true.is ∙ ap asked.ParEnded (grind (arith, common_steps, c.in-ParEnded-true.field-0-test, c.in-ParEnded-true.field-0-is, c.in-ParEnded-true.is))))

pub returns-in-ParEnded-true-clause-err : goal.returns-in-ParEnded-true-clause-err
returns-in-ParEnded-true-clause-err g c = tt

pub returns-in-ParEnded-true-clause-idle : goal.returns-in-ParEnded-true-clause-idle
returns-in-ParEnded-true-clause-idle g c = c.close_reading.ensures.idle ∙ c.requires.idle

pub put_call-requires : goal.put_call-requires
put_call-requires g c = complete_at c.args.engine.now.input.call c.args.call.name (asks_this c.args.engine.now c.args.call asked.Gathered c.requires.call c.in-Gathered.is)
