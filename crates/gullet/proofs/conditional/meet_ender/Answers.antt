use Rattle.std.proofs.Common.{◌≡◌, ℕ, [], ◌∷◌, ◌++◌, refl, sym, ap, ◌∙◌, arith}
use Rattle.conditionals.specs.declared.choice.Aim.TheVariants as aim
use Rattle.conditionals.specs.declared.limits.Met.TheVariants as limited
use Rattle.tex_syntax.specs.declared.words.Report.TheVariants.{ExtraFiOrElse}
use Rattle.input_state.specs.Stored.{Stored}
use Rattle.plain_machine.specs.Plan.{ender_met, frozen_relax, put_one, reported, skips}
use Rattle.plain_machine.specs.States.{ConditionClosed}
use Rattle.plain_readings.specs.Weights.{act_weight}
use Rattle.engine_state.specs.declared.engine.Engine.{Engine}
use Rattle.engine_state.specs.Stands.{state_of, page_of}
use Rattle.plain_machine.specs.Weights.{pending_weight}
use Rattle.engine_state.proofs.Uncalled.{all_of}
use Rattle.engine_state.proofs.CuttingReadings.{column_in, cuts_in, in_by}
use Rattle.engine_state.proofs.Joining.{same_err, ok_to, err_to, on_ok, onward_by, went_by, column_went}
use Rattle.gullet.proofs.Choosing.{met_by, went_here}
use Rattle.gullet.proofs.ExpandingWeighs.{same_light}
use Rattle.gullet.proofs.conditional.meet_ender.Goals as goal

-- IN A TEST it is put back

pub returns-in_ok-put_behind_relax-in-RelaxBefore-clause-rule : goal.returns-in_ok-put_behind_relax-in-RelaxBefore-clause-rule
returns-in_ok-put_behind_relax-in-RelaxBefore-clause-rule g c = let e = c.args.engine.now in let a = c.args in let e1 = c.put_behind_relax.new.engine in
    λ sizes f book st.
    went_by sizes (state_of e book) e1 _ _ (put_one a.token ++ put_one frozen_relax) (ender_met (page_of e book) a.token a.call a.ender) 0
    (met_by (page_of e book) a.token a.call a.ender c.limit.result c.on_fi_or_else.result limited.RelaxBefore c.limit.ensures c.on_fi_or_else.ensures c.in-RelaxBefore.is)
    (column_went sizes (state_of e book) e1 f _ e.in_line (put_one a.token ++ put_one frozen_relax) 0 c.put_behind_relax.ensures.column (c.in_ok-put_behind_relax-in-RelaxBefore.ensures.rule sizes _ book st))

pub returns-in_err-put_behind_relax-in-RelaxBefore-clause-err : goal.returns-in_err-put_behind_relax-in-RelaxBefore-clause-err
returns-in_err-put_behind_relax-in-RelaxBefore-clause-err g c = let e = c.args.engine.now in let a = c.args in let e1 = c.put_behind_relax.new.engine in let n = c.in_err-put_behind_relax-in-RelaxBefore in
    same_err c.from_residual.result n.field-0.0 _ c.from_residual.ensures.1
    (λ sizes f book st.
    in_by sizes (state_of e book) e1 _ _ (put_one a.token ++ put_one frozen_relax) (ender_met (page_of e book) a.token a.call a.ender) n.field-0.0
    (met_by (page_of e book) a.token a.call a.ender c.limit.result c.on_fi_or_else.result limited.RelaxBefore c.limit.ensures c.on_fi_or_else.ensures c.in-RelaxBefore.is)
    (column_in sizes (state_of e book) e1 f _ e.in_line (put_one a.token ++ put_one frozen_relax) n.field-0.0 c.put_behind_relax.ensures.column (n.ensures.err sizes _ book st)))

pub returns-in_ok-put_behind_relax-in-RelaxBefore-clause-light : goal.returns-in_ok-put_behind_relax-in-RelaxBefore-clause-light
returns-in_ok-put_behind_relax-in-RelaxBefore-clause-light g c light = let n = c.put_behind_relax.ensures in
    same_light c.args.engine.now c.requires.uncalled light c.put_behind_relax.new.engine n.frames n.pending

-- IT IS REPORTED

pub returns-in-Extra-clause-rule : goal.returns-in-Extra-clause-rule
returns-in-Extra-clause-rule g c = let e = c.args.engine.now in let a = c.args in let e1 = c.report_only.new.self in
    ok_to c.report_only.result
    (λ ruled h sizes f book st.
    onward_by sizes (state_of e book) e1 book _ _ (reported (page_of e book) (ExtraFiOrElse c.ender_number.result) []) (ender_met (page_of e book) a.token a.call a.ender) ruled
    (met_by (page_of e book) a.token a.call a.ender c.limit.result c.on_fi_or_else.result limited.Extra c.limit.ensures c.on_fi_or_else.ensures c.in-Extra.is ∙ ap (λ (n : ℕ). reported (page_of e book) (ExtraFiOrElse n) []) (sym c.ender_number.ensures))
    (h sizes f book (all_of sizes e book st)))
    c.report_only.ensures.rule

pub returns-in-Extra-clause-err : goal.returns-in-Extra-clause-err
returns-in-Extra-clause-err g c = let e = c.args.engine.now in let a = c.args in let e1 = c.report_only.new.self in
    err_to c.report_only.result
    (λ b h sizes f book st.
    in_by sizes (state_of e book) e1 _ _ (reported (page_of e book) (ExtraFiOrElse c.ender_number.result) []) (ender_met (page_of e book) a.token a.call a.ender) b
    (met_by (page_of e book) a.token a.call a.ender c.limit.result c.on_fi_or_else.result limited.Extra c.limit.ensures c.on_fi_or_else.ensures c.in-Extra.is ∙ ap (λ (n : ℕ). reported (page_of e book) (ExtraFiOrElse n) []) (sym c.ender_number.ensures))
    (cuts_in sizes e e1 book _ _ _ b (h sizes f book st.sound.sized.few_reports) c.report_only.ensures.frames (all_of sizes e book st)))
    c.report_only.ensures.err

pub returns-in-Extra-clause-light : goal.returns-in-Extra-clause-light
returns-in-Extra-clause-light g c = let n = c.report_only.ensures in
    on_ok c.report_only.result (λ idle light. same_light c.args.engine.now c.requires.uncalled light c.report_only.new.self n.frames (ap (λ (i : Stored). pending_weight i.pending) n.input)) n.idle

-- TEXT IS SKIPPED to the `\fi`

pub returns-in_ok-skip_on-in-SkipsToFi-clause-rule : goal.returns-in_ok-skip_on-in-SkipsToFi-clause-rule
returns-in_ok-skip_on-in-SkipsToFi-clause-rule g c = let e = c.args.engine.now in let a = c.args in let e1 = c.skip_on.new.engine in
    λ sizes f book st.
    went_by sizes (state_of e book) e1 _ _ (skips (page_of e book) a.call aim.Fi) (ender_met (page_of e book) a.token a.call a.ender) 0
    (met_by (page_of e book) a.token a.call a.ender c.limit.result c.on_fi_or_else.result limited.SkipsToFi c.limit.ensures c.on_fi_or_else.ensures c.in-SkipsToFi.is)
    (column_went sizes (state_of e book) e1 f _ e.in_line (skips (page_of e book) a.call aim.Fi) 0 c.skip_on.ensures.column (c.in_ok-skip_on-in-SkipsToFi.ensures.rule sizes _ book st))

pub returns-in_err-skip_on-in-SkipsToFi-clause-err : goal.returns-in_err-skip_on-in-SkipsToFi-clause-err
returns-in_err-skip_on-in-SkipsToFi-clause-err g c = let e = c.args.engine.now in let a = c.args in let e1 = c.skip_on.new.engine in let n = c.in_err-skip_on-in-SkipsToFi in
    same_err c.from_residual-in_err-skip_on-in-SkipsToFi.result n.field-0.0 _ c.from_residual-in_err-skip_on-in-SkipsToFi.ensures.1
    (λ sizes f book st.
    in_by sizes (state_of e book) e1 _ _ (skips (page_of e book) a.call aim.Fi) (ender_met (page_of e book) a.token a.call a.ender) n.field-0.0
    (met_by (page_of e book) a.token a.call a.ender c.limit.result c.on_fi_or_else.result limited.SkipsToFi c.limit.ensures c.on_fi_or_else.ensures c.in-SkipsToFi.is)
    (column_in sizes (state_of e book) e1 f _ e.in_line (skips (page_of e book) a.call aim.Fi) n.field-0.0 c.skip_on.ensures.column (n.ensures.err sizes _ book st)))

pub returns-in_ok-skip_on-in-SkipsToFi-clause-light : goal.returns-in_ok-skip_on-in-SkipsToFi-clause-light
returns-in_ok-skip_on-in-SkipsToFi-clause-light g c light = c.in_ok-skip_on-in-SkipsToFi.ensures.light act_weight c.requires.uncalled (omega arith)

-- IT CLOSES the conditional

pub returns-in-Closes-clause-rule : goal.returns-in-Closes-clause-rule
returns-in-Closes-clause-rule g c = let e = c.args.engine.now in let a = c.args in let e1 = c.close_conditional.new.self in let n = c.close_conditional.ensures in
    let column : e1.in_line ≡ e.in_line = ap (λ (x : Engine). x.in_line) n.only in
    λ sizes f book st.
    went_by sizes (state_of e book) e1 _ _ (ConditionClosed ∷ []) (ender_met (page_of e book) a.token a.call a.ender) 0
    (met_by (page_of e book) a.token a.call a.ender c.limit.result c.on_fi_or_else.result limited.Closes c.limit.ensures c.on_fi_or_else.ensures c.in-Closes.is)
    (column_went sizes (state_of e book) e1 f _ e.in_line (ConditionClosed ∷ []) 0 column (went_here sizes e e1 book _ ConditionClosed (n.did sizes _ book) refl (n.stands sizes book st)))

pub returns-in-Closes-clause-light : goal.returns-in-Closes-clause-light
returns-in-Closes-clause-light g c light = let n = c.close_conditional.ensures in
    same_light c.args.engine.now c.requires.uncalled light c.close_conditional.new.self n.frames (ap (λ (x : Engine). pending_weight x.input.pending) n.only)
