use Rattle.std.proofs.Common.{◌≡◌, [], ◌∷◌, refl, sym, ap, subst, ◌∙◌}
use Rattle.tex_syntax.specs.declared.words.Report.TheVariants.{UndefinedName}
use Rattle.input_state.specs.Stored.{Stored}
use Rattle.reading_frames.specs.Views.{reading_kind}
use Rattle.conditionals.specs.Open.{constant_test}
use Rattle.plain_machine.specs.declared.broken.Broken.TheVariants as broken
use Rattle.plain_machine.specs.Plan.{reported, called, input_met, conditional_begun, ender_met, expanded}
use Rattle.plain_machine.specs.States.{Begun, FileEnds}
use Rattle.engine_state.specs.declared.engine.Engine.{Engine}
use Rattle.engine_state.specs.Stands.{state_of, page_of}
use Rattle.plain_machine.specs.Weights.{pending_weight}
use Rattle.gullet.specs.Stepping.{IsLight, job_moves}
use Rattle.engine_state.proofs.Uncalled.{all_of}
use Rattle.engine_state.proofs.Counting.{counts_of}
use Rattle.gullet.proofs.Ending.{on_end}
use Rattle.gullet.proofs.Expanding.{once_reports, expansion_went, moves_as, expands_as, reports_change, reports_leave, over_halted}
use Rattle.gullet.proofs.ExpandingWeighs.{same_light, begun_light, framed_light}
use Rattle.engine_state.proofs.Joining.{same_err, went_by, column_went}
use Rattle.engine_state.proofs.CuttingReadings.{cuts_in, stands_in, column_in, in_by}
use Rattle.engine_state.proofs.Reporting.{full_out}
use Rattle.engine_state.proofs.AtLocations.{same_engine}
use Rattle.gullet.proofs.expansion.expand_once.Goals as goal

pub returns-in_err-ruled-in-Undefined-clause-err : goal.returns-in_err-ruled-in-Undefined-clause-err
returns-in_err-ruled-in-Undefined-clause-err g c = let e = c.args.engine.now in let n = c.in_err-ruled-in-Undefined in
    same_err c.from_residual.result n.field-0.0 _ c.from_residual.ensures.1
    (λ sizes f book moves st.
    in_by sizes (state_of e book) c.report_only.new.self _ _ (reported (page_of e book) UndefinedName []) (expanded (page_of e book) c.args.seen moves) n.field-0.0 (moves_as (page_of e book) c.args.seen moves c.in-Undefined.is (c.expansion_of.ensures.to (page_of e book) moves))
    (cuts_in sizes e c.report_only.new.self book _ _ _ _ (n.ensures.err sizes f book st.sound.sized.few_reports) c.report_only.ensures.frames (all_of sizes e book st)))

pub returns-in_ok-ruled-in-Undefined-clause-rule : goal.returns-in_ok-ruled-in-Undefined-clause-rule
returns-in_ok-ruled-in-Undefined-clause-rule g c = let e = c.args.engine.now in let n = c.in_ok-ruled-in-Undefined in
    λ sizes f book moves st.
    once_reports sizes (state_of e book) c.report_only.new.self book _ _ (reported (page_of e book) UndefinedName []) (expanded (page_of e book) c.args.seen moves) moves n.ruled c.once_behind.result
    (moves_as (page_of e book) c.args.seen moves c.in-Undefined.is (c.expansion_of.ensures.to (page_of e book) moves)) c.once_behind.ensures (n.ensures.rule sizes f book (all_of sizes e book st))

pub returns-in_err-call_name-in-Call-clause-err : goal.returns-in_err-call_name-in-Call-clause-err
returns-in_err-call_name-in-Call-clause-err g c = let e = c.args.engine.now in let n = c.in_err-call_name-in-Call in
    same_err c.from_residual-in_err-call_name-in-Call.result (broken.Full n.field-0.0) _ c.from_residual-in_err-call_name-in-Call.ensures.1
    (λ sizes f book moves st.
    in_by sizes (state_of e book) c.call_name.new.engine _ _ (called (page_of e book) c.in-Call.token) (expanded (page_of e book) c.args.seen moves) (broken.Full n.field-0.0) (moves_as (page_of e book) c.args.seen moves c.in-Call.is (c.expansion_of.ensures.to (page_of e book) moves))
    (column_in sizes (state_of e book) c.call_name.new.engine f _ e.in_line (called (page_of e book) c.in-Call.token) (broken.Full n.field-0.0) c.call_name.ensures.column
    (stands_in sizes e c.call_name.new.engine book _ _ _ _ (n.ensures.err sizes _ book st) n.ensures.frames st)))

pub returns-in_ok-call_name-in-Call-clause-rule : goal.returns-in_ok-call_name-in-Call-clause-rule
returns-in_ok-call_name-in-Call-clause-rule g c = let e = c.args.engine.now in let n = c.in_ok-call_name-in-Call in
    λ sizes f book moves st.
    went_by sizes (state_of e book) c.call_name.new.engine _ _ (called (page_of e book) c.in-Call.token) (expanded (page_of e book) c.args.seen moves) 0 (moves_as (page_of e book) c.args.seen moves c.in-Call.is (c.expansion_of.ensures.to (page_of e book) moves))
    (column_went sizes (state_of e book) c.call_name.new.engine f _ e.in_line (called (page_of e book) c.in-Call.token) 0 c.call_name.ensures.column (n.ensures.ok sizes _ book st))

pub returns-in_err-begin-in-Begin-clause-err : goal.returns-in_err-begin-in-Begin-clause-err
returns-in_err-begin-in-Begin-clause-err g c = let e = c.args.engine.now in let n = c.in_err-begin-in-Begin in let k = reading_kind c.in-Begin.opening in
    same_err c.from_residual-in_err-begin-in-Begin.result (broken.Full n.field-0.0) _ c.from_residual-in_err-begin-in-Begin.ensures.1
    (λ sizes f book moves st.
    in_by sizes (state_of e book) c.begin.new.self _ _ (Begun k ∷ []) (expanded (page_of e book) c.args.seen moves) (broken.Full n.field-0.0) (moves_as (page_of e book) c.args.seen moves c.in-Begin.is (c.expansion_of.ensures.to (page_of e book) moves))
    (stands_in sizes e c.begin.new.self book _ _ _ _ (full_out sizes e c.begin.new.self f _ book (Begun k) [] n.field-0.0 n.ensures.err (n.ensures.refused sizes book (counts_of sizes e book st)))
    (same_engine e c.begin.new.self n.ensures.err) st))

pub returns-in_ok-begin-in-Begin-clause-rule : goal.returns-in_ok-begin-in-Begin-clause-rule
returns-in_ok-begin-in-Begin-clause-rule g c = let e = c.args.engine.now in let n = c.in_ok-begin-in-Begin in let k = reading_kind c.in-Begin.opening in
    λ sizes f book moves st.
    went_by sizes (state_of e book) c.begin.new.self _ _ (Begun k ∷ []) (expanded (page_of e book) c.args.seen moves) 0 (moves_as (page_of e book) c.args.seen moves c.in-Begin.is (c.expansion_of.ensures.to (page_of e book) moves))
    (expansion_went sizes e c.begin.new.self book f _ k (n.ensures.fits sizes book (counts_of sizes e book st)) (n.ensures.state sizes book st) c.begin.ensures.same.others.in_line (n.ensures.stands sizes book st))

pub returns-in_err-put_job-in-JobName-clause-err : goal.returns-in_err-put_job-in-JobName-clause-err
returns-in_err-put_job-in-JobName-clause-err g c = let e = c.args.engine.now in let n = c.in_err-put_job-in-JobName in let k = reading_kind c.in-JobName.opening in
    same_err c.from_residual-in_err-put_job-in-JobName.result n.field-0.0 _ c.from_residual-in_err-put_job-in-JobName.ensures.1
    (λ sizes f book moves st.
    in_by sizes (state_of e book) c.put_job.new.engine _ _ (job_moves (page_of e book) k) (expanded (page_of e book) c.args.seen moves) n.field-0.0 (moves_as (page_of e book) c.args.seen moves c.in-JobName.is (c.expansion_of.ensures.to (page_of e book) moves))
    (column_in sizes (state_of e book) c.put_job.new.engine f _ e.in_line (job_moves (page_of e book) k) n.field-0.0 c.put_job.ensures.column (n.ensures.err sizes _ book st)))

pub returns-in_ok-put_job-in-JobName-clause-rule : goal.returns-in_ok-put_job-in-JobName-clause-rule
returns-in_ok-put_job-in-JobName-clause-rule g c = let e = c.args.engine.now in let n = c.in_ok-put_job-in-JobName in let k = reading_kind c.in-JobName.opening in
    λ sizes f book moves st.
    went_by sizes (state_of e book) c.put_job.new.engine _ _ (job_moves (page_of e book) k) (expanded (page_of e book) c.args.seen moves) 0 (moves_as (page_of e book) c.args.seen moves c.in-JobName.is (c.expansion_of.ensures.to (page_of e book) moves))
    (column_went sizes (state_of e book) c.put_job.new.engine f _ e.in_line (job_moves (page_of e book) k) 0 c.put_job.ensures.column (n.ensures.rule sizes _ book st))

pub returns-in_err-begin_input-in-Input-clause-err : goal.returns-in_err-begin_input-in-Input-clause-err
returns-in_err-begin_input-in-Input-clause-err g c = let e = c.args.engine.now in let n = c.in_err-begin_input-in-Input in let i = c.in-Input in
    same_err c.from_residual-in_err-begin_input-in-Input.result n.field-0.0 _ c.from_residual-in_err-begin_input-in-Input.ensures.1
    (λ sizes f book moves st.
    in_by sizes (state_of e book) c.begin_input.new.engine _ _ (input_met (page_of e book) i.token i.call) (expanded (page_of e book) c.args.seen moves) n.field-0.0 (moves_as (page_of e book) c.args.seen moves i.is (c.expansion_of.ensures.to (page_of e book) moves))
    (column_in sizes (state_of e book) c.begin_input.new.engine f _ e.in_line (input_met (page_of e book) i.token i.call) n.field-0.0 c.begin_input.ensures.column (n.ensures.err sizes _ book st)))

pub returns-in_ok-begin_input-in-Input-clause-rule : goal.returns-in_ok-begin_input-in-Input-clause-rule
returns-in_ok-begin_input-in-Input-clause-rule g c = let e = c.args.engine.now in let n = c.in_ok-begin_input-in-Input in let i = c.in-Input in
    λ sizes f book moves st.
    went_by sizes (state_of e book) c.begin_input.new.engine _ _ (input_met (page_of e book) i.token i.call) (expanded (page_of e book) c.args.seen moves) 0 (moves_as (page_of e book) c.args.seen moves i.is (c.expansion_of.ensures.to (page_of e book) moves))
    (column_went sizes (state_of e book) c.begin_input.new.engine f _ e.in_line (input_met (page_of e book) i.token i.call) 0 c.begin_input.ensures.column (n.ensures.rule sizes _ book st))

pub returns-in-EndInput-clause-rule : goal.returns-in-EndInput-clause-rule
returns-in-EndInput-clause-rule g c = let e = c.args.engine.now in let e1 = c.end_input.new.self in let n = c.end_input.ensures in
    let column : e1.in_line ≡ e.in_line = ap (λ (x : Engine). x.in_line) n.only in
    λ sizes f book moves st.
    went_by sizes (state_of e book) e1 _ _ (FileEnds ∷ []) (expanded (page_of e book) c.args.seen moves) 0 (moves_as (page_of e book) c.args.seen moves c.in-EndInput.is (c.expansion_of.ensures.to (page_of e book) moves))
    (column_went sizes (state_of e book) e1 f _ e.in_line (FileEnds ∷ []) 0 column (record { book' = book; stands = n.stands sizes book (all_of sizes e book st); did = n.did sizes _ book; count = refl }))

pub returns-in_err-begin_conditional-in-Conditional-clause-err : goal.returns-in_err-begin_conditional-in-Conditional-clause-err
returns-in_err-begin_conditional-in-Conditional-clause-err g c = let e = c.args.engine.now in let n = c.in_err-begin_conditional-in-Conditional in let i = c.in-Conditional in
    same_err c.from_residual-in_err-begin_conditional-in-Conditional.result n.field-0.0 _ c.from_residual-in_err-begin_conditional-in-Conditional.ensures.1
    (λ sizes f book moves st.
    in_by sizes (state_of e book) c.begin_conditional.new.engine _ _ (conditional_begun (page_of e book) i.call i.number (constant_test i.number)) (expanded (page_of e book) c.args.seen moves) n.field-0.0 (moves_as (page_of e book) c.args.seen moves i.is (c.expansion_of.ensures.to (page_of e book) moves))
    (column_in sizes (state_of e book) c.begin_conditional.new.engine f _ e.in_line (conditional_begun (page_of e book) i.call i.number (constant_test i.number)) n.field-0.0 c.begin_conditional.ensures.column (n.ensures.err sizes _ book st)))

pub returns-in_ok-begin_conditional-in-Conditional-clause-rule : goal.returns-in_ok-begin_conditional-in-Conditional-clause-rule
returns-in_ok-begin_conditional-in-Conditional-clause-rule g c = let e = c.args.engine.now in let n = c.in_ok-begin_conditional-in-Conditional in let i = c.in-Conditional in
    λ sizes f book moves st.
    went_by sizes (state_of e book) c.begin_conditional.new.engine _ _ (conditional_begun (page_of e book) i.call i.number (constant_test i.number)) (expanded (page_of e book) c.args.seen moves) 0 (moves_as (page_of e book) c.args.seen moves i.is (c.expansion_of.ensures.to (page_of e book) moves))
    (column_went sizes (state_of e book) c.begin_conditional.new.engine f _ e.in_line (conditional_begun (page_of e book) i.call i.number (constant_test i.number)) 0 c.begin_conditional.ensures.column (n.ensures.rule sizes _ book st))

pub returns-in_err-ruled-in-Ender-clause-err : goal.returns-in_err-ruled-in-Ender-clause-err
returns-in_err-ruled-in-Ender-clause-err g c = let e = c.args.engine.now in let n = c.in_err-ruled-in-Ender in let i = c.in-Ender in
    same_err c.from_residual-in_err-ruled-in-Ender.result n.field-0.0 _ c.from_residual-in_err-ruled-in-Ender.ensures.1
    (λ sizes f book moves st.
    in_by sizes (state_of e book) c.meet_ender.new.engine _ _ (ender_met (page_of e book) i.token i.call i.ender) (expanded (page_of e book) c.args.seen moves) n.field-0.0 (moves_as (page_of e book) c.args.seen moves i.is (c.expansion_of.ensures.to (page_of e book) moves))
    (n.ensures.err sizes f book st))

pub returns-in_ok-ruled-in-Ender-clause-rule : goal.returns-in_ok-ruled-in-Ender-clause-rule
returns-in_ok-ruled-in-Ender-clause-rule g c = let e = c.args.engine.now in let n = c.in_ok-ruled-in-Ender in let i = c.in-Ender in
    λ sizes f book moves st.
    once_reports sizes (state_of e book) c.meet_ender.new.engine book _ _ (ender_met (page_of e book) i.token i.call i.ender) (expanded (page_of e book) c.args.seen moves) moves n.ruled c.once_behind-in-Ender.result
    (moves_as (page_of e book) c.args.seen moves i.is (c.expansion_of.ensures.to (page_of e book) moves)) c.once_behind-in-Ender.ensures (n.ensures.rule sizes f book st)

pub returns-in-Unexpandable-clause-rule : goal.returns-in-Unexpandable-clause-rule
returns-in-Unexpandable-clause-rule g c = let e = c.args.engine.now in
    λ sizes f book moves st. moves_as (page_of e book) c.args.seen moves c.in-Unexpandable.is (c.expansion_of.ensures.to (page_of e book) moves)

-- WHAT IS EXPANDED

pub returns-in_err-ruled-in-Undefined-clause-which : goal.returns-in_err-ruled-in-Undefined-clause-which
returns-in_err-ruled-in-Undefined-clause-which g c = on_end _ _ _ c.from_residual.result c.from_residual.ensures.1 (expands_as c.args.seen c.in-Undefined.is c.expansion_of.ensures.which)

pub returns-in_ok-ruled-in-Undefined-clause-which : goal.returns-in_ok-ruled-in-Undefined-clause-which
returns-in_ok-ruled-in-Undefined-clause-which g c = reports_change c.in_ok-ruled-in-Undefined.ruled c.once_behind.result c.once_behind.ensures ∙ sym (expands_as c.args.seen c.in-Undefined.is c.expansion_of.ensures.which)

pub returns-in_err-call_name-in-Call-clause-which : goal.returns-in_err-call_name-in-Call-clause-which
returns-in_err-call_name-in-Call-clause-which g c =
    on_end _ _ _ c.from_residual-in_err-call_name-in-Call.result c.from_residual-in_err-call_name-in-Call.ensures.1 (expands_as c.args.seen c.in-Call.is c.expansion_of.ensures.which)

pub returns-in_ok-call_name-in-Call-clause-which : goal.returns-in_ok-call_name-in-Call-clause-which
returns-in_ok-call_name-in-Call-clause-which g c = sym (expands_as c.args.seen c.in-Call.is c.expansion_of.ensures.which)

pub returns-in_err-begin-in-Begin-clause-which : goal.returns-in_err-begin-in-Begin-clause-which
returns-in_err-begin-in-Begin-clause-which g c =
    on_end _ _ _ c.from_residual-in_err-begin-in-Begin.result c.from_residual-in_err-begin-in-Begin.ensures.1 (expands_as c.args.seen c.in-Begin.is c.expansion_of.ensures.which)

pub returns-in_ok-begin-in-Begin-clause-which : goal.returns-in_ok-begin-in-Begin-clause-which
returns-in_ok-begin-in-Begin-clause-which g c = sym (expands_as c.args.seen c.in-Begin.is c.expansion_of.ensures.which)

pub returns-in_err-put_job-in-JobName-clause-which : goal.returns-in_err-put_job-in-JobName-clause-which
returns-in_err-put_job-in-JobName-clause-which g c =
    on_end _ _ _ c.from_residual-in_err-put_job-in-JobName.result c.from_residual-in_err-put_job-in-JobName.ensures.1 (expands_as c.args.seen c.in-JobName.is c.expansion_of.ensures.which)

pub returns-in_ok-put_job-in-JobName-clause-which : goal.returns-in_ok-put_job-in-JobName-clause-which
returns-in_ok-put_job-in-JobName-clause-which g c = sym (expands_as c.args.seen c.in-JobName.is c.expansion_of.ensures.which)

pub returns-in_err-begin_conditional-in-Conditional-clause-which : goal.returns-in_err-begin_conditional-in-Conditional-clause-which
returns-in_err-begin_conditional-in-Conditional-clause-which g c =
    on_end _ _ _ c.from_residual-in_err-begin_conditional-in-Conditional.result c.from_residual-in_err-begin_conditional-in-Conditional.ensures.1 (expands_as c.args.seen c.in-Conditional.is c.expansion_of.ensures.which)

pub returns-in_ok-begin_conditional-in-Conditional-clause-which : goal.returns-in_ok-begin_conditional-in-Conditional-clause-which
returns-in_ok-begin_conditional-in-Conditional-clause-which g c = sym (expands_as c.args.seen c.in-Conditional.is c.expansion_of.ensures.which)

pub returns-in_err-ruled-in-Ender-clause-which : goal.returns-in_err-ruled-in-Ender-clause-which
returns-in_err-ruled-in-Ender-clause-which g c =
    on_end _ _ _ c.from_residual-in_err-ruled-in-Ender.result c.from_residual-in_err-ruled-in-Ender.ensures.1 (expands_as c.args.seen c.in-Ender.is c.expansion_of.ensures.which)

pub returns-in_ok-ruled-in-Ender-clause-which : goal.returns-in_ok-ruled-in-Ender-clause-which
returns-in_ok-ruled-in-Ender-clause-which g c = reports_change c.in_ok-ruled-in-Ender.ruled c.once_behind-in-Ender.result c.once_behind-in-Ender.ensures ∙ sym (expands_as c.args.seen c.in-Ender.is c.expansion_of.ensures.which)

pub returns-in-Unexpandable-clause-which : goal.returns-in-Unexpandable-clause-which
returns-in-Unexpandable-clause-which g c = sym (expands_as c.args.seen c.in-Unexpandable.is c.expansion_of.ensures.which)

-- WHAT IT WEIGHS

pub returns-in_ok-ruled-in-Undefined-clause-light : goal.returns-in_ok-ruled-in-Undefined-clause-light
returns-in_ok-ruled-in-Undefined-clause-light g c expanded light = let e = c.args.engine.now in
    same_light e c.requires.uncalled light c.report_only.new.self c.report_only.ensures.frames (ap (λ (i : Stored). pending_weight i.pending) c.report_only.ensures.input)

pub returns-in_ok-call_name-in-Call-clause-light : goal.returns-in_ok-call_name-in-Call-clause-light
returns-in_ok-call_name-in-Call-clause-light g c expanded light = c.in_ok-call_name-in-Call.ensures.light c.requires.uncalled light

pub returns-in_ok-begin-in-Begin-clause-light : goal.returns-in_ok-begin-in-Begin-clause-light
returns-in_ok-begin-in-Begin-clause-light g c expanded light = let e = c.args.engine.now in let n = c.in_ok-begin-in-Begin.ensures in
    begun_light e c.requires.uncalled light c.begin.new.self c.in-Begin.opening _ n.same.call n.frames n.weight (subst IsLight c.in-Begin.is c.expansion_of.ensures.light) n.same.pending

pub returns-in_ok-put_job-in-JobName-clause-light : goal.returns-in_ok-put_job-in-JobName-clause-light
returns-in_ok-put_job-in-JobName-clause-light g c expanded light = let e = c.args.engine.now in let n = c.in_ok-put_job-in-JobName.ensures in
    framed_light e c.requires.uncalled light c.put_job.new.engine (n.call c.requires.uncalled) n.frames n.pending

pub returns-in_ok-begin_conditional-in-Conditional-clause-light : goal.returns-in_ok-begin_conditional-in-Conditional-clause-light
returns-in_ok-begin_conditional-in-Conditional-clause-light g c expanded light = c.in_ok-begin_conditional-in-Conditional.ensures.light c.requires.uncalled light

pub returns-in_ok-ruled-in-Ender-clause-light : goal.returns-in_ok-ruled-in-Ender-clause-light
returns-in_ok-ruled-in-Ender-clause-light g c expanded light = c.in_ok-ruled-in-Ender.ensures.light light

-- WHAT STAYS

pub returns-in_ok-ruled-in-Undefined-clause-halts : goal.returns-in_ok-ruled-in-Undefined-clause-halts
returns-in_ok-ruled-in-Undefined-clause-halts g c over = c.report_only.ensures.frames

pub returns-in_ok-ruled-in-Undefined-clause-stays : goal.returns-in_ok-ruled-in-Undefined-clause-stays
returns-in_ok-ruled-in-Undefined-clause-stays g c stays = absurd (reports_leave c.in_ok-ruled-in-Undefined.ruled c.once_behind.result c.once_behind.ensures stays)

pub returns-in_ok-ruled-in-Undefined-clause-silent : goal.returns-in_ok-ruled-in-Undefined-clause-silent
returns-in_ok-ruled-in-Undefined-clause-silent g c stays = absurd (reports_leave c.in_ok-ruled-in-Undefined.ruled c.once_behind.result c.once_behind.ensures stays)

pub returns-in_ok-ruled-in-Ender-clause-halts : goal.returns-in_ok-ruled-in-Ender-clause-halts
returns-in_ok-ruled-in-Ender-clause-halts g c over = c.in_ok-ruled-in-Ender.ensures.halts (over_halted c.in_ok-ruled-in-Ender.ruled c.once_behind-in-Ender.result c.once_behind-in-Ender.ensures over)

pub returns-in_ok-ruled-in-Ender-clause-stays : goal.returns-in_ok-ruled-in-Ender-clause-stays
returns-in_ok-ruled-in-Ender-clause-stays g c stays = absurd (reports_leave c.in_ok-ruled-in-Ender.ruled c.once_behind-in-Ender.result c.once_behind-in-Ender.ensures stays)

pub returns-in_ok-ruled-in-Ender-clause-silent : goal.returns-in_ok-ruled-in-Ender-clause-silent
returns-in_ok-ruled-in-Ender-clause-silent g c stays = absurd (reports_leave c.in_ok-ruled-in-Ender.ruled c.once_behind-in-Ender.result c.once_behind-in-Ender.ensures stays)
