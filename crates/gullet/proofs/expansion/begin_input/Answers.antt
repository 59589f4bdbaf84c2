use Rattle.std.proofs.Common.{[], ◌∷◌, ◌++◌, true}
use Rattle.plain_readings.specs.Readings.{FileName}
use Rattle.plain_machine.specs.declared.broken.Broken.TheVariants as broken
use Rattle.plain_machine.specs.Plan.{put_one, frozen_relax, input_met}
use Rattle.plain_machine.specs.States.{Begun, NameInProgress}
use Rattle.engine_state.specs.Stands.{state_of, page_of}
use Rattle.engine_state.proofs.Counting.{counts_of}
use Rattle.engine_state.proofs.CuttingReadings.{in_by}
use Rattle.engine_state.proofs.Joining.{same_err, on_ok, err_to, went_by}
use Rattle.gullet.proofs.ExpandingWeighs.{same_light}
use Rattle.gullet.proofs.JobName.{full_in}
use Rattle.gullet.proofs.InputMet.{met_again, met_first, name_begins}
use Rattle.gullet.proofs.expansion.begin_input.Goals as goal

pub returns-then-engine-clause-rule : goal.returns-then-engine-clause-rule
returns-then-engine-clause-rule c = let e = c.args.engine.now in
    on_ok c.put_behind_relax.result
    (λ h sizes w book st. went_by sizes (state_of e book) c.put_behind_relax.new.engine w w (put_one c.args.token ++ put_one frozen_relax) (input_met (page_of e book) c.args.token c.args.call) 0 (met_again (page_of e book) c.args.token c.args.call c.if-engine.true) (h sizes w book st))
    c.put_behind_relax.ensures.rule

pub returns-then-engine-clause-err : goal.returns-then-engine-clause-err
returns-then-engine-clause-err c = let e = c.args.engine.now in
    err_to c.put_behind_relax.result
    (λ b h sizes w book st. in_by sizes (state_of e book) c.put_behind_relax.new.engine w w (put_one c.args.token ++ put_one frozen_relax) (input_met (page_of e book) c.args.token c.args.call) b (met_again (page_of e book) c.args.token c.args.call c.if-engine.true) (h sizes w book st))
    c.put_behind_relax.ensures.err

pub returns-then-engine-clause-light : goal.returns-then-engine-clause-light
returns-then-engine-clause-light c = let n = c.put_behind_relax.ensures in
    on_ok c.put_behind_relax.result (λ idle none light. same_light c.args.engine.now none light c.put_behind_relax.new.engine n.frames n.pending) n.idle

pub returns-in_err-begin-clause-err : goal.returns-in_err-begin-clause-err
returns-in_err-begin-clause-err c = let e = c.args.engine.now in let e1 = c.begin.new.self in let n = c.in_err-begin in let k = FileName c.args.call in
    same_err c.from_residual.result (broken.Full n.field-0.0) _ c.from_residual.ensures.1
    (λ sizes w book st.
    in_by sizes (state_of e book) e1 w w (Begun k ∷ NameInProgress true ∷ []) (input_met (page_of e book) c.args.token c.args.call) (broken.Full n.field-0.0) (met_first (page_of e book) c.args.token c.args.call c.if-engine.false)
    (full_in sizes e e1 book w (Begun k) (NameInProgress true ∷ []) n.field-0.0 n.ensures.err (n.ensures.refused sizes book (counts_of sizes e book st)) st))

pub returns-clause-rule : goal.returns-clause-rule
returns-clause-rule c = let e = c.args.engine.now in let n = c.in_ok-begin.ensures in
    λ sizes w book st. name_begins sizes e c.begin.new.self book w c.args.token c.args.call c.if-engine.false (n.fits sizes book (counts_of sizes e book st)) (n.state sizes book st) (n.stands sizes book st)
