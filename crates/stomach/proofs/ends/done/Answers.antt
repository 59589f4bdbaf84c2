use Rattle.std.proofs.Common.{[], ◌∷◌, ◌∙◌}
use Rattle.plain_readings.specs.Readings.{lists}
use Rattle.plain_machine.specs.Plan.{value_tokens}
use Rattle.plain_machine.specs.States.{Ended}
use Rattle.engine_state.specs.Book.{with_work}
use Rattle.engine_state.proofs.Counting.{counts_of}
use Rattle.gullet.proofs.JobName.{name_stands}
use Rattle.engine_state.proofs.Joining.{same_err}
use Rattle.engine_state.proofs.CuttingReadings.{stands_in}
use Rattle.stomach.proofs.InnerBegun.{asked_still, done_went, done_light}
use Rattle.stomach.proofs.ends.done.Goals as goal

pub returns-in_err-put_back-clause-err : goal.returns-in_err-put_back-clause-err
returns-in_err-put_back-clause-err c = let e = c.args.engine.now in let i = c.in_err-put_back in
    same_err c.from_residual.result i.field-0.0 _ c.from_residual.ensures.1
    (λ sizes w book r rs st. let at = with_work (r ∷ rs) book in
    stands_in sizes e c.put_back.new.self at w w _ i.field-0.0 (i.ensures.err sizes w at (Ended c.args.value (value_tokens c.args.value (lists r.kind r.fed)) ∷ []) (counts_of sizes e at st) st.idle) c.put_back.ensures.frames st)

pub returns-clause-rule : goal.returns-clause-rule
returns-clause-rule c = let e = c.args.engine.now in let e1 = c.put_back.new.self in let p = c.put_back.ensures in let k = c.in_ok-put_back.ensures in
    λ sizes w book r rs st asks. let at = with_work (r ∷ rs) book in
    let still = name_stands sizes e e1 at p.frames p.others p.store k.idle st in
    let asks1 = asked_still e e1 p.frames ∙ asks in
    done_went sizes e e1 c.end.new.self book w r rs c.args.value c.args.back (k.did sizes w at (counts_of sizes e at st) st.idle)
    (c.end.ensures.state sizes book r rs c.args.back still asks1) (c.end.ensures.stands sizes book r rs c.args.back still asks1)

pub returns-clause-light : goal.returns-clause-light
returns-clause-light c = let p = c.put_back.ensures in let n = c.end.ensures in
    λ asks. done_light c.args.engine.now c.put_back.new.self c.end.new.self c.args.value c.args.back c.requires.uncalled p.frames p.light n.same.call n.same.pending asks n.frames n.weight
