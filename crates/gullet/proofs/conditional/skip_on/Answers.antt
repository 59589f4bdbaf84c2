use Rattle.std.proofs.Common.{[], refl}
use Rattle.plain_readings.specs.Readings.{Skips}
use Rattle.plain_machine.specs.declared.broken.Broken.TheVariants as broken
use Rattle.plain_machine.specs.States.{Begun}
use Rattle.engine_state.proofs.Counting.{counts_of}
use Rattle.engine_state.proofs.Joining.{same_err}
use Rattle.gullet.proofs.Choosing.{skips_went, skips_cuts}
use Rattle.gullet.proofs.ExpandingWeighs.{skips_within}
use Rattle.gullet.proofs.JobName.{full_in}
use Rattle.gullet.proofs.conditional.skip_on.Goals as goal

pub returns-in_err-begin-clause-err : goal.returns-in_err-begin-clause-err
returns-in_err-begin-clause-err c = let e = c.args.engine.now in let e1 = c.begin.new.self in let n = c.in_err-begin in let line = c.line-line.result in
    same_err c.from_residual.result (broken.Full n.field-0.0) _ c.from_residual.ensures.1
    (λ sizes w book st.
    skips_cuts sizes e e1 book w c.args.call c.args.aim line c.line-line.ensures (broken.Full n.field-0.0)
    (full_in sizes e e1 book w (Begun (Skips c.args.call c.args.aim line)) [] n.field-0.0 n.ensures.err (n.ensures.refused sizes book (counts_of sizes e book st)) st))

pub returns-clause-rule : goal.returns-clause-rule
returns-clause-rule c = let e = c.args.engine.now in let n = c.in_ok-begin.ensures in
    λ sizes w book st. skips_went sizes e c.begin.new.self book w c.args.call c.args.aim c.line-line.result c.line-line.ensures (n.fits sizes book (counts_of sizes e book st)) (n.state sizes book st) (n.stands sizes book st)

pub returns-clause-light : goal.returns-clause-light
returns-clause-light c = let n = c.in_ok-begin.ensures in
    λ most none room. skips_within c.args.engine.now none most c.begin.new.self _ room n.same.call n.frames n.weight refl n.same.pending
