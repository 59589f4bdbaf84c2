use Rattle.std.proofs.Common.{[], ◌∷◌, ◌++◌}
use Rattle.reading_frames.specs.Views.{reading_kind}
use Rattle.plain_readings.specs.Readings.{opened}
use Rattle.plain_machine.specs.declared.broken.Broken.TheVariants as broken
use Rattle.plain_machine.specs.Plan.{job_in, put_characters}
use Rattle.plain_machine.specs.States.{Begun, Closed}
use Rattle.engine_state.specs.Book.{with_work}
use Rattle.engine_state.proofs.Counting.{counts_of}
use Rattle.gullet.proofs.JobName.{full_in, name_stands, job_cuts, job_went}
use Rattle.engine_state.proofs.Joining.{same_err}
use Rattle.gullet.proofs.expansion.put_job.Goals as goal

pub returns-in_err-begin-clause-err : goal.returns-in_err-begin-clause-err
returns-in_err-begin-clause-err c = let e = c.args.engine.now in let n = c.in_err-begin in let k = reading_kind c.args.opening in
    same_err c.from_residual.result (broken.Full n.field-0.0) _ c.from_residual.ensures.1
    (λ sizes w book st. full_in sizes e c.begin.new.self book w (Begun k) (put_characters (job_in e.names.others) ++ Closed ∷ []) n.field-0.0 n.ensures.err (n.ensures.refused sizes book (counts_of sizes e book st)) st)

pub returns-in_err-put_characters-clause-err : goal.returns-in_err-put_characters-clause-err
returns-in_err-put_characters-clause-err c = let e = c.args.engine.now in let e1 = c.begin.new.self in let b = c.in_ok-begin.ensures in let n = c.in_err-put_characters in let k = reading_kind c.args.opening in
    same_err c.from_residual-in_err-put_characters.result n.field-0.0 _ c.from_residual-in_err-put_characters.ensures.1
    (λ sizes w book st.
    let inner = with_work (opened k book.work) book in
    let now = b.stands sizes book st in
    job_cuts sizes e e1 c.put_characters.new.self book w k (b.fits sizes book (counts_of sizes e book st)) (b.state sizes book st) b.same.others.names n.field-0.0 n.ensures.frames (n.ensures.err sizes w inner (Closed ∷ []) (counts_of sizes e1 inner now) now.idle) now)

pub returns-clause-rule : goal.returns-clause-rule
returns-clause-rule c = let e = c.args.engine.now in let e1 = c.begin.new.self in let e2 = c.put_characters.new.self in let b = c.in_ok-begin.ensures in let n = c.in_ok-put_characters.ensures in let l = c.close_reading.ensures in let k = reading_kind c.args.opening in
    λ sizes w book st.
    let inner = with_work (opened k book.work) book in
    let now = b.stands sizes book st in
    let put = name_stands sizes e1 e2 inner n.frames n.others n.store n.idle now in
    job_went sizes e e1 e2 book w k (b.fits sizes book (counts_of sizes e book st)) (b.state sizes book st) b.same.others.names c.close_reading.new.self (n.did sizes w inner (counts_of sizes e1 inner now) now.idle)
    (l.state sizes book (record { kind = k; fed = [] }) book.work put) (l.stands sizes book (record { kind = k; fed = [] }) book.work put)
