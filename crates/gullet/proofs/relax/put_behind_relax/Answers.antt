use Rattle.std.proofs.Common.{[], ◌++◌}
use Rattle.plain_machine.specs.Plan.{put_one, frozen_relax}
use Rattle.engine_state.proofs.Counting.{counts_of}
use Rattle.engine_state.proofs.CuttingReadings.{stands_in}
use Rattle.engine_state.proofs.Joining.{same_err, on_both, err_to}
use Rattle.gullet.proofs.JobName.{name_stands}
use Rattle.gullet.proofs.RelaxPut.{relax_cuts, both_put}
use Rattle.gullet.proofs.relax.put_behind_relax.Goals as goal

pub returns-in_err-put_one-clause-err : goal.returns-in_err-put_one-clause-err
returns-in_err-put_one-clause-err c = let e = c.args.engine.now in let e1 = c.put_one.new.self in let n = c.in_err-put_one in
    same_err c.from_residual.result n.field-0.0 _ c.from_residual.ensures.1
    (λ sizes w book st. stands_in sizes e e1 book w w (put_one c.args.token ++ put_one frozen_relax) n.field-0.0 (n.ensures.err sizes w book (put_one frozen_relax) (counts_of sizes e book st) c.requires.idle) c.put_one.ensures.frames st)

pub returns-clause-err : goal.returns-clause-err
returns-clause-err c = let e = c.args.engine.now in let e1 = c.put_one.new.self in let e2 = c.put_one-2.new.self in let f = c.in_ok-put_one.ensures in
    err_to c.put_one-2.result
    (λ b h sizes w book st.
    let now = name_stands sizes e e1 book f.frames f.others f.store f.idle st in
    relax_cuts sizes e e1 e2 book w c.args.token (f.did sizes w book (counts_of sizes e book st) c.requires.idle) now b (h sizes w book [] (counts_of sizes e1 book now) f.idle) c.put_one-2.ensures.frames)
    c.put_one-2.ensures.err

pub returns-clause-rule : goal.returns-clause-rule
returns-clause-rule c = let e = c.args.engine.now in let e1 = c.put_one.new.self in let e2 = c.put_one-2.new.self in let f = c.in_ok-put_one.ensures in let n = c.put_one-2.ensures in
    on_both c.put_one-2.result
    (λ h idle sizes w book st.
    let now = name_stands sizes e e1 book f.frames f.others f.store f.idle st in
    both_put sizes e e1 e2 book w c.args.token (f.did sizes w book (counts_of sizes e book st) c.requires.idle) now (h sizes w book (counts_of sizes e1 book now) f.idle)
    (name_stands sizes e1 e2 book n.frames n.others n.store idle now))
    n.did n.idle
