use Rattle.std.proofs.Common.{◌∷◌}
use Rattle.plain_machine.specs.declared.broken.Broken.TheVariants as broken
use Rattle.plain_machine.specs.Plan.{put_one, noting}
use Rattle.engine_state.specs.Book.{with_work}
use Rattle.engine_state.specs.Stands.{state_of}
use Rattle.engine_state.proofs.Counting.{counts_of}
use Rattle.engine_state.proofs.Joining.{same_err}
use Rattle.engine_state.proofs.CuttingReadings.{stands_in}
use Rattle.gullet.proofs.JobName.{name_stands}
use Rattle.stomach.proofs.Telling.{noted_in, noted_went, put_free, told_light}
use Rattle.stomach.proofs.ends.put.Goals as goal

pub returns-in_err-put_one-clause-err : goal.returns-in_err-put_one-clause-err
returns-in_err-put_one-clause-err c = let e = c.args.engine.now in let i = c.in_err-put_one in
    same_err c.from_residual.result i.field-0.0 _ c.from_residual.ensures.1
    (λ sizes w book r rs st. let at = with_work (r ∷ rs) book in
    stands_in sizes e c.put_one.new.self at w w _ i.field-0.0 (i.ensures.err sizes w at (noting r) (counts_of sizes e at st) st.idle) c.put_one.ensures.frames st)

pub returns-in_err-note-clause-err : goal.returns-in_err-note-clause-err
returns-in_err-note-clause-err c = let e = c.args.engine.now in let e1 = c.put_one.new.self in let p = c.put_one.ensures in let k = c.in_ok-put_one.ensures in let i = c.in_err-note in
    same_err c.from_residual-in_err-note.result (broken.Full i.field-0.0) _ c.from_residual-in_err-note.ensures.1
    (λ sizes w book r rs st. let at = with_work (r ∷ rs) book in
    noted_in sizes e e1 c.note.new.self book w r rs (put_one c.args.token) (k.did sizes w at (counts_of sizes e at st) st.idle) (broken.Full i.field-0.0)
    (i.ensures.refused sizes w book r rs (name_stands sizes e e1 at p.frames p.others p.store k.idle st)))

pub returns-clause-rule : goal.returns-clause-rule
returns-clause-rule c = let e = c.args.engine.now in let e1 = c.put_one.new.self in let p = c.put_one.ensures in let k = c.in_ok-put_one.ensures in let n = c.in_ok-note.ensures in
    λ sizes w book r rs st. let at = with_work (r ∷ rs) book in
    let st1 = name_stands sizes e e1 at p.frames p.others p.store k.idle st in
    noted_went sizes e e1 c.note.new.self book w r rs (put_one c.args.token) (k.did sizes w at (counts_of sizes e at st) st.idle) (put_free (state_of e at) r c.args.token) (n.did sizes w book r rs st1) (n.stands sizes at st1)

pub returns-clause-light : goal.returns-clause-light
returns-clause-light c = let n = c.in_ok-note.ensures in
    λ reported. told_light c.args.engine.now c.put_one.new.self c.note.new.self c.requires.uncalled c.put_one.ensures.frames c.put_one.ensures.light n.light reported
