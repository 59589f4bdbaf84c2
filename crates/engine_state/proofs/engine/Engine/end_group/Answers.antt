use Rattle.engine_state.proofs.GroupEnds.{ended_did, ended_cuts, ended_stands}
use Rattle.engine_state.proofs.Joining.{on_ok, err_to}
use Rattle.engine_state.proofs.engine.Engine.end_group.Goals as goal

pub returns-clause-did : goal.returns-clause-did
returns-clause-did c = let r = c.recall_groups.ensures in let k = c.close_group.ensures in
    on_ok c.put_closing.result (λ h. ended_did c.args.self.now c.close_group.new.self k.after r.outside r.alike k.keeps c.put_closing.new.self h) c.put_closing.ensures.did

pub returns-clause-err : goal.returns-clause-err
returns-clause-err c = let r = c.recall_groups.ensures in let k = c.close_group.ensures in
    err_to c.put_closing.result (λ b h. ended_cuts c.args.self.now c.close_group.new.self k.after r.outside r.alike k.keeps c.put_closing.new.self b h) c.put_closing.ensures.err

pub returns-clause-stands : goal.returns-clause-stands
returns-clause-stands c = let r = c.recall_groups.ensures in let k = c.close_group.ensures in let p = c.put_closing.ensures in
    on_ok c.put_closing.result (λ idle. ended_stands c.args.self.now c.close_group.new.self k.after r.outside r.alike k.keeps c.put_closing.new.self p.frames p.sound idle) p.idle
