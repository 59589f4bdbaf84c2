use Rattle.std.proofs.Common.{sym, ◌∙◌}
use Rattle.engine_state.proofs.Grouping.{taken_counts, behind_did, behind_cuts}
use Rattle.engine_state.proofs.Joining.{on_ok, err_to}
use Rattle.engine_state.proofs.engine.Engine.put_after.Goals as goal

pub returns-in-Some-clause-did : goal.returns-in-Some-clause-did
returns-in-Some-clause-did c = let e = c.args.self.now in let t = c.in-Some.token in let o = c.take.new.self in let none = c.take.ensures.after in
    let kept = sym c.take.ensures.value ∙ c.in-Some.is in
    on_ok c.put_one.result
    (λ h sizes w book counts. behind_did e t o none kept sizes w book c.put_one.new.self (h sizes w book (taken_counts e t o none kept sizes book counts) c.requires.idle)) c.put_one.ensures.did

pub returns-in-Some-clause-err : goal.returns-in-Some-clause-err
returns-in-Some-clause-err c = let e = c.args.self.now in let t = c.in-Some.token in let o = c.take.new.self in let none = c.take.ensures.after in
    let kept = sym c.take.ensures.value ∙ c.in-Some.is in
    err_to c.put_one.result
    (λ b h sizes w book more counts. behind_cuts e t o none kept sizes w book c.put_one.new.self more b (h sizes w book more (taken_counts e t o none kept sizes book counts) c.requires.idle)) c.put_one.ensures.err
