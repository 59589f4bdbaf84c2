use Rattle.std.proofs.Common.{List, ◌++◌, ap, subst, sym}
use Rattle.plain_machine.specs.States.{Move}
use Rattle.plain_machine.specs.Does.{Did}
use Rattle.engine_state.specs.Stands.{state_of}
use Rattle.engine_state.proofs.Cutting.{cuts_by}
use Rattle.engine_state.proofs.Joining.{same_err}
use Rattle.engine_state.proofs.Putting.{inserted_is}
use Rattle.engine_state.proofs.engine.Engine.insert.Goals as goal

pub returns-in_err-put_one-clause-err : goal.returns-in_err-put_one-clause-err
returns-in_err-put_one-clause-err c = let e = c.args.self.now in let i = c.in_err-put_one in
    same_err c.from_residual.result i.field-0.0 _ c.from_residual.ensures.1
    (λ sizes w book more counts idle. cuts_by sizes (state_of e book) c.put_one.new.self book w w _ _ i.field-0.0 (ap (λ (ms : List Move). ms ++ more) (inserted_is c.args.inserted c.in-Some.token c.in-Some.is)) (i.ensures.err sizes w book more counts idle))

pub returns-in_ok-put_one-clause-did : goal.returns-in_ok-put_one-clause-did
returns-in_ok-put_one-clause-did c = let e = c.args.self.now in
    λ sizes w book counts idle. subst (λ (ms : List Move). Did sizes (state_of e book) (state_of c.put_one.new.self book) w w ms) (sym (inserted_is c.args.inserted c.in-Some.token c.in-Some.is)) (c.in_ok-put_one.ensures.did sizes w book counts idle)
