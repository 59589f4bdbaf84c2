use Rattle.engine_state.specs.Stands.{state_of, page_of}
use Rattle.engine_state.proofs.Joining.{same_err}
use Rattle.engine_state.proofs.Reporting.{last_is, last_cut}
use Rattle.engine_state.proofs.AtLocations.{only_input}
use Rattle.engine_state.proofs.engine.Engine.halt.Goals as goal

pub returns-in_err-write_last-clause-err : goal.returns-in_err-write_last-clause-err
returns-in_err-write_last-clause-err g c = let e = c.args.self.now in let i = c.in_err-write_last in
    same_err c.from_residual.result i.field-0.0 _ c.from_residual.ensures.1
    (λ sizes f book. last_cut sizes _ _ book _ _ (page_of e book) c.args.last i.field-0.0 (i.ensures.err sizes f book))

pub returns-clause-rule : goal.returns-clause-rule
returns-clause-rule g c = λ sizes f book. let e = c.args.self.now in
    rw c.outcome.ensures (last_is sizes (state_of e book) c.write_last.new.self book _ _ (page_of e book) c.args.last (c.in_ok-write_last.ensures.did sizes f book))

pub returns-in_err-write_last-clause-input : goal.returns-in_err-write_last-clause-input
returns-in_err-write_last-clause-input g c = only_input c.args.self.now c.write_last.new.self c.write_last.ensures.only

pub returns-clause-input : goal.returns-clause-input
returns-clause-input g c = only_input c.args.self.now c.write_last.new.self c.write_last.ensures.only
