use Rattle.engine_state.proofs.TokensTaken.{cut_first, cut_second}
use Rattle.engine_state.proofs.Joining.{same_err}
use Rattle.engine_state.proofs.engine.Engine.take.Goals as goal

pub returns-in_err-grow-clause-err : goal.returns-in_err-grow-clause-err
returns-in_err-grow-clause-err c = let i = c.in_err-grow in
    same_err c.from_residual.result i.field-0.0 _ c.from_residual.ensures.1
    (cut_first c.args.grown i.field-0.0 c.args.self.now c.grow.new.self i.ensures.grows.0 i.ensures.grows.1 i.ensures.refused i.ensures.err)

pub returns-in_err-grow-2-clause-err : goal.returns-in_err-grow-2-clause-err
returns-in_err-grow-2-clause-err c = let i = c.in_err-grow-2 in let g = c.in_ok-grow.ensures in
    same_err c.from_residual-in_err-grow-2.result i.field-0.0 _ c.from_residual-in_err-grow-2.ensures.1
    (cut_second c.args.grown i.field-0.0 c.args.self.now c.grow.new.self c.grow-2.new.self g.ok i.ensures.grows.0 i.ensures.grows.1 g.fits i.ensures.refused i.ensures.err)
