use Rattle.std.specs.Prelude.{true}
use Rattle.plain_machine.specs.declared.broken.Broken.TheVariants as broken
use Rattle.engine_state.proofs.Putting.{kept_cuts}
use Rattle.engine_state.proofs.Stopping.{noted_cuts}
use Rattle.engine_state.proofs.engine.Engine.keep_name.Goals as goal

pub returns-in-Err-clause-err : goal.returns-in-Err-clause-err
returns-in-Err-clause-err c = let i = c.in-Err in
    λ sizes w book more sized. noted_cuts true sizes _ (record c.args.self.now { names = c.keep.new.self }) w w _ book (broken.Full i.full) (kept_cuts sizes c.args.self.now c.keep.new.self book w c.args.name.now more i.full sized i.ensures.after i.ensures.answer)
