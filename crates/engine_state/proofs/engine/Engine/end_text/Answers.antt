use Rattle.input_state.specs.HeldLists.{made}
use Rattle.plain_machine.specs.declared.broken.Broken.TheVariants as broken
use Rattle.engine_state.proofs.Joining.{same_err, when_true}
use Rattle.engine_state.proofs.TextPutting.{made_done, unput_cuts, some_made, same_front}
use Rattle.engine_state.proofs.engine.Engine.end_text.Goals as goal

pub returns-in_err-put_made-clause-err : goal.returns-in_err-put_made-clause-err
returns-in_err-put_made-clause-err c = let e = c.args.self.now in let i = c.in_err-put_made in let o = e.input.making in
    same_err c.from_residual.result (broken.Full i.field-0.0) _ c.from_residual.ensures.1
    (λ sizes w book more sound. unput_cuts sizes e w book sound (made o) (some_made o c.requires.making) c.put_made.new.self (when_true _ _ c.args.some c.if-some.true c.requires.some) i.field-0.0 more i.ensures.err i.ensures.refused)

pub returns-in_err-put_made-clause-front : goal.returns-in_err-put_made-clause-front
returns-in_err-put_made-clause-front c = same_front c.args.self.now c.put_made.new.self c.in_err-put_made.ensures.err c.put_made.ensures.keeps

pub returns-in_ok-put_made-clause-did : goal.returns-in_ok-put_made-clause-did
returns-in_ok-put_made-clause-did c = let e = c.args.self.now in let o = e.input.making in
    λ sizes w book sound. made_done sizes e w book sound (made o) (some_made o c.requires.making) c.put_made.new.self (when_true _ _ c.args.some c.if-some.true c.requires.some) c.in_ok-put_made.ensures.ok c.in_ok-put_made.ensures.refused
