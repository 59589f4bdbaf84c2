use Rattle.engine_state.proofs.Joining.{same_err}
use Rattle.engine_state.proofs.TextPutting.{text_none, text_grown, text_not, all_grown, grown_some}
use Rattle.engine_state.proofs.text.grow_text.Goals as goal

pub loop-code-init : goal.loop-code-init
loop-code-init c = text_none c.args.input.now c.args.text.now

pub grow_character-requires : goal.grow_character-requires
grow_character-requires c = let l = c.loop-code in grown_some c.args.input.now l.input _ l.invariant c.requires

pub loop-code-preserved : goal.loop-code-preserved
loop-code-preserved c = let l = c.loop-code in
    text_grown c.args.input.now l.input c.grow_character.new.input c.args.text.now l.code-index l.invariant c.loop-code-test.true c.in_ok-grow_character.ensures.ok

pub returns-in_err-grow_character-clause-err : goal.returns-in_err-grow_character-clause-err
returns-in_err-grow_character-clause-err c = let l = c.loop-code in let i = c.in_err-grow_character in
    same_err c.from_residual.result i.field-0.0 _ c.from_residual.ensures.1
    (text_not c.args.input.now l.input c.grow_character.new.input c.args.text.now l.code-index l.invariant c.loop-code-test.true i.field-0.0 i.ensures.err)

pub returns-clause-ok : goal.returns-clause-ok
returns-clause-ok c = let l = c.loop-code in all_grown c.args.input.now l.input c.args.text.now l.code-index l.invariant c.loop-code-test.false
