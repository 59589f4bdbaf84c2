use Rattle.std.proofs.Common.{◌∷◌, []}
use Rattle.engine_state.proofs.Joining.{same_err}
use Rattle.engine_state.proofs.MadeTexts.{along_none, along_one, along_not, along_all, along_some}
use Rattle.engine_state.proofs.text.grow_letters.Goals as goal

pub loop-code-init : goal.loop-code-init
loop-code-init c = along_none c.args.input.now c.args.letters

pub loop-code-preserved : goal.loop-code-preserved
loop-code-preserved c = let l = c.loop-code in
    along_one c.args.input.now l.input c.grow_character.new.input c.args.letters l.left c.next.new.self c.in-Some.code l.some l.invariant c.in-Some.ensures c.in_ok-grow_character.ensures.ok

pub returns-in_err-grow_character-clause-err : goal.returns-in_err-grow_character-clause-err
returns-in_err-grow_character-clause-err c = let l = c.loop-code in let i = c.in_err-grow_character in
    same_err c.from_residual.result i.field-0.0 _ c.from_residual.ensures.1
    (along_not c.args.input.now l.input c.grow_character.new.input c.args.letters l.left (c.in-Some.code ∷ []) c.next.new.self l.some l.invariant c.in-Some.ensures i.field-0.0 i.ensures.err)

pub returns-clause-ok : goal.returns-clause-ok
returns-clause-ok c = let l = c.loop-code in along_all c.args.input.now l.input c.args.letters l.left l.some l.invariant c.in_default.ensures.0

pub returns-clause-some : goal.returns-clause-some
returns-clause-some c = let l = c.loop-code in along_some c.args.input.now l.input c.args.letters l.left l.some l.invariant c.in_default.ensures.0
