use Rattle.engine_state.proofs.Joining.{same_err}
use Rattle.engine_state.proofs.TextPutting.{grown_one, grown_not, grown_as, not_as}
use Rattle.engine_state.proofs.text.grow_character.Goals as goal

pub returns-in_err-grow_made-clause-err : goal.returns-in_err-grow_made-clause-err
returns-in_err-grow_made-clause-err c = let i = c.in_err-grow_made in
    same_err c.from_residual.result i.field-0.0 _ c.from_residual.ensures.1 (not_as c.args.input.now c.grow_made.new.self _ _ i.field-0.0 c.made_token.ensures (grown_not c.args.input.now c.grow_made.new.self _ i.field-0.0 i.ensures.err i.ensures.refused))

pub returns-clause-ok : goal.returns-clause-ok
returns-clause-ok c = grown_as c.args.input.now c.grow_made.new.self _ _ c.made_token.ensures (grown_one c.args.input.now c.grow_made.new.self _ c.in_ok-grow_made.ensures.ok c.grow_made.ensures.keeps c.in_ok-grow_made.ensures.refused)
