use Rattle.plain_machine.specs.declared.broken.Broken.TheVariants as broken
use Rattle.std.specs.Prelude.{Some, []}
use Rattle.engine_state.proofs.Joining.{same_err}
use Rattle.engine_state.proofs.TextPutting.{begun_cuts, done_begun, begun_front, begun_none}
use Rattle.engine_state.proofs.engine.Engine.begin_text.Goals as goal

pub returns-in_err-make_list-clause-err : goal.returns-in_err-make_list-clause-err
returns-in_err-make_list-clause-err c = let e = c.args.self.now in let i = c.in_err-make_list in
    same_err c.from_residual.result (broken.Full i.field-0.0) _ c.from_residual.ensures.1
    (λ sizes w book rest sound. begun_cuts sizes e w book sound c.end_token_lists.new.self c.make_list.new.self c.end_token_lists.ensures.after c.end_token_lists.ensures.keeps i.field-0.0 rest i.ensures.err i.ensures.refused)

pub returns-in_err-make_list-clause-front : goal.returns-in_err-make_list-clause-front
returns-in_err-make_list-clause-front c = begun_none c.args.self.now c.end_token_lists.new.self c.make_list.new.self c.end_token_lists.ensures.after c.end_token_lists.ensures.keeps c.in_err-make_list.ensures.err

pub returns-clause-did : goal.returns-clause-did
returns-clause-did c = let e = c.args.self.now in let i = c.in_ok-make_list in
    λ sizes w book sound. done_begun sizes e w book sound c.end_token_lists.new.self c.make_list.new.self c.end_token_lists.ensures.after c.end_token_lists.ensures.keeps i.ensures.refused i.ensures.ok

pub returns-clause-front : goal.returns-clause-front
returns-clause-front c = begun_front c.args.self.now c.end_token_lists.new.self c.make_list.new.self (Some []) c.end_token_lists.ensures.after c.end_token_lists.ensures.keeps c.in_ok-make_list.ensures.ok c.make_list.ensures.keeps
