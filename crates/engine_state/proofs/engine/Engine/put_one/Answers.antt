use Rattle.std.proofs.Common.{◌∷◌, [], ap, ◌∙◌}
use Rattle.plain_machine.specs.declared.broken.Broken.TheVariants as broken
use Rattle.plain_machine.specs.States.{ListGrown, Put}
use Rattle.input_state.specs.Stored.{Stored}
use Rattle.engine_state.proofs.Joining.{same_err}
use Rattle.engine_state.proofs.Putting.{settled_still, begin_cuts, grow_cuts, put_cuts, done_put, begun_store, grown_store, unput_store, put_store}
use Rattle.engine_state.proofs.engine.Engine.put_one.Goals as goal

pub returns-in_err-make_list-clause-err : goal.returns-in_err-make_list-clause-err
returns-in_err-make_list-clause-err c = let e = c.args.self.now in let t = c.args.token in let i = c.in_err-make_list in
    same_err c.from_residual.result (broken.Full i.field-0.0) _ c.from_residual.ensures.1
    (λ sizes w book more counts idle. begin_cuts sizes e t book w counts c.end_token_lists.new.self c.make_list.new.self c.make_list.new.self c.end_token_lists.ensures.after c.end_token_lists.ensures.keeps c.make_list.new.self i.field-0.0 (ListGrown t ∷ Put (t ∷ []) ∷ more) i.ensures.err i.ensures.refused)

pub returns-in_err-make_list-clause-store : goal.returns-in_err-make_list-clause-store
returns-in_err-make_list-clause-store c = let i = c.args.self.now.input in
    begun_store i c.end_token_lists.new.self c.make_list.new.self c.make_list.new.self c.end_token_lists.ensures.after c.end_token_lists.ensures.keeps c.make_list.new.self c.in_err-make_list.ensures.err

pub returns-in_err-grow_made-clause-err : goal.returns-in_err-grow_made-clause-err
returns-in_err-grow_made-clause-err c = let e = c.args.self.now in let t = c.args.token in let i = c.in_err-grow_made in
    same_err c.from_residual-in_err-grow_made.result (broken.Full i.field-0.0) _ c.from_residual-in_err-grow_made.ensures.1
    (λ sizes w book more counts idle. grow_cuts sizes e t book w counts c.end_token_lists.new.self c.make_list.new.self c.grow_made.new.self c.end_token_lists.ensures.after c.end_token_lists.ensures.keeps c.in_ok-make_list.ensures.ok c.make_list.ensures.keeps c.in_ok-make_list.ensures.refused
    c.grow_made.new.self i.field-0.0 (Put (t ∷ []) ∷ more) i.ensures.err i.ensures.refused)

pub returns-in_err-grow_made-clause-store : goal.returns-in_err-grow_made-clause-store
returns-in_err-grow_made-clause-store c = let i = c.args.self.now.input in
    grown_store i c.end_token_lists.new.self c.make_list.new.self c.grow_made.new.self c.end_token_lists.ensures.after c.end_token_lists.ensures.keeps c.in_ok-make_list.ensures.ok c.make_list.ensures.keeps c.grow_made.new.self c.in_err-grow_made.ensures.err

pub put_made-requires-clause-without_ended : goal.put_made-requires-clause-without_ended
put_made-requires-clause-without_ended c =
    settled_still c.args.self.now.input.pending c.grow_made.new.self.pending
    (ap (λ (i : Stored). i.pending) c.in_ok-grow_made.ensures.ok ∙ ap (λ (i : Stored). i.pending) c.in_ok-make_list.ensures.ok ∙ ap (λ (i : Stored). i.pending) c.end_token_lists.ensures.after)

pub returns-in_err-put_made-clause-err : goal.returns-in_err-put_made-clause-err
returns-in_err-put_made-clause-err c = let e = c.args.self.now in let t = c.args.token in let i = c.in_err-put_made in
    same_err c.from_residual-in_err-put_made.result (broken.Full i.field-0.0) _ c.from_residual-in_err-put_made.ensures.1
    (λ sizes w book more counts idle. put_cuts sizes e t book w counts c.end_token_lists.new.self c.make_list.new.self c.grow_made.new.self c.end_token_lists.ensures.after c.end_token_lists.ensures.keeps c.in_ok-make_list.ensures.ok c.make_list.ensures.keeps c.in_ok-make_list.ensures.refused
    c.in_ok-grow_made.ensures.ok c.grow_made.ensures.keeps c.in_ok-grow_made.ensures.refused c.put_made.new.self i.field-0.0 more i.ensures.err i.ensures.refused)

pub returns-in_err-put_made-clause-store : goal.returns-in_err-put_made-clause-store
returns-in_err-put_made-clause-store c = let i = c.args.self.now.input in
    unput_store i c.end_token_lists.new.self c.make_list.new.self c.grow_made.new.self c.end_token_lists.ensures.after c.end_token_lists.ensures.keeps c.in_ok-make_list.ensures.ok c.make_list.ensures.keeps c.args.token c.in_ok-grow_made.ensures.ok c.grow_made.ensures.keeps
    c.put_made.new.self c.in_err-put_made.ensures.err c.put_made.ensures.keeps

pub returns-clause-did : goal.returns-clause-did
returns-clause-did c = let e = c.args.self.now in let t = c.args.token in let i = c.in_ok-put_made in
    λ sizes w book counts idle. done_put sizes e t book w counts c.end_token_lists.new.self c.make_list.new.self c.grow_made.new.self c.end_token_lists.ensures.after c.end_token_lists.ensures.keeps c.in_ok-make_list.ensures.ok c.make_list.ensures.keeps c.in_ok-make_list.ensures.refused
    c.in_ok-grow_made.ensures.ok c.grow_made.ensures.keeps c.in_ok-grow_made.ensures.refused c.put_made.new.self i.ensures.ok i.ensures.refused

pub returns-clause-store : goal.returns-clause-store
returns-clause-store c = let i = c.args.self.now.input in
    put_store i c.end_token_lists.new.self c.make_list.new.self c.grow_made.new.self c.end_token_lists.ensures.after c.end_token_lists.ensures.keeps c.in_ok-make_list.ensures.ok c.make_list.ensures.keeps c.args.token c.in_ok-grow_made.ensures.ok c.grow_made.ensures.keeps
    c.put_made.new.self c.in_ok-put_made.ensures.ok c.put_made.ensures.keeps
