use Rattle.std.proofs.Common.{◌∙◌, sym, subst, arith, length, ℕ}
use Rattle.input_stack.specs.Puts.{next_item}
use Rattle.input_stack.specs.CallViews.{IsCountable, opened}
use Rattle.input_stack.specs.Lasting.{LastsBut}
use Rattle.input_stack.specs.Pending.{Pending}
use Rattle.input_stack.specs.Pulls.{Pulls, IsInBuffer}
use Rattle.input_stack.specs.View.{pending}
use Rattle.input_stack.proofs.AtOnce.{came, pulls_at_once}
use Rattle.input_stack.proofs.stack.InputStack.pull.Goals as goal

pub returns-in-Some-clause-in_buffer : goal.returns-in-Some-clause-in_buffer
returns-in-Some-clause-in_buffer c =
    let h = came _ _ _ _ c.in-Some.is c.quick.ensures.gives in
    subst (λ (q : Pending). IsInBuffer q.sources (length c.args.bytes.now)) (sym h.after) c.requires.in_buffer

pub returns-in-Some-clause-pulls : goal.returns-in-Some-clause-pulls
returns-in-Some-clause-pulls c = pulls_at_once c.args.self.now.size c.args.categories.now c.args.bytes.now _ _ _ (came _ _ _ _ c.in-Some.is c.quick.ensures.gives)

pub returns-in-Some-clause-account : goal.returns-in-Some-clause-account
returns-in-Some-clause-account c = λ h. omega (arith, c.quick.ensures.held h)

pub pull_behind_ended-requires-clause-in_buffer : goal.pull_behind_ended-requires-clause-in_buffer
pull_behind_ended-requires-clause-in_buffer c = subst (λ (q : Pending). IsInBuffer q.sources (length c.args.bytes.now)) (sym (c.quick.ensures.stays c.in-None.is)) c.requires.in_buffer

pub pull_behind_ended-requires-clause-countable : goal.pull_behind_ended-requires-clause-countable
pull_behind_ended-requires-clause-countable c = subst (λ (q : Pending). IsCountable c.args.lists.now (next_item q.puts)) (sym (c.quick.ensures.stays c.in-None.is)) c.requires.countable

pub returns-in-None-clause-pulls : goal.returns-in-None-clause-pulls
returns-in-None-clause-pulls c =
    let q = pending c.pull_behind_ended.new.lists c.pull_behind_ended.new.self in
    let k = subst (λ (p : Pending). Pulls c.quick.new.self.size c.args.categories.now c.args.bytes.now c.pull_behind_ended.new.bytes p q c.pull_behind_ended.result) (c.quick.ensures.stays c.in-None.is) c.pull_behind_ended.ensures.pulls in
    subst (λ (n : ℕ). Pulls n c.args.categories.now c.args.bytes.now c.pull_behind_ended.new.bytes (pending c.args.lists.now c.args.self.now) q c.pull_behind_ended.result) c.quick.ensures.size k

pub returns-in-None-clause-account : goal.returns-in-None-clause-account
returns-in-None-clause-account c = λ h. omega (arith, c.pull_behind_ended.ensures.account h, c.quick.ensures.held h)

pub returns-in-None-clause-kept : goal.returns-in-None-clause-kept
returns-in-None-clause-kept c =
    let k = c.pull_behind_ended.ensures.kept in
    record {
      tokens = λ h less. k.tokens h (omega (arith, less, c.quick.ensures.held h));
      places = λ h less. k.places h (omega (arith, less, c.quick.ensures.held h));
    }

pub returns-in-None-clause-lasting : goal.returns-in-None-clause-lasting
returns-in-None-clause-lasting c = subst (λ (p : Pending). LastsBut c.args.lists.now c.pull_behind_ended.new.lists (opened (next_item p.puts))) (c.quick.ensures.stays c.in-None.is) c.pull_behind_ended.ensures.lasting

pub returns-in-None-clause-size : goal.returns-in-None-clause-size
returns-in-None-clause-size c = c.pull_behind_ended.ensures.size ∙ c.quick.ensures.size

pub returns-in-None-clause-parameter_size : goal.returns-in-None-clause-parameter_size
returns-in-None-clause-parameter_size c = c.pull_behind_ended.ensures.parameter_size ∙ c.quick.ensures.parameter_size
