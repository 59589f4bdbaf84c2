use Rattle.std.proofs.Common.{ap, subst}
use Rattle.input_stack.specs.Whole.{with_arguments}
use Rattle.input_stack.specs.Wholes.{whole}
use Rattle.input_stack.specs.CallViews.{IsCall}
use Rattle.input_stack.specs.Stacks.{IsLevel}
use Rattle.input_stack.proofs.AtOnce.{some_list, some_call}
use Rattle.input_stack.proofs.pull.quick_level.Goals as goal

pub returns-in-List-clause-gives : goal.returns-in-List-clause-gives
returns-in-List-clause-gives c = λ args stands. some_list c.args.lists.now (whole args c.args.level.now) c.in-List.reader c.pull.new.self c.pull.result (ap (whole args) c.in-List.is) c.pull.ensures.same c.pull.ensures.at_next c.pull.ensures.token

pub returns-in-Call-clause-gives : goal.returns-in-Call-clause-gives
returns-in-Call-clause-gives c = λ args stands.
    let call = with_arguments args c.in-Call.call in
    let k : IsCall c.args.lists.now call = subst (IsLevel c.args.lists.now) (ap (whole args) c.in-Call.is) stands in
    some_call c.args.lists.now (whole args c.args.level.now) call (with_arguments args c.quick.new.self) c.quick.result (ap (whole args) c.in-Call.is) (c.quick.ensures.pulls args k.held) (c.quick.ensures.closed args)
