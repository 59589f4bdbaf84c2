use Rattle.std.proofs.Common.{arith}
use Rattle.input_stack.specs.Backs.{begun_holds}
use Rattle.input_stack.proofs.Helds.{others}
use Rattle.token_lists.specs.Accounts.{none}
use Rattle.part_tests.proofs.input_stack_tests.put_back.Goals as goal

pub returns-in-Err : goal.returns-in-Err
returns-in-Err c =
    let e = c.in-Err.ensures in
    (others c.back.new.self c.back.new.lists c.let_go.new.lists (begun_holds c.in-Err.begun) none e.stands (λ h. omega (arith, e.account h, c.requires.read.covers h)) c.let_go.ensures.account c.let_go.ensures.kept).0
