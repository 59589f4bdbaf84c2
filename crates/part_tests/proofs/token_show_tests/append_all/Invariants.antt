use Rattle.token_lists.specs.Ids.{IsBuilding}
use Rattle.part_tests.proofs.token_show_tests.append_all.Given as goal

abbrev pub invariant-loop-token : goal.invariant-loop-token
invariant-loop-token l = IsBuilding l.lists l.build
