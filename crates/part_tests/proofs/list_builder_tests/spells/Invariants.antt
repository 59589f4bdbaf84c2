use Rattle.token_lists.specs.Accounts.{IsReading}
use Rattle.part_tests.proofs.list_builder_tests.spells.Given as goal

abbrev pub invariant-loop-token : goal.invariant-loop-token
invariant-loop-token l = IsReading l.lists l.list.id l.at l.token-index
