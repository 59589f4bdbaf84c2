use Rattle.list_builder.specs.Scans.{IsSound}
use Rattle.part_tests.proofs.list_builder_tests.defined.Given as goal

abbrev pub invariant-loop-x : goal.invariant-loop-x
invariant-loop-x l = IsSound l.lists l.scan.scan
