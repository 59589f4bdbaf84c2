use Rattle.std.proofs.Common.{◌≡◌, None}
use Rattle.cs_hash.specs.Names.{Knows}
use Rattle.part_tests.proofs.cs_hash_tests.are_refused.Given as goal

abbrev pub invariant-loop-name : goal.invariant-loop-name
invariant-loop-name l = record {
  knows : Knows l.hash l.pool.kept;
  closed : l.pool.opened ≡ None;
}
