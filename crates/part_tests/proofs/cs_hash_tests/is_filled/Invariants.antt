use Rattle.std.proofs.Common.{◌≡◌, None}
use Rattle.cs_hash.specs.Names.{Knows}
use Rattle.part_tests.proofs.cs_hash_tests.is_filled.Given as goal

abbrev pub invariant-loop-k : goal.invariant-loop-k
invariant-loop-k l = record {
  knows : Knows l.hash l.pool.kept;
  closed : l.pool.opened ≡ None;
}
