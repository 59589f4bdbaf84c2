use Rattle.std.proofs.Common.{◌≡◌, ◌+◌, ◌≤◌, Some, take}
use Rattle.string_pool.specs.Pool.{kept_bytes}
use Rattle.cs_hash.proofs.keep.Given as goal

abbrev pub invariant-loop-byte : goal.invariant-loop-byte
invariant-loop-byte l = record {
  so_far : l.pool ≡ record l.fn.pool { opened = Some (take l.byte-index l.name) };
  room : kept_bytes l.fn.pool + l.byte-index ≤ l.fn.pool.pool_size;
}
