use Rattle.std.proofs.Common.{arith}
use Rattle.string_pool.proofs.Cuts.{sound_empty, empty_is}
use Rattle.string_pool.proofs.StringPool.new.Goals as goal

pub invariant_of-result : goal.invariant_of-result
invariant_of-result c =
    rw (c.in_ok-bytes.ensures.items, c.in_ok-ends.ensures.items)
    (sound_empty _ _ _ _ (omega arith) (omega arith) c.in_ok-bytes.ensures.capacity c.in_ok-ends.ensures.capacity)

pub returns : goal.returns
returns c = rw (c.in_ok-bytes.ensures.items, c.in_ok-ends.ensures.items) (empty_is _ _)
