use Rattle.std.proofs.Common.{arith, length-drop}
use Rattle.world_io.proofs.Fronts.{grown_on}
use Rattle.world_io.proofs.whole.write_all.Goals as goal

pub loop-at-preserved : goal.loop-at-preserved
loop-at-preserved g c =
    (omega (arith, c.in-Ok.ensures.count, length-drop c.loop-at.at c.args.bytes.now), grown_on _ _ _ _ _ (rw c.loop-at.invariant.1 at c.in-Ok.ensures.written), omega (arith, c.write.ensures.cause.later, c.loop-at.invariant.2), omega (arith, c.write.ensures.cause.later_wants, c.loop-at.invariant.3))
