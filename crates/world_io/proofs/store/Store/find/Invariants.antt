use Rattle.world_io.specs.Store.{Skips}
use Rattle.world_io.proofs.store.Store.find.Given as goal

abbrev pub invariant-loop-i : goal.invariant-loop-i
invariant-loop-i l = Skips l.self l.name l.i
