use Rattle.std.proofs.Common.{◌-◌, length}
use Rattle.cs_hash.specs.Entry.{IsAt}
use Rattle.cs_hash.proofs.CsHash.search.Given as goal

abbrev pub invariant-walk : goal.invariant-walk
invariant-walk l = IsAt l.self l.pool.kept l.name l.slot l.depth

abbrev pub decreases-walk : goal.decreases-walk
decreases-walk l = length l.self.index - l.slot
