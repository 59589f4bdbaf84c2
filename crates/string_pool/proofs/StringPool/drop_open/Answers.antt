use Rattle.string_pool.proofs.Views.{dropped_is}
use Rattle.string_pool.proofs.StringPool.drop_open.Goals as goal

pub returns : goal.returns
returns c = rw (c.truncate.ensures.items) (dropped_is _ _ _ _ _ _ _ _ _ c.self.view_is c.self.invariant)
