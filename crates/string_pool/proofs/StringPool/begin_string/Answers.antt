use Rattle.std.proofs.Common.{arith}
use Rattle.string_pool.proofs.Views.{IsSeen, seen}
use Rattle.string_pool.proofs.StringPool.begin_string.Goals as goal

pub returns-clause-fits : goal.returns-clause-fits
returns-clause-fits c =
    let i = c.self.inside in
    let s : IsSeen c.args.self.now i.bytes.items i.ends.items i.kept i.pool_size i.number_of_strings = seen _ _ _ _ _ _ _ _ _ c.self.view_is c.self.invariant in
    omega (arith, s.kept_is, s.pool_size_is, c.self.invariant.within, c.self.invariant.bytes_fit)
