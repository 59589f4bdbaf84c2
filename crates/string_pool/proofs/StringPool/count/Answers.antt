use Rattle.std.proofs.Common.{arith}
use Rattle.string_pool.proofs.Views.{IsSeen, seen}
use Rattle.string_pool.proofs.StringPool.count.Goals as goal

pub overflow_cast-result : goal.overflow_cast-result
overflow_cast-result c =
    let i = c.self.inside in
    omega (arith, c.self.invariant.strings_fit, c.self.invariant.few_strings, i.ends.ok.0, c.len.ensures)

pub returns : goal.returns
returns c =
    let i = c.self.inside in
    let s : IsSeen c.args.self.now i.bytes.items i.ends.items i.kept i.pool_size i.number_of_strings = seen _ _ _ _ _ _ _ _ _ c.self.view_is c.self.invariant in
    omega (arith, s.count_is, i.ends.ok.0, c.len.ensures)
