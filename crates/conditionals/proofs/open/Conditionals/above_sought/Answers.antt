use Rattle.std.proofs.Common.{reverse, arith}
use Rattle.std.proofs.lemmas.List.{length-reverse}
use Rattle.conditionals.proofs.Opened.{few}
use Rattle.conditionals.proofs.open.Conditionals.above_sought.Goals as goal

pub overflow_cast-result : goal.overflow_cast-result
overflow_cast-result c =
    omega (arith, c.above_test.ensures, few (reverse c.deref.result.now), length-reverse c.deref.result.now, c.deref.ensures.len, c.self.invariant.within, c.self.invariant.small)
