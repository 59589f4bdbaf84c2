use Rattle.std.proofs.Common.{ap, unsigned_abs, arith}
use Rattle.scaled_arith.proofs.Multiples.{computed_sum, small_sum}
use Rattle.scaled_arith.proofs.sum_of.Goals as goal

pub returns-clause-sum : goal.returns-clause-sum
returns-clause-sum c =
    computed_sum c.args.n c.args.x c.args.y c.ranges.n c.ranges.x c.ranges.y c.requires.factor c.requires.value c.requires.addend

pub returns-clause-small : goal.returns-clause-small
returns-clause-small c =
    let e = ap unsigned_abs (computed_sum c.args.n c.args.x c.args.y c.ranges.n c.ranges.x c.ranges.y c.requires.factor c.requires.value c.requires.addend) in
    rw e (omega (arith, small_sum c.args.n c.args.x c.args.y c.requires.factor c.requires.value c.requires.addend))
