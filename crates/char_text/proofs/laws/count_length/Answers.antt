use Rattle.std.proofs.Common.{arith}
use Rattle.std.proofs.lemmas.Fmt.{length-decimal-le}
use Rattle.char_text.proofs.laws.count_length.Goals as goal

pub returns : goal.returns
returns c = length-decimal-le 20 c.args.n (omega arith) (omega (arith, c.ranges.n)) (omega (arith, c.ranges.n))
