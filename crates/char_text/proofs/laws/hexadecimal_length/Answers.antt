use Rattle.std.proofs.Common.{arith}
use Rattle.char_text.proofs.Lengths.{hexadecimal_length_le}
use Rattle.char_text.proofs.laws.hexadecimal_length.Goals as goal

pub returns : goal.returns
returns c = hexadecimal_length_le c.args.n (omega (arith, c.ranges.n))
