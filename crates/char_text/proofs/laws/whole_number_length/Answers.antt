use Rattle.std.proofs.Common.{arith}
use Rattle.std.proofs.lemmas.Fmt.{length_signed_le}
use Rattle.char_text.proofs.laws.whole_number_length.Goals as goal

pub returns : goal.returns
returns c = let fits = c.ranges.n.sfits in length_signed_le 10 c.args.n (omega arith) (omega arith)
