use Rattle.char_text.proofs.Lengths.{scaled_length_le}
use Rattle.char_text.proofs.laws.scaled_length.Goals as goal

pub returns : goal.returns
returns c = scaled_length_le c.args.s c.ranges.s
