use Rattle.char_text.proofs.Lengths.{five_suffice}
use Rattle.char_text.proofs.laws.five_digits_suffice.Goals as goal

pub returns : goal.returns
returns c = five_suffice c.args.fraction c.args.more
