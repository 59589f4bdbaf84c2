use Rattle.char_text.proofs.ReadBack.{reads_back}
use Rattle.char_text.proofs.laws.printed_dimension_reads_back.Goals as goal

pub returns : goal.returns
returns c = reads_back c.args.v c.requires
