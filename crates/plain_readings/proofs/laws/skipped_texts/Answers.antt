use Rattle.plain_readings.proofs.Skipped.{skipped_texts}
use Rattle.plain_readings.proofs.laws.skipped_texts.Goals as goal

pub returns : goal.returns
returns c = skipped_texts
