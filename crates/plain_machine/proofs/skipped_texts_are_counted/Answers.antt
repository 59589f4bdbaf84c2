use Rattle.plain_machine.proofs.SkippedTexts.{texts_rise, texts_count}
use Rattle.plain_machine.proofs.skipped_texts_are_counted.Goals as goal

pub returns : goal.returns
returns c = record { rises = texts_rise; counts = texts_count }
