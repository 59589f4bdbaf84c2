use Rattle.part_tests.proofs.Opened.{so, readers_after}
use Rattle.part_tests.proofs.line_reader_tests.takes.Goals as goal

pub returns-clause-readers : goal.returns-clause-readers
returns-clause-readers c = λ e. readers_after _ _ _ _ _ _ (so _ _ _ c.in-Ok-true.field-0-test c.in-Ok-true.ensures.answer) c.drop_line.ensures c.requires.readers
