use Rattle.line_reader.proofs.OpenFiles.{told_closed, open_closed, knows_closed}
use Rattle.line_reader.proofs.readers.Readers.close.Goals as goal

pub returns-clause-told : goal.returns-clause-told
returns-clause-told g c = told_closed _ _ _ c.pop.ensures.reader _ _ c.close.ensures.closed c.requires.open

pub returns-clause-open : goal.returns-clause-open
returns-clause-open g c = open_closed _ _ _ c.pop.ensures.reader _ _ c.close.ensures.closed c.requires.open

pub returns-clause-knows : goal.returns-clause-knows
returns-clause-knows g c = knows_closed _ _ _ c.pop.ensures.reader _ _ c.close.ensures.closed c.requires.open
