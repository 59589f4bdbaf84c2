use Rattle.cs_hash.proofs.Entering.{knows_longer, entered_more}
use Rattle.cs_hash.proofs.more_strings_law.Goals as goal

pub returns-clause-knows : goal.returns-clause-knows
returns-clause-knows c = knows_longer

pub returns-clause-names : goal.returns-clause-names
returns-clause-names c = entered_more
