use Rattle.std.proofs.Common.{refl}
use Rattle.plain_tokens.specs.Categories.{initial_categories}
use Rattle.equivalents.specs.First.{first_tables}
use Rattle.equivalents.proofs.laws.worked.Goals as goal

pub returns : goal.returns
unfolding first_tables initial_categories
returns c = record { saved = refl; inside = refl; global = refl; gone = refl; entries = refl; again = refl }
