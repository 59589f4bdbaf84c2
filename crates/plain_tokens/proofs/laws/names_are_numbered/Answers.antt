use Rattle.plain_tokens.proofs.NameNumbers.{entered, new}
use Rattle.plain_tokens.proofs.laws.names_are_numbered.Goals as goal

pub returns : goal.returns
returns c = record { entered = λ before behind name h. entered name before behind h; new = λ names name h. new name names h }
