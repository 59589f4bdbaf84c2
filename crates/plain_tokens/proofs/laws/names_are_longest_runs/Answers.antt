use Rattle.plain_tokens.proofs.LexNames.{run_letters, run_behind, is_run}
use Rattle.plain_tokens.proofs.laws.names_are_longest_runs.Goals as goal

pub returns : goal.returns
returns c = λ categories line name rest. ((λ r. (run_letters categories name line rest r, run_behind categories name line rest r)), is_run categories line name rest)
