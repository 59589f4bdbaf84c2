use Rattle.macro_call.proofs.Checks.{checks_show}
use Rattle.macro_call.proofs.laws.checks_show_at_pars.Goals as goal

pub returns : goal.returns
returns c = checks_show
