use Rattle.std.proofs.Common.{sym, ◌∙◌}
use Rattle.stomach.specs.declared.innermost.Innermost.TheVariants as innermost
use Rattle.stomach.proofs.RuleAsks.{wants_same}
use Rattle.stomach.proofs.innermost.Innermost.look.Goals as goal

pub returns-in-Some-clause-is : goal.returns-in-Some-clause-is
returns-in-Some-clause-is c = sym c.call.ensures ∙ c.in-Some.is

pub returns-in-Some-clause-wants : goal.returns-in-Some-clause-wants
returns-in-Some-clause-wants c = wants_same c.args.engine.now (innermost.Call c.in-Some.call) (sym c.call.ensures ∙ c.in-Some.is)
