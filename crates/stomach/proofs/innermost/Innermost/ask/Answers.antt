use Rattle.std.proofs.Common.{ap, ◌∙◌, Some, None}
use Rattle.stomach.specs.declared.innermost.Innermost.TheVariants as innermost
use Rattle.stomach.proofs.RuleAsks.{asked_is, wants_same}
use Rattle.stomach.proofs.innermost.Innermost.ask.Goals as goal

pub returns-in-None-clause-is : goal.returns-in-None-clause-is
returns-in-None-clause-is c =
    (c.requires.uncalled, asked_is c.args.engine.now c.ask.result None c.in-None.is (record { asks = c.ask.ensures.asks; stands = c.ask.ensures.stands; found = c.ask.ensures.found }))

pub returns-in-None-clause-wants : goal.returns-in-None-clause-wants
returns-in-None-clause-wants c = wants_same c.args.engine.now (innermost.Frame None)
    (c.requires.uncalled, asked_is c.args.engine.now c.ask.result None c.in-None.is (record { asks = c.ask.ensures.asks; stands = c.ask.ensures.stands; found = c.ask.ensures.found }))

pub returns-in-Some-More-clause-is : goal.returns-in-Some-More-clause-is
returns-in-Some-More-clause-is c =
    (c.requires.uncalled, asked_is c.args.engine.now c.ask.result _ (c.in-Some-More.is ∙ ap Some c.in-Some-More.field-0-is) (record { asks = c.ask.ensures.asks; stands = c.ask.ensures.stands; found = c.ask.ensures.found }))
