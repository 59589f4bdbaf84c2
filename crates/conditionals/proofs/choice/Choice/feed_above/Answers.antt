use Rattle.std.proofs.Common.{◌-◌, ◌∷◌, ap, ◌∙◌}
use Rattle.conditionals.specs.declared.skip.Ender.{Ender}
use Rattle.conditionals.specs.Choices.{end}
use Rattle.conditionals.proofs.Enders.{fi_above, else_above, or_above, none_yet}
use Rattle.conditionals.proofs.choice.Choice.feed_above.Goals as goal

pub returns-in-Fi-clause-end : goal.returns-in-Fi-clause-end
returns-in-Fi-clause-end c = λ es.
    ap (λ (e : Ender). end c.args.self.aim c.args.self.above (e ∷ es)) c.in-Fi.is ∙ fi_above c.args.self.aim c.args.self.above es c.requires.above

pub returns-in-Else-clause-end : goal.returns-in-Else-clause-end
returns-in-Else-clause-end c = λ es.
    ap (λ (e : Ender). end c.args.self.aim c.args.self.above (e ∷ es)) c.in-Else.is ∙ else_above c.args.self.aim c.args.self.above es c.requires.above

pub returns-in-Or-clause-end : goal.returns-in-Or-clause-end
returns-in-Or-clause-end c = λ es.
    ap (λ (e : Ender). end c.args.self.aim c.args.self.above (e ∷ es)) c.in-Or.is ∙ or_above c.args.self.aim c.args.self.above es c.requires.above

pub returns-in-Fi-clause-goes_on : goal.returns-in-Fi-clause-goes_on
returns-in-Fi-clause-goes_on c = none_yet c.args.self.aim (c.args.self.above - 1) c.requires.skips

pub returns-in-Else-clause-goes_on : goal.returns-in-Else-clause-goes_on
returns-in-Else-clause-goes_on c = none_yet c.args.self.aim c.args.self.above c.requires.skips

pub returns-in-Or-clause-goes_on : goal.returns-in-Or-clause-goes_on
returns-in-Or-clause-goes_on c = none_yet c.args.self.aim c.args.self.above c.requires.skips
