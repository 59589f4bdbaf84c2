use Rattle.std.proofs.Common.{ℕ, ◌-◌, ◌<◌, ◌∷◌, sym, ap, ◌∙◌, arith}
use Rattle.conditionals.specs.declared.skip.Ender.TheVariants.{Or}
use Rattle.conditionals.specs.declared.choice.Aim.{Aim}
use Rattle.conditionals.specs.declared.choice.Aim.TheVariants.{Case}
use Rattle.conditionals.specs.Choices.{end}
use Rattle.conditionals.proofs.Enders.{or_own, case_left}
use Rattle.conditionals.proofs.choice.Choice.feed_or.Goals as goal

pub returns-then-n-gt1-clause-end : goal.returns-then-n-gt1-clause-end
returns-then-n-gt1-clause-end c = λ es.
    let more : 1 < c.in-Case.n = omega (arith, c.if-n-gt1.true) in
    ap (λ (a : Aim). end a c.args.self.above (Or ∷ es)) c.in-Case.is
    ∙ ap (λ (k : ℕ). end (Case c.in-Case.n) k (Or ∷ es)) c.requires.own
    ∙ or_own c.in-Case.n es more
    ∙ ap (λ (k : ℕ). end (Case (c.in-Case.n - 1)) k es) (sym c.requires.own)

pub returns-then-n-gt1-clause-goes_on : goal.returns-then-n-gt1-clause-goes_on
returns-then-n-gt1-clause-goes_on c = case_left c.in-Case.n c.args.self.above (omega (arith, c.if-n-gt1.true))
