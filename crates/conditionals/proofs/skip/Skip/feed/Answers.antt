use Rattle.std.proofs.Common.{◌≡◌, ℕ, ◌+◌, ◌<◌, ◌≤◌, [], ◌∷◌, ◌++◌, length, sym, ap, ◌∙◌, subst, arith}
use Rattle.conditionals.specs.declared.skip.Part.{Part}
use Rattle.conditionals.specs.declared.skip.Part.TheVariants.{Conditional, Ends}
use Rattle.conditionals.specs.Skipping.{part, ender, GoesOn}
use Rattle.conditionals.proofs.Fronts.{conditional_met, plain_met, ender_met, ended, few}
use Rattle.conditionals.proofs.skip.Skip.feed.Goals as goal

pub returns-in-Conditional-clause-goes_on : goal.returns-in-Conditional-clause-goes_on
returns-in-Conditional-clause-goes_on c = λ read g fits.
    let p : part c.args.seen.meaning ≡ Conditional = sym c.part_of.ensures ∙ c.in-Conditional.is in
    let small : c.args.self.now.depth ≤ length read = few c.args.self.now.depth read g in
    let exact : c.saturating_add-self.result ≡ c.args.self.now.depth + 1 = omega (arith, c.saturating_add-self.ensures, small, fits) in
    subst (λ (d : ℕ). GoesOn d (read ++ c.args.seen ∷ [])) (sym exact) (conditional_met c.args.self.now.depth read c.args.seen p g)

pub returns-then-self-eq0-clause-skipped : goal.returns-then-self-eq0-clause-skipped
returns-then-self-eq0-clause-skipped c = λ read g fits.
    let p : part c.args.seen.meaning ≡ Ends c.in-Ends.ender = sym c.part_of.ensures ∙ c.in-Ends.is in
    let none : c.args.self.now.depth ≡ 0 = omega (arith, c.if-self-eq0.true) in
    ended read c.args.seen c.in-Ends.ender [] (ap (λ (q : Part). ender q) p) (subst (λ (d : ℕ). GoesOn d read) none g)

pub returns-else-self-eq0-clause-goes_on : goal.returns-else-self-eq0-clause-goes_on
returns-else-self-eq0-clause-goes_on c = λ read g fits.
    let p : part c.args.seen.meaning ≡ Ends c.in-Ends.ender = sym c.part_of.ensures ∙ c.in-Ends.is in
    let some : 0 < c.args.self.now.depth = omega (arith, c.if-self-eq0.false) in
    subst (λ (d : ℕ). GoesOn d (read ++ c.args.seen ∷ [])) (sym c.close.ensures) (ender_met c.args.self.now.depth read c.args.seen c.in-Ends.ender p some g)

pub returns-in-Plain-clause-goes_on : goal.returns-in-Plain-clause-goes_on
returns-in-Plain-clause-goes_on c = λ read g fits. plain_met c.args.self.now.depth read c.args.seen (sym c.part_of.ensures ∙ c.in-Plain.is) g
