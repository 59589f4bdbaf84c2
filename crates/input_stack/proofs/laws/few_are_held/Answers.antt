use Rattle.input_stack.proofs.Bounds.{held_standing, held_few}
use Rattle.input_stack.proofs.laws.few_are_held.Goals as goal

pub returns-clause-standing : goal.returns-clause-standing
returns-clause-standing c = λ table h stands. held_standing table c.args.stack.now h stands

pub returns-clause-sizes : goal.returns-clause-sizes
returns-clause-sizes c = λ table h stands. held_few c.args.stack.now h stands.fits
