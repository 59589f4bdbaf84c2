use Rattle.std.proofs.Common.{arith}
use Rattle.save_stack.proofs.Groups.locations.Goals as goal

pub overflow_cast-result : goal.overflow_cast-result
overflow_cast-result g c = omega (arith, c.self.invariant.few, c.self.invariant.most_small, c.len.ensures, c.self.inside.levels.ok.0)
