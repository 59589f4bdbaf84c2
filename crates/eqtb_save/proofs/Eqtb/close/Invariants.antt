use Rattle.std.proofs.Common.{◌+◌}
use Rattle.std.specs.Prelude.{sum_by}
use Rattle.save_stack.specs.Accounts.{array_weight}
use Rattle.eqtb_save.specs.Holding.{held}
use Rattle.eqtb_save.proofs.Held.{weight}
use Rattle.eqtb_save.proofs.Ended.{AreGoing}
use Rattle.eqtb_save.proofs.Eqtb.close.Given as goal

abbrev pub invariant-loop-value : goal.invariant-loop-value
invariant-loop-value l = AreGoing l.fn.lists l.lists (held l.fn.self) (λ h. sum_by (weight h) l.values.items + array_weight (weight h) l.saved.items)

abbrev pub decreases-loop-value : goal.decreases-loop-value
decreases-loop-value l = goal.left-loop-value l

abbrev pub invariant-loop-entry : goal.invariant-loop-entry
invariant-loop-entry l = AreGoing l.fn.lists l.lists (held l.fn.self) (λ h. array_weight (weight h) l.saved.items)

abbrev pub decreases-loop-entry : goal.decreases-loop-entry
decreases-loop-entry l = goal.left-loop-entry l
