use Rattle.std.proofs.Common.{length}
use Rattle.engine_state.proofs.MadeTexts.{Along}
use Rattle.engine_state.proofs.text.grow_letters.Given as goal

abbrev pub invariant-loop-code : goal.invariant-loop-code
invariant-loop-code l = Along l.fn.input l.input (l.fn.letters) l.left l.some

abbrev pub decreases-loop-code : goal.decreases-loop-code
decreases-loop-code l = length l.left
