use Rattle.std.proofs.Common.{length}
use Rattle.engine_state.proofs.MadeTexts.{Along}
use Rattle.engine_state.proofs.text.grow_piece.Given as goal

abbrev pub invariant-loop-code : goal.invariant-loop-code
invariant-loop-code l = Along l.fn.input l.input (l.fn.piece) l.piece l.some

abbrev pub decreases-loop-code : goal.decreases-loop-code
decreases-loop-code l = length l.piece
