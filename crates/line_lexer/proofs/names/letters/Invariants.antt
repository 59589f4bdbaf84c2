use Rattle.std.proofs.Common.{length, ◌-◌}
use Rattle.line_lexer.proofs.LineLetters.{Gathered}
use Rattle.line_lexer.proofs.names.letters.Given as goal

abbrev pub invariant-loop-head : goal.invariant-loop-head
invariant-loop-head l = Gathered l.categories l.fn.line l.line l.fn.at l.end l.next

abbrev pub decreases-loop-head : goal.decreases-loop-head
decreases-loop-head l = length l.line - l.next
