use Rattle.std.proofs.Common.{◌≡◌, ◌≤◌, ◌<◌, ◌-◌, ◌∷◌, drop, length}
use Rattle.plain_tokens.specs.Lex.{headed}
use Rattle.line_lexer.proofs.heads.head_at.Given as goal

abbrev pub invariant-loop-head : goal.invariant-loop-head
invariant-loop-head l = record {
  headed_is : headed l.categories (drop l.fn.at l.line) ≡ headed l.categories (l.head.code ∷ drop l.head.next l.line);
  further : l.fn.at < l.head.next;
  within : l.head.next ≤ length l.line;
}

abbrev pub decreases-loop-head : goal.decreases-loop-head
decreases-loop-head l = length l.line - l.head.next
