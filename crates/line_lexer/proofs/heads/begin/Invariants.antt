use Rattle.std.proofs.Common.{◌≡◌, ◌≤◌, ◌-◌, drop, length}
use Rattle.plain_tokens.specs.Lex.{lexed}
use Rattle.line_lexer.proofs.heads.begin.Given as goal

abbrev pub invariant-loop-head : goal.invariant-loop-head
invariant-loop-head l = record {
  within : l.at ≤ length l.line;
  gives : lexed l.categories l.state l.line ≡ lexed l.categories l.state (drop l.at l.line);
}

abbrev pub decreases-loop-head : goal.decreases-loop-head
decreases-loop-head l = length l.line - l.at
