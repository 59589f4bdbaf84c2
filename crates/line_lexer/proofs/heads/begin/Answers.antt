use Rattle.std.proofs.Common.{rules}
use Rattle.line_lexer.proofs.LineBegins.{space_begins, end_begins}
use Rattle.line_lexer.proofs.heads.begin.Goals as goal

pub returns-then-eq : goal.returns-then-eq
returns-then-eq c = space_begins c.args.categories.now c.args.line.now c.args.state c.loop-head.at c.in-Some.head (search rules) (search rules) (search rules) (search rules)

pub returns-else-eq-2 : goal.returns-else-eq-2
returns-else-eq-2 c = end_begins c.args.categories.now c.args.line.now c.args.state c.loop-head.at c.in-Some.head (search rules) (search rules) (search rules) (search rules)
