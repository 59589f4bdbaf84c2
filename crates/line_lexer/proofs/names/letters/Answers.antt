use Rattle.line_lexer.proofs.LineLetters.{gathered_more, gathered_stop, gathered_end}
use Rattle.line_lexer.proofs.names.letters.Goals as goal

pub loop-head-preserved : goal.loop-head-preserved
loop-head-preserved c =
    gathered_more c.args.categories.now c.args.line.now c.loop-head.line c.args.at c.loop-head.end c.loop-head.next c.loop-head.invariant c.in-Some.head c.in-Some.ensures c.if-categories-head-ne11.false

pub returns-then-categories-head-ne11-clause-name : goal.returns-then-categories-head-ne11-clause-name
returns-then-categories-head-ne11-clause-name c =
    (gathered_stop c.args.categories.now c.args.line.now c.loop-head.line c.args.at c.loop-head.end c.loop-head.next c.loop-head.invariant c.in-Some.head c.in-Some.ensures c.if-categories-head-ne11.true).name

pub returns-then-categories-head-ne11-clause-rest : goal.returns-then-categories-head-ne11-clause-rest
returns-then-categories-head-ne11-clause-rest c =
    (gathered_stop c.args.categories.now c.args.line.now c.loop-head.line c.args.at c.loop-head.end c.loop-head.next c.loop-head.invariant c.in-Some.head c.in-Some.ensures c.if-categories-head-ne11.true).rest_is

pub returns-clause-name : goal.returns-clause-name
returns-clause-name c =
    (gathered_end c.args.categories.now c.args.line.now c.loop-head.line c.args.at c.loop-head.end c.loop-head.next c.loop-head.invariant c.in_default.ensures).name

pub returns-clause-rest : goal.returns-clause-rest
returns-clause-rest c =
    (gathered_end c.args.categories.now c.args.line.now c.loop-head.line c.args.at c.loop-head.end c.loop-head.next c.loop-head.invariant c.in_default.ensures).rest_is
