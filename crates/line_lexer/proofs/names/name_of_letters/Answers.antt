use Rattle.std.proofs.Common.{arith}
use Rattle.line_lexer.proofs.LineNames.{word_gives}
use Rattle.line_lexer.proofs.names.name_of_letters.Goals as goal

pub returns-else-run-first-clause-gives : goal.returns-else-run-first-clause-gives
returns-else-run-first-clause-gives c =
    word_gives c.args.categories.now c.letters-run.new.line c.args.line.now c.args.first.next c.letters-run.result.end c.letters-run.result.rest c.args.first.code c.requires.further c.requires.within
    (omega arith) c.letters-run.ensures.from c.if-run-first.false c.letters-run.ensures.before c.letters-run.ensures.name c.letters-run.ensures.rest
