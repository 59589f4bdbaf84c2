use Rattle.std.proofs.Common.{arith}
use Rattle.prim_table.proofs.Table.{class_of-number, number-within}
use Rattle.prim_table.proofs.number.Goals as goal

pub overflow_add-result : goal.overflow_add-result
overflow_add-result c = omega (arith, c.numbers_before.ensures, number-within c.args.class c.args.place c.requires.last)

pub returns-clause-class : goal.returns-clause-class
returns-clause-class c = rw c.numbers_before.ensures (class_of-number c.args.class c.args.place c.requires.first c.requires.last)

pub returns-clause-place : goal.returns-clause-place
returns-clause-place c = rw (c.numbers_before.ensures, class_of-number c.args.class c.args.place c.requires.first c.requires.last) (omega arith)

pub returns-clause-within : goal.returns-clause-within
returns-clause-within c = omega (arith, c.numbers_before.ensures, number-within c.args.class c.args.place c.requires.last)
