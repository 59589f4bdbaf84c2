use Rattle.std.proofs.Common.{arith}
use Rattle.char_text.proofs.Values.{value_of, none_of, thousand_of, look_of}
use Rattle.char_text.proofs.laws.roman_spells_number.Goals as goal

pub returns-clause-value : goal.returns-clause-value
returns-clause-value c = value_of c.args.n

pub returns-clause-none : goal.returns-clause-none
returns-clause-none c = none_of c.args.n

pub returns-clause-thousand : goal.returns-clause-thousand
returns-clause-thousand c = thousand_of c.args.n

pub returns-clause-repeats : goal.returns-clause-repeats
returns-clause-repeats c = grind (arith, look_of c.args.n)
