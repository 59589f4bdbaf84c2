use Rattle.std.proofs.Common.{refl, ap, arith, reverse, List}
use Rattle.input_stack.specs.declared.level.Level.{Level}
use Rattle.input_stack.specs.Wholes.{wholes}
use Rattle.input_stack.proofs.Tops.{new_stands}
use Rattle.input_stack.proofs.stack.InputStack.without_levels.Goals as goal

pub returns-clause-stands : goal.returns-clause-stands
returns-clause-stands c = λ table. new_stands table _ c.requires.none c.requires.no_arguments refl (omega (arith, c.requires.room)) (omega (arith, c.requires.parameter_room)) (omega (arith, c.ranges.size)) (omega (arith, c.ranges.parameter_size))

pub returns-clause-empty : goal.returns-clause-empty
returns-clause-empty c = ap (λ (ls : List Level). wholes c.args.arguments.items (reverse ls)) c.requires.none
