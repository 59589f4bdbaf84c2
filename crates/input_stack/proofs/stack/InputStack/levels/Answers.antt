use Rattle.std.proofs.Common.{arith}
use Rattle.input_stack.specs.View.{innermost}
use Rattle.input_stack.proofs.Wholes.{levels_count}
use Rattle.input_stack.proofs.ListsEnded.{levels_are}
use Rattle.input_stack.proofs.stack.InputStack.levels.Goals as goal

pub returns : goal.returns
returns c = λ table.
    let s = c.args.self.now in
    omega (arith, c.len.ensures, s.levels.ok, c.requires.within, c.requires.small, c.requires.opens, levels_are table (innermost s), levels_count s)
